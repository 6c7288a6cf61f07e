use Rattle.rz_play_laws.proofs.sound.Goals as goal

pub returns : goal.returns
returns c = λ v lines script log p. c.sound.ensures v log (c.one_run.ensures v log (c.legal.ensures v lines script log p))
