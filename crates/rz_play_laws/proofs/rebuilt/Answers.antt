use Rattle.rz_play_laws.proofs.rebuilt.Goals as goal

pub returns : goal.returns
returns c = λ v lines script log p. c.rebuilt.ensures v log (c.one_run.ensures v log (c.legal.ensures v lines script log p))
