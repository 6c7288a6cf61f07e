use Rattle.rz_play_laws.proofs.Plays as laws
use Rattle.rz_play_laws.proofs.after.Goals as goal

pub returns : goal.returns
returns c = λ v lines script nodes export old b log p.
    laws.play-after v (c.facts_told.ensures v script.volume) (c.next_run.ensures v) (c.sound.ensures v) (c.answering.ensures v) (c.written.ensures v) (c.rebuilt.ensures v) lines script nodes export old b log p
