use Rattle.rz_play_locks.proofs.Whole as laws
use Rattle.rz_play_locks.proofs.after.Goals as goal

pub returns : goal.returns
returns c = λ v lines script nodes export old b log p. laws.kept-after v (c.facts_told.ensures v script.volume) lines script nodes export old b log p
