use Rattle.rz_play_laws.proofs.Misses as laws
use Rattle.rz_play_laws.proofs.losses_over.Goals as goal

pub returns : goal.returns
returns c = laws.losses-over
