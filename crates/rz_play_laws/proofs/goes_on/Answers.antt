use Rattle.rz_play_laws.proofs.Progress as laws
use Rattle.rz_play_laws.proofs.goes_on.Goals as goal

pub returns : goal.returns
returns c = laws.turns-on
