use Rattle.rz_play_laws.proofs.Plays as laws
use Rattle.rz_play_laws.proofs.stopped.Goals as goal

pub returns : goal.returns
returns c = laws.stopped-begun
