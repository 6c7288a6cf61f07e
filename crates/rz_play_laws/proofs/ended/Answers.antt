use Rattle.rz_play_laws.proofs.Plays as laws
use Rattle.rz_play_laws.proofs.ended.Goals as goal

pub returns : goal.returns
returns c = laws.played-begun
