use Rattle.rz_play_laws.proofs.Plays as laws
use Rattle.rz_play_laws.proofs.working.Goals as goal

pub returns : goal.returns
returns c = λ v old w fine by ok. (let a = laws.working v old w fine by ok in (a.own, a.way))
