use Rattle.rz_play_laws.proofs.Plays as laws
use Rattle.rz_play_laws.proofs.turned.Goals as goal

pub returns : goal.returns
returns c = λ v volume old by ok w next turn fine. laws.turn v (c.facts_told.ensures v volume) old by ok w next turn fine
