use Rattle.rz_play_laws.proofs.Plays as laws
use Rattle.rz_play_laws.proofs.in_order.Goals as goal

pub returns : goal.returns
returns c = λ v lines script. laws.play-in-order v (c.facts_told.ensures v script.volume) lines script
