use Rattle.rz_play_laws.proofs.Telling as laws
use Rattle.rz_play_laws.proofs.facts_told.Goals as goal

pub returns : goal.returns
returns c = λ v volume. laws.telling v (c.laid.ensures v volume)
