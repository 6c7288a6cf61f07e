use Rattle.rz_play_laws.proofs.Plays as laws
use Rattle.rz_play_laws.proofs.lined.Goals as goal

pub returns : goal.returns
returns c = λ v volume old l ok w next plays. (laws.by-line v (c.facts_told.ensures v volume) old l ok w next plays).keeps
