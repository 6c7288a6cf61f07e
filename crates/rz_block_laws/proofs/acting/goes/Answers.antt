use Rattle.rz_block_laws.proofs.Acts as laws
use Rattle.rz_block_laws.proofs.acting.goes.Goals as goal

pub returns : goal.returns
returns c = λ v. laws.goes-law c.permanent.ensures v (c.own_turn.ensures v) (c.told.ensures v)
