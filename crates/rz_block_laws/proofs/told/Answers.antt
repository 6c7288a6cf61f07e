use Rattle.rz_block_laws.proofs.Turns as laws
use Rattle.rz_block_laws.proofs.told.Goals as goal

pub returns : goal.returns
returns c = λ v. laws.told-law c.permanent.ensures v (c.going.ensures v) (c.growing.ensures v)
