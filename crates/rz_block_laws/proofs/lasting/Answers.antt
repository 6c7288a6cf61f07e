use Rattle.rz_block_laws.proofs.Turns as laws
use Rattle.rz_block_laws.proofs.lasting.Goals as goal

pub returns : goal.returns
returns c = λ v. laws.lasting-law c.permanent.ensures v (c.growing.ensures v)
