use Rattle.rz_block_laws.proofs.Acts as laws
use Rattle.rz_block_laws.proofs.acting.rests.Goals as goal

pub returns : goal.returns
returns c = λ v. laws.rests-law c.permanent.ensures v (c.own_kept.ensures v) (c.lasting.ensures v)
