use Rattle.rz_block_laws.proofs.Acts as laws
use Rattle.rz_block_laws.proofs.acting.begins.Goals as goal

pub returns : goal.returns
returns c = λ v. laws.begins-law v (c.beginning.ensures v)
