use Rattle.rz_block_laws.proofs.Acts as laws
use Rattle.rz_block_laws.proofs.acting.says.Goals as goal

pub returns : goal.returns
returns c = λ v. laws.says-law v (c.next_run.ensures v)
