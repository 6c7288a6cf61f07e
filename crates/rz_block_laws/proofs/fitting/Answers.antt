use Rattle.rz_block_laws.proofs.Marks as laws
use Rattle.rz_block_laws.proofs.fitting.Goals as goal

pub returns : goal.returns
returns c = laws.fitting-law
