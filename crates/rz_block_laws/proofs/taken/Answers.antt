use Rattle.rz_block_laws.proofs.Takes as laws
use Rattle.rz_block_laws.proofs.taken.Goals as goal

pub returns : goal.returns
returns c = laws.taken-law
