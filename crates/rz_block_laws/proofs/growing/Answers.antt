use Rattle.rz_block_laws.proofs.Others as laws
use Rattle.rz_block_laws.proofs.growing.Goals as goal

pub returns : goal.returns
returns c = laws.growing-law
