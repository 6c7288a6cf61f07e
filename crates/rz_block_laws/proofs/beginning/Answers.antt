use Rattle.rz_block_laws.proofs.Others as laws
use Rattle.rz_block_laws.proofs.beginning.Goals as goal

pub returns : goal.returns
returns c = laws.beginning-law
