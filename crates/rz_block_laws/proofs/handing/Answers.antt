use Rattle.rz_block_laws.proofs.Hands as laws
use Rattle.rz_block_laws.proofs.handing.Goals as goal

pub returns : goal.returns
returns c = laws.handing-law c.recorded.ensures
