use Rattle.rz_block_laws.proofs.Records as laws
use Rattle.rz_block_laws.proofs.fetched.Goals as goal

pub returns : goal.returns
returns c = laws.fetched-law c.recorded.ensures
