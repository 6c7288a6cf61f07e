use Rattle.rz_contents.proofs.Opened as laws
use Rattle.rz_contents.proofs.leads_to_block.Goals as goal

pub returns : goal.returns
returns c = laws.leads_to_block
