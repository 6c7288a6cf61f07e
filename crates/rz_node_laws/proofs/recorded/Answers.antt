use Rattle.rz_node_laws.proofs.Words as laws
use Rattle.rz_node_laws.proofs.recorded.Goals as goal

pub returns : goal.returns
returns c = laws.written-law
