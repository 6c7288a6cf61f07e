use Rattle.rz_core.proofs.NodeRest as laws
use Rattle.rz_core.proofs.nodes.Goals as goal

pub returns : goal.returns
returns c = laws.node-law
