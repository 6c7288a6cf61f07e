use Rattle.rz_core.proofs.NodeSteps as laws
use Rattle.rz_core.proofs.node_fetch.Goals as goal

pub returns : goal.returns
returns c = laws.node-fetch
