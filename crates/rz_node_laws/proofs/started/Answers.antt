use Rattle.rz_node_laws.proofs.MeterCalls.{start-law}
use Rattle.rz_node_laws.proofs.started.Goals as goal

pub returns : goal.returns
returns c = start-law
