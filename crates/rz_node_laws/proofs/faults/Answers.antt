use Rattle.rz_node_laws.proofs.MeterCalls.{fault-law}
use Rattle.rz_node_laws.proofs.faults.Goals as goal

pub returns : goal.returns
returns c = fault-law
