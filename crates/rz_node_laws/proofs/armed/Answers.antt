use Rattle.rz_node_laws.proofs.MeterCalls.{arm-law}
use Rattle.rz_node_laws.proofs.armed.Goals as goal

pub returns : goal.returns
returns c = arm-law
