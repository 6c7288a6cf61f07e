use Rattle.rz_node_laws.proofs.MeterCalls.{counted-law}
use Rattle.rz_node_laws.proofs.counted.Goals as goal

pub returns : goal.returns
returns c = counted-law
