use Rattle.rz_node_laws.proofs.MeterCalls.{unarmed-law}
use Rattle.rz_node_laws.proofs.unarmed.Goals as goal

pub returns : goal.returns
returns c = unarmed-law
