use Rattle.rz_examples.proofs.Steps.{legal_file}
use Rattle.rz_examples.proofs.Refusals.{not_unknown_stops}
use Rattle.rz_examples.proofs.mistaken_nodes.unknown_node.Goals as goal

pub returns : goal.returns
returns c = record { legal = legal_file; mistaken = not_unknown_stops }
