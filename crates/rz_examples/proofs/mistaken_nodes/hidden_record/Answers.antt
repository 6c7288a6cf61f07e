use Rattle.rz_examples.proofs.Clients.{legal_looked}
use Rattle.rz_examples.proofs.Refusals.{not_hidden}
use Rattle.rz_examples.proofs.mistaken_nodes.hidden_record.Goals as goal

pub returns : goal.returns
returns c = record { legal = legal_looked; mistaken = not_hidden }
