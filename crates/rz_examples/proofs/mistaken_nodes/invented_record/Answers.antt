use Rattle.rz_examples.proofs.Clients.{legal_looked}
use Rattle.rz_examples.proofs.Refusals.{not_invented}
use Rattle.rz_examples.proofs.mistaken_nodes.invented_record.Goals as goal

pub returns : goal.returns
returns c = record { legal = legal_looked; mistaken = not_invented }
