use Rattle.rz_node.proofs.AfterChange.{change-law}
use Rattle.rz_node.proofs.laws.change.Goals as goal

pub returns : goal.returns
returns c = change-law
