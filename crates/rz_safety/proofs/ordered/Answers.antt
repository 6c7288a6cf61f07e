use Rattle.rz_safety.proofs.OrderLaws as laws
use Rattle.rz_safety.proofs.ordered.Goals as goal

pub returns : goal.returns
returns c = laws.ordered
