use Rattle.rz_safety.proofs.OrderLaws as laws
use Rattle.rz_safety.proofs.rising.Goals as goal

pub returns : goal.returns
returns c = laws.rising
