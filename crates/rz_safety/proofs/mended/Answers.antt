use Rattle.rz_safety.proofs.OrderLaws as laws
use Rattle.rz_safety.proofs.mended.Goals as goal

pub returns : goal.returns
returns c = laws.mended
