use Rattle.rz_safety.proofs.WriteLaws as laws
use Rattle.rz_safety.proofs.written.Goals as goal

pub returns : goal.returns
returns c = laws.written
