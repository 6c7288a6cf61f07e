use Rattle.rz_safety.proofs.QuietLaws as laws
use Rattle.rz_safety.proofs.answering.Goals as goal

pub returns : goal.returns
returns c = laws.answering
