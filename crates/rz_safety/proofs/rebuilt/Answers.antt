use Rattle.rz_safety.proofs.CourseLaws as laws
use Rattle.rz_safety.proofs.rebuilt.Goals as goal

pub returns : goal.returns
returns c = laws.rebuilt
