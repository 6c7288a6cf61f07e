use Rattle.rz_safety.proofs.PositionLaws as laws
use Rattle.rz_safety.proofs.by_position.Goals as goal

pub returns : goal.returns
returns c = laws.tables
