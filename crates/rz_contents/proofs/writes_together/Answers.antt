use Rattle.rz_contents.proofs.Ranges as laws
use Rattle.rz_contents.proofs.writes_together.Goals as goal

pub returns : goal.returns
returns c = laws.writes-together
