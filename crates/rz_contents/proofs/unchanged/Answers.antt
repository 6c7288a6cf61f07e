use Rattle.rz_contents.proofs.Changing as laws
use Rattle.rz_contents.proofs.unchanged.Goals as goal

pub returns : goal.returns
returns c = laws.unchanged
