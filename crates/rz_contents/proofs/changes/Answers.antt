use Rattle.rz_contents.proofs.Changing as laws
use Rattle.rz_contents.proofs.changes.Goals as goal

pub returns : goal.returns
returns c = laws.changed
