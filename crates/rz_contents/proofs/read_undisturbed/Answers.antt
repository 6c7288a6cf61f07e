use Rattle.rz_contents.proofs.Reading as laws
use Rattle.rz_contents.proofs.read_undisturbed.Goals as goal

pub returns : goal.returns
returns c = laws.read_undisturbed
