use Rattle.rz_contents.proofs.Sizes as laws
use Rattle.rz_contents.proofs.covered.Goals as goal

pub returns : goal.returns
returns c = laws.covered
