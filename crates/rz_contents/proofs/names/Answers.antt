use Rattle.rz_contents.proofs.Stillness as laws
use Rattle.rz_contents.proofs.names.Goals as goal

pub returns : goal.returns
returns c = laws.names
