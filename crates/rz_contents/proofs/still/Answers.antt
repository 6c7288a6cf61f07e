use Rattle.rz_contents.proofs.Stillness as laws
use Rattle.rz_contents.proofs.still.Goals as goal

pub returns : goal.returns
returns c = laws.still
