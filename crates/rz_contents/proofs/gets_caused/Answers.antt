use Rattle.rz_contents.proofs.GetCauses as laws
use Rattle.rz_contents.proofs.gets_caused.Goals as goal

pub returns : goal.returns
returns c = laws.gets_caused
