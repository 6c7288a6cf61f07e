use Rattle.rz_contents.proofs.PutCauses as laws
use Rattle.rz_contents.proofs.puts_caused.Goals as goal

pub returns : goal.returns
returns c = laws.puts_caused
