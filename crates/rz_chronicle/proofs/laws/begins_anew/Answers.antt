use Rattle.rz_chronicle.proofs.Earlier.{anew}
use Rattle.rz_chronicle.proofs.laws.begins_anew.Goals as goal

pub returns : goal.returns
returns c = anew
