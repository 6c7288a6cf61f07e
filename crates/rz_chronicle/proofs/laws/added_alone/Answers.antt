use Rattle.rz_chronicle.proofs.Alone.{alone}
use Rattle.rz_chronicle.proofs.laws.added_alone.Goals as goal

pub returns : goal.returns
returns c = alone
