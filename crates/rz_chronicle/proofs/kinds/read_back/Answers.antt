use Rattle.std.specs.Prelude.{[]}
use Rattle.rz_chronicle.proofs.Numbers.{volume-back-after, honest-back}
use Rattle.rz_chronicle.proofs.kinds.read_back.Goals as goal

pub returns : goal.returns
returns c = λ honest v. (honest-back honest v, volume-back-after honest v [])
