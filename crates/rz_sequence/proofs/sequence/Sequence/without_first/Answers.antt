use Rattle.std.proofs.Common.{[], arith}
use Rattle.rz_sequence.proofs.Places.{drop_behind}
use Rattle.rz_sequence.proofs.sequence.Sequence.without_first.Goals as goal

pub returns-in-Some : goal.returns-in-Some
returns-in-Some g c =
    let both = c.in-Some.ensures in
    drop_behind _ [] _ _ 1 0 _ both.0 both.1 (omega arith) (Rattle.std.proofs.Common.refl)
