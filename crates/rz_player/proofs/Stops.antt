-- Where a play stops before a turn, what was so between two turns is so still.
use Rattle.std.proofs.Common.{Err}
use Rattle.rz_player.specs.declared.turns.CutCause.{CutCause}
use Rattle.rz_player.specs.declared.turns.CutCause.TheVariants as cut
use Rattle.rz_player.specs.Behind.{Before}
use Rattle.rz_player.specs.Ends.{StaysTrue, OnStop}

pub stopped-after : (A B : Type 0) (ready : Type 0) (first last next : Before → Type 0) (cause : CutCause) → StaysTrue first last → OnStop {A = A} (Err cause) (ready × StaysTrue last next)
    → OnStop {A = B} (Err cause) (ready × StaysTrue first next)
stopped-after A B ready first last next cut.TooManyTurns so_far h = (h.0, λ b so. h.1 b (so_far b so))
stopped-after A B ready first last next cut.NoMemory so_far h = tt
