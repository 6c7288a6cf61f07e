use Rattle.std.proofs.Common.{length}
use Rattle.mj_c.specs.Layouts.{IsDealt, IsDone}
use Rattle.mj_c.proofs.group.take_each.Given as goal

abbrev pub invariant-loop-i : goal.invariant-loop-i
invariant-loop-i l = IsDone l.layout (λ i new byte. IsDealt l.layout l.grid l.answer l.fn.out i new byte) (length l.fn.lost) l.i l.fn.out l.out l.lost
