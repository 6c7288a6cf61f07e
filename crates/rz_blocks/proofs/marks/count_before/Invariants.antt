use Rattle.std.proofs.Common.{length}
use Rattle.rz_blocks.specs.Rows.{rank}
use Rattle.rz_blocks.proofs.FoundRows.{IsLeft}
use Rattle.rz_blocks.proofs.marks.count_before.Given as goal

-- the rows that are left end where the code says
abbrev pub invariant-loop-left : goal.invariant-loop-left
invariant-loop-left l = IsLeft l.rows (rank l.row) l.rest l.end

abbrev pub decreases-loop-left : goal.decreases-loop-left
decreases-loop-left l = length l.rest
