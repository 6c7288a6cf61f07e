use Rattle.std.proofs.Common.{length}
use Rattle.rz_blocks.specs.Rows.{rank}
use Rattle.rz_blocks.proofs.Looked.{IsLeft}
use Rattle.rz_blocks.proofs.marks.look_up.Given as goal

-- the row is found in what is left where it is found in all
abbrev pub invariant-loop-left : goal.invariant-loop-left
invariant-loop-left l = IsLeft l.rows (rank l.row) l.rest

abbrev pub decreases-loop-left : goal.decreases-loop-left
decreases-loop-left l = length l.rest
