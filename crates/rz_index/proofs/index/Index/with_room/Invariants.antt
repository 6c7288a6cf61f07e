use Rattle.std.proofs.Common.{◌≡◌, ◌≤◌}
use Rattle.std.specs.VecDeque.{deque_len, deque_capacity}
use Rattle.std.specs.List.{range_with_len}
use Rattle.rz_index.proofs.index.Index.with_room.Given as goal

abbrev pub invariant-loop-cell : goal.invariant-loop-cell
invariant-loop-cell l = record { cells : l.free.items ≡ range_with_len 0 l.cell; count : deque_len l.free ≡ l.cell; room : l.cells ≤ deque_capacity l.free }
