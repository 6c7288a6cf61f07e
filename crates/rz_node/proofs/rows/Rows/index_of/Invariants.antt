use Rattle.std.specs.Prelude.{◌≡◌}
use Rattle.std.specs.Vec.{vec_capacity}
use Rattle.std.specs.VecDeque.{deque_capacity}
use Rattle.rz_node.specs.Rows.{IsRows, HasRoom}
use Rattle.rz_node.proofs.rows.Rows.index_of.Given as goal

abbrev pub invariant-loop-pair : goal.invariant-loop-pair
invariant-loop-pair g l = record {
  rows : IsRows l.cells.geometry.cells l.cells.heads l.pair l.rows.entries.items l.rows.free.items;
  spare : l.rows.spare ≡ l.cells.geometry.cells;
  room : HasRoom l.cells.geometry.cells (vec_capacity l.rows.entries) (deque_capacity l.rows.free);
}
