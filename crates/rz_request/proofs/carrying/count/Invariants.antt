use Rattle.std.proofs.Common.{◌≡◌, ◌≤◌, take}
use Rattle.rz_cells_slots.specs.Held.{count_held}
use Rattle.rz_request.proofs.carrying.count.Given as goal

abbrev pub invariant-loop-cell : goal.invariant-loop-cell
invariant-loop-cell g l = record {
  counted : l.records ≡ count_held (take l.cell l.cells.heads);
  few : l.records ≤ l.cell;
}
