use Rattle.std.proofs.Common.{◌≡◌, ◌+◌, ◌*◌, ◌≤◌, IsTrue, length}
use Rattle.std.specs.HashMap.{spare}
use Rattle.rz_disk.specs.Meter.{Took}
use Rattle.rz_cells_slots.specs.Opening.{FitTo, KnowsFirsts, OnlyRead, ReadTo}
use Rattle.rz_cells_slots.proofs.Meters.{went}
use Rattle.rz_cells_slots.proofs.reading.read_heads.Given as goal

abbrev pub invariant-loop-cell : goal.invariant-loop-cell
invariant-loop-cell g l = record {
  read : OnlyRead (g.D.Disk.text l.fn.disk) (g.D.Disk.text l.disk) (g.D.Disk.image l.fn.disk) (g.D.Disk.image l.disk) (g.D.Disk.meter l.fn.disk) (g.D.Disk.meter l.disk);
  took : Took l.cell went (g.D.Disk.meter l.fn.disk) (g.D.Disk.meter l.disk);
  count : length l.heads ≡ 2 * l.geometry.cells;
  firsts : KnowsFirsts l.firsts l.heads l.cell;
  room : 2 * l.geometry.cells ≤ l.cell + spare l.firsts;
  fits : FitTo l.geometry l.heads l.cell;
  reads : IsTrue g.D.Disk.tells → ReadTo l.geometry (g.D.Disk.text l.fn.disk) l.heads l.cell;
}
