use Rattle.std.proofs.Common.{◌≡◌, ◌+◌, ◌≤◌, IsTrue, length}
use Rattle.std.specs.HashMap.{spare}
use Rattle.rz_disk.specs.Meter.{Took}
use Rattle.rz_cells_slots.specs.Opening.{KnowsFirsts, OnlyRead}
use Rattle.rz_cells_slots.specs.OldOpening.{OldFitTo, OldReadTo}
use Rattle.rz_cells_slots.proofs.Meters.{went}
use Rattle.rz_cells_slots.proofs.old.read_old_heads.Given as goal

abbrev pub invariant-loop-cell : goal.invariant-loop-cell
invariant-loop-cell g l = record {
  read : OnlyRead (g.D.Disk.text l.fn.disk) (g.D.Disk.text l.disk) (g.D.Disk.image l.fn.disk) (g.D.Disk.image l.disk) (g.D.Disk.meter l.fn.disk) (g.D.Disk.meter l.disk);
  took : Took l.cell went (g.D.Disk.meter l.fn.disk) (g.D.Disk.meter l.disk);
  count : length l.heads.items ≡ l.geometry.cells;
  firsts : KnowsFirsts l.firsts l.heads.items l.cell;
  room : l.geometry.cells ≤ l.cell + spare l.firsts;
  fits : OldFitTo l.geometry l.heads.items l.cell;
  reads : IsTrue g.D.Disk.tells → OldReadTo l.geometry (g.D.Disk.text l.fn.disk) l.heads.items l.cell;
}
