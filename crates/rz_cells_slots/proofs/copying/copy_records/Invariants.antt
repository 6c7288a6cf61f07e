use Rattle.std.proofs.Common.{◌≡◌, ◌+◌, ◌*◌, IsTrue, length, take}
use Rattle.rz_disk.specs.Meter.{Took, Lasts}
use Rattle.rz_cells_slots.specs.Held.{count_held}
use Rattle.rz_cells_slots.specs.Shape.{slot_of}
use Rattle.rz_cells_slots.specs.Opening.{OnlyRead}
use Rattle.rz_cells_slots.specs.Copied.{AllShut, CopiesTo}
use Rattle.rz_cells_slots.proofs.Meters.{went}
use Rattle.rz_cells_slots.proofs.copying.copy_records.Given as goal

abbrev pub invariant-loop-cell : goal.invariant-loop-cell
invariant-loop-cell g l = record {
  read : OnlyRead (g.D.Disk.text l.fn.old) (g.D.Disk.text l.old) (g.D.Disk.image l.fn.old) (g.D.Disk.image l.old) (g.D.Disk.meter l.fn.old) (g.D.Disk.meter l.old);
  meter : Lasts (g.D.Disk.meter l.fn.new) (g.D.Disk.meter l.new);
  old_took : Took (count_held (take l.cell l.cells.heads.items)) went (g.D.Disk.meter l.fn.old) (g.D.Disk.meter l.old);
  took : Took (count_held (take l.cell l.cells.heads.items)) went (g.D.Disk.meter l.fn.new) (g.D.Disk.meter l.new);
  size : length (g.D.Disk.text l.new) ≡ length (g.D.Disk.text l.fn.new);
  shut : AllShut (g.D.Disk.image l.new);
  buffer : length l.buffer.items ≡ slot_of l.geometry;
  bins : 48 + 8 * length l.bins ≡ slot_of l.geometry;
  copies : IsTrue g.D.Disk.tells → CopiesTo l.geometry l.cells.fence (g.D.Disk.text l.fn.old) l.cells.heads.items (g.D.Disk.text l.new) l.cell;
}
