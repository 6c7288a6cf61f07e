-- Cells that are open.
use Rattle.rz_disk.specs.declared.disk.Disk.{Ghosts}
use Rattle.rz_cells.specs.declared.cells.Cells.{Cells}
use Rattle.rz_cells_slots.specs.Open.{IsOpen}

-- What is known of the cells is what their disk holds.
abbrev pub AreOpen : {D : Type 0} {G : Ghosts D} → Cells D G → Type 0
AreOpen {G = G} c = IsOpen G.tells (G.text c.disk) (G.image c.disk) c.geometry c.fence c.gates.items c.heads
