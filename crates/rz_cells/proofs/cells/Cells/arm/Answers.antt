use Rattle.rz_cells_slots.proofs.Lifts.{open_same}
use Rattle.rz_cells.proofs.cells.Cells.arm.Goals as goal

pub returns-clause-open : goal.returns-clause-open
returns-clause-open g c was =
    let s = c.args.self.now in
    open_same g.D.Disk.tells (g.D.Disk.text s.disk) (g.D.Disk.text c.arm.new.self) (g.D.Disk.image s.disk) (g.D.Disk.image c.arm.new.self) s.geometry s.fence s.gates.items s.heads c.arm.ensures.text c.arm.ensures.crash was
