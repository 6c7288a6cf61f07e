-- A disk that was formatted holds nothing.
use Rattle.rz_cells_slots.proofs.Fresh.{stands_for_nothing, shut_or_nothing, open_fresh}
use Rattle.rz_cells.proofs.cells.Cells.format.Goals as goal

pub returns-in-Err-clause-crash : goal.returns-in-Err-clause-crash
returns-in-Err-clause-crash g c told image left = shut_or_nothing c.args.geometry c.args.fence image (g.D.Disk.image c.args.disk image) (c.blank.ensures.crash told image left)

pub returns-clause-open : goal.returns-clause-open
returns-clause-open g c =
    let e = c.in_default-blank.ensures in
    let room = c.in-Ok.room in
    open_fresh g.D.Disk.tells (g.D.Disk.text c.blank.new.disk) (g.D.Disk.image c.blank.new.disk) c.args.geometry c.args.fence room.gates.items room.heads
    e.size e.only e.done c.in-Ok.ensures.shut c.in-Ok.ensures.heads c.in-Ok.ensures.empty

pub returns-clause-nothing : goal.returns-clause-nothing
returns-clause-nothing g c told = stands_for_nothing c.args.geometry c.args.fence (g.D.Disk.text c.blank.new.disk) (c.in_default-blank.ensures.done told)
