-- A disk that was formatted holds nothing.
use Rattle.std.proofs.Common.{rules, ◌⊎◌, ℕ, IsTrue, List}
use Rattle.rz_cells_slots.specs.Held.{nothing}
use Rattle.rz_cells_slots.specs.Stands.{IsShut, StandsFor}
use Rattle.rz_cells_slots.proofs.Fresh.{stands_for_nothing, shut_or_nothing, open_fresh}
use Rattle.rz_cells.proofs.cells.Cells.format_again.Goals as goal

pub returns-in_err-blank-clause-crash : goal.returns-in_err-blank-clause-crash
returns-in_err-blank-clause-crash g c =
    let s = c.args.self.now in
    let left : IsTrue g.D.Disk.tells → (image : List ℕ) → g.D.Disk.image c.blank.new.disk image → g.D.Disk.image s.disk image ⊎ IsShut image ⊎ StandsFor s.geometry c.args.fence image nothing =
    (λ told image left. shut_or_nothing s.geometry c.args.fence image (g.D.Disk.image s.disk image) (c.blank.ensures.crash told image left)) in
    search rules

pub returns-clause-open : goal.returns-clause-open
returns-clause-open g c =
    let e = c.in_ok-blank.ensures in
    open_fresh g.D.Disk.tells (g.D.Disk.text c.blank.new.disk) (g.D.Disk.image c.blank.new.disk) c.args.self.now.geometry c.args.fence c.empty.new.gates.items c.empty.new.heads
    e.size e.only e.done c.empty.ensures.shut (search rules) c.empty.ensures.empty

pub returns-clause-nothing : goal.returns-clause-nothing
returns-clause-nothing g c told = stands_for_nothing c.args.self.now.geometry c.args.fence (g.D.Disk.text c.blank.new.disk) (c.in_ok-blank.ensures.done told)
