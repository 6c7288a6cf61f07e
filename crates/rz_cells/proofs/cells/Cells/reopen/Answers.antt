-- What was read makes open cells.
use Rattle.std.proofs.Common.{ℕ, List, subst}
use Rattle.rz_cells_slots.specs.Open.{Finds}
use Rattle.rz_cells_slots.proofs.Refused.{finds_of, only_faults, stands_of}
use Rattle.rz_cells.proofs.cells.Cells.reopen.Goals as goal

pub returns-in-Ok-clause-stands : goal.returns-in-Ok-clause-stands
returns-in-Ok-clause-stands g c told =
    let is_open = c.in-Ok.ensures.open in
    stands_of c.args.geometry c.in-Ok.fence (g.D.Disk.text c.read_disk.new.disk) c.in-Ok.room.heads (is_open.holds told) is_open.apart

pub returns-in-Ok-clause-found : goal.returns-in-Ok-clause-found
returns-in-Ok-clause-found g c told =
    subst (λ (t : List ℕ). Finds c.args.geometry t c.in-Ok.fence c.in-Ok.room.heads) c.in-Ok.ensures.read.same
    (finds_of c.args.geometry (g.D.Disk.text c.read_disk.new.disk) c.in-Ok.fence c.in-Ok.room.heads (c.in-Ok.ensures.open.holds told))

pub returns-in-Err-clause-exact : goal.returns-in-Err-clause-exact
returns-in-Err-clause-exact g c told fence held stands =
    only_faults c.args.geometry fence (g.D.Disk.text c.args.disk) held stands c.in-Err.fault (c.in-Err.ensures.refused told)
