use Rattle.std.proofs.Common.{List, Option, subst, sym}
use Rattle.std.specs.List.{AllZip}
use Rattle.rz_shared.specs.Returned.{IsReturnedIf}
use Rattle.rz_shared.proofs.Returning.{each-here, unwrapped}
use Rattle.rz_shared.proofs.cluster.Cluster.close.Goals as goal

pub unwrap_all-requires-clause-here : goal.unwrap_all-requires-clause-here
unwrap_all-requires-clause-here g c =
    each-here g.D.Disk.meter g.D.Disk.image g.J.Metering.fixed g.J.Naming.kind g.J.Naming.earlier g.J.Metering.first g.met.J.Counting.whole c.taken_apart-closed.result.0.disks.items c.taken_apart-closed.result.0.desk.nodes.items c.taken_apart-closed.ensures.returned

pub returns-clause-returned : goal.returns-clause-returned
returns-clause-returned g c =
    unwrapped g.D.Disk.meter g.D.Disk.image g.J.Metering.fixed g.J.Naming.kind g.J.Naming.earlier g.J.Metering.first g.met.J.Counting.whole c.unwrap_all.result.items c.taken_apart-closed.result.0.desk.nodes.items
    (subst (λ (l : List (Option g.row.D.Denot)). AllZip (IsReturnedIf g.D.Disk.meter g.D.Disk.image g.J.Metering.fixed g.J.Naming.kind g.J.Naming.earlier g.J.Metering.first) l c.taken_apart-closed.result.0.desk.nodes.items) (sym c.unwrap_all.ensures) c.taken_apart-closed.ensures.returned)

pub unwrap_all-requires-clause-home : goal.unwrap_all-requires-clause-home
unwrap_all-requires-clause-home g c = (c.taken_apart-closed.ensures.home.0, c.taken_apart-closed.ensures.home.1 g.met.J.Counting.whole)
