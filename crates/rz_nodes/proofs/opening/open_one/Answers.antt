use Rattle.std.proofs.Common.{ap}
use Rattle.rz_cells_slots.specs.Opening.{opening_calls}
use Rattle.rz_nodes.proofs.OpenLemmas.{opened-one, fault-one}
use Rattle.rz_nodes.proofs.opening.open_one.Goals as goal

pub returns-in-Ok-clause-made : goal.returns-in-Ok-clause-made
returns-in-Ok-clause-made g c =
    let e = c.in-Ok.ensures in
    opened-one g.D.Disk.tells g.D.Disk.meter g.D.Disk.text c.args.layout c.args.node c.args.disk
    (record { layout = c.args.layout; bsize = c.bsize.result; node = c.args.node.sid; cells = c.args.node.cells }) c.new.result
    (ap (λ b. record { layout = c.args.layout; bsize = b; node = c.args.node.sid; cells = c.args.node.cells }) c.bsize.ensures.value) c.new.ensures g.D.Disk.image c.args.losses
    (opening_calls (record { layout = c.args.layout; bsize = c.bsize.result; node = c.args.node.sid; cells = c.args.node.cells }))
    c.in-Ok.opened e.state e.geometry e.stands e.shows e.settled e.text e.sized e.crash e.meter.took.unarmed e.meter.took.planned_only e.meter.lasts.own

pub returns-in-Err-clause-fault : goal.returns-in-Err-clause-fault
returns-in-Err-clause-fault g c =
    let e = c.in-Err.ensures in
    fault-one g.D.Disk.tells g.D.Disk.meter g.D.Disk.text c.args.layout c.args.node c.args.disk
    (record { layout = c.args.layout; bsize = c.bsize.result; node = c.args.node.sid; cells = c.args.node.cells }) c.new.result
    (ap (λ b. record { layout = c.args.layout; bsize = b; node = c.args.node.sid; cells = c.args.node.cells }) c.bsize.ensures.value) c.new.ensures
    (opening_calls (record { layout = c.args.layout; bsize = c.bsize.result; node = c.args.node.sid; cells = c.args.node.cells }))
    c.in-Err.fused c.into_inner.result c.in-Err.fault c.into_inner.ensures e.refused e.size e.fits e.exact e.meter.took.planned_only e.meter.risen
