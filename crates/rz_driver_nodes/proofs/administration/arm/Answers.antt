use Rattle.std.proofs.Common.{Some, refl, ap, arith}
use Rattle.rz_node_model.specs.States.{NodeState}
use Rattle.rz_driver_nodes.proofs.MeterLemmas.{arm-goes, armed-own}
use Rattle.rz_driver_nodes.proofs.OrderCoherence.{fewer-keeps}
use Rattle.rz_driver_nodes.proofs.administration.arm.Goals as goal

pub returns-clause-metered : goal.returns-clause-metered
returns-clause-metered g c = λ h.
    let meter = g.D.Disk.meter in
    let s = c.args.server.now in
    arm-goes meter c.armed.ensures g.D.Disk.has_fuse c.requires.fuse s.sid c.args.passes c.args.pick s.node c.arm.new.self (ap (λ (t : NodeState). t.phase) c.arm.ensures.state) c.arm.ensures.meter h

pub returns-clause-counted : goal.returns-clause-counted
returns-clause-counted g c =
    let same = armed-own g.D.Disk.has_fuse (Some c.args.passes) (g.D.Disk.meter c.args.server.now.node.disk) (g.D.Disk.meter c.arm.new.self.disk) c.arm.ensures.meter in
    omega (arith, same)

pub returns-clause-images : goal.returns-clause-images
returns-clause-images g c = λ told.
    let s = c.args.server.now in
    fewer-keeps g.D.Disk.image c.fewer.ensures s (record { sid = s.sid; node = c.arm.new.self; pick = c.args.pick }) refl c.arm.ensures.geometry c.arm.ensures.state c.arm.ensures.within
