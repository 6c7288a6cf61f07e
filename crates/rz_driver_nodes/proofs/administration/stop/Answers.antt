use Rattle.std.proofs.Common.{Option, ap, refl, sym, subst, arith}
use Rattle.rz_events.specs.declared.nodes.NodeAnswer.TheVariants as answer
use Rattle.rz_node.specs.View.{NodeView}
use Rattle.rz_events.specs.declared.events.Event.{Event}
use Rattle.rz_events.specs.declared.keys.Actor.TheVariants.{Admin}
use Rattle.rz_events.specs.declared.nodes.NodeAsk.TheVariants as ask
use Rattle.rz_play.specs.Lines.{noted}
use Rattle.rz_driver_nodes.specs.Meters.{OneNodeGoesOn}
use Rattle.rz_driver_nodes.proofs.MeterLemmas.{call-goes}
use Rattle.rz_driver_nodes.proofs.OrderCoherence.{call-keeps, same-disk}
use Rattle.rz_driver_nodes.proofs.administration.stop.Goals as goal

pub returns-clause-order : goal.returns-clause-order
returns-clause-order g c = record {
  given = answer.Stop c.stop.result;
  given_is = c.stop.ensures.answer;
  told = tt;
  after = ap (λ (n : NodeView g.row.D.Denot). n.state) c.stop.ensures.after;
  event_is = c.node_event.ensures;
  called = record { sid = refl; pick = refl; geometry = ap (λ (n : NodeView g.row.D.Denot). n.geometry) c.stop.ensures.after };
}

pub returns-clause-metered : goal.returns-clause-metered
returns-clause-metered g c = λ h.
    let meter = g.D.Disk.meter in
    let s = c.args.server.now in
    let node' = c.stop.new.self in
    let after = ap (λ (n : NodeView g.row.D.Denot). n.state) c.stop.ensures.after in
    let same = ap (λ (n : NodeView g.row.D.Denot). meter n.disk) c.stop.ensures.after in
    subst (λ (o : Option Event). OneNodeGoesOn meter s.sid s.node node' h (noted o h)) (sym c.node_event.ensures)
    (call-goes meter c.faults.ensures Admin s.sid 0 s.node.geometry.cells ask.Stop (answer.Stop c.stop.result) s.node node' tt c.stop.ensures.answer after same h)

pub returns-clause-counted : goal.returns-clause-counted
returns-clause-counted g c =
    let same = ap (λ (n : NodeView g.row.D.Denot). (g.D.Disk.meter n.disk).own) c.stop.ensures.after in
    omega (arith, same)

pub returns-clause-images : goal.returns-clause-images
returns-clause-images g c = λ told.
    let s = c.args.server.now in
    let node' = c.stop.new.self in
    let after = c.stop.ensures.after in
    call-keeps g.D.Disk.image g.D.Disk.text (c.called.ensures told) ask.Stop (answer.Stop c.stop.result) (λ v f n. tt) s (record { sid = s.sid; node = node'; pick = s.pick }) refl
    (ap (λ (n : NodeView g.row.D.Denot). n.geometry) after) (ap (λ (n : NodeView g.row.D.Denot). n.state) after) c.stop.ensures.answer (same-disk g.D.Disk.image s.node node' _ after)
