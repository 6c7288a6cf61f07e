use Rattle.std.proofs.Common.{IsTrue, [], sym, subst}
use Rattle.rz_events.specs.declared.nodes.NodeAsk.TheVariants as ask
use Rattle.rz_events.specs.declared.nodes.NodeAnswer.TheVariants as answer
use Rattle.rz_cells_slots.specs.declared.geometry.Geometry.{Geometry}
use Rattle.rz_node_model.specs.States.{NodeState}
use Rattle.rz_node_laws.specs.Images.{IsImaged}
use Rattle.rz_shared_locked.proofs.Disks.{starts}
use Rattle.rz_shared_locked.proofs.Meters.{phase-after}
use Rattle.rz_shared_locked.proofs.serving.open_disk.Goals as goal

pub returns-clause-imaged : goal.returns-clause-imaged
returns-clause-imaged g c = λ tells v f n imaged.
    let old = c.args.node.now in
    let new = c.start.new.self in
    let text = g.D.Disk.text in
    let image = g.D.Disk.image in
    let left = starts (IsTrue g.D.Disk.tells) tells old.geometry old.state (text old.disk) (text new.disk) (image old.disk) (image new.disk) c.start.result
    c.start.ensures.settled c.start.ensures.branch c.start.ensures.text c.start.ensures.within in
    let it = c.called.ensures tells v f n old.geometry.cells old.geometry old.state ask.Start (answer.Start c.start.result) [] [] old.disk new.disk c.start.ensures.answer tt left imaged in
    subst (λ (k : Geometry). IsImaged v f n new.state k (image new.disk)) (sym c.start.ensures.geometry)
    (subst (λ (s : NodeState). IsImaged v f n s old.geometry (image new.disk)) (sym (c.start.ensures.after tells)) it)

pub returns-clause-phase : goal.returns-clause-phase
returns-clause-phase g c =
    let old = c.args.node.now in
    let new = c.start.new.self in
    phase-after c.start.result old.state new.state old.state.losses new.state.fence new.state.held c.start.ensures.started c.start.ensures.unstarted
