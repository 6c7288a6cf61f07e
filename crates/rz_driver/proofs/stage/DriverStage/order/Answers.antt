use Rattle.std.proofs.Common.{IsTrue, refl}
use Rattle.std.specs.Vec.{with_items}
use Rattle.std.proofs.lemmas.Result.{on_ok_weaker}
use Rattle.rz_events.specs.declared.nodes.NodeAsk.TheVariants as ask
use Rattle.rz_play.specs.Lines.{with_miss, with_operation}
use Rattle.rz_driver_nodes.proofs.CoherenceLemmas.{both-ok, three-ok, three-err, on-err}
use Rattle.rz_driver.specs.Orders.{IsActorOrdered}
use Rattle.rz_driver_nodes.specs.Administration.{IsOrderNoted, IsStarted, IsCalledAt, IsArming}
use Rattle.rz_block_laws.proofs.Starts.{takes}
use Rattle.rz_driver.specs.Worlds.{world, world_of}
use Rattle.rz_driver.proofs.NodeOrders.{called-of, ordered-in, started-in, called-in, arming-in, called-ready, armed-ready, admin-call, free-start, start-over, armed-world}
use Rattle.rz_driver.proofs.OrderLemmas.{actor-ready, actor-played, all-more}
use Rattle.rz_driver.proofs.LineOrders.{actor-holds, actor-left, node-holds, node-left}
use Rattle.rz_driver.proofs.stage.DriverStage.order.Goals as goal

-- Op

pub returns-in-Op-clause-ready : goal.returns-in-Op-clause-ready
returns-in-Op-clause-ready g c =
    let d = c.args.self.now in
    on_ok_weaker c.add_operation.result
    (λ (o : IsActorOrdered c.in-Op.by (λ s. with_operation s c.in-Op.op) c.as_mut_slice.result.now c.add_operation.new.agendas).
    actor-ready d c.requires.ready c.as_mut_slice.result.now c.add_operation.new.agendas c.as_mut_slice.ensures.value c.in-Op.by (λ s. with_operation s c.in-Op.op) o _ refl refl refl (λ all. all-more d.volume.layout o.agenda.todo.items c.in-Op.op all (takes d.volume c.in-Op.by c.in-Op.op (rw c.in-Op.is at c.requires.line).1)))
    c.add_operation.ensures

pub returns-in-Op-clause-played : goal.returns-in-Op-clause-played
returns-in-Op-clause-played g c =
    let d = c.args.self.now in
    rw c.in-Op.is (on_ok_weaker c.add_operation.result
    (λ (o : IsActorOrdered c.in-Op.by (λ s. with_operation s c.in-Op.op) c.as_mut_slice.result.now c.add_operation.new.agendas).
    actor-played d c.requires.ready c.as_mut_slice.result.now c.add_operation.new.agendas c.as_mut_slice.ensures.value c.in-Op.by (λ s. with_operation s c.in-Op.op) o)
    c.add_operation.ensures)

pub returns-in-Op-clause-held : goal.returns-in-Op-clause-held
returns-in-Op-clause-held g c =
    both-ok c.add_operation.result
    (actor-holds c.lined.ensures c.untold.ensures c.lasting.ensures c.args.self.now c.args.line.now c.requires.order c.requires.line c.requires.ready c.as_mut_slice.result.now c.add_operation.new.agendas c.as_mut_slice.ensures.value _ refl refl refl)
    c.add_operation.ensures (returns-in-Op-clause-played g c)

pub returns-in-Op-clause-left : goal.returns-in-Op-clause-left
returns-in-Op-clause-left g c = on-err c.add_operation.result (actor-left c.args.self.now c.requires.ready _ refl _ refl)

-- Miss

pub returns-in-Miss-clause-ready : goal.returns-in-Miss-clause-ready
returns-in-Miss-clause-ready g c =
    let d = c.args.self.now in
    on_ok_weaker c.plan_miss.result
    (λ (o : IsActorOrdered c.in-Miss.by (λ s. with_miss s c.in-Miss.reply) c.as_mut_slice-in-Miss.result.now c.plan_miss.new.agendas).
    actor-ready d c.requires.ready c.as_mut_slice-in-Miss.result.now c.plan_miss.new.agendas c.as_mut_slice-in-Miss.ensures.value c.in-Miss.by (λ s. with_miss s c.in-Miss.reply) o _ refl refl refl (λ all. all))
    c.plan_miss.ensures

pub returns-in-Miss-clause-played : goal.returns-in-Miss-clause-played
returns-in-Miss-clause-played g c =
    let d = c.args.self.now in
    rw c.in-Miss.is (on_ok_weaker c.plan_miss.result
    (λ (o : IsActorOrdered c.in-Miss.by (λ s. with_miss s c.in-Miss.reply) c.as_mut_slice-in-Miss.result.now c.plan_miss.new.agendas).
    actor-played d c.requires.ready c.as_mut_slice-in-Miss.result.now c.plan_miss.new.agendas c.as_mut_slice-in-Miss.ensures.value c.in-Miss.by (λ s. with_miss s c.in-Miss.reply) o)
    c.plan_miss.ensures)

pub returns-in-Miss-clause-held : goal.returns-in-Miss-clause-held
returns-in-Miss-clause-held g c =
    both-ok c.plan_miss.result
    (actor-holds c.lined.ensures c.untold.ensures c.lasting.ensures c.args.self.now c.args.line.now c.requires.order c.requires.line c.requires.ready c.as_mut_slice-in-Miss.result.now c.plan_miss.new.agendas c.as_mut_slice-in-Miss.ensures.value _ refl refl refl)
    c.plan_miss.ensures (returns-in-Miss-clause-played g c)

pub returns-in-Miss-clause-left : goal.returns-in-Miss-clause-left
returns-in-Miss-clause-left g c = on-err c.plan_miss.result (actor-left c.args.self.now c.requires.ready _ refl _ refl)

-- Stop

pub returns-in-Stop-clause-ready : goal.returns-in-Stop-clause-ready
returns-in-Stop-clause-ready g c =
    let d = c.args.self.now in
    let new = c.order_node.new in
    on_ok_weaker c.order_node.result
    (λ (o : IsOrderNoted ask.Stop c.in-Stop.node c.as_mut_slice-in-Stop.result.now new.servers d.shared.log.events new.log.events).
    called-ready d _ c.requires.ready refl refl c.in-Stop.node (called-in c.in-Stop.node d.shared.servers c.as_mut_slice-in-Stop.result.now new.servers c.as_mut_slice-in-Stop.ensures.value (called-of ask.Stop c.in-Stop.node _ _ _ _ o)) refl refl refl)
    c.order_node.ensures.ok

pub returns-in-Stop-clause-played : goal.returns-in-Stop-clause-played
returns-in-Stop-clause-played g c =
    let d = c.args.self.now in
    let new = c.order_node.new in
    let q = record d.shared { servers = with_items d.shared.servers new.servers; log = new.log } in
    rw c.in-Stop.is (on_ok_weaker c.order_node.result
    (λ (o : IsOrderNoted ask.Stop c.in-Stop.node c.as_mut_slice-in-Stop.result.now new.servers d.shared.log.events new.log.events).
    admin-call d c.requires.ready q refl refl ask.Stop c.in-Stop.node (ordered-in ask.Stop c.in-Stop.node d.shared.servers c.as_mut_slice-in-Stop.result.now new.servers d.shared.log.events new.log.events c.as_mut_slice-in-Stop.ensures.value o))
    c.order_node.ensures.ok)

pub returns-in-Stop-clause-held : goal.returns-in-Stop-clause-held
returns-in-Stop-clause-held g c =
    three-ok c.order_node.result
    (node-holds c.lined.ensures c.untold.ensures c.lasting.ensures c.args.self.now c.args.line.now c.requires.order c.requires.line c.as_mut_slice-in-Stop.result.now c.order_node.new.servers c.as_mut_slice-in-Stop.ensures.value _ refl refl refl refl)
    c.order_node.ensures.held c.order_node.ensures.coherent (returns-in-Stop-clause-played g c)

pub returns-in-Stop-clause-left : goal.returns-in-Stop-clause-left
returns-in-Stop-clause-left g c =
    three-err c.order_node.result
    (node-left c.args.self.now c.requires.ready _ refl _ c.as_mut_slice-in-Stop.result.now c.order_node.new.servers c.as_mut_slice-in-Stop.ensures.value refl refl)
    c.order_node.ensures.left c.order_node.ensures.unchanged c.order_node.ensures.err

-- Lose

pub returns-in-Lose-clause-ready : goal.returns-in-Lose-clause-ready
returns-in-Lose-clause-ready g c =
    let d = c.args.self.now in
    let new = c.order_node-in-Lose.new in
    on_ok_weaker c.order_node-in-Lose.result
    (λ (o : IsOrderNoted ask.Lose c.in-Lose.node c.as_mut_slice-in-Lose.result.now new.servers d.shared.log.events new.log.events).
    called-ready d _ c.requires.ready refl refl c.in-Lose.node (called-in c.in-Lose.node d.shared.servers c.as_mut_slice-in-Lose.result.now new.servers c.as_mut_slice-in-Lose.ensures.value (called-of ask.Lose c.in-Lose.node _ _ _ _ o)) refl refl refl)
    c.order_node-in-Lose.ensures.ok

pub returns-in-Lose-clause-played : goal.returns-in-Lose-clause-played
returns-in-Lose-clause-played g c =
    let d = c.args.self.now in
    let new = c.order_node-in-Lose.new in
    let q = record d.shared { servers = with_items d.shared.servers new.servers; log = new.log } in
    rw c.in-Lose.is (on_ok_weaker c.order_node-in-Lose.result
    (λ (o : IsOrderNoted ask.Lose c.in-Lose.node c.as_mut_slice-in-Lose.result.now new.servers d.shared.log.events new.log.events).
    admin-call d c.requires.ready q refl refl ask.Lose c.in-Lose.node (ordered-in ask.Lose c.in-Lose.node d.shared.servers c.as_mut_slice-in-Lose.result.now new.servers d.shared.log.events new.log.events c.as_mut_slice-in-Lose.ensures.value o))
    c.order_node-in-Lose.ensures.ok)

pub returns-in-Lose-clause-held : goal.returns-in-Lose-clause-held
returns-in-Lose-clause-held g c =
    three-ok c.order_node-in-Lose.result
    (node-holds c.lined.ensures c.untold.ensures c.lasting.ensures c.args.self.now c.args.line.now c.requires.order c.requires.line c.as_mut_slice-in-Lose.result.now c.order_node-in-Lose.new.servers c.as_mut_slice-in-Lose.ensures.value _ refl refl refl refl)
    c.order_node-in-Lose.ensures.held c.order_node-in-Lose.ensures.coherent (returns-in-Lose-clause-played g c)

pub returns-in-Lose-clause-left : goal.returns-in-Lose-clause-left
returns-in-Lose-clause-left g c =
    three-err c.order_node-in-Lose.result
    (node-left c.args.self.now c.requires.ready _ refl _ c.as_mut_slice-in-Lose.result.now c.order_node-in-Lose.new.servers c.as_mut_slice-in-Lose.ensures.value refl refl)
    c.order_node-in-Lose.ensures.left c.order_node-in-Lose.ensures.unchanged c.order_node-in-Lose.ensures.err

-- Start

pub returns-in-Start-clause-ready : goal.returns-in-Start-clause-ready
returns-in-Start-clause-ready g c =
    let d = c.args.self.now in
    on_ok_weaker c.start_node.result
    (λ (k : IsCalledAt c.in-Start.node c.as_mut_slice-in-Start.result.now c.start_node.new.servers).
    called-ready d _ c.requires.ready refl refl c.in-Start.node (called-in c.in-Start.node d.shared.servers c.as_mut_slice-in-Start.result.now c.start_node.new.servers c.as_mut_slice-in-Start.ensures.value k) refl refl refl)
    c.start_node.ensures.called

pub returns-in-Start-clause-played : goal.returns-in-Start-clause-played
returns-in-Start-clause-played g c =
    let d = c.args.self.now in
    let n = c.in-Start.node in
    let xs = c.as_mut_slice-in-Start.result.now in
    let new = c.start_node.new in
    let q = record d.shared { servers = with_items d.shared.servers new.servers; log = new.log } in
    rw c.in-Start.is (both-ok c.start_node.result
    (λ (o : IsTrue g.D.Disk.tells → IsOrderNoted ask.Start n xs new.servers d.shared.log.events new.log.events). λ (free : IsStarted n xs new.servers d.shared.log.events new.log.events).
    start-over d.volume n g.D.Disk.tells (world_of d) (world q d.agendas.items d.turns)
    (λ told. admin-call d c.requires.ready q refl refl ask.Start n (ordered-in ask.Start n d.shared.servers xs new.servers d.shared.log.events new.log.events c.as_mut_slice-in-Start.ensures.value (o told)))
    (free-start d c.requires.ready q refl refl n (started-in n d.shared.servers xs new.servers d.shared.log.events new.log.events c.as_mut_slice-in-Start.ensures.value free)))
    c.start_node.ensures.ok c.start_node.ensures.started)

pub returns-in-Start-clause-held : goal.returns-in-Start-clause-held
returns-in-Start-clause-held g c =
    three-ok c.start_node.result
    (node-holds c.lined.ensures c.untold.ensures c.lasting.ensures c.args.self.now c.args.line.now c.requires.order c.requires.line c.as_mut_slice-in-Start.result.now c.start_node.new.servers c.as_mut_slice-in-Start.ensures.value _ refl refl refl refl)
    c.start_node.ensures.held c.start_node.ensures.coherent (returns-in-Start-clause-played g c)

pub returns-in-Start-clause-left : goal.returns-in-Start-clause-left
returns-in-Start-clause-left g c =
    three-err c.start_node.result
    (node-left c.args.self.now c.requires.ready _ refl _ c.as_mut_slice-in-Start.result.now c.start_node.new.servers c.as_mut_slice-in-Start.ensures.value refl refl)
    c.start_node.ensures.left c.start_node.ensures.unchanged c.start_node.ensures.err

-- Break

pub returns-in-Break-clause-ready : goal.returns-in-Break-clause-ready
returns-in-Break-clause-ready g c =
    let d = c.args.self.now in
    let b = c.in-Break in
    let new = c.arm_node.new in
    on_ok_weaker c.arm_node.result
    (λ (a : IsArming b.k b.pick b.node c.as_mut_slice-in-Break.result.now new.servers d.shared.log.events new.log.events).
    armed-ready d _ c.requires.ready refl refl b.k b.pick b.node (arming-in b.k b.pick b.node d.shared.servers c.as_mut_slice-in-Break.result.now new.servers d.shared.log.events new.log.events c.as_mut_slice-in-Break.ensures.value a) refl refl refl)
    c.arm_node.ensures.ok

pub returns-in-Break-clause-played : goal.returns-in-Break-clause-played
returns-in-Break-clause-played g c =
    let d = c.args.self.now in
    let b = c.in-Break in
    let new = c.arm_node.new in
    let q = record d.shared { servers = with_items d.shared.servers new.servers; log = new.log } in
    rw c.in-Break.is (on_ok_weaker c.arm_node.result
    (λ (a : IsArming b.k b.pick b.node c.as_mut_slice-in-Break.result.now new.servers d.shared.log.events new.log.events).
    armed-world d c.requires.ready q refl refl b.k b.pick b.node (arming-in b.k b.pick b.node d.shared.servers c.as_mut_slice-in-Break.result.now new.servers d.shared.log.events new.log.events c.as_mut_slice-in-Break.ensures.value a))
    c.arm_node.ensures.ok)

pub returns-in-Break-clause-held : goal.returns-in-Break-clause-held
returns-in-Break-clause-held g c =
    three-ok c.arm_node.result
    (node-holds c.lined.ensures c.untold.ensures c.lasting.ensures c.args.self.now c.args.line.now c.requires.order c.requires.line c.as_mut_slice-in-Break.result.now c.arm_node.new.servers c.as_mut_slice-in-Break.ensures.value _ refl refl refl refl)
    c.arm_node.ensures.held c.arm_node.ensures.coherent (returns-in-Break-clause-played g c)

pub returns-in-Break-clause-left : goal.returns-in-Break-clause-left
returns-in-Break-clause-left g c =
    three-err c.arm_node.result
    (node-left c.args.self.now c.requires.ready _ refl _ c.as_mut_slice-in-Break.result.now c.arm_node.new.servers c.as_mut_slice-in-Break.ensures.value refl refl)
    c.arm_node.ensures.left c.arm_node.ensures.unchanged c.arm_node.ensures.err
