use Rattle.std.proofs.Common.{subst, sym}
use Rattle.rz_events.specs.declared.keys.Actor.{Actor}
use Rattle.rz_node_model.specs.NodeEvents.{node_event}
use Rattle.rz_chronicle.specs.Keys.{IsOneOf, actor_key}
use Rattle.rz_shared_locked.specs.LockedNodes.{Answered, IsAskerRight}
use Rattle.rz_threads.proofs.Done.{for-admin, called, idle}
use Rattle.rz_threads.proofs.orders.order.Goals as goal

pub node_call-answer-requires-clause-actor : goal.node_call-answer-requires-clause-actor
node_call-answer-requires-clause-actor g c = subst (λ (by : Actor). IsAskerRight by c.args.ask.now) (sym c.requires.admin) (for-admin c.args.ask.now c.requires.order)

pub returns-then-wants_memory-clause-idle : goal.returns-then-wants_memory-clause-idle
returns-then-wants_memory-clause-idle g c =
    let kind = g.J.Naming.kind in
    let earlier = g.J.Naming.earlier in
    let old = c.args.pass.now in
    let has = subst (λ (by : Actor). IsOneOf (actor_key by) old.keys) c.requires.admin c.actor-own.ensures.own in
    let given = c.node_call-answer.result in
    let question = c.args.ask.now in
    let answered = subst (λ (by : Actor). Answered kind earlier c.args.node question given (node_event by c.args.node question given) old.keys old.log c.node_call-answer.new.pass.log) c.requires.admin c.node_call-answer.ensures.answered in
    idle c.actors_kept.ensures kind earlier old.keys has c.args.node question given old.log c.node_call-answer.new.pass.log c.requires.order (sym c.if-wants_memory.ensures) answered

pub returns-clause-called : goal.returns-clause-called
returns-clause-called g c =
    let kind = g.J.Naming.kind in
    let earlier = g.J.Naming.earlier in
    let old = c.args.pass.now in
    let has = subst (λ (by : Actor). IsOneOf (actor_key by) old.keys) c.requires.admin c.actor-own.ensures.own in
    let given = c.node_call-answer.result in
    let question = c.args.ask.now in
    let answered = subst (λ (by : Actor). Answered kind earlier c.args.node question given (node_event by c.args.node question given) old.keys old.log c.node_call-answer.new.pass.log) c.requires.admin c.node_call-answer.ensures.answered in
    called c.actors_kept.ensures kind earlier g.met.J.Counting.anew old.keys has c.args.node question given old.log c.node_call-answer.new.pass.log (sym c.if-wants_memory.ensures) answered
