-- The event of the answer is the administrator's.
use Rattle.std.proofs.Common.{◌≡◌, ◌∙◌, sym, ap, subst, List, Option}
use Rattle.rz_events.specs.declared.keys.Actor.TheVariants as a
use Rattle.rz_events.specs.declared.nodes.NodeAsk.TheVariants as ask
use Rattle.rz_events.specs.declared.nodes.NodeAnswer.TheVariants as answer
use Rattle.rz_events.specs.declared.events.Event.{Event}
use Rattle.rz_node_model.specs.NodeEvents.{node_event, start_event}
use Rattle.rz_play.specs.Lines.{noted}
use Rattle.rz_shared_locked.specs.LockedNodes.{IsAnswerAt}
use Rattle.rz_store_turns.specs.Sole.{HoldsAll, SoleView}
use Rattle.rz_store_turns.specs.Performed.{IsQuiet}
use Rattle.rz_store_turns.proofs.Soles.{unmoved}
use Rattle.rz_store_turns.proofs.Tended.{start-tends, started-tends, sole-tended, tended-quiet, added-log, added-right}
use Rattle.rz_store_turns.proofs.sole.Sole.start.Goals as goal

pub turn_to-requires-clause-held : goal.turn_to-requires-clause-held
turn_to-requires-clause-held g c = let t = c.self.invariant.tokens a.Admin tt in (t.1, t.0)

pub node_call-answer-requires-clause-actor : goal.node_call-answer-requires-clause-actor
node_call-answer-requires-clause-actor g c = c.turn_to.ensures.same.0

pub node_call-answer-requires-clause-may : goal.node_call-answer-requires-clause-may
node_call-answer-requires-clause-may g c = λ legal. record { proper = tt; hands = tt }

pub invariant_of-self : goal.invariant_of-self
invariant_of-self g c =
    let p = c.self.inside.pass in
    let m = c.turn_to.new.pass in
    let q = c.node_call-answer.new.pass in
    let mid = unmoved g.J.Naming.kind p.keys p.log m.log c.added_alone.ensures c.self.invariant.tokens c.actor-turned.ensures.places c.turn_to.ensures.later c.turn_to.ensures.stays in
    let all = subst HoldsAll (sym c.turn_to.ensures.same.1) c.self.invariant.tokens in
    let x = node_event m.actor c.args.node ask.Start c.node_call-answer.result in
    let log = added-log g.J.Naming.kind c.added_alone.ensures m.keys all p.log m.log q.log mid c.actor-by.ensures.places x c.node_call-answer.ensures.answered.adds in
    sole-tended g.J.Naming.kind g.J.Naming.earlier c.self.inside.shared.volume c.self.inside.shared.cluster
    (record { pass = p; number = c.self.inside.number; client = c.self.inside.client; rebuilder = c.self.inside.rebuilder }) q c.self.inside.bins.items x
    (started-tends m.actor c.args.node c.node_call-answer.result) (c.node_call-answer.ensures.same.1 ∙ c.turn_to.ensures.same.1) log c.self.invariant

pub returns-clause-log : goal.returns-clause-log
returns-clause-log g c =
    let p = c.self.inside.pass in
    let m = c.turn_to.new.pass in
    let q = c.node_call-answer.new.pass in
    let mid = unmoved g.J.Naming.kind p.keys p.log m.log c.added_alone.ensures c.self.invariant.tokens c.actor-turned.ensures.places c.turn_to.ensures.later c.turn_to.ensures.stays in
    let all = subst HoldsAll (sym c.turn_to.ensures.same.1) c.self.invariant.tokens in
    let x = start_event c.args.node c.in-Start.started in
    added-log g.J.Naming.kind c.added_alone.ensures m.keys all p.log m.log q.log mid c.actor-by.ensures.places x c.in-Start.ensures.answered.adds
    ∙ ap (λ (s : SoleView). noted x s.pass.log) c.self.view_is

pub returns-clause-right : goal.returns-clause-right
returns-clause-right g c =
    let p = c.self.inside.pass in
    let m = c.turn_to.new.pass in
    let q = c.node_call-answer.new.pass in
    let mid = unmoved g.J.Naming.kind p.keys p.log m.log c.added_alone.ensures c.self.invariant.tokens c.actor-turned.ensures.places c.turn_to.ensures.later c.turn_to.ensures.stays in
    let all = subst HoldsAll (sym c.turn_to.ensures.same.1) c.self.invariant.tokens in
    subst (λ (s : SoleView). IsAnswerAt g.J.Naming.kind g.J.Naming.earlier s.pass.log c.args.node ask.Start (answer.Start c.in-Start.started)) c.self.view_is
    (added-right g.J.Naming.kind c.added_alone.ensures m.keys all p.log m.log q.log mid c.actor-by.ensures.places g.J.Naming.earlier c.args.node ask.Start (answer.Start c.in-Start.started)
    (start_event c.args.node c.in-Start.started) c.in-Start.ensures.answered)

pub returns-clause-quiet : goal.returns-clause-quiet
returns-clause-quiet g c =
    let p = c.self.inside.pass in
    let m = c.turn_to.new.pass in
    let q = c.node_call-answer.new.pass in
    let mid = unmoved g.J.Naming.kind p.keys p.log m.log c.added_alone.ensures c.self.invariant.tokens c.actor-turned.ensures.places c.turn_to.ensures.later c.turn_to.ensures.stays in
    let all = subst HoldsAll (sym c.turn_to.ensures.same.1) c.self.invariant.tokens in
    let x = start_event c.args.node c.in-Start.started in
    let log = added-log g.J.Naming.kind c.added_alone.ensures m.keys all p.log m.log q.log mid c.actor-by.ensures.places x c.in-Start.ensures.answered.adds in
    tended-quiet g.J.Naming.kind g.J.Naming.earlier c.args.self.now
    (record { pass = q; number = c.self.inside.number; client = c.self.inside.client; rebuilder = c.self.inside.rebuilder }) x (start-tends c.args.node c.in-Start.started)
    (log ∙ ap (λ (s : SoleView). noted x s.pass.log) c.self.view_is) c.stands.ensures.legal
