-- The loss is the administrator's.
use Rattle.std.proofs.Common.{◌≡◌, ◌∙◌, ◌++◌, sym, ap, subst, List, Option, None}
use Rattle.std.specs.Prelude.{IsTrue, IfOk, IfErr}
use Rattle.rz_events.specs.declared.keys.Actor.TheVariants as a
use Rattle.rz_events.specs.declared.nodes.NodeAsk.TheVariants as ask
use Rattle.rz_events.specs.declared.nodes.NodeAnswer.TheVariants as answer
use Rattle.rz_events.specs.declared.events.Event.{Event}
use Rattle.rz_node_model.specs.NodeEvents.{lose_event}
use Rattle.rz_core.specs.Legal.{IsLegalInRuns}
use Rattle.rz_play.specs.Lines.{noted}
use Rattle.rz_chronicle.specs.Kinds.{keeps_legal, volume_in}
use Rattle.rz_shared_locked.specs.declared.swapping.SwapFault.TheVariants as fault
use Rattle.rz_shared_locked.specs.LockedNodes.{IsAnswerAt}
use Rattle.rz_store_turns.specs.Sole.{HoldsAll, SoleView}
use Rattle.rz_store_turns.proofs.Soles.{unmoved}
use Rattle.rz_store_turns.proofs.Tended.{sole-tended, tended-quiet, added-log}
use Rattle.rz_store_turns.proofs.Swapped.{swap_event, swap-tends, swap-adds, swap-log, swap-right, swap-lost, swap-back, swap-spent}
use Rattle.rz_store_turns.proofs.sole.Sole.swap.Goals as goal

pub turn_to-requires-clause-held : goal.turn_to-requires-clause-held
turn_to-requires-clause-held g c = let t = c.self.invariant.tokens a.Admin tt in (t.1, t.0)

pub swap-swapped-requires-clause-actor : goal.swap-swapped-requires-clause-actor
swap-swapped-requires-clause-actor g c = c.turn_to.ensures.same.0

pub invariant_of-self : goal.invariant_of-self
invariant_of-self g c =
    let k = g.J.Naming.kind in
    let p = c.self.inside.pass in
    let m = c.turn_to.new.pass in
    let q = c.swap-swapped.new.pass in
    let r = c.swap-swapped.result in
    let mid = unmoved k p.keys p.log m.log c.added_alone.ensures c.self.invariant.tokens c.actor-turned.ensures.places c.turn_to.ensures.later c.turn_to.ensures.stays in
    let all = subst HoldsAll (sym c.turn_to.ensures.same.1) c.self.invariant.tokens in
    let adds = swap-adds k c.added_alone.ensures m.keys all p.log m.log q.log mid c.actor-by.ensures.places g.J.Naming.earlier c.args.node c.args.disk r c.swap-swapped.ensures.swapped c.swap-swapped.ensures.unswapped in
    let log = added-log k c.added_alone.ensures m.keys all p.log m.log q.log mid c.actor-by.ensures.places (swap_event c.args.node r) adds in
    sole-tended k g.J.Naming.earlier c.self.inside.shared.volume c.self.inside.shared.cluster
    (record { pass = p; number = c.self.inside.number; client = c.self.inside.client; rebuilder = c.self.inside.rebuilder }) q c.self.inside.bins.items (swap_event c.args.node r)
    (swap-tends c.args.node r) (c.swap-swapped.ensures.same.1 ∙ c.turn_to.ensures.same.1) log c.self.invariant

pub returns-clause-log : goal.returns-clause-log
returns-clause-log g c =
    let k = g.J.Naming.kind in
    let p = c.self.inside.pass in
    let m = c.turn_to.new.pass in
    let q = c.swap-swapped.new.pass in
    let r = c.swap-swapped.result in
    let mid = unmoved k p.keys p.log m.log c.added_alone.ensures c.self.invariant.tokens c.actor-turned.ensures.places c.turn_to.ensures.later c.turn_to.ensures.stays in
    let all = subst HoldsAll (sym c.turn_to.ensures.same.1) c.self.invariant.tokens in
    let adds = swap-adds k c.added_alone.ensures m.keys all p.log m.log q.log mid c.actor-by.ensures.places g.J.Naming.earlier c.args.node c.args.disk r c.swap-swapped.ensures.swapped c.swap-swapped.ensures.unswapped in
    let log = added-log k c.added_alone.ensures m.keys all p.log m.log q.log mid c.actor-by.ensures.places (swap_event c.args.node r) adds in
    subst (λ (s : SoleView). IfOk r (λ w. q.log ≡ noted (lose_event c.args.node w.loss) s.pass.log)) c.self.view_is
    (swap-log k c.added_alone.ensures m.keys all p.log m.log q.log mid c.actor-by.ensures.places g.J.Naming.earlier c.args.node c.args.disk r log)

pub returns-clause-right : goal.returns-clause-right
returns-clause-right g c =
    let k = g.J.Naming.kind in
    let p = c.self.inside.pass in
    let m = c.turn_to.new.pass in
    let q = c.swap-swapped.new.pass in
    let r = c.swap-swapped.result in
    let mid = unmoved k p.keys p.log m.log c.added_alone.ensures c.self.invariant.tokens c.actor-turned.ensures.places c.turn_to.ensures.later c.turn_to.ensures.stays in
    let all = subst HoldsAll (sym c.turn_to.ensures.same.1) c.self.invariant.tokens in
    subst (λ (s : SoleView). IfOk r (λ w. IsAnswerAt k g.J.Naming.earlier s.pass.log c.args.node ask.Lose (answer.Lose w.loss))) c.self.view_is
    (swap-right k c.added_alone.ensures m.keys all p.log m.log q.log mid c.actor-by.ensures.places g.J.Naming.earlier c.args.node c.args.disk r c.swap-swapped.ensures.swapped)

pub returns-clause-lost : goal.returns-clause-lost
returns-clause-lost g c =
    let k = g.J.Naming.kind in
    let p = c.self.inside.pass in
    let m = c.turn_to.new.pass in
    let q = c.swap-swapped.new.pass in
    let r = c.swap-swapped.result in
    let mid = unmoved k p.keys p.log m.log c.added_alone.ensures c.self.invariant.tokens c.actor-turned.ensures.places c.turn_to.ensures.later c.turn_to.ensures.stays in
    let all = subst HoldsAll (sym c.turn_to.ensures.same.1) c.self.invariant.tokens in
    let adds = swap-adds k c.added_alone.ensures m.keys all p.log m.log q.log mid c.actor-by.ensures.places g.J.Naming.earlier c.args.node c.args.disk r c.swap-swapped.ensures.swapped c.swap-swapped.ensures.unswapped in
    let log = added-log k c.added_alone.ensures m.keys all p.log m.log q.log mid c.actor-by.ensures.places (swap_event c.args.node r) adds in
    swap-lost k c.added_alone.ensures m.keys all p.log m.log q.log mid c.actor-by.ensures.places g.J.Naming.earlier c.args.node c.args.disk r
    (swap-log k c.added_alone.ensures m.keys all p.log m.log q.log mid c.actor-by.ensures.places g.J.Naming.earlier c.args.node c.args.disk r log)
    (swap-right k c.added_alone.ensures m.keys all p.log m.log q.log mid c.actor-by.ensures.places g.J.Naming.earlier c.args.node c.args.disk r c.swap-swapped.ensures.swapped)
    (subst (λ (s : SoleView). IsTrue (keeps_legal k) → IsLegalInRuns (volume_in k) (s.pass.log ++ g.J.Naming.earlier)) (sym c.self.view_is) c.stands.ensures.legal)

pub returns-clause-back : goal.returns-clause-back
returns-clause-back g c =
    let k = g.J.Naming.kind in
    let p = c.self.inside.pass in
    let m = c.turn_to.new.pass in
    let q = c.swap-swapped.new.pass in
    let r = c.swap-swapped.result in
    let mid = unmoved k p.keys p.log m.log c.added_alone.ensures c.self.invariant.tokens c.actor-turned.ensures.places c.turn_to.ensures.later c.turn_to.ensures.stays in
    let all = subst HoldsAll (sym c.turn_to.ensures.same.1) c.self.invariant.tokens in
    let adds = swap-adds k c.added_alone.ensures m.keys all p.log m.log q.log mid c.actor-by.ensures.places g.J.Naming.earlier c.args.node c.args.disk r c.swap-swapped.ensures.swapped c.swap-swapped.ensures.unswapped in
    let log = added-log k c.added_alone.ensures m.keys all p.log m.log q.log mid c.actor-by.ensures.places (swap_event c.args.node r) adds in
    subst (λ (s : SoleView). IfErr r (λ e. (e.0 ≡ c.args.disk) × (q.log ≡ s.pass.log))) c.self.view_is
    (swap-back k c.added_alone.ensures m.keys all p.log m.log q.log mid c.actor-by.ensures.places g.J.Naming.earlier c.args.node c.args.disk r log c.swap-swapped.ensures.unswapped)

pub returns-clause-spent : goal.returns-clause-spent
returns-clause-spent g c =
    let k = g.J.Naming.kind in
    let p = c.self.inside.pass in
    let m = c.turn_to.new.pass in
    let q = c.swap-swapped.new.pass in
    let r = c.swap-swapped.result in
    let mid = unmoved k p.keys p.log m.log c.added_alone.ensures c.self.invariant.tokens c.actor-turned.ensures.places c.turn_to.ensures.later c.turn_to.ensures.stays in
    let all = subst HoldsAll (sym c.turn_to.ensures.same.1) c.self.invariant.tokens in
    subst (λ (s : SoleView). IfErr r (λ e. e.1 ≡ fault.LossesSpent → IsAnswerAt k g.J.Naming.earlier s.pass.log c.args.node ask.Lose (answer.Lose None))) c.self.view_is
    (swap-spent k c.added_alone.ensures m.keys all p.log m.log q.log mid c.actor-by.ensures.places g.J.Naming.earlier c.args.node c.args.disk r c.swap-swapped.ensures.unswapped)

pub returns-clause-quiet : goal.returns-clause-quiet
returns-clause-quiet g c =
    let k = g.J.Naming.kind in
    let p = c.self.inside.pass in
    let m = c.turn_to.new.pass in
    let q = c.swap-swapped.new.pass in
    let r = c.swap-swapped.result in
    let mid = unmoved k p.keys p.log m.log c.added_alone.ensures c.self.invariant.tokens c.actor-turned.ensures.places c.turn_to.ensures.later c.turn_to.ensures.stays in
    let all = subst HoldsAll (sym c.turn_to.ensures.same.1) c.self.invariant.tokens in
    let x = swap_event c.args.node r in
    let adds = swap-adds k c.added_alone.ensures m.keys all p.log m.log q.log mid c.actor-by.ensures.places g.J.Naming.earlier c.args.node c.args.disk r c.swap-swapped.ensures.swapped c.swap-swapped.ensures.unswapped in
    let log = added-log k c.added_alone.ensures m.keys all p.log m.log q.log mid c.actor-by.ensures.places x adds in
    tended-quiet k g.J.Naming.earlier c.args.self.now
    (record { pass = q; number = c.self.inside.number; client = c.self.inside.client; rebuilder = c.self.inside.rebuilder }) x (swap-tends c.args.node r)
    (log ∙ ap (λ (s : SoleView). noted x s.pass.log) c.self.view_is) c.stands-2.ensures.legal
