use Rattle.std.proofs.Common.{◌≡◌, ℕ, List, ◌++◌, sym, subst, rules}
use Rattle.rz_events.specs.declared.keys.Actor.{Actor}
use Rattle.rz_node_model.specs.NodeEvents.{node_event}
use Rattle.rz_chronicle.specs.Keys.{actor_key}
use Rattle.rz_chronicle.specs.Kinds.{volume_in}
use Rattle.rz_shared_locked.specs.LockedNodes.{MayAsk, Answered}
use Rattle.rz_shared_locked.proofs.Logs.{adds-after}
use Rattle.rz_shared_locked.proofs.locked_node.LockedNode.call.Goals as goal

pub answered-requires-clause-may : goal.answered-requires-clause-may
answered-requires-clause-may g c = λ keeps.
    let earlier = g.J.Naming.earlier in
    let v = volume_in g.J.Naming.kind in
    let old = c.args.pass.now in
    let mid = c.enter.new.pass in
    let q = c.args.ask.now in
    let bins = c.args.bins.now in
    let node : c.enter.new.self.node ≡ c.args.node = search rules in
    let fit = c.one_rule.ensures.legal g.J.Naming.kind earlier old.log c.actor-by.ensures.earlier keeps (c.actor-by.ensures.fit, c.actor-by.ensures.after) in
    subst (λ (a : Actor). MayAsk v (mid.log ++ earlier) a c.enter.new.self.node q bins) (sym c.enter.ensures.same.0)
    (subst (λ (m : ℕ). MayAsk v (mid.log ++ earlier) old.actor m q bins) (sym node)
    (c.asker_kept.ensures v earlier old.log mid.log old.actor c.args.node q bins fit c.enter.ensures.later (c.enter.ensures.stays (actor_key old.actor) c.actor-by.ensures.own) (c.requires.may keeps)))

pub returns-clause-answered : goal.returns-clause-answered
returns-clause-answered g c =
    let kind = g.J.Naming.kind in
    let earlier = g.J.Naming.earlier in
    let old = c.args.pass.now in
    let mid = c.enter.new.pass in
    let new = c.answered.new.pass.log in
    let q = c.args.ask.now in
    let given = c.answered.result in
    let node : c.enter.new.self.node ≡ c.args.node = search rules in
    let it : Answered kind earlier c.args.node q given (node_event old.actor c.args.node q given) old.keys mid.log new =
    subst (λ (ks : List ℕ). Answered kind earlier c.args.node q given (node_event old.actor c.args.node q given) ks mid.log new) c.enter.ensures.same.1
    (subst (λ (a : Actor). Answered kind earlier c.args.node q given (node_event a c.args.node q given) mid.keys mid.log new) c.enter.ensures.same.0
    (subst (λ (m : ℕ). Answered kind earlier m q given (node_event mid.actor m q given) mid.keys mid.log new) node c.answered.ensures.answered)) in
    record { adds = adds-after old.keys old.log mid.log new (node_event old.actor c.args.node q given) c.enter.ensures.later c.enter.ensures.stays it.adds; right = it.right }
