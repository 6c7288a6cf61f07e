use Rattle.std.proofs.Common.{◌≡◌, ◌++◌, ℕ, IsTrue, IfSome, List, subst, rules}
use Rattle.rz_events.specs.declared.events.Event.{Event}
use Rattle.rz_chronicle.specs.Kinds.{keeps_legal}
use Rattle.rz_shared_locked.specs.Told.{HoldsKeys}
use Rattle.rz_shared_locked.proofs.locked_node.LockedNode.keys_held.Goals as goal

pub returns-clause-held : goal.returns-clause-held
returns-clause-held g c =
    let kind = g.J.Naming.kind in
    let earlier = g.J.Naming.earlier in
    let count = c.count_keys.result in
    let node : c.enter.new.self.node ≡ c.args.node = search rules in
    subst (λ (n : ℕ). IfSome count (λ (many : ℕ). IsTrue (keeps_legal kind) → HoldsKeys (c.enter.new.pass.log ++ earlier) n many)) node
    (subst (λ (l : List Event). IfSome count (λ (many : ℕ). IsTrue (keeps_legal kind) → HoldsKeys (l ++ earlier) c.enter.new.self.node many)) c.enter.ensures.one c.count_keys.ensures.held)
