use Rattle.std.proofs.Common.{◌++◌, ℕ, IsTrue, IfSome, subst}
use Rattle.rz_chronicle.specs.Kinds.{keeps_legal}
use Rattle.rz_shared_locked.specs.LockedNodes.{LockedNodeView}
use Rattle.rz_shared_locked.specs.Told.{HoldsKeys}
use Rattle.rz_shared_locked.proofs.Told.{keys-told}
use Rattle.rz_shared_locked.proofs.locked_node.LockedNode.count_keys.Goals as goal

pub returns-clause-held : goal.returns-clause-held
returns-clause-held g c =
    let kind = g.J.Naming.kind in
    let earlier = g.J.Naming.earlier in
    let count = c.keys_held.result in
    subst (λ (x : LockedNodeView). IfSome count (λ (many : ℕ). IsTrue (keeps_legal kind) → HoldsKeys (x.log ++ earlier) x.node many)) c.self.view_is
    (keys-told g.D.Disk.tells g.D.Disk.image kind (c.self.inside.word_token.log ++ earlier) c.self.inside.sid c.self.inside.who c.self.invariant.3 count c.keys_held.ensures.held)
