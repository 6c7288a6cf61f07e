use Rattle.std.proofs.Common.{◌≡◌, ◌++◌, Bool, IsTrue, IfSome, subst}
use Rattle.rz_chronicle.specs.Kinds.{keeps_legal}
use Rattle.rz_shared_locked.specs.LockedNodes.{LockedNodeView}
use Rattle.rz_shared_locked.specs.Told.{holds_record}
use Rattle.rz_shared_locked.proofs.Told.{record-told}
use Rattle.rz_shared_locked.proofs.locked_node.LockedNode.has_record.Goals as goal

pub returns-clause-held : goal.returns-clause-held
returns-clause-held g c =
    let kind = g.J.Naming.kind in
    let earlier = g.J.Naming.earlier in
    let told = c.holds.result in
    let key = c.args.key in
    let stamp = c.args.stamp in
    subst (λ (x : LockedNodeView). IfSome told (λ (b : Bool). IsTrue (keeps_legal kind) → b ≡ holds_record (x.log ++ earlier) x.node key stamp)) c.self.view_is
    (record-told g.D.Disk.tells g.D.Disk.image kind (c.self.inside.word_token.log ++ earlier) c.self.inside.sid c.self.inside.who c.self.invariant.3 key stamp told c.holds.ensures.held)
