use Rattle.std.proofs.Common.{◌≡◌, ◌++◌, Option, IfSome, IsSome, sym, subst}
use Rattle.rz_events.specs.declared.events.Word.TheVariants as w
use Rattle.rz_events.specs.declared.nodes.Phase.TheVariants.{Up}
use Rattle.rz_core.specs.History.{of_word}
use Rattle.rz_core.specs.NodeWord.{phase}
use Rattle.rz_chronicle.specs.Kinds.{volume_in}
use Rattle.rz_shared_locked.specs.Counts.{AreCountedSince}
use Rattle.rz_shared_locked.specs.LockedNodes.{AreImagesFrom, LockedNodeView}
use Rattle.rz_shared_locked.proofs.Occupants.{images-left, counts-left, some-left, up-left}
use Rattle.rz_shared_locked.proofs.locked_node.LockedNode.close_after.Goals as goal

pub returns-clause-images : goal.returns-clause-images
returns-clause-images g c = λ keeps.
    let kind = g.J.Naming.kind in
    let earlier = g.J.Naming.earlier in
    let v = volume_in kind in
    let image = g.D.Disk.image in
    let n = c.self.inside.sid in
    let l = c.self.inside.word_token.log in
    let who = c.self.inside.who in
    let it = images-left g.D.Disk.tells image kind earlier l n who c.logged.ensures (c.locked_node_kept.ensures v) c.longer.ensures
    (λ there. c.one_rule.ensures.legal kind earlier l c.room-fit.ensures.earlier there (c.room-fit.ensures.fit, c.room-fit.ensures.after)) c.self.invariant.2 c.self.invariant.3 keeps in
    subst (λ (x : LockedNodeView). IfSome c.disk_of.result (λ (d : g.row.D.Denot). AreImagesFrom v earlier x.log x.node (image d))) c.self.view_is
    (subst (λ (o : Option g.row.D.Denot). IfSome o (λ (d : g.row.D.Denot). AreImagesFrom v earlier l n (image d))) (sym c.disk_of.ensures) it)

pub returns-clause-counted : goal.returns-clause-counted
returns-clause-counted g c = λ fixed.
    let meter = g.D.Disk.meter in
    let n = c.self.inside.sid in
    let l = c.self.inside.word_token.log in
    let it = counts-left meter c.counted.ensures (g.J.Metering.first n) (of_word (w.Node n) l) c.self.inside.who (c.self.invariant.6 fixed) in
    subst (λ (x : LockedNodeView). IfSome c.disk_of.result (λ (d : g.row.D.Denot). AreCountedSince (g.J.Metering.first x.node) (meter d).own (of_word (w.Node x.node) x.log))) c.self.view_is
    (subst (λ (o : Option g.row.D.Denot). IfSome o (λ (d : g.row.D.Denot). AreCountedSince (g.J.Metering.first n) (meter d).own (of_word (w.Node n) l))) (sym c.disk_of.ensures) it)

pub returns-clause-here : goal.returns-clause-here
returns-clause-here g c = λ fixed.
    let n = c.self.inside.sid in
    subst (λ (o : Option g.row.D.Denot). IsSome o) (sym c.disk_of.ensures)
    (some-left g.D.Disk.meter (g.J.Metering.first n) (of_word (w.Node n) c.self.inside.word_token.log) c.self.inside.who (c.self.invariant.6 fixed))

pub returns-clause-up : goal.returns-clause-up
returns-clause-up g c = λ keeps up.
    let kind = g.J.Naming.kind in
    let earlier = g.J.Naming.earlier in
    let n = c.self.inside.sid in
    let l = c.self.inside.word_token.log in
    subst (λ (o : Option g.row.D.Denot). IsSome o) (sym c.disk_of.ensures)
    (up-left g.D.Disk.tells g.D.Disk.image kind (l ++ earlier) n c.self.inside.who c.self.invariant.3 keeps
    (subst (λ (x : LockedNodeView). phase (of_word (w.Node x.node) (x.log ++ earlier)) ≡ Up) (sym c.self.view_is) up))
