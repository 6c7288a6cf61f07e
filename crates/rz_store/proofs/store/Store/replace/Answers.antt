use Rattle.std.proofs.Common.{ℕ, subst}
use Rattle.std.specs.Prelude.{IfOk, IfErr}
use Rattle.rz_chronicle.specs.Keys.{IsLater}
use Rattle.rz_store.specs.Store.{StoreView, IfLegal}
use Rattle.rz_store.specs.Nodes.{HasRefilled, IsRebuildCause, HasReplaced, IsReplaceCause}
use Rattle.rz_store.proofs.Looks.{later-then}
use Rattle.rz_store.proofs.Wholes.{view, whole, quiet-later}
use Rattle.rz_store.proofs.Tending.{if-ok-so, if-err-so, lost-view, cause-rebuilt}
use Rattle.rz_store.proofs.store.Store.replace.Goals as goal

pub returns-in-Ok-clause-replaced : goal.returns-in-Ok-clause-replaced
returns-in-Ok-clause-replaced g c =
    let K = g.J.Naming.kind in
    let E = g.J.Naming.earlier in
    let node : ℕ = c.args.node in
    let old = view K E c.self.inside.sole in
    let mid = view K E c.swap.new.self in
    let new = c.rebuild.new.self in
    let lost = lost-view K E c.self.inside.sole c.swap.new.self node c.in-Ok.swap.loss c.in-Ok.ensures.log in
    subst (λ (z : StoreView). IfOk c.rebuild.result (λ told. IfLegal K (HasReplaced z node told new))) c.self.view_is
    (if-ok-so c.rebuild.result (λ told. IfLegal K (HasRefilled mid node told new)) (λ told. IfLegal K (HasReplaced old node told new))
    (λ told is keeps. (c.in-Ok.swap.loss, subst (λ (z : StoreView). HasRefilled z node told new) lost (is keeps)))
    c.rebuild.ensures.refilled)

pub returns-in-Ok-clause-cause : goal.returns-in-Ok-clause-cause
returns-in-Ok-clause-cause g c =
    let K = g.J.Naming.kind in
    let E = g.J.Naming.earlier in
    let node : ℕ = c.args.node in
    let old = view K E c.self.inside.sole in
    let mid = view K E c.swap.new.self in
    let new = c.rebuild.new.self in
    let lost = lost-view K E c.self.inside.sole c.swap.new.self node c.in-Ok.swap.loss c.in-Ok.ensures.log in
    subst (λ (z : StoreView). IfErr c.rebuild.result (λ f. IfLegal K (IsReplaceCause z node f new))) c.self.view_is
    (if-err-so c.rebuild.result (λ f. IfLegal K (IsRebuildCause mid node f new)) (λ f. IfLegal K (IsReplaceCause old node f new))
    (λ f is keeps. cause-rebuilt old node c.in-Ok.swap.loss f new (subst (λ (z : StoreView). IsRebuildCause z node f new) lost (is keeps)))
    c.rebuild.ensures.cause)

pub returns-in-Ok-clause-later : goal.returns-in-Ok-clause-later
returns-in-Ok-clause-later g c = λ keeps.
    (let K = g.J.Naming.kind in
    let E = g.J.Naming.earlier in
    let mid = whole K E c.swap.new.self in
    later-then c.args.self.now.log mid c.rebuild.new.self.log
    (subst (λ (z : StoreView). IsLater z.log mid) c.self.view_is (quiet-later K E c.self.inside.sole c.swap.new.self c.swap.ensures.quiet keeps))
    (c.rebuild.ensures.later keeps))
