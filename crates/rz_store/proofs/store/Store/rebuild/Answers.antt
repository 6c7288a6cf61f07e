use Rattle.std.proofs.Common.{ℕ, sym, subst}
use Rattle.std.specs.Prelude.{IfOk, IfErr, Result}
use Rattle.rz_chronicle.specs.Kinds.{volume_in}
use Rattle.rz_chronicle.specs.Keys.{IsLater}
use Rattle.rz_store.specs.declared.faults.ReplaceFault.{ReplaceFault}
use Rattle.rz_store.specs.declared.nodes.Rebuilt.{Rebuilt}
use Rattle.rz_store.specs.Store.{StoreView, IfLegal, LooksSame}
use Rattle.rz_store.specs.Nodes.{HasRefilled, IsRebuildCause, IsUnreplaced}
use Rattle.rz_store.proofs.Wholes.{view, whole, quiet-same, quiet-later}
use Rattle.rz_store.proofs.Tending.{has-refilled, rebuild-cause, disk-taken}
use Rattle.rz_store.proofs.store.Store.rebuild.Goals as goal

pub returns-clause-refilled : goal.returns-clause-refilled
returns-clause-refilled g c =
    let K = g.J.Naming.kind in
    let E = g.J.Naming.earlier in
    let new = view K E c.rebuild.new.self in
    let node : ℕ = c.args.node in
    subst (λ (z : StoreView). IfOk c.rebuild_told.result (λ told. IfLegal K (HasRefilled z node told new))) c.self.view_is
    (subst (λ (r : Result Rebuilt ReplaceFault). IfOk r (λ told. IfLegal K (HasRefilled (view K E c.self.inside.sole) node told new))) (sym c.rebuild_told.ensures)
    (has-refilled K E c.self.inside.sole c.rebuild.new.self node c.rebuild.result c.rebuild.ensures.rebuilt))

pub returns-clause-cause : goal.returns-clause-cause
returns-clause-cause g c =
    let K = g.J.Naming.kind in
    let E = g.J.Naming.earlier in
    let new = view K E c.rebuild.new.self in
    let node : ℕ = c.args.node in
    subst (λ (z : StoreView). IfErr c.rebuild_told.result (λ f. IfLegal K (IsRebuildCause z node f new))) c.self.view_is
    (subst (λ (r : Result Rebuilt ReplaceFault). IfErr r (λ f. IfLegal K (IsRebuildCause (view K E c.self.inside.sole) node f new))) (sym c.rebuild_told.ensures)
    (rebuild-cause K E c.self.inside.sole c.rebuild.new.self node c.rebuild.result c.rebuild.ensures.rebuilt))

pub returns-clause-taken : goal.returns-clause-taken
returns-clause-taken g c =
    subst (λ (r : Result Rebuilt ReplaceFault). IfErr r (λ f. ¬ IsUnreplaced f)) (sym c.rebuild_told.ensures) (disk-taken c.rebuild.result)

pub returns-clause-same : goal.returns-clause-same
returns-clause-same g c = λ keeps.
    (let K = g.J.Naming.kind in
    let E = g.J.Naming.earlier in
    subst (λ (z : StoreView). LooksSame z (view K E c.rebuild.new.self)) c.self.view_is
    (quiet-same K E (c.still.ensures (volume_in K)) c.self.inside.sole c.rebuild.new.self c.rebuild.ensures.quiet keeps))

pub returns-clause-later : goal.returns-clause-later
returns-clause-later g c = λ keeps.
    (let K = g.J.Naming.kind in
    let E = g.J.Naming.earlier in
    subst (λ (z : StoreView). IsLater z.log (whole K E c.rebuild.new.self)) c.self.view_is
    (quiet-later K E c.self.inside.sole c.rebuild.new.self c.rebuild.ensures.quiet keeps))
