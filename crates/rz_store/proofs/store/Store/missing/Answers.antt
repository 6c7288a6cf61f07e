use Rattle.std.proofs.Common.{ℕ, ◌≡◌, ◌∙◌, ap, subst}
use Rattle.std.specs.Prelude.{IfOk, IfSome, IfNone}
use Rattle.rz_events.specs.declared.nodes.Phase.TheVariants.{Up}
use Rattle.rz_core.specs.NodeRows.{IsNodeOf}
use Rattle.rz_store_turns.specs.Telling.{AreMissing}
use Rattle.rz_store.specs.Store.{StoreView, IfLegal}
use Rattle.rz_store.specs.Nodes.{phase_in}
use Rattle.rz_store.proofs.Wholes.{view}
use Rattle.rz_store.proofs.Tending.{if-ok-so, none-so}
use Rattle.rz_store.proofs.store.Store.missing.Goals as goal

pub returns-clause-counted : goal.returns-clause-counted
returns-clause-counted g c =
    let K = g.J.Naming.kind in
    subst (λ (z : StoreView). IfOk c.missing.result (λ told. IfSome told (λ count. IfLegal K (AreMissing z.volume z.log c.args.node count)))) c.self.view_is c.missing.ensures.counted

pub returns-clause-away : goal.returns-clause-away
returns-clause-away g c =
    let K = g.J.Naming.kind in
    let node : ℕ = c.args.node in
    let old = view K g.J.Naming.earlier c.self.inside.sole in
    subst (λ (z : StoreView). IfOk c.missing.result (λ told. IfNone told (IfLegal K (IsNodeOf z.volume node → ¬ (phase_in z node ≡ Up))))) c.self.view_is
    (if-ok-so c.missing.result (λ told. IfNone told (IfLegal K (¬ (phase_in old node ≡ Up)))) (λ told. IfNone told (IfLegal K (IsNodeOf old.volume node → ¬ (phase_in old node ≡ Up))))
    (λ told. none-so told (IfLegal K (¬ (phase_in old node ≡ Up))) (IfLegal K (IsNodeOf old.volume node → ¬ (phase_in old node ≡ Up))) (λ is keeps of. is keeps))
    c.missing.ensures.away)

pub returns-clause-same : goal.returns-clause-same
returns-clause-same g c = ap (view g.J.Naming.kind g.J.Naming.earlier) c.missing.ensures.same ∙ c.self.view_is
