use Rattle.std.proofs.Common.{ℕ, sym, subst}
use Rattle.std.specs.Prelude.{OnOk, IfErr, Result}
use Rattle.rz_chronicle.specs.Kinds.{volume_in}
use Rattle.rz_chronicle.specs.Keys.{IsLater}
use Rattle.rz_store.specs.declared.faults.StartFault.{StartFault}
use Rattle.rz_store.specs.Store.{StoreView, IfLegal, LooksSame}
use Rattle.rz_store.specs.Nodes.{HasStarted, IsStartCause}
use Rattle.rz_store.proofs.Wholes.{view, whole, quiet-same, quiet-later}
use Rattle.rz_store.proofs.Tending.{has-started, start-cause}
use Rattle.rz_store.proofs.store.Store.start.Goals as goal

pub returns-clause-started : goal.returns-clause-started
returns-clause-started g c =
    let K = g.J.Naming.kind in
    let E = g.J.Naming.earlier in
    let new = view K E c.start.new.self in
    let node : ℕ = c.args.node in
    subst (λ (z : StoreView). OnOk c.start_told.result (IfLegal K (HasStarted z node new))) c.self.view_is
    (subst (λ (r : Result (Unit {0}) StartFault). OnOk r (IfLegal K (HasStarted (view K E c.self.inside.sole) node new))) (sym c.start_told.ensures)
    (has-started K E c.self.inside.sole c.start.new.self node c.start.result c.start.ensures.log c.start.ensures.right))

pub returns-clause-cause : goal.returns-clause-cause
returns-clause-cause g c =
    let K = g.J.Naming.kind in
    let E = g.J.Naming.earlier in
    let node : ℕ = c.args.node in
    subst (λ (z : StoreView). IfErr c.start_told.result (λ f. IfLegal K (IsStartCause z node f))) c.self.view_is
    (subst (λ (r : Result (Unit {0}) StartFault). IfErr r (λ f. IfLegal K (IsStartCause (view K E c.self.inside.sole) node f))) (sym c.start_told.ensures)
    (start-cause K E c.self.inside.sole node c.start.result c.start.ensures.right))

pub returns-clause-same : goal.returns-clause-same
returns-clause-same g c = λ keeps.
    (let K = g.J.Naming.kind in
    let E = g.J.Naming.earlier in
    subst (λ (z : StoreView). LooksSame z (view K E c.start.new.self)) c.self.view_is
    (quiet-same K E (c.still.ensures (volume_in K)) c.self.inside.sole c.start.new.self c.start.ensures.quiet keeps))

pub returns-clause-later : goal.returns-clause-later
returns-clause-later g c = λ keeps.
    (let K = g.J.Naming.kind in
    let E = g.J.Naming.earlier in
    subst (λ (z : StoreView). IsLater z.log (whole K E c.start.new.self)) c.self.view_is
    (quiet-later K E c.self.inside.sole c.start.new.self c.start.ensures.quiet keeps))
