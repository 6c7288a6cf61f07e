use Rattle.std.proofs.Common.{◌≡◌, ◌∙◌, ◌++◌, refl, sym, ap, subst, List, None}
use Rattle.std.specs.Prelude.{IsTrue, IfSome, IfNone}
use Rattle.rz_events.specs.declared.nodes.Phase.TheVariants.{Up}
use Rattle.rz_events.specs.declared.events.Word.TheVariants.{Node}
use Rattle.rz_events.specs.declared.events.Event.{Event}
use Rattle.rz_core.specs.History.{of_word}
use Rattle.rz_core.specs.NodeWord.{phase}
use Rattle.rz_chronicle.specs.Kinds.{keeps_legal}
use Rattle.rz_chronicle.specs.Rules.{PassView}
use Rattle.rz_shared_locked.specs.Told.{holds_record}
use Rattle.rz_store_turns.specs.Sole.{IsSole, SoleView}
use Rattle.rz_store_turns.proofs.Soles.{same-pass}
use Rattle.rz_store_turns.proofs.Tended.{added-log}
use Rattle.rz_store_turns.proofs.sole.Sole.holds.Goals as goal

pub invariant_of-self : goal.invariant_of-self
invariant_of-self g c =
    let p = c.self.inside.pass in
    let q = c.holds-held.new.pass in
    let log = added-log g.J.Naming.kind c.added_alone.ensures p.keys c.self.invariant.tokens p.log p.log q.log refl c.actor-by.ensures.places None c.holds-held.ensures.nothing in
    subst
    (λ (z : PassView). IsSole g.J.Naming.kind g.J.Naming.earlier c.self.inside.shared.volume c.self.inside.shared.cluster (record { pass = z; number = c.self.inside.number; client = c.self.inside.client; rebuilder = c.self.inside.rebuilder }) c.self.inside.bins.items)
    (sym (same-pass p q c.holds-held.ensures.same log)) c.self.invariant

pub returns-clause-same : goal.returns-clause-same
returns-clause-same g c =
    let p = c.self.inside.pass in
    let q = c.holds-held.new.pass in
    let log = added-log g.J.Naming.kind c.added_alone.ensures p.keys c.self.invariant.tokens p.log p.log q.log refl c.actor-by.ensures.places None c.holds-held.ensures.nothing in
    ap (λ (z : PassView). record { pass = z; number = c.self.inside.number; client = c.self.inside.client; rebuilder = c.self.inside.rebuilder }) (same-pass p q c.holds-held.ensures.same log)
    ∙ c.self.view_is

pub returns-clause-held : goal.returns-clause-held
returns-clause-held g c =
    let p = c.self.inside.pass in
    let q = c.holds-held.new.pass in
    let log = added-log g.J.Naming.kind c.added_alone.ensures p.keys c.self.invariant.tokens p.log p.log q.log refl c.actor-by.ensures.places None c.holds-held.ensures.nothing in
    subst (λ (h : List Event). IfSome c.holds-held.result (λ x. IsTrue (keeps_legal g.J.Naming.kind) → x ≡ holds_record (h ++ g.J.Naming.earlier) c.args.node c.args.key c.args.stamp)) (log ∙ ap (λ (s : SoleView). s.pass.log) c.self.view_is) c.holds-held.ensures.held

pub returns-clause-away : goal.returns-clause-away
returns-clause-away g c =
    let p = c.self.inside.pass in
    let q = c.holds-held.new.pass in
    let log = added-log g.J.Naming.kind c.added_alone.ensures p.keys c.self.invariant.tokens p.log p.log q.log refl c.actor-by.ensures.places None c.holds-held.ensures.nothing in
    subst (λ (h : List Event). IfNone c.holds-held.result (IsTrue (keeps_legal g.J.Naming.kind) → ¬ (phase (of_word (Node c.args.node) (h ++ g.J.Naming.earlier)) ≡ Up))) (log ∙ ap (λ (s : SoleView). s.pass.log) c.self.view_is)
    c.holds-held.ensures.away
