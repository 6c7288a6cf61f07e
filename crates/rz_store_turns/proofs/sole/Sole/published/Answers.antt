use Rattle.std.proofs.Common.{◌≡◌, ◌∙◌, ◌++◌, refl, sym, ap, subst, List, None}
use Rattle.rz_events.specs.declared.events.Event.{Event}
use Rattle.rz_export_model.specs.Export.{published_after}
use Rattle.rz_contents.specs.Model.{export_at}
use Rattle.rz_chronicle.specs.Kinds.{volume_in}
use Rattle.rz_chronicle.specs.Rules.{PassView}
use Rattle.rz_store_turns.specs.Sole.{IsSole, SoleView}
use Rattle.rz_store_turns.proofs.Soles.{same-pass}
use Rattle.rz_store_turns.proofs.Tended.{added-log}
use Rattle.rz_store_turns.proofs.sole.Sole.published.Goals as goal

pub invariant_of-self : goal.invariant_of-self
invariant_of-self g c =
    let p = c.self.inside.pass in
    let q = c.published-told.new.pass in
    let log = added-log g.J.Naming.kind c.added_alone.ensures p.keys c.self.invariant.tokens p.log p.log q.log refl c.actor-by.ensures.places None c.published-told.ensures.nothing in
    subst
    (λ (z : PassView). IsSole g.J.Naming.kind g.J.Naming.earlier c.self.inside.shared.volume c.self.inside.shared.cluster (record { pass = z; number = c.self.inside.number; client = c.self.inside.client; rebuilder = c.self.inside.rebuilder }) c.self.inside.bins.items)
    (sym (same-pass p q c.published-told.ensures.same log)) c.self.invariant

pub invariant_of-self-in-Err : goal.invariant_of-self-in-Err
invariant_of-self-in-Err g c =
    let p = c.self.inside.pass in
    let q = c.published-told.new.pass in
    let log = added-log g.J.Naming.kind c.added_alone.ensures p.keys c.self.invariant.tokens p.log p.log q.log refl c.actor-by.ensures.places None c.published-told.ensures.nothing in
    subst
    (λ (z : PassView). IsSole g.J.Naming.kind g.J.Naming.earlier c.self.inside.shared.volume c.self.inside.shared.cluster (record { pass = z; number = c.self.inside.number; client = c.self.inside.client; rebuilder = c.self.inside.rebuilder }) c.self.inside.bins.items)
    (sym (same-pass p q c.published-told.ensures.same log)) c.self.invariant

pub returns-in-Ok-clause-same : goal.returns-in-Ok-clause-same
returns-in-Ok-clause-same g c =
    let p = c.self.inside.pass in
    let q = c.published-told.new.pass in
    let log = added-log g.J.Naming.kind c.added_alone.ensures p.keys c.self.invariant.tokens p.log p.log q.log refl c.actor-by.ensures.places None c.published-told.ensures.nothing in
    ap (λ (z : PassView). record { pass = z; number = c.self.inside.number; client = c.self.inside.client; rebuilder = c.self.inside.rebuilder }) (same-pass p q c.published-told.ensures.same log)
    ∙ c.self.view_is

pub returns-in-Err-clause-same : goal.returns-in-Err-clause-same
returns-in-Err-clause-same g c =
    let p = c.self.inside.pass in
    let q = c.published-told.new.pass in
    let log = added-log g.J.Naming.kind c.added_alone.ensures p.keys c.self.invariant.tokens p.log p.log q.log refl c.actor-by.ensures.places None c.published-told.ensures.nothing in
    ap (λ (z : PassView). record { pass = z; number = c.self.inside.number; client = c.self.inside.client; rebuilder = c.self.inside.rebuilder }) (same-pass p q c.published-told.ensures.same log)
    ∙ c.self.view_is

pub returns-in-Ok-clause-listed : goal.returns-in-Ok-clause-listed
returns-in-Ok-clause-listed g c = λ legal.
    (let p = c.self.inside.pass in
    let q = c.published-told.new.pass in
    let log = added-log g.J.Naming.kind c.added_alone.ensures p.keys c.self.invariant.tokens p.log p.log q.log refl c.actor-by.ensures.places None c.published-told.ensures.nothing in
    subst (λ (h : List Event). c.in-Ok.listed ≡ published_after (export_at (volume_in g.J.Naming.kind) (h ++ g.J.Naming.earlier)) c.args.after) (log ∙ ap (λ (s : SoleView). s.pass.log) c.self.view_is)
    (c.in-Ok.ensures.listed legal))
