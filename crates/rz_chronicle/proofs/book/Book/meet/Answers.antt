use Rattle.std.proofs.Common.{◌<◌, ◌∙◌, List, ℕ, sym, ap, subst}
use mathlib.Core.List.{IsPrefix}
use Rattle.logbook.specs.Pages.{Named}
use base.Growing.{prefix_trans}
use Rattle.rz_events.specs.declared.events.Word.TheVariants.{Own}
use Rattle.rz_chronicle.specs.Keys.{rows, count_at, IsLater, sids_of}
use Rattle.rz_chronicle.specs.Kinds.{history, HavePlaces, Fits, volume_in}
use Rattle.rz_chronicle.specs.Holds.{AreTokens, AreTokensOf, Stays, keys}
use Rattle.rz_chronicle.specs.Rules.{PassView}
use Rattle.rz_chronicle.proofs.Histories.{later, stays}
use Rattle.rz_chronicle.proofs.TokenLaws.{taken, taken-keys, at-same-keys, own-place, member-low, tokens-made, own-after, own-same}
use Rattle.rz_chronicle.proofs.book.Book.meet.Goals as goal

pub view-tokens-requires-clause-word : goal.view-tokens-requires-clause-word
view-tokens-requires-clause-word g c =
    let key = ap (λ (n : Named). n.key) c.row-word.ensures ∙ own-place (sids_of (volume_in g.J.Naming.kind)) c.place_of.result (Own c.pass.inside.actor) (c.place_of.ensures.owner (sids_of (volume_in g.J.Naming.kind))) in
    (ap (λ (n : Named). n.tracked) c.row-word.ensures, subst (λ (k : ℕ). k < rows) (sym key) (member-low c.pass.inside.actor c.pass.invariant.4))

pub view-tokens-requires-clause-key : goal.view-tokens-requires-clause-key
view-tokens-requires-clause-key g c = (Own c.pass.inside.actor, ap (λ (n : Named). n.key) c.row-word.ensures ∙ own-place (sids_of (volume_in g.J.Naming.kind)) c.place_of.result (Own c.pass.inside.actor) (c.place_of.ensures.owner (sids_of (volume_in g.J.Naming.kind))))

pub invariant_of-pass : goal.invariant_of-pass
invariant_of-pass g c =
    let log = c.pass.inside.seen.log in
    let h = taken (λ h. AreTokens g.J.Naming.counters g.J.Naming.copy g.J.Naming.kind log h × AreTokensOf c.pass.inside.actor h.held) c.pass.inside.tokens c.take.result c.in-Some.tokens c.take.ensures.value c.in-Some.is c.pass.invariant.2 in
    let mine = c.in-Some.tokens in let a = c.view-tokens.ensures in let r = c.view-tokens.result.0 in let new = c.view-tokens.new.seen.log in
    let from : IsPrefix log new = prefix_trans log c.learn.new.self.log new c.learn.ensures.2 a.seen in (
      a.book.0 ∙ (c.learn.ensures.0 ∙ c.pass.invariant.0),
      a.book.1 ∙ (c.learn.ensures.1 ∙ c.pass.invariant.1),
      (
        tokens-made g.J.Naming.counters g.J.Naming.copy g.J.Naming.kind new mine.held r (a.tokens.0 ∙ h.0.counters_is) (a.tokens.1 ∙ h.0.copy_is) (a.tokens.2 ∙ h.0.kind_is) a.held.0 a.held.1 h.0.low,
        own-after c.pass.inside.actor (λ k. count_at k new) mine.held r.held a.held.0 h.1,
      ),
      c.pass.invariant.3 ∙ own-same c.pass.inside.actor mine.held log new h.0.right a.agree h.1,
      c.pass.invariant.4,
      subst (λ (k : List ℕ). Fits k (history new)) h.0.kind_is a.fit,
      subst (λ (k : List ℕ). HavePlaces k (history new)) h.0.kind_is a.places,
      c.pass.invariant.7,
    )

pub returns-in-Some-clause-same : goal.returns-in-Some-clause-same
returns-in-Some-clause-same g c = (
  ap (λ (v : PassView). v.actor) c.pass.view_is,
  ap keys c.view-tokens.ensures.held.0 ∙ (at-same-keys (λ k. count_at k c.view-tokens.new.seen.log) c.in-Some.tokens.held ∙ (sym (taken-keys c.pass.inside.tokens c.take.result c.in-Some.tokens c.take.ensures.value c.in-Some.is) ∙ ap (λ (v : PassView). v.keys) c.pass.view_is)),
)

pub returns-in-Some-clause-later : goal.returns-in-Some-clause-later
returns-in-Some-clause-later g c =
    let log = c.pass.inside.seen.log in
    let h = taken (λ h. AreTokens g.J.Naming.counters g.J.Naming.copy g.J.Naming.kind log h × AreTokensOf c.pass.inside.actor h.held) c.pass.inside.tokens c.take.result c.in-Some.tokens c.take.ensures.value c.in-Some.is c.pass.invariant.2 in
    let mine = c.in-Some.tokens in let a = c.view-tokens.ensures in let r = c.view-tokens.result.0 in let new = c.view-tokens.new.seen.log in
    let from : IsPrefix log new = prefix_trans log c.learn.new.self.log new c.learn.ensures.2 a.seen in (
      subst (λ (v : PassView). IsLater v.log (history new)) c.pass.view_is (later log new from),
      subst (λ (v : PassView). IsLater v.log (history new)) c.other.view_is (later c.other.inside.seen.log new (prefix_trans c.other.inside.seen.log c.learn.new.self.log new c.learn.ensures.3 a.seen)),
    )

pub returns-in-Some-clause-stays : goal.returns-in-Some-clause-stays
returns-in-Some-clause-stays g c =
    let log = c.pass.inside.seen.log in
    let h = taken (λ h. AreTokens g.J.Naming.counters g.J.Naming.copy g.J.Naming.kind log h × AreTokensOf c.pass.inside.actor h.held) c.pass.inside.tokens c.take.result c.in-Some.tokens c.take.ensures.value c.in-Some.is c.pass.invariant.2 in
    let mine = c.in-Some.tokens in let a = c.view-tokens.ensures in let r = c.view-tokens.result.0 in let new = c.view-tokens.new.seen.log in
    let from : IsPrefix log new = prefix_trans log c.learn.new.self.log new c.learn.ensures.2 a.seen in
    let ks = sym (taken-keys c.pass.inside.tokens c.take.result mine c.take.ensures.value c.in-Some.is) in
    subst (λ (v : PassView). Stays v.keys v.log (history new)) c.pass.view_is (subst (λ (k : List ℕ). Stays k (history log) (history new)) ks (stays mine.held log new from h.0.right a.agree))
