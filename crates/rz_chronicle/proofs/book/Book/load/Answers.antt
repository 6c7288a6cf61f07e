use Rattle.std.proofs.Common.{◌∙◌, List, ℕ, sym, ap, subst}
use mathlib.Core.List.{IsPrefix}
use Rattle.rz_chronicle.specs.Keys.{count_at, IsLater}
use Rattle.rz_chronicle.specs.Kinds.{history, HavePlaces, Fits}
use Rattle.rz_chronicle.specs.Holds.{AreTokens, AreTokensOf, Stays, keys}
use Rattle.rz_chronicle.specs.Rules.{PassView}
use Rattle.rz_chronicle.proofs.Histories.{later, stays}
use Rattle.rz_chronicle.proofs.TokenLaws.{taken, taken-keys, at-same-keys, tokens-made, own-after, own-same}
use Rattle.rz_chronicle.proofs.book.Book.load.Goals as goal

pub invariant_of-pass : goal.invariant_of-pass
invariant_of-pass g c =
    let log = c.pass.inside.seen.log in
    let h = taken (λ h. AreTokens g.J.Naming.counters g.J.Naming.copy g.J.Naming.kind log h × AreTokensOf c.pass.inside.actor h.held) c.pass.inside.tokens c.take.result c.in-Some.tokens c.take.ensures.value c.in-Some.is c.pass.invariant.2 in
    let mine = c.in-Some.tokens in let a = c.view-tokens.ensures in let r = c.view-tokens.result.0 in let new = c.view-tokens.new.seen.log in
    let from : IsPrefix log new = a.seen in (
      a.book.0 ∙ c.pass.invariant.0,
      a.book.1 ∙ c.pass.invariant.1,
      (
        tokens-made g.J.Naming.counters g.J.Naming.copy g.J.Naming.kind new mine.held r (a.tokens.0 ∙ h.0.counters_is) (a.tokens.1 ∙ h.0.copy_is) (a.tokens.2 ∙ h.0.kind_is) a.held.0 a.held.1 h.0.low,
        own-after c.pass.inside.actor (λ k. count_at k new) mine.held r.held a.held.0 h.1,
      ),
      c.pass.invariant.3 ∙ own-same c.pass.inside.actor mine.held log new h.0.right a.agree h.1,
      c.pass.invariant.4,
      subst (λ (k : List ℕ). Fits k (history new)) h.0.kind_is a.fit,
      subst (λ (k : List ℕ). HavePlaces k (history new)) h.0.kind_is a.places,
      c.pass.invariant.7,
    )

pub returns-in-Some-clause-same : goal.returns-in-Some-clause-same
returns-in-Some-clause-same g c = (
  ap (λ (v : PassView). v.actor) c.pass.view_is,
  ap keys c.view-tokens.ensures.held.0 ∙ (at-same-keys (λ k. count_at k c.view-tokens.new.seen.log) c.in-Some.tokens.held ∙ (sym (taken-keys c.pass.inside.tokens c.take.result c.in-Some.tokens c.take.ensures.value c.in-Some.is) ∙ ap (λ (v : PassView). v.keys) c.pass.view_is)),
)

pub returns-in-Some-clause-later : goal.returns-in-Some-clause-later
returns-in-Some-clause-later g c =
    let log = c.pass.inside.seen.log in
    let h = taken (λ h. AreTokens g.J.Naming.counters g.J.Naming.copy g.J.Naming.kind log h × AreTokensOf c.pass.inside.actor h.held) c.pass.inside.tokens c.take.result c.in-Some.tokens c.take.ensures.value c.in-Some.is c.pass.invariant.2 in
    let mine = c.in-Some.tokens in let a = c.view-tokens.ensures in let r = c.view-tokens.result.0 in let new = c.view-tokens.new.seen.log in
    let from : IsPrefix log new = a.seen in
    subst (λ (v : PassView). IsLater v.log (history new)) c.pass.view_is (later log new from)

pub returns-in-Some-clause-stays : goal.returns-in-Some-clause-stays
returns-in-Some-clause-stays g c =
    let log = c.pass.inside.seen.log in
    let h = taken (λ h. AreTokens g.J.Naming.counters g.J.Naming.copy g.J.Naming.kind log h × AreTokensOf c.pass.inside.actor h.held) c.pass.inside.tokens c.take.result c.in-Some.tokens c.take.ensures.value c.in-Some.is c.pass.invariant.2 in
    let mine = c.in-Some.tokens in let a = c.view-tokens.ensures in let r = c.view-tokens.result.0 in let new = c.view-tokens.new.seen.log in
    let from : IsPrefix log new = a.seen in
    let ks = sym (taken-keys c.pass.inside.tokens c.take.result mine c.take.ensures.value c.in-Some.is) in
    subst (λ (v : PassView). Stays v.keys v.log (history new)) c.pass.view_is (subst (λ (k : List ℕ). Stays k (history log) (history new)) ks (stays mine.held log new from h.0.right a.agree))
