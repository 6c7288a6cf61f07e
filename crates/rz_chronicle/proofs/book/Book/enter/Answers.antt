use Rattle.std.proofs.Common.{◌≡◌, ◌<◌, ◌∙◌, [], ◌∷◌, List, ℕ, sym, ap, subst}
use mathlib.Core.List.{IsPrefix}
use Rattle.logbook.specs.Pages.{Named}
use base.Growing.{prefix_trans}
use Rattle.rz_chronicle.specs.Keys.{rows, word_key, count_at, IsLater, sids_of}
use Rattle.rz_chronicle.specs.Kinds.{history, HavePlaces, Fits, volume_in}
use Rattle.rz_chronicle.specs.Tokens.{counts, Agree}
use Rattle.rz_chronicle.specs.Holds.{AreTokens, AreTokensOf, Stays, keys}
use Rattle.rz_chronicle.specs.Rules.{PassView, WordTokenView}
use Rattle.rz_chronicle.proofs.Histories.{later, stays}
use Rattle.rz_chronicle.proofs.TokenLaws.{taken, taken-keys, at-same-keys, own-place, tokens-made, own-after, own-same}
use Rattle.rz_chronicle.proofs.book.Book.enter.Goals as goal

pub view_both-its-requires-clause-word : goal.view_both-its-requires-clause-word
view_both-its-requires-clause-word g c =
    let key = ap (λ (n : Named). n.key) c.row-word.ensures ∙ own-place (sids_of (volume_in g.J.Naming.kind)) c.word_token.inside.place c.word_token.inside.word c.word_token.invariant.3 in
    (ap (λ (n : Named). n.tracked) c.row-word.ensures, subst (λ (k : ℕ). k < rows) (sym key) c.word_token.invariant.7)

pub view_both-its-requires-clause-key : goal.view_both-its-requires-clause-key
view_both-its-requires-clause-key g c =
    (c.word_token.inside.word, ap (λ (n : Named). n.key) c.row-word.ensures ∙ own-place (sids_of (volume_in g.J.Naming.kind)) c.word_token.inside.place c.word_token.inside.word c.word_token.invariant.3)

pub view_both-its-requires-clause-one : goal.view_both-its-requires-clause-one
view_both-its-requires-clause-one g c =
    let h = taken (λ h. AreTokens g.J.Naming.counters g.J.Naming.copy g.J.Naming.kind c.pass.inside.seen.log h × AreTokensOf c.pass.inside.actor h.held) c.pass.inside.tokens c.take.result c.in-Some.mine c.take.ensures.value c.in-Some.is c.pass.invariant.2 in
    let o = taken (λ h. AreTokens g.J.Naming.counters g.J.Naming.copy g.J.Naming.kind c.word_token.inside.seen.log h × (h.held ≡ (word_key c.word_token.inside.word, c.word_token.inside.moved) ∷ [])) c.word_token.inside.tokens c.take-in-Some.result c.in-Some-take.its c.take-in-Some.ensures.value c.in-Some-take.is c.word_token.invariant.2 in
    record { counters = o.0.counters_is ∙ sym h.0.counters_is; copy = o.0.copy_is ∙ sym h.0.copy_is; kind = o.0.kind_is ∙ sym h.0.kind_is }

pub view_both-its-requires-clause-held : goal.view_both-its-requires-clause-held
view_both-its-requires-clause-held g c =
    let h = taken (λ h. AreTokens g.J.Naming.counters g.J.Naming.copy g.J.Naming.kind c.pass.inside.seen.log h × AreTokensOf c.pass.inside.actor h.held) c.pass.inside.tokens c.take.result c.in-Some.mine c.take.ensures.value c.in-Some.is c.pass.invariant.2 in
    let o = taken (λ h. AreTokens g.J.Naming.counters g.J.Naming.copy g.J.Naming.kind c.word_token.inside.seen.log h × (h.held ≡ (word_key c.word_token.inside.word, c.word_token.inside.moved) ∷ [])) c.word_token.inside.tokens c.take-in-Some.result c.in-Some-take.its c.take-in-Some.ensures.value c.in-Some-take.is c.word_token.invariant.2 in
    (h.0.low, o.0.low)

pub view_both-its-requires-clause-its : goal.view_both-its-requires-clause-its
view_both-its-requires-clause-its g c =
    let o = taken (λ h. AreTokens g.J.Naming.counters g.J.Naming.copy g.J.Naming.kind c.word_token.inside.seen.log h × (h.held ≡ (word_key c.word_token.inside.word, c.word_token.inside.moved) ∷ [])) c.word_token.inside.tokens c.take-in-Some.result c.in-Some-take.its c.take-in-Some.ensures.value c.in-Some-take.is c.word_token.invariant.2 in
    o.1 ∙ ap (λ (k : ℕ). (k, c.word_token.inside.moved) ∷ []) (sym c.key_of-key.ensures.value)

pub invariant_of-pass : goal.invariant_of-pass
invariant_of-pass g c =
    let log = c.pass.inside.seen.log in let mine = c.in-Some.mine in
    let h = taken (λ h. AreTokens g.J.Naming.counters g.J.Naming.copy g.J.Naming.kind log h × AreTokensOf c.pass.inside.actor h.held) c.pass.inside.tokens c.take.result mine c.take.ensures.value c.in-Some.is c.pass.invariant.2 in
    let a = c.view_both-its.ensures in let r = c.view_both-its.result.1 in let new = c.view_both-its.new.seen.log in (
      a.book.0 ∙ (c.learn.ensures.0 ∙ c.pass.invariant.0),
      a.book.1 ∙ (c.learn.ensures.1 ∙ c.pass.invariant.1),
      (
        tokens-made g.J.Naming.counters g.J.Naming.copy g.J.Naming.kind new mine.held r (a.one.1.counters ∙ h.0.counters_is) (a.one.1.copy ∙ h.0.copy_is) (a.one.1.kind ∙ h.0.kind_is) a.mine.0 a.mine.1 h.0.low,
        own-after c.pass.inside.actor (λ k. count_at k new) mine.held r.held a.mine.0 h.1,
      ),
      c.pass.invariant.3 ∙ own-same c.pass.inside.actor mine.held log new h.0.right a.agree.0 h.1,
      c.pass.invariant.4,
      subst (λ (k : List ℕ). Fits k (history new)) h.0.kind_is a.fit,
      subst (λ (k : List ℕ). HavePlaces k (history new)) h.0.kind_is a.places,
      c.pass.invariant.7,
    )

pub returns-in-Some-take-clause-same : goal.returns-in-Some-take-clause-same
returns-in-Some-take-clause-same g c = (
  ap (λ (v : PassView). v.actor) c.pass.view_is,
  ap keys c.view_both-its.ensures.mine.0 ∙ (at-same-keys (λ k. count_at k c.view_both-its.new.seen.log) c.in-Some.mine.held ∙ (sym (taken-keys c.pass.inside.tokens c.take.result c.in-Some.mine c.take.ensures.value c.in-Some.is) ∙ ap (λ (v : PassView). v.keys) c.pass.view_is)),
  ap (λ (v : WordTokenView). v.word) c.word_token.view_is,
)

pub returns-in-Some-take-clause-later : goal.returns-in-Some-take-clause-later
returns-in-Some-take-clause-later g c =
    let log = c.pass.inside.seen.log in let log2 = c.word_token.inside.seen.log in let new = c.view_both-its.new.seen.log in let a = c.view_both-its.ensures in (
      subst (λ (v : PassView). IsLater v.log (history new)) c.pass.view_is (later log new (prefix_trans log c.learn.new.self.log new c.learn.ensures.2 a.seen)),
      subst (λ (v : WordTokenView). IsLater v.log (history new)) c.word_token.view_is (later log2 new (prefix_trans log2 c.learn.new.self.log new c.learn.ensures.3 a.seen)),
    )

pub returns-in-Some-take-clause-stays : goal.returns-in-Some-take-clause-stays
returns-in-Some-take-clause-stays g c =
    let log = c.pass.inside.seen.log in let mine = c.in-Some.mine in
    let h = taken (λ h. AreTokens g.J.Naming.counters g.J.Naming.copy g.J.Naming.kind log h × AreTokensOf c.pass.inside.actor h.held) c.pass.inside.tokens c.take.result mine c.take.ensures.value c.in-Some.is c.pass.invariant.2 in
    let a = c.view_both-its.ensures in let new = c.view_both-its.new.seen.log in
    let from : IsPrefix log new = prefix_trans log c.learn.new.self.log new c.learn.ensures.2 a.seen in
    let ks = sym (taken-keys c.pass.inside.tokens c.take.result mine c.take.ensures.value c.in-Some.is) in
    subst (λ (v : PassView). Stays v.keys v.log (history new)) c.pass.view_is (subst (λ (k : List ℕ). Stays k (history log) (history new)) ks (stays mine.held log new from h.0.right a.agree.0))

pub returns-in-Some-take-clause-serves : goal.returns-in-Some-take-clause-serves
returns-in-Some-take-clause-serves g c =
    let log2 = c.word_token.inside.seen.log in let its = c.in-Some-take.its in
    let o = taken (λ h. AreTokens g.J.Naming.counters g.J.Naming.copy g.J.Naming.kind log2 h × (h.held ≡ (word_key c.word_token.inside.word, c.word_token.inside.moved) ∷ [])) c.word_token.inside.tokens c.take-in-Some.result its c.take-in-Some.ensures.value c.in-Some-take.is c.word_token.invariant.2 in
    let a = c.view_both-its.ensures in let new = c.view_both-its.new.seen.log in
    let from : IsPrefix log2 new = prefix_trans log2 c.learn.new.self.log new c.learn.ensures.3 a.seen in
    let n : count_at (word_key c.word_token.inside.word) new ≡ c.word_token.inside.moved = subst (λ (k : ℕ). count_at k new ≡ c.word_token.inside.moved) c.key_of-key.ensures.value a.agree.1 in
    let one : Agree (counts new) ((word_key c.word_token.inside.word, c.word_token.inside.moved) ∷ []) = (n, tt) in
    let agree : Agree (counts new) its.held = subst (Agree (counts new)) (sym o.1) one in
    subst (λ (v : WordTokenView). Stays (word_key v.word ∷ []) v.log (history new)) c.word_token.view_is
    (subst (λ (k : List ℕ). Stays k (history log2) (history new)) (ap keys o.1) (stays its.held log2 new from o.0.right agree))
