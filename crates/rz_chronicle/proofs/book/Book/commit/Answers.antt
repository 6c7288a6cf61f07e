use Rattle.std.proofs.Common.{◌≡◌, ◌<◌, ◌∙◌, [], ◌∷◌, List, Some, ℕ, sym, ap, subst}
use Rattle.logbook.specs.Pages.{Named}
use Rattle.rz_events.specs.declared.events.Event.{Event}
use Rattle.rz_events.specs.Events.{word_of, by_of}
use Rattle.rz_chronicle.specs.Keys.{IsMember, rows, word_key, actor_key, count_at, sids_of}
use Rattle.rz_chronicle.specs.Kinds.{history, HasPlace, HavePlaces, Fits, MayFit, volume_in}
use Rattle.rz_chronicle.specs.Tokens.{counts, IsHolding}
use Rattle.rz_chronicle.specs.Holds.{AreTokens, AreTokensOf, IsShared, Commits, keys}
use Rattle.rz_chronicle.specs.Rules.{PassView, WordTokenView}
use Rattle.rz_chronicle.proofs.Histories.{same-log}
use Rattle.rz_chronicle.proofs.TokenLaws.{taken, taken-keys, at-same-keys, own-place, tokens-right, tokens-may, tokens-after, own-after, own-stays, one-count, later-keys}
use Rattle.rz_chronicle.proofs.book.Book.commit.Goals as goal

pub append_both-its-requires-clause-word : goal.append_both-its-requires-clause-word
append_both-its-requires-clause-word g c =
    let x = g.N.Asks.event c.args.about.now in
    let key = ap (λ (n : Named). n.key) c.row-word.ensures ∙ own-place (sids_of (volume_in g.J.Naming.kind)) c.word_token.inside.place c.word_token.inside.word c.word_token.invariant.3 in
    let word : word_of x ≡ c.word_token.inside.word = c.requires.word ∙ ap (λ (v : WordTokenView). v.word) (sym c.word_token.view_is) in (
      ap (λ (n : Named). n.tracked) c.row-word.ensures,
      key ∙ sym c.key_of-key.ensures.value,
      ap word_key word ∙ sym c.key_of-key.ensures.value,
      subst (λ w. word_key w < rows) (sym word) c.word_token.invariant.7,
    )

pub append_both-its-requires-clause-one : goal.append_both-its-requires-clause-one
append_both-its-requires-clause-one g c =
    let h = taken (λ h. AreTokens g.J.Naming.counters g.J.Naming.copy g.J.Naming.kind c.pass.inside.seen.log h × AreTokensOf c.pass.inside.actor h.held) c.pass.inside.tokens c.take.result c.in-Some.mine c.take.ensures.value c.in-Some.is c.pass.invariant.2 in
    let o = taken (λ h. AreTokens g.J.Naming.counters g.J.Naming.copy g.J.Naming.kind c.word_token.inside.seen.log h × (h.held ≡ (word_key c.word_token.inside.word, c.word_token.inside.moved) ∷ [])) c.word_token.inside.tokens c.take-in-Some.result c.in-Some-take.its c.take-in-Some.ensures.value c.in-Some-take.is c.word_token.invariant.2 in
    record { counters = o.0.counters_is ∙ sym h.0.counters_is; copy = o.0.copy_is ∙ sym h.0.copy_is; kind = o.0.kind_is ∙ sym h.0.kind_is }

pub append_both-its-requires-clause-mine : goal.append_both-its-requires-clause-mine
append_both-its-requires-clause-mine g c =
    let x = g.N.Asks.event c.args.about.now in
    let h = taken (λ h. AreTokens g.J.Naming.counters g.J.Naming.copy g.J.Naming.kind c.pass.inside.seen.log h × AreTokensOf c.pass.inside.actor h.held) c.pass.inside.tokens c.take.result c.in-Some.mine c.take.ensures.value c.in-Some.is c.pass.invariant.2 in
    let by : by_of x ≡ c.pass.inside.actor = c.requires.actor ∙ ap (λ (v : PassView). v.actor) (sym c.pass.view_is) in
    (tokens-right g.J.Naming.counters g.J.Naming.copy g.J.Naming.kind c.pass.inside.seen.log c.in-Some.mine h.0, subst (λ a. IsHolding (actor_key a) c.in-Some.mine.held) (sym by) h.1.by, h.0.log_is)

pub append_both-its-requires-clause-its : goal.append_both-its-requires-clause-its
append_both-its-requires-clause-its g c =
    let log = c.pass.inside.seen.log in let log2 = c.word_token.inside.seen.log in let mine = c.in-Some.mine in let its = c.in-Some-take.its in let k = word_key c.word_token.inside.word in
    let h = taken (λ h. AreTokens g.J.Naming.counters g.J.Naming.copy g.J.Naming.kind log h × AreTokensOf c.pass.inside.actor h.held) c.pass.inside.tokens c.take.result mine c.take.ensures.value c.in-Some.is c.pass.invariant.2 in
    let o = taken (λ h. AreTokens g.J.Naming.counters g.J.Naming.copy g.J.Naming.kind log2 h × (h.held ≡ (k, c.word_token.inside.moved) ∷ [])) c.word_token.inside.tokens c.take-in-Some.result its c.take-in-Some.ensures.value c.in-Some-take.is c.word_token.invariant.2 in
    let one : log2 ≡ log = same-log log2 log (ap (λ (v : WordTokenView). v.log) c.word_token.view_is ∙ (c.requires.one ∙ ap (λ (v : PassView). v.log) (sym c.pass.view_is))) in
    let n : count_at k log2 ≡ c.word_token.inside.moved = sym (one-count k c.word_token.inside.moved (counts log2) its.held o.1 o.0.right) in
    let m : count_at k mine.log ≡ c.word_token.inside.moved = ap (count_at k) (h.0.log_is ∙ sym one) ∙ n in (
      o.1 ∙ ap (λ (j : ℕ). (j, c.word_token.inside.moved) ∷ []) (sym c.key_of-key.ensures.value),
      o.0.log_is ∙ (one ∙ sym h.0.log_is),
      subst (λ (j : ℕ). count_at j mine.log ≡ c.word_token.inside.moved) (sym c.key_of-key.ensures.value) m,
    )

pub append_both-its-requires-clause-legal : goal.append_both-its-requires-clause-legal
append_both-its-requires-clause-legal g c =
    let x = g.N.Asks.event c.args.about.now in let log = c.pass.inside.seen.log in
    let h = taken (λ h. AreTokens g.J.Naming.counters g.J.Naming.copy g.J.Naming.kind log h × AreTokensOf c.pass.inside.actor h.held) c.pass.inside.tokens c.take.result c.in-Some.mine c.take.ensures.value c.in-Some.is c.pass.invariant.2 in
    let may : MayFit g.J.Naming.kind (history log) x = subst (λ (v : PassView). MayFit g.J.Naming.kind v.log x) (sym c.pass.view_is) (c.requires.legal, c.requires.after) in
    tokens-may g.J.Naming.counters g.J.Naming.copy g.J.Naming.kind log x c.in-Some.mine h.0 may

pub append_both-its-requires-clause-place : goal.append_both-its-requires-clause-place
append_both-its-requires-clause-place g c =
    let x = g.N.Asks.event c.args.about.now in let log = c.pass.inside.seen.log in
    let h = taken (λ h. AreTokens g.J.Naming.counters g.J.Naming.copy g.J.Naming.kind log h × AreTokensOf c.pass.inside.actor h.held) c.pass.inside.tokens c.take.result c.in-Some.mine c.take.ensures.value c.in-Some.is c.pass.invariant.2 in
    let word : word_of x ≡ c.word_token.inside.word = c.requires.word ∙ ap (λ (v : WordTokenView). v.word) (sym c.word_token.view_is) in
    let who : c.pass.inside.actor ≡ c.args.pass.now.actor = ap (λ (v : PassView). v.actor) c.pass.view_is in
    subst (λ (k : List ℕ). HasPlace k x) (sym h.0.kind_is) (record {
      member = subst IsMember (sym (c.requires.actor ∙ sym who)) c.pass.invariant.4;
      place = c.word_token.inside.place;
      low = c.word_token.invariant.6;
      owner_is = c.word_token.invariant.3 ∙ ap Some (sym word);
    })

pub invariant_of-pass : goal.invariant_of-pass
invariant_of-pass g c =
    let x = g.N.Asks.event c.args.about.now in let log = c.pass.inside.seen.log in let mine = c.in-Some.mine in
    let h = taken (λ h. AreTokens g.J.Naming.counters g.J.Naming.copy g.J.Naming.kind log h × AreTokensOf c.pass.inside.actor h.held) c.pass.inside.tokens c.take.result mine c.take.ensures.value c.in-Some.is c.pass.invariant.2 in
    let a = c.append_both-its.ensures in let r = c.append_both-its.result.1 in let new = c.append_both-its.new.seen.log in
    let word : word_of x ≡ c.word_token.inside.word = c.requires.word ∙ ap (λ (v : WordTokenView). v.word) (sym c.word_token.view_is) in
    let shared : IsShared (word_of x) = subst IsShared (sym word) c.word_token.invariant.4 in
    let all : Commits (c.key_of-key.result ∷ keys mine.held) (history log) x (history new) = subst (λ (l : List Event). Commits (c.key_of-key.result ∷ keys mine.held) (history l) x (history new)) h.0.log_is a.commits in
    let commits : Commits (keys mine.held) (history log) x (history new) = later-keys c.key_of-key.result (keys mine.held) (history log) (history new) x all in (
      a.book.0 ∙ c.pass.invariant.0,
      a.book.1 ∙ c.pass.invariant.1,
      (
        tokens-after g.J.Naming.counters g.J.Naming.copy g.J.Naming.kind log new mine r h.0 a.one.1.counters a.one.1.copy a.one.1.kind a.mine.0 a.mine.1,
        own-after c.pass.inside.actor (λ k. count_at k new) mine.held r.held a.mine.0 h.1,
      ),
      c.pass.invariant.3 ∙ own-stays c.pass.inside.actor mine.held log new x shared h.1 commits,
      c.pass.invariant.4,
      subst (λ (k : List ℕ). Fits k (history new)) h.0.kind_is a.fit,
      subst (λ (k : List ℕ). HavePlaces k (history new)) h.0.kind_is a.places,
      c.pass.invariant.7,
    )

pub returns-in-Some-take-clause-same : goal.returns-in-Some-take-clause-same
returns-in-Some-take-clause-same g c = (
  ap (λ (v : PassView). v.actor) c.pass.view_is,
  ap keys c.append_both-its.ensures.mine.0 ∙ (at-same-keys (λ k. count_at k c.append_both-its.new.seen.log) c.in-Some.mine.held ∙ (sym (taken-keys c.pass.inside.tokens c.take.result c.in-Some.mine c.take.ensures.value c.in-Some.is) ∙ ap (λ (v : PassView). v.keys) c.pass.view_is)),
  ap (λ (v : WordTokenView). v.word) c.word_token.view_is,
)

pub returns-in-Some-take-clause-commits : goal.returns-in-Some-take-clause-commits
returns-in-Some-take-clause-commits g c =
    let x = g.N.Asks.event c.args.about.now in let log = c.pass.inside.seen.log in let mine = c.in-Some.mine in let new = c.append_both-its.new.seen.log in
    let h = taken (λ h. AreTokens g.J.Naming.counters g.J.Naming.copy g.J.Naming.kind log h × AreTokensOf c.pass.inside.actor h.held) c.pass.inside.tokens c.take.result mine c.take.ensures.value c.in-Some.is c.pass.invariant.2 in
    let ks = sym (taken-keys c.pass.inside.tokens c.take.result mine c.take.ensures.value c.in-Some.is) in
    let all : Commits (c.key_of-key.result ∷ keys mine.held) (history log) x (history new) = subst (λ (l : List Event). Commits (c.key_of-key.result ∷ keys mine.held) (history l) x (history new)) h.0.log_is c.append_both-its.ensures.commits in
    let key : c.key_of-key.result ≡ word_key c.args.word_token.now.word = c.key_of-key.ensures.value ∙ ap (λ (v : WordTokenView). word_key v.word) c.word_token.view_is in
    subst (λ (v : PassView). Commits (word_key c.args.word_token.now.word ∷ v.keys) v.log x (history new)) c.pass.view_is
    (subst (λ (k : ℕ). Commits (k ∷ Rattle.rz_chronicle.specs.Holds.keys_in c.pass.inside.tokens) (history log) x (history new)) key
    (subst (λ (k : List ℕ). Commits (c.key_of-key.result ∷ k) (history log) x (history new)) ks all))
