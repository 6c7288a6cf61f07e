use Rattle.std.proofs.Common.{◌≡◌, ◌∙◌, List, ℕ, sym, ap, subst, ◌<◌, Some}
use Rattle.rz_events.specs.declared.events.Word.TheVariants.{Own}
use Rattle.rz_events.specs.Events.{word_of}
use Rattle.logbook.specs.Pages.{Named}
use Rattle.rz_chronicle.specs.Keys.{IsMember, word_key, count_at, rows, sids_of}
use Rattle.rz_chronicle.specs.Kinds.{HasPlace, HavePlaces, MayFit, Fits, history, volume_in}
use Rattle.rz_chronicle.specs.Tokens.{IsHolding}
use Rattle.rz_chronicle.specs.Holds.{AreTokens, AreTokensOf, Commits, keys}
use Rattle.rz_chronicle.specs.Rules.{PassView}
use Rattle.rz_chronicle.proofs.TokenLaws.{taken, taken-keys, at-same-keys, tokens-right, tokens-may, tokens-after, own-place, member-low, own-after, committed, moved-on, covers, has-own}
use Rattle.rz_chronicle.proofs.book.Book.finish.Goals as goal

pub append-tokens-requires-clause-word : goal.append-tokens-requires-clause-word
append-tokens-requires-clause-word g c =
    let sids = sids_of (volume_in g.J.Naming.kind) in
    let who : c.pass.inside.actor ≡ c.args.pass.now.actor = ap (λ (v : PassView). v.actor) c.pass.view_is in
    let at-word : Own c.pass.inside.actor ≡ word_of c.args.event.now = sym (c.requires.word ∙ ap Own (sym who)) in
    let key = own-place sids c.place_of.result (Own c.pass.inside.actor) (c.place_of.ensures.owner sids) in (
      ap (λ (n : Named). n.tracked) c.row-word.ensures,
      ap (λ (n : Named). n.key) c.row-word.ensures ∙ (key ∙ ap word_key at-word),
      subst (λ w. word_key w < rows) at-word (member-low c.pass.inside.actor c.pass.invariant.4),
    )

pub append-tokens-requires-clause-held : goal.append-tokens-requires-clause-held
append-tokens-requires-clause-held g c =
    let log = c.pass.inside.seen.log in
    let h = taken (λ h. AreTokens g.J.Naming.counters g.J.Naming.copy g.J.Naming.kind log h × AreTokensOf c.pass.inside.actor h.held) c.pass.inside.tokens c.take.result c.in-Some.tokens c.take.ensures.value c.in-Some.is c.pass.invariant.2 in
    let who : c.pass.inside.actor ≡ c.args.pass.now.actor = ap (λ (v : PassView). v.actor) c.pass.view_is in
    (tokens-right g.J.Naming.counters g.J.Naming.copy g.J.Naming.kind log c.in-Some.tokens h.0, covers c.pass.inside.actor c.in-Some.tokens.held c.args.event.now (c.requires.word ∙ ap Own (sym who)) (c.requires.actor ∙ sym who) h.1)

pub append-tokens-requires-clause-legal : goal.append-tokens-requires-clause-legal
append-tokens-requires-clause-legal g c =
    let log = c.pass.inside.seen.log in
    let h = taken (λ h. AreTokens g.J.Naming.counters g.J.Naming.copy g.J.Naming.kind log h × AreTokensOf c.pass.inside.actor h.held) c.pass.inside.tokens c.take.result c.in-Some.tokens c.take.ensures.value c.in-Some.is c.pass.invariant.2 in
    let may : MayFit g.J.Naming.kind (history log) c.args.event.now = subst (λ (v : PassView). MayFit g.J.Naming.kind v.log c.args.event.now) (sym c.pass.view_is) (c.requires.legal, c.requires.after) in
    tokens-may g.J.Naming.counters g.J.Naming.copy g.J.Naming.kind log c.args.event.now c.in-Some.tokens h.0 may

pub append-tokens-requires-clause-place : goal.append-tokens-requires-clause-place
append-tokens-requires-clause-place g c =
    let log = c.pass.inside.seen.log in let sids = sids_of (volume_in g.J.Naming.kind) in
    let h = taken (λ h. AreTokens g.J.Naming.counters g.J.Naming.copy g.J.Naming.kind log h × AreTokensOf c.pass.inside.actor h.held) c.pass.inside.tokens c.take.result c.in-Some.tokens c.take.ensures.value c.in-Some.is c.pass.invariant.2 in
    let who : c.pass.inside.actor ≡ c.args.pass.now.actor = ap (λ (v : PassView). v.actor) c.pass.view_is in
    let at-word : Own c.pass.inside.actor ≡ word_of c.args.event.now = sym (c.requires.word ∙ ap Own (sym who)) in
    subst (λ (k : List ℕ). HasPlace k c.args.event.now) (sym h.0.kind_is) (record {
      member = subst IsMember (sym (c.requires.actor ∙ sym who)) c.pass.invariant.4;
      place = c.place_of.result;
      low = c.place_of.ensures.place;
      owner_is = c.place_of.ensures.owner sids ∙ ap Some at-word;
    })

pub append-tokens-requires-clause-count : goal.append-tokens-requires-clause-count
append-tokens-requires-clause-count g c =
    let log = c.pass.inside.seen.log in
    let h = taken (λ h. AreTokens g.J.Naming.counters g.J.Naming.copy g.J.Naming.kind log h × AreTokensOf c.pass.inside.actor h.held) c.pass.inside.tokens c.take.result c.in-Some.tokens c.take.ensures.value c.in-Some.is c.pass.invariant.2 in
    let who : c.pass.inside.actor ≡ c.args.pass.now.actor = ap (λ (v : PassView). v.actor) c.pass.view_is in
    has-own c.pass.inside.actor c.in-Some.tokens.held log c.args.event.now c.pass.inside.moved (c.requires.word ∙ ap Own (sym who)) h.0.right h.1 c.pass.invariant.3

pub invariant_of-pass : goal.invariant_of-pass
invariant_of-pass g c =
    let log = c.pass.inside.seen.log in let new = c.append-tokens.new.seen.log in
    let h = taken (λ h. AreTokens g.J.Naming.counters g.J.Naming.copy g.J.Naming.kind log h × AreTokensOf c.pass.inside.actor h.held) c.pass.inside.tokens c.take.result c.in-Some.tokens c.take.ensures.value c.in-Some.is c.pass.invariant.2 in
    let who : c.pass.inside.actor ≡ c.args.pass.now.actor = ap (λ (v : PassView). v.actor) c.pass.view_is in
    let at-word : word_of c.args.event.now ≡ Own c.pass.inside.actor = c.requires.word ∙ ap Own (sym who) in
    let a = c.append-tokens.ensures in
    let has : IsHolding (word_key (word_of c.args.event.now)) c.in-Some.tokens.held = subst (λ w. IsHolding (word_key w) c.in-Some.tokens.held) (sym at-word) h.1.own in
    let from : c.pass.inside.moved ≡ count_at (word_key (word_of c.args.event.now)) log = c.pass.invariant.3 ∙ ap (λ w. count_at (word_key w) log) (sym at-word) in (
      a.book.0 ∙ c.pass.invariant.0,
      a.book.1 ∙ c.pass.invariant.1,
      (
        tokens-after g.J.Naming.counters g.J.Naming.copy g.J.Naming.kind log new c.in-Some.tokens c.append-tokens.result h.0 a.tokens.0 a.tokens.1 a.tokens.2 a.held.0 a.held.1,
        own-after c.pass.inside.actor (λ k. count_at k new) c.in-Some.tokens.held c.append-tokens.result.held a.held.0 h.1,
      ),
      moved-on c.in-Some.tokens.held log new c.args.event.now c.pass.inside.moved h.0.right has from a.ends ∙ ap (λ w. count_at (word_key w) new) at-word,
      c.pass.invariant.4,
      subst (λ (k : List ℕ). Fits k (history new)) h.0.kind_is a.fit,
      subst (λ (k : List ℕ). HavePlaces k (history new)) h.0.kind_is a.places,
      c.pass.invariant.7,
    )

pub returns-in-Some-clause-same : goal.returns-in-Some-clause-same
returns-in-Some-clause-same g c =
    let a = c.append-tokens.ensures in (
      ap (λ (v : PassView). v.actor) c.pass.view_is,
      ap keys a.held.0 ∙ (at-same-keys (λ k. count_at k c.append-tokens.new.seen.log) c.in-Some.tokens.held ∙ (sym (taken-keys c.pass.inside.tokens c.take.result c.in-Some.tokens c.take.ensures.value c.in-Some.is) ∙ ap (λ (v : PassView). v.keys) c.pass.view_is)),
    )

pub returns-in-Some-clause-commits : goal.returns-in-Some-clause-commits
returns-in-Some-clause-commits g c =
    let log = c.pass.inside.seen.log in let new = c.append-tokens.new.seen.log in
    let h = taken (λ h. AreTokens g.J.Naming.counters g.J.Naming.copy g.J.Naming.kind log h × AreTokensOf c.pass.inside.actor h.held) c.pass.inside.tokens c.take.result c.in-Some.tokens c.take.ensures.value c.in-Some.is c.pass.invariant.2 in
    let ks = sym (taken-keys c.pass.inside.tokens c.take.result c.in-Some.tokens c.take.ensures.value c.in-Some.is) in
    let made = committed c.in-Some.tokens.held log new c.args.event.now h.0.right c.append-tokens.ensures.ends in
    subst (λ (v : PassView). Commits v.keys v.log c.args.event.now (history new)) c.pass.view_is (subst (λ (k : List ℕ). Commits k (history log) c.args.event.now (history new)) ks made)
