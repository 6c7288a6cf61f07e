use Rattle.std.proofs.Common.{◌≡◌, ◌<◌, ◌∙◌, ◌++◌, List, ℕ, sym, ap, subst}
use mathlib.Core.List.{IsPrefix}
use Rattle.std.specs.List.{IsDistinct}
use Rattle.std.specs.Prelude.{nat_eq}
use Rattle.logbook.specs.Pages.{Named}
use base.Growing.{prefix_trans}
use Rattle.rz_events.specs.declared.events.Word.TheVariants.{Own}
use Rattle.rz_chronicle.specs.Keys.{rows, count_at, IsLater, sids_of}
use Rattle.rz_chronicle.specs.Kinds.{history, HavePlaces, Fits, volume_in}
use Rattle.rz_chronicle.specs.Tokens.{at, counts, Agree, AllInRow}
use Rattle.rz_chronicle.specs.Holds.{AreTokens, AreTokensOf, Stays, keys}
use Rattle.rz_chronicle.specs.Rules.{PassView}
use Rattle.rz_chronicle.proofs.Histories.{later, stays}
use Rattle.rz_chronicle.proofs.TokenLaws.{taken, taken-keys, at-same-keys, keys-append, agree-left, agree-right, low-append, own-left, own-place, member-low, tokens-made, own-after, own-same}
use Rattle.rz_chronicle.proofs.book.Book.absorb.Goals as goal

pub view-tokens-requires-clause-word : goal.view-tokens-requires-clause-word
view-tokens-requires-clause-word g c =
    let key = ap (λ (n : Named). n.key) c.row-word.ensures ∙ own-place (sids_of (volume_in g.J.Naming.kind)) c.place_of.result (Own c.front.inside.actor) (c.place_of.ensures.owner (sids_of (volume_in g.J.Naming.kind))) in
    (ap (λ (n : Named). n.tracked) c.row-word.ensures, subst (λ (k : ℕ). k < rows) (sym key) (member-low c.front.inside.actor c.front.invariant.4))

pub view-tokens-requires-clause-key : goal.view-tokens-requires-clause-key
view-tokens-requires-clause-key g c = (Own c.front.inside.actor, ap (λ (n : Named). n.key) c.row-word.ensures ∙ own-place (sids_of (volume_in g.J.Naming.kind)) c.place_of.result (Own c.front.inside.actor) (c.place_of.ensures.owner (sids_of (volume_in g.J.Naming.kind))))

pub view-tokens-requires-clause-held : goal.view-tokens-requires-clause-held
view-tokens-requires-clause-held g c =
    let log = c.front.inside.seen.log in let log2 = c.args.seen.now.log in let mine = c.in-Some.mine in let theirs = c.args.theirs in let o = c.requires.theirs in
    let h = taken (λ h. AreTokens g.J.Naming.counters g.J.Naming.copy g.J.Naming.kind log h × AreTokensOf c.front.inside.actor h.held) c.front.inside.tokens c.take.result mine c.take.ensures.value c.in-Some.is c.front.invariant.2 in
    subst AllInRow (sym c.join.ensures.3) (low-append mine.held theirs.held h.0.low o.low)

pub invariant_of-front : goal.invariant_of-front
invariant_of-front g c =
    let log = c.front.inside.seen.log in let log2 = c.args.seen.now.log in let mine = c.in-Some.mine in let theirs = c.args.theirs in let o = c.requires.theirs in
    let h = taken (λ h. AreTokens g.J.Naming.counters g.J.Naming.copy g.J.Naming.kind log h × AreTokensOf c.front.inside.actor h.held) c.front.inside.tokens c.take.result mine c.take.ensures.value c.in-Some.is c.front.invariant.2 in
    let a = c.view-tokens.ensures in let r = c.view-tokens.result.0 in let new = c.view-tokens.new.seen.log in
    let from : IsPrefix log new = prefix_trans log c.learn.new.self.log new c.learn.ensures.2 a.seen in
    let from2 : IsPrefix log2 new = prefix_trans log2 c.learn.new.self.log new c.learn.ensures.3 a.seen in
    let agree : Agree (counts new) (mine.held ++ theirs.held) = subst (Agree (counts new)) c.join.ensures.3 a.agree in
    let held : r.held ≡ at (counts new) (mine.held ++ theirs.held) = a.held.0 ∙ ap (at (counts new)) c.join.ensures.3 in (
      a.book.0 ∙ (c.learn.ensures.0 ∙ c.front.invariant.0),
      a.book.1 ∙ (c.learn.ensures.1 ∙ c.front.invariant.1),
      (
        tokens-made g.J.Naming.counters g.J.Naming.copy g.J.Naming.kind new (mine.held ++ theirs.held) r (a.tokens.0 ∙ (c.join.ensures.0 ∙ h.0.counters_is)) (a.tokens.1 ∙ (c.join.ensures.1 ∙ h.0.copy_is)) (a.tokens.2 ∙ (c.join.ensures.2 ∙ h.0.kind_is))
            held a.held.1 (low-append mine.held theirs.held h.0.low o.low),
        own-after c.front.inside.actor (λ k. count_at k new) (mine.held ++ theirs.held) r.held held (own-left c.front.inside.actor mine.held theirs.held h.1),
      ),
      c.front.invariant.3 ∙ own-same c.front.inside.actor mine.held log new h.0.right (agree-left (counts new) mine.held theirs.held agree) h.1,
      c.front.invariant.4,
      subst (λ (k : List ℕ). Fits k (history new)) (c.join.ensures.2 ∙ h.0.kind_is) a.fit,
      subst (λ (k : List ℕ). HavePlaces k (history new)) (c.join.ensures.2 ∙ h.0.kind_is) a.places,
      c.front.invariant.7,
    )

pub returns-in-Some-clause-same : goal.returns-in-Some-clause-same
returns-in-Some-clause-same g c =
    let log = c.front.inside.seen.log in let log2 = c.args.seen.now.log in let mine = c.in-Some.mine in let theirs = c.args.theirs in let o = c.requires.theirs in
    let h = taken (λ h. AreTokens g.J.Naming.counters g.J.Naming.copy g.J.Naming.kind log h × AreTokensOf c.front.inside.actor h.held) c.front.inside.tokens c.take.result mine c.take.ensures.value c.in-Some.is c.front.invariant.2 in
    let a = c.view-tokens.ensures in let r = c.view-tokens.result.0 in let new = c.view-tokens.new.seen.log in
    let from : IsPrefix log new = prefix_trans log c.learn.new.self.log new c.learn.ensures.2 a.seen in
    let from2 : IsPrefix log2 new = prefix_trans log2 c.learn.new.self.log new c.learn.ensures.3 a.seen in
    let agree : Agree (counts new) (mine.held ++ theirs.held) = subst (Agree (counts new)) c.join.ensures.3 a.agree in
    let held : r.held ≡ at (counts new) (mine.held ++ theirs.held) = a.held.0 ∙ ap (at (counts new)) c.join.ensures.3 in
    let whole : keys r.held ≡ keys mine.held ++ keys theirs.held = ap keys held ∙ (at-same-keys (counts new) (mine.held ++ theirs.held) ∙ keys-append mine.held theirs.held) in
    let left : keys mine.held ≡ c.args.front.now.keys = sym (taken-keys c.front.inside.tokens c.take.result mine c.take.ensures.value c.in-Some.is) ∙ ap (λ (v : PassView). v.keys) c.front.view_is in
    (ap (λ (v : PassView). v.actor) c.front.view_is, whole ∙ ap (λ (x : List ℕ). x ++ keys theirs.held) left)

pub returns-in-Some-clause-later : goal.returns-in-Some-clause-later
returns-in-Some-clause-later g c =
    let log = c.front.inside.seen.log in let log2 = c.args.seen.now.log in let mine = c.in-Some.mine in let theirs = c.args.theirs in let o = c.requires.theirs in
    let h = taken (λ h. AreTokens g.J.Naming.counters g.J.Naming.copy g.J.Naming.kind log h × AreTokensOf c.front.inside.actor h.held) c.front.inside.tokens c.take.result mine c.take.ensures.value c.in-Some.is c.front.invariant.2 in
    let a = c.view-tokens.ensures in let r = c.view-tokens.result.0 in let new = c.view-tokens.new.seen.log in
    let from : IsPrefix log new = prefix_trans log c.learn.new.self.log new c.learn.ensures.2 a.seen in
    let from2 : IsPrefix log2 new = prefix_trans log2 c.learn.new.self.log new c.learn.ensures.3 a.seen in
    let agree : Agree (counts new) (mine.held ++ theirs.held) = subst (Agree (counts new)) c.join.ensures.3 a.agree in
    let held : r.held ≡ at (counts new) (mine.held ++ theirs.held) = a.held.0 ∙ ap (at (counts new)) c.join.ensures.3 in (
      subst (λ (v : PassView). IsLater v.log (history new)) c.front.view_is (later log new from),
      later log2 new from2,
    )

pub returns-in-Some-clause-stays : goal.returns-in-Some-clause-stays
returns-in-Some-clause-stays g c =
    let log = c.front.inside.seen.log in let log2 = c.args.seen.now.log in let mine = c.in-Some.mine in let theirs = c.args.theirs in let o = c.requires.theirs in
    let h = taken (λ h. AreTokens g.J.Naming.counters g.J.Naming.copy g.J.Naming.kind log h × AreTokensOf c.front.inside.actor h.held) c.front.inside.tokens c.take.result mine c.take.ensures.value c.in-Some.is c.front.invariant.2 in
    let a = c.view-tokens.ensures in let r = c.view-tokens.result.0 in let new = c.view-tokens.new.seen.log in
    let from : IsPrefix log new = prefix_trans log c.learn.new.self.log new c.learn.ensures.2 a.seen in
    let from2 : IsPrefix log2 new = prefix_trans log2 c.learn.new.self.log new c.learn.ensures.3 a.seen in
    let agree : Agree (counts new) (mine.held ++ theirs.held) = subst (Agree (counts new)) c.join.ensures.3 a.agree in
    let held : r.held ≡ at (counts new) (mine.held ++ theirs.held) = a.held.0 ∙ ap (at (counts new)) c.join.ensures.3 in
    let ks = sym (taken-keys c.front.inside.tokens c.take.result mine c.take.ensures.value c.in-Some.is) in
    subst (λ (v : PassView). Stays v.keys v.log (history new)) c.front.view_is
    (subst (λ (k : List ℕ). Stays k (history log) (history new)) ks (stays mine.held log new from h.0.right (agree-left (counts new) mine.held theirs.held agree)))

pub returns-in-Some-clause-gathers : goal.returns-in-Some-clause-gathers
returns-in-Some-clause-gathers g c =
    let log = c.front.inside.seen.log in let log2 = c.args.seen.now.log in let mine = c.in-Some.mine in let theirs = c.args.theirs in let o = c.requires.theirs in
    let h = taken (λ h. AreTokens g.J.Naming.counters g.J.Naming.copy g.J.Naming.kind log h × AreTokensOf c.front.inside.actor h.held) c.front.inside.tokens c.take.result mine c.take.ensures.value c.in-Some.is c.front.invariant.2 in
    let a = c.view-tokens.ensures in let r = c.view-tokens.result.0 in let new = c.view-tokens.new.seen.log in
    let from : IsPrefix log new = prefix_trans log c.learn.new.self.log new c.learn.ensures.2 a.seen in
    let from2 : IsPrefix log2 new = prefix_trans log2 c.learn.new.self.log new c.learn.ensures.3 a.seen in
    let agree : Agree (counts new) (mine.held ++ theirs.held) = subst (Agree (counts new)) c.join.ensures.3 a.agree in
    let held : r.held ≡ at (counts new) (mine.held ++ theirs.held) = a.held.0 ∙ ap (at (counts new)) c.join.ensures.3 in
    let made = stays theirs.held log2 new from2 o.right (agree-right (counts new) mine.held theirs.held agree) in
    made

pub returns-in-Some-clause-apart : goal.returns-in-Some-clause-apart
returns-in-Some-clause-apart g c =
    let new = c.view-tokens.new.seen.log in
    let same : keys c.view-tokens.result.0.held ≡ keys c.join.result.held = ap keys c.view-tokens.ensures.held.0 ∙ at-same-keys (counts new) c.join.result.held in
    subst (IsDistinct nat_eq) (sym same) c.view-tokens.ensures.apart
