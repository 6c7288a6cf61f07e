-- One rule for books whose logs begin anew and for those that go on; and the room that is left behind an earlier log.
use Rattle.std.proofs.Common.{◌≡◌, ℕ, Bool, true, false, not, ◌&&◌, ◌+◌, ◌-◌, ◌≤◌, List, [], ◌∷◌, ◌++◌, length, cond, sym, ap, ap₂, subst, ◌∙◌, arith, true≢false}
use Rattle.std.specs.Prelude.{IsTrue}
use Rattle.std.specs.List.{filter}
use Rattle.std.proofs.lemmas.Bool.{and_parts}
use Rattle.std.proofs.lemmas.List.{append-nil}
use Rattle.rz_events.specs.declared.events.Event.{Event}
use Rattle.rz_events.specs.Events.{by_of, word_of, same_word}
use Rattle.rz_events.specs.Volume.{Volume}
use Rattle.rz_core.specs.History.{of_actor}
use Rattle.rz_core.specs.Legal.{IsLegal, IsAllowed, IsLegalAfter, IsAllowedIn}
use Rattle.rz_chronicle.specs.Kinds.{volume_in, earlier_in, keeps_legal, is_none, is_honest, goes_on, HasEarlierLog, Fits, MayFit}
use Rattle.rz_chronicle.specs.Laws.{IsAnew, IsRoomy, IsOneRule}
use Rattle.rz_chronicle.proofs.Same.{few-of-word}
use Rattle.rz_chronicle.proofs.Numbers.{some-numbers, one-earlier}

-- a log that begins anew goes on after an empty one
anew-after : (v : Volume) (h : List Event) → IsLegal v h → IsLegalAfter v [] h
anew-after v [] legal = tt
anew-after v (x ∷ h) legal = (anew-after v h legal.0, subst (λ (z : List Event). IsAllowedIn v z (of_actor (by_of x) h) x) (sym (append-nil h)) legal.1)

honest-so : (kind : List ℕ) → IsTrue (keeps_legal kind) → is_none (earlier_in kind) ≡ true → IsTrue (is_honest kind)
honest-so kind keeps none = ap₂ (λ (a b : Bool). a && b) keeps none

on-so : (kind : List ℕ) → IsTrue (keeps_legal kind) → is_none (earlier_in kind) ≡ false → IsTrue (goes_on kind)
on-so kind keeps some = ap₂ (λ (a b : Bool). a && not b) keeps some

some-earlier : (kind : List ℕ) (x : Event) (earlier : List Event) → HasEarlierLog kind (x ∷ earlier) → is_none (earlier_in kind) ≡ false
some-earlier kind x earlier is = ap is_none is.numbers ∙ some-numbers x earlier

legal-after : (kind : List ℕ) (earlier h : List Event) → HasEarlierLog kind earlier → IsTrue (keeps_legal kind) → Fits kind h → IsLegalAfter (volume_in kind) earlier h
legal-after kind [] h is keeps fit = anew-after (volume_in kind) h (fit.0 (honest-so kind keeps (ap is_none is.numbers)))
legal-after kind (x ∷ earlier) h is keeps fit = fit.1 (on-so kind keeps (some-earlier kind x earlier is)) (x ∷ earlier) is

may-anew : (kind : List ℕ) (earlier h : List Event) (x : Event) → HasEarlierLog kind earlier
    → (IsTrue (keeps_legal kind) → IsAllowedIn (volume_in kind) (h ++ earlier) (of_actor (by_of x) h) x) → IsTrue (is_honest kind) → IsAllowed (volume_in kind) h x
may-anew kind [] h x is may honest = subst (λ (z : List Event). IsAllowedIn (volume_in kind) z (of_actor (by_of x) h) x) (append-nil h) (may (and_parts _ _ honest).0)
may-anew kind (y ∷ earlier) h x is may honest = absurd (true≢false (sym (and_parts _ _ honest).1 ∙ some-earlier kind y earlier is))

may-fit : (kind : List ℕ) (earlier h : List Event) (x : Event) → HasEarlierLog kind earlier
    → (IsTrue (keeps_legal kind) → IsAllowedIn (volume_in kind) (h ++ earlier) (of_actor (by_of x) h) x) → MayFit kind h x
may-fit kind earlier h x is may = (
  may-anew kind earlier h x is may,
  (λ on e its. subst (λ (z : List Event). IsAllowedIn (volume_in kind) (h ++ z) (of_actor (by_of x) h) x) (one-earlier kind earlier e is its) (may (and_parts _ _ on).0)),
)

pub anew : IsAnew
anew kind h x is on = let none : is_none (earlier_in kind) ≡ true = ap is_none is.numbers in absurd (true≢false (sym (and_parts _ _ on).1 ∙ ap not none))

pub one-rule : IsOneRule
one-rule = record { legal = legal-after; may = may-fit }

-- Room.

few : (p : Event → Bool) (h : List Event) → length (filter p h) ≤ length h
few p [] = omega arith
few p (x ∷ h) = go (p x) (few p h)
  where
    go : (b : Bool) → length (filter p h) ≤ length h → length (cond b (x ∷ filter p h) (filter p h)) ≤ length (x ∷ h)
    go true l = omega (arith, l)
    go false l = omega (arith, l)

few-of-both : (p : Event → Bool) (h earlier : List Event) → length (filter p (h ++ earlier)) ≤ length (filter p h) + length earlier
few-of-both p [] earlier = omega (arith, few p earlier)
few-of-both p (x ∷ h) earlier = go (p x) (few-of-both p h earlier)
  where
    go : (b : Bool) → length (filter p (h ++ earlier)) ≤ length (filter p h) + length earlier
        → length (cond b (x ∷ filter p (h ++ earlier)) (filter p (h ++ earlier))) ≤ length (cond b (x ∷ filter p h) (filter p h)) + length earlier
    go true l = omega (arith, l)
    go false l = omega (arith, l)

pub roomy : IsRoomy
roomy kind w h earlier is low =
    let all = few-of-both (λ x. same_word w (word_of x)) h earlier in
    let own = few-of-word w h in
    let short = is.short in
    omega (arith, all, own, short, low)
