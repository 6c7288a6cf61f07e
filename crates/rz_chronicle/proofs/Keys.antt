-- Keys, and how many events of each a log has.
use Rattle.std.proofs.Common.{◌≡◌, ◌≢◌, ◌==◌, ◌||◌, ℕ, ◌+◌, ◌<◌, ◌^◌, nat_lt, Bool, true, false, List, [], ◌∷◌, ◌++◌, cond, sym, refl, ap, ap₂, ◌∙◌, subst, inl, inr, arith}
use Rattle.std.specs.Prelude.{IsTrue}
use Rattle.std.specs.List.{AllByRecursion}
use Rattle.std.proofs.lemmas.Bool.Decides.{nat_tests}
use Rattle.std.proofs.lemmas.Bool.{eqb-true}
use Rattle.std.proofs.lemmas.List.Sums.{sum_by-append}
use Rattle.rz_events.specs.declared.keys.Actor.{Actor}
use Rattle.rz_events.specs.declared.events.Word.{Word}
use Rattle.rz_events.specs.declared.events.Word.TheVariants.{Export, Node, Own}
use Rattle.rz_events.specs.declared.events.Event.{Event}
use Rattle.rz_events.specs.Events.{by_of, word_of}
use Rattle.rz_chronicle.specs.Keys.{touches, count_at, word_key, actor_key, rows, IsInRow}
use Rattle.rz_chronicle.specs.Tokens.{at, Agree, IsHolding, HasCount, Covers, notes, held_in, mark}

pub count-append : (k : ℕ) (xs ys : List Event) → count_at k (xs ++ ys) ≡ count_at k xs + count_at k ys
count-append k xs ys = sum_by-append (λ (e : Event). cond (touches k e) 1 0) xs ys

pub count-other : (k : ℕ) (xs : List Event) (e : Event) → touches k e ≡ false → count_at k (xs ++ e ∷ []) ≡ count_at k xs
count-other k xs e off =
    let one : count_at k (e ∷ []) ≡ 0 = rw off refl in
    count-append k xs (e ∷ []) ∙ (ap (λ (n : ℕ). count_at k xs + n) one ∙ omega arith)

pub count-same : (k : ℕ) (xs : List Event) (e : Event) → touches k e ≡ true → count_at k (xs ++ e ∷ []) ≡ count_at k xs + 1
count-same k xs e on =
    let one : count_at k (e ∷ []) ≡ 1 = rw on refl in
    count-append k xs (e ∷ []) ∙ ap (λ (n : ℕ). count_at k xs + n) one

-- a key whose count the event changes is held
pub outside : (held : List (ℕ × ℕ)) (e : Event) (xs : List Event) → Covers held e → (k : ℕ) → mathlib.Core.Logic.◌⊎◌ (IsHolding k held) (count_at k xs ≡ count_at k (xs ++ e ∷ []))
outside held e xs covers k = go (word_key (word_of e) == k) (actor_key (by_of e) == k) refl refl
  where
    go : (a b : Bool) → (word_key (word_of e) == k) ≡ a → (actor_key (by_of e) == k) ≡ b → mathlib.Core.Logic.◌⊎◌ (IsHolding k held) (count_at k xs ≡ count_at k (xs ++ e ∷ []))
    go true b is is2 = inl (subst (λ (j : ℕ). IsHolding j held) (eqb-true (word_key (word_of e)) k is) covers.0)
    go false true is is2 = inl (subst (λ (j : ℕ). IsHolding j held) (eqb-true (actor_key (by_of e)) k is2) covers.1)
    go false false is is2 = inr (sym (count-other k xs e (ap₂ (λ (x y : Bool). x || y) is is2)))

pub notes-back : (held : List (ℕ × ℕ)) → held_in (notes held) ≡ held
notes-back [] = refl
notes-back (x ∷ held) = ap (λ (rest : List (ℕ × ℕ)). x ∷ rest) (notes-back held)

pub at-at : (f g : ℕ → ℕ) (held : List (ℕ × ℕ)) → at g (at f held) ≡ at g held
at-at f g [] = refl
at-at f g (x ∷ held) = ap (λ (rest : List (ℕ × ℕ)). (x.0, g x.0) ∷ rest) (at-at f g held)

-- what holds of keys alone
pub at-keys : (P : ℕ → Type 0) (f : ℕ → ℕ) (held : List (ℕ × ℕ)) → AllByRecursion (λ (x : ℕ × ℕ). P x.0) held → AllByRecursion (λ (x : ℕ × ℕ). P x.0) (at f held)
at-keys P f [] all = tt
at-keys P f (x ∷ held) all = (all.0, at-keys P f held all.1)

pub at-holding : (k : ℕ) (f : ℕ → ℕ) (held : List (ℕ × ℕ)) → IsHolding k held → IsHolding k (at f held)
at-holding k f [] h = h
at-holding k f (x ∷ held) h = elim h [ inl e ↦ inl e | inr rest ↦ inr (at-holding k f held rest) ]

-- no actor's key is a word's
pub apart : (a : Actor) (w : Word) → actor_key a ≢ word_key w
apart a Export e = absurd (omega (arith, e))
apart a (Node n) e = absurd (omega (arith, e))
apart a (Own b) e = absurd (omega (arith, e))

pub touches-own : (e : Event) → touches (word_key (word_of e)) e ≡ true
touches-own e =
    let on : (word_key (word_of e) == word_key (word_of e)) ≡ true = grind (arith, nat_tests) in
    ap (λ (b : Bool). b || (actor_key (by_of e) == word_key (word_of e))) on

pub touches-other : (w : Word) (e : Event) → word_key w ≢ word_key (word_of e) → touches (word_key w) e ≡ false
touches-other w e differ =
    let a : (word_key (word_of e) == word_key w) ≡ false = grind (arith, nat_tests, differ) in
    let b : (actor_key (by_of e) == word_key w) ≡ false = grind (arith, nat_tests, apart (by_of e) w) in
    ap₂ (λ (x y : Bool). x || y) a b

pub has-agreed : (f : ℕ → ℕ) (held : List (ℕ × ℕ)) (k n : ℕ) → HasCount held k n → Agree f held → f k ≡ n
has-agreed f [] k n h all = absurd h
has-agreed f (x ∷ held) k n h all = elim h [
  | inl e ↦ subst (λ (y : ℕ × ℕ). f y.0 ≡ y.1) e all.0
  | inr rest ↦ has-agreed f held k n rest all.1
]

pub mark-out : IsInRow mark → ⊥
unfolding rows
mark-out h = absurd (omega (arith, h))

-- a word that has moved so often can move once more
pub room-64 : (m n : ℕ) → m ≡ n → (IsTrue (nat_lt m 18446744073709551615) → n + 1 < 2 ^ 64) × (n + 1 < 2 ^ 64 → IsTrue (nat_lt m 18446744073709551615))
room-64 m n is = (λ h. grind (arith, nat_tests, is, h), λ h. grind (arith, nat_tests, is, h))

pub room-62 : (m n : ℕ) → m ≡ n → (IsTrue (nat_lt m 4611686018427387903) → n + 1 < 2 ^ 62) × (n + 1 < 2 ^ 62 → IsTrue (nat_lt m 4611686018427387903))
room-62 m n is = (λ h. grind (arith, nat_tests, is, h), λ h. grind (arith, nat_tests, is, h))
