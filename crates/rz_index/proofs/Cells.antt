-- Free cells, given out and taken back.
use Rattle.std.proofs.Common.{◌≡◌, ℕ, zero, suc, ◌+◌, ◌<◌, ◌≤◌, Bool, true, false, cond, List, [], ◌∷◌, ◌++◌, length, get_or, Option, Some, OnSome, subst, sym, ap, ◌∙◌, refl, arith, eqb-true, eq-eqb}
use Rattle.std.specs.Prelude.{◌==◌}
use Rattle.std.specs.List.{remove, Contains, range_with_len}
use Rattle.std.proofs.lemmas.List.{get_or_default}
use Rattle.rz_index.specs.Indexed.{erase}

abbrev pub NoneBefore : List ℕ → ℕ → ℕ → Type 0
NoneBefore xs c i = (k : ℕ) → k < i → get_or xs k 0 ≡ c → ⊥

pub not-same : (a b : ℕ) → (a ≡ b → ⊥) → (a == b) ≡ false
not-same a b h = go (a == b) refl
  where
    go : (t : Bool) → (a == b) ≡ t → t ≡ false
    go true is = absurd (h (eqb-true a b is))
    go false is = refl

pub erase-first : (xs : List ℕ) (c i : ℕ) → i < length xs → get_or xs i 0 ≡ c → NoneBefore xs c i → erase c xs ≡ remove xs i
erase-first [] c i lt is none = absurd (omega arith)
erase-first (x ∷ xs) c zero lt is none = ap (λ b. cond b xs (x ∷ erase c xs)) (eq-eqb x c is)
erase-first (x ∷ xs) c (suc i) lt is none =
    ap (λ b. cond b xs (x ∷ erase c xs)) (not-same x c (none 0 (omega arith)))
    ∙ ap (λ ys. x ∷ ys) (erase-first xs c i (omega arith) is (λ k below. none (suc k) (omega arith)))

pub must-stand : (xs : List ℕ) (c i : ℕ) → Contains xs c → length xs ≤ i → NoneBefore xs c i → ⊥
must-stand xs c i there past none = none there.0 (omega (arith, there.1)) (sym (get_or_default xs there.0 c 0 there.1) ∙ there.2)

-- what is true where something was taken out
pub taken_out : (o : Option ℕ) (x : ℕ) {P : Type 0} → o ≡ Some x → OnSome o P → P
taken_out o x {P} is holds = subst (λ (p : Option ℕ). OnSome p P) is holds

pub at_most : (b : Bool) (n m : ℕ) → m ≡ cond b (n + 1) n → m ≤ n + 1
at_most true n m is = omega arith
at_most false n m is = omega arith

range_front : (a n : ℕ) → range_with_len a (suc n) ≡ range_with_len a n ++ (a + n) ∷ []
range_front a zero = ap (λ k. k ∷ []) (let e : a ≡ a + 0 = omega arith in e)
range_front a (suc n) = ap (λ xs. a ∷ xs) (range_front (a + 1) n ∙ ap (λ k. range_with_len (a + 1) n ++ k ∷ []) (let e : a + 1 + n ≡ a + suc n = omega arith in e))

pub one-cell-more : (n : ℕ) → range_with_len 0 (n + 1) ≡ range_with_len 0 n ++ n ∷ []
one-cell-more n = ap (range_with_len 0) (let e : n + 1 ≡ suc n = omega arith in e) ∙ range_front 0 n ∙ ap (λ k. range_with_len 0 n ++ k ∷ []) (let e : 0 + n ≡ n = omega arith in e)
