-- Text is bytes, and its lines and words are text.
use Rattle.std.proofs.Common.{◌≡◌, ℕ, zero, suc, ◌+◌, ◌/◌, ◌%◌, ◌<◌, ◌≤◌, ◌==◌, ◌&&◌, Bool, true, false, cond, ltb, List, [], ◌∷◌, ◌++◌, length, inl, inr, refl, subst, arith}
use lib.Utf8.{scalar, scalars, encode, encodes, scalar_cases}
use Rattle.std.specs.List.{AllByRecursion, slice_split, onto_first}
use Rattle.std.specs.Str.{IsUtf8}
use Rattle.std.proofs.lemmas.Bool.{ltb-true}
use Rattle.hex.specs.Hex.{IsBytes}

both : (a b : Bool) → (a && b) ≡ true → (a ≡ true) × (b ≡ true)
both true b h = (refl, h)
both false b h = absurd cc

joins : (P : ℕ → Type 0) (xs ys : List ℕ) → AllByRecursion P xs → AllByRecursion P ys → AllByRecursion P (xs ++ ys)
joins P [] ys h k = k
joins P (x ∷ xs) ys h k = (h.0, joins P xs ys h.1 k)

abbrev AreBytes : List ℕ → Type 0
AreBytes xs = AllByRecursion (λ b. b < 256) xs

-- the bytes of a character by the range that it is in
encoded : (c : ℕ) (x y z : Bool) → c < 1114112 → ltb c 128 ≡ x → ltb c 2048 ≡ y → ltb c 65536 ≡ z
    → AreBytes (cond x (c ∷ []) (cond y ((192 + c / 64) ∷ (128 + c % 64) ∷ []) (cond z ((224 + c / 4096) ∷ (128 + (c / 64) % 64) ∷ (128 + c % 64) ∷ []) ((240 + c / 262144) ∷ (128 + (c / 4096) % 64) ∷ (128 + (c / 64) % 64) ∷ (128 + c % 64) ∷ []))))
encoded c true y z fits p q r = let h = ltb-true c 128 p in (omega arith, tt)
encoded c false true z fits p q r = let h = ltb-true c 2048 q in (omega arith, (omega arith, tt))
encoded c false false true fits p q r = let h = ltb-true c 65536 r in (omega arith, (omega arith, (omega arith, tt)))
encoded c false false false fits p q r = (omega arith, (omega arith, (omega arith, (omega arith, tt))))

encode_bytes : (c : ℕ) → c < 1114112 → AreBytes (encode c)
unfolding encode
encode_bytes c fits = encoded c (ltb c 128) (ltb c 2048) (ltb c 65536) fits refl refl refl

scalar_small : (c : ℕ) → scalar c ≡ true → c < 1114112
scalar_small c s =
    elim (scalar_cases c s) [
      | inl low ↦ omega arith
      | inr high ↦ high.1
    ]

encodes_bytes : (cs : List ℕ) → scalars cs ≡ true → AreBytes (encodes cs)
encodes_bytes [] s = tt
encodes_bytes (c ∷ cs) s =
    let p = both (scalar c) (scalars cs) s in
    joins (λ b. b < 256) (encode c) (encodes cs) (encode_bytes c (scalar_small c p.0)) (encodes_bytes cs p.1)

pub utf8_bytes : (w : List ℕ) → IsUtf8 w → AreBytes w
utf8_bytes w u =
    let (cs, p) = u in
    subst (λ xs. AllByRecursion (λ b. b < 256) xs) p.1 (encodes_bytes cs p.0)

pub are_bytes : (xs : List ℕ) → AllByRecursion (λ b. b < 256) xs → IsBytes xs
are_bytes [] h i = omega arith
are_bytes (b ∷ bs) h zero = h.0
are_bytes (b ∷ bs) h (suc i) = are_bytes bs h.1 i

-- the pieces of a list are no longer than it
abbrev pub total : List (List ℕ) → ℕ
total [] = 0
total (x ∷ xs) = length x + total xs

onto_total : (b : ℕ) (parts : List (List ℕ)) → total (onto_first b parts) ≤ 1 + total parts
onto_total b [] = omega arith
onto_total b (p ∷ ps) = omega arith

step_total : (t : Bool) (b : ℕ) (parts : List (List ℕ)) (n : ℕ) → total parts ≤ n → total (cond t ([] ∷ parts) (onto_first b parts)) ≤ suc n
step_total true b parts n h = omega arith
step_total false b parts n h = let k = onto_total b parts in omega (arith, k)

pub split_total : (c : ℕ) (xs : List ℕ) → total (slice_split (λ b. b == c) xs) ≤ length xs
split_total c [] = omega arith
split_total c (x ∷ xs) = step_total (x == c) x (slice_split (λ b. b == c) xs) (length xs) (split_total c xs)
