-- The mask of the numbers that pass a test.
use Rattle.std.proofs.Common.{◌≡◌, ◌≢◌, ℕ, ◌+◌, ◌*◌, ◌%◌, ◌^◌, ◌<◌, Bool, true, false, sym, arith, ap, ◌∙◌, inl, inr, ◌⊎◌, ◌↔◌, w16, bit_or}
use Rattle.std.specs.Int.{bit_at}
use Rattle.std.proofs.lemmas.Bool.{cases_eq, false≢true}
use Rattle.std.proofs.lemmas.Nat.Bits.{bit_at_set_same, bit_at_set_other}

-- bit p is 1 exactly where p is one of the first i numbers and passes
abbrev pub Names : ℕ → ℕ → (ℕ → Bool) → Type 0
Names mask i test = (p : ℕ) → (bit_at mask p ≡ 1) ↔ ((p < i) × (test p ≡ true))

pub names-more : (mask i : ℕ) (test : ℕ → Bool) → i < 16 → test i ≡ true → Names mask i test → Names (bit_or mask (1 * 2 ^ i % 2 ^ 16)) (i + 1) test
names-more mask i test small pass names p = by_place (cases_eq p i)
  where
    more : ℕ
    more = bit_or mask (1 * 2 ^ i % 2 ^ 16)

    by_place : (p ≡ i) ⊎ (p ≡ i → ⊥) → (bit_at more p ≡ 1) ↔ ((p < i + 1) × (test p ≡ true))
    by_place (inl e) = (λ b. (omega (arith, e), ap test e ∙ pass), λ h. ap (bit_at more) e ∙ bit_at_set_same w16 mask i small)
    by_place (inr ne) =
        let other : bit_at more p ≡ bit_at mask p = bit_at_set_other w16 mask i small p ne in
        let before = names p in
        let apart : p ≢ i = ne in (
          λ b. (let q = before.0 (sym other ∙ b) in (let low = q.0 in omega (arith, low), q.1)),
          λ h. other ∙ before.1 (let low = h.0 in omega (arith, low, apart), h.1),
        )

pub names-same : (mask i : ℕ) (test : ℕ → Bool) → test i ≡ false → Names mask i test → Names mask (i + 1) test
names-same mask i test fail names p = by_place (cases_eq p i)
  where
    by_place : (p ≡ i) ⊎ (p ≡ i → ⊥) → (bit_at mask p ≡ 1) ↔ ((p < i + 1) × (test p ≡ true))
    by_place (inl e) = (
      λ b. (let q = (names p).0 b in let low = q.0 in absurd (omega (arith, low, e))),
      λ h. absurd (false≢true (sym fail ∙ sym (ap test e) ∙ h.1)),
    )
    by_place (inr ne) =
        let before = names p in
        let apart : p ≢ i = ne in (
          λ b. (let q = before.0 b in (let low = q.0 in omega (arith, low), q.1)),
          λ h. before.1 (let low = h.0 in omega (arith, low, apart), h.1),
        )
