-- Positions that were not asked yet, in the order in which they are asked.
use Rattle.std.proofs.Common.{◌≡◌, ℕ, zero, suc, ◌+◌, ◌-◌, ◌^◌, ◌<◌, ◌≤◌, ◌≢◌, Bool, true, false, cond, List, [], ◌∷◌, ◌++◌, length, drop, get_or, min, arith, rules, ap, ◌∙◌, sym, refl, eqb, w16, inl, inr, bit_and}
use Rattle.std.specs.Prelude.{filter, not, ◌&&◌, bit_xor}
use Rattle.std.specs.List.{range_with_len}
use Rattle.std.specs.Int.{bit_at}
use Rattle.std.specs.Int.Count.{count_trailing_zeros}
use Rattle.std.proofs.lemmas.Nat.{and_le_l}
use Rattle.std.proofs.Math.Pow.{pow_mono}
use Rattle.std.proofs.lemmas.Bool.{cases_lt}
use Rattle.std.proofs.lemmas.Bool.Decides.{nat_tests}
use Rattle.std.proofs.lemmas.Nat.Bits.{bit_at-trailing_zeros, bit_at_and, bit_at_xor, bit_at-pow_other, bit_at-pow_same, bit_at-lt, bit_at-zero, bit_at_ones}
use Rattle.std.proofs.lemmas.List.{drop_more, drop_all}
use Rattle.std.proofs.lemmas.List.Filters.{length-filter_both}
use Rattle.std.proofs.lemmas.List.FromFn.{length-range_with_len}
use Rattle.std.proofs.Math.ListN.{length-append}
use Rattle.mj_angles.specs.declared.layout.Layout.{Layout}
use Rattle.mj_angles.specs.Layout.{safe_of}
use Rattle.rz_block_io_laws.specs.Reads.{order}
use Rattle.rz_events.specs.Masks.{has_bit}
use Rattle.rz_client_model.proofs.Masks.{in-below}

-- Filters of a range.

kept-none : (test : ℕ → Bool) (a n : ℕ) → ((p : ℕ) → test p ≡ false) → filter test (range_with_len a n) ≡ []
kept-none test a zero h = refl
kept-none test a (suc n) h =
    ap (λ b. cond b (a ∷ filter test (range_with_len (a + 1) n)) (filter test (range_with_len (a + 1) n))) (h a) ∙ kept-none test (a + 1) n h

kept-same : (test test' : ℕ → Bool) (a n : ℕ) → ((p : ℕ) → a ≤ p → p < a + n → test p ≡ test' p) →
    filter test (range_with_len a n) ≡ filter test' (range_with_len a n)
kept-same test test' a zero h = refl
kept-same test test' a (suc n) h =
    ap (λ b. cond b (a ∷ filter test (range_with_len (a + 1) n)) (filter test (range_with_len (a + 1) n))) (h a (omega arith) (omega arith))
    ∙ ap (λ (xs : List ℕ). cond (test' a) (a ∷ xs) xs) (kept-same test test' (a + 1) n (λ p low high. h p (omega (arith, low)) (omega (arith, high))))

-- the least number that passes comes first, and the others stay
kept-first : (test test' : ℕ → Bool) (a n p : ℕ) → a ≤ p → p < a + n → test p ≡ true → ((q : ℕ) → q < p → test q ≡ false) →
    test' p ≡ false → ((q : ℕ) → q ≢ p → test q ≡ test' q) →
    filter test (range_with_len a n) ≡ p ∷ filter test' (range_with_len a n)
kept-first test test' a zero p low high is least gone others = absurd (omega (arith, low, high))
kept-first test test' a (suc n) p low high is least gone others = elim (cases_lt a p) [
  | inl below ↦
      let out : test a ≡ false = least a below in
      let apart : a ≢ p = λ e. omega (arith, e, below) in
      let out' : test' a ≡ false = sym (others a apart) ∙ out in
      ap (λ b. cond b (a ∷ filter test (range_with_len (a + 1) n)) (filter test (range_with_len (a + 1) n))) out
      ∙ kept-first test test' (a + 1) n p (omega (arith, below)) (omega (arith, high)) is least gone others
      ∙ ap (λ (xs : List ℕ). p ∷ xs) (sym (ap (λ b. cond b (a ∷ filter test' (range_with_len (a + 1) n)) (filter test' (range_with_len (a + 1) n))) out'))
  | inr above ↦
      let same : a ≡ p = omega (arith, low, above) in
      let here : test a ≡ true = ap test same ∙ is in
      let out' : test' a ≡ false = ap test' same ∙ gone in
      ap (λ b. cond b (a ∷ filter test (range_with_len (a + 1) n)) (filter test (range_with_len (a + 1) n))) here
      ∙ ap (λ (xs : List ℕ). a ∷ xs) (kept-same test test' (a + 1) n (λ q from to. others q (λ e. omega (arith, e, from, same))))
      ∙ ap (λ (x : ℕ). x ∷ filter test' (range_with_len (a + 1) n)) same
      ∙ ap (λ (xs : List ℕ). p ∷ xs) (sym (ap (λ b. cond b (a ∷ filter test' (range_with_len (a + 1) n)) (filter test' (range_with_len (a + 1) n))) out'))
]

-- Those of the positions that are left that pass a test.

abbrev pub part : ℕ → (ℕ → Bool) → ℕ → List ℕ
part left test n = filter (λ q. has_bit left q && test q) (range_with_len 0 n)

and-false : (b : Bool) → (b && false) ≡ false
and-false true = refl
and-false false = refl

and-same : (b x x' : Bool) → (b ≡ true → x ≡ x') → (x && b) ≡ (x' && b)
and-same true x x' h = ap (λ y. y && true) (h refl)
and-same false x x' h = and-false x ∙ sym (and-false x')

-- a position that was not asked stays left where another is asked
still : (left p q : ℕ) → q ≢ p → has_bit left q ≡ has_bit (bit_xor left (2 ^ p)) q
still left p q apart =
    let e : bit_at left q ≡ bit_at (bit_xor left (2 ^ p)) q = omega (arith, bit_at_xor left (2 ^ p) q, bit_at-pow_other p q apart, bit_at-lt left q) in
    ap (λ x. eqb x 1) e

gone : (left p : ℕ) → bit_at left p ≡ 1 → has_bit (bit_xor left (2 ^ p)) p ≡ false
gone left p h =
    let e : bit_at (bit_xor left (2 ^ p)) p ≡ 0 = omega (arith, bit_at_xor left (2 ^ p) p, bit_at-pow_same p, h) in
    ap (λ x. eqb x 1) e

part-first : (left : ℕ) (test : ℕ → Bool) (n p : ℕ) → p < n → bit_at left p ≡ 1 → test p ≡ true → ((q : ℕ) → q < p → (has_bit left q && test q) ≡ false) →
    part left test n ≡ p ∷ part (bit_xor left (2 ^ p)) test n
part-first left test n p within h passes least =
    kept-first (λ q. has_bit left q && test q) (λ q. has_bit (bit_xor left (2 ^ p)) q && test q) 0 n p (omega arith) (omega (arith, within))
    (ap (λ x. eqb x 1 && test p) h ∙ passes) least (ap (λ b. b && test p) (gone left p h))
    (λ q apart. ap (λ b. b && test q) (still left p q apart))

part-same : (left : ℕ) (test : ℕ → Bool) (n p : ℕ) → test p ≡ false → part left test n ≡ part (bit_xor left (2 ^ p)) test n
part-same left test n p fails =
    kept-same (λ q. has_bit left q && test q) (λ q. has_bit (bit_xor left (2 ^ p)) q && test q) 0 n
    (λ q low high. and-same (test q) (has_bit left q) (has_bit (bit_xor left (2 ^ p)) q)
    (λ is. still left p q (λ e. (let z : false ≡ true = sym fails ∙ ap test (sym e) ∙ is in cc))))

-- All positions that are left, in the order in which they are asked.

abbrev pub pending : ℕ → ℕ → ℕ → List ℕ
pending left mask n = part left (has_bit mask) n ++ part left (λ q. not (has_bit mask q)) n

pub pending-none : (mask n : ℕ) → pending 0 mask n ≡ []
pending-none mask n =
    ap (λ (xs : List ℕ). xs ++ part 0 (λ q. not (has_bit mask q)) n)
    (kept-none (λ q. has_bit 0 q && has_bit mask q) 0 n (λ p. ap (λ x. eqb x 1 && has_bit mask p) (bit_at-zero p)))
    ∙ kept-none (λ q. has_bit 0 q && not (has_bit mask q)) 0 n (λ p. ap (λ x. eqb x 1 && not (has_bit mask p)) (bit_at-zero p))

all-left : (test : ℕ → Bool) (n : ℕ) → part (2 ^ n - 1) test n ≡ filter test (range_with_len 0 n)
all-left test n =
    kept-same (λ q. has_bit (2 ^ n - 1) q && test q) test 0 n (λ p low high. ap (λ x. eqb x 1 && test p) (bit_at_ones n p (omega (arith, high))))

pub pending-all : (layout : Layout) (mask : ℕ) → pending (2 ^ safe_of layout - 1) mask (safe_of layout) ≡ order layout mask
pending-all layout mask =
    ap (λ (xs : List ℕ). xs ++ part (2 ^ safe_of layout - 1) (λ q. not (has_bit mask q)) (safe_of layout)) (all-left (has_bit mask) (safe_of layout))
    ∙ ap (λ (xs : List ℕ). filter (has_bit mask) (range_with_len 0 (safe_of layout)) ++ xs) (all-left (λ q. not (has_bit mask q)) (safe_of layout))

pub length-order : (layout : Layout) (mask : ℕ) → length (order layout mask) ≡ safe_of layout
length-order layout mask =
    let xs = range_with_len 0 (safe_of layout) in
    length-append (filter (has_bit mask) xs) (filter (λ q. not (has_bit mask q)) xs)
    ∙ length-filter_both (has_bit mask) (λ q. not (has_bit mask q)) (λ q. refl) xs
    ∙ length-range_with_len 0 (safe_of layout)

both-not : (x y : ℕ) → min x y ≡ 0 → (eqb x 1 && eqb y 1) ≡ false
both-not zero y h = refl
both-not (suc x) zero h = and-false (eqb (suc x) 1)
both-not (suc x) (suc y) h = absurd (omega (arith, h))

-- the position that comes next
abbrev pub least_pending : ℕ → ℕ → ℕ
least_pending left mask = count_trailing_zeros 16 (cond (eqb (bit_and left mask) 0) left (bit_and left mask))

module _ (left mask n : ℕ) (some : 0 < left) (few : left < 2 ^ n) (most : n ≤ 16) where
  small : left < 2 ^ 16
  small = omega (arith, few, pow_mono {i = n} {j = 16} most)

  -- a published position is left
  published : 0 < bit_and left mask → (let p = count_trailing_zeros 16 (bit_and left mask) in
      (bit_at left p ≡ 1) × (pending left mask n ≡ p ∷ pending (bit_xor left (2 ^ p)) mask n))
  published has =
      let p = count_trailing_zeros 16 (bit_and left mask) in
      let least = bit_at-trailing_zeros w16 (bit_and left mask) has (omega (arith, and_le_l left mask, small)) in
      let here : bit_at left p ≡ 1 = omega (arith, bit_at_and left mask p, least.1, bit_at-lt left p, bit_at-lt mask p) in
      let named : bit_at mask p ≡ 1 = omega (arith, bit_at_and left mask p, least.1, bit_at-lt left p, bit_at-lt mask p) in
      let passes : has_bit mask p ≡ true = ap (λ x. eqb x 1) named in (
        here,
        ap (λ (xs : List ℕ). xs ++ part left (λ q. not (has_bit mask q)) n)
            (part-first left (has_bit mask) n p (in-below left n p few here) here passes
            (λ q below. both-not (bit_at left q) (bit_at mask q) (sym (bit_at_and left mask q) ∙ least.2 q below)))
            ∙ ap (λ (xs : List ℕ). p ∷ part (bit_xor left (2 ^ p)) (has_bit mask) n ++ xs)
            (part-same left (λ q. not (has_bit mask q)) n p (ap not passes)),
      )

  -- no published position is left
  unpublished : bit_and left mask ≡ 0 → (let p = count_trailing_zeros 16 left in
      (bit_at left p ≡ 1) × (pending left mask n ≡ p ∷ pending (bit_xor left (2 ^ p)) mask n))
  unpublished none =
      let p = count_trailing_zeros 16 left in
      let least = bit_at-trailing_zeros w16 left some small in
      let apart : (q : ℕ) → min (bit_at left q) (bit_at mask q) ≡ 0 = λ q. sym (bit_at_and left mask q) ∙ ap (λ m. bit_at m q) none ∙ bit_at-zero q in
      let out : bit_at mask p ≡ 0 = omega (arith, apart p, least.1) in
      let fails : has_bit mask p ≡ false = ap (λ x. eqb x 1) out in
      let empty : part left (has_bit mask) n ≡ [] = kept-none (λ q. has_bit left q && has_bit mask q) 0 n (λ q. both-not (bit_at left q) (bit_at mask q) (apart q)) in
      let empty' : part (bit_xor left (2 ^ p)) (has_bit mask) n ≡ [] = sym (part-same left (has_bit mask) n p fails) ∙ empty in (
        least.1,
        ap (λ (xs : List ℕ). xs ++ part left (λ q. not (has_bit mask q)) n) empty
            ∙ part-first left (λ q. not (has_bit mask q)) n p (in-below left n p few least.1) least.1 (ap not fails)
            (λ q below. ap (λ x. eqb x 1 && not (has_bit mask q)) (least.2 q below))
            ∙ ap (λ (xs : List ℕ). p ∷ xs ++ part (bit_xor left (2 ^ p)) (λ q. not (has_bit mask q)) n) (sym empty'),
      )

  next-at : (b : Bool) → eqb (bit_and left mask) 0 ≡ b → (let p = count_trailing_zeros 16 (cond b left (bit_and left mask)) in
      (bit_at left p ≡ 1) × (pending left mask n ≡ p ∷ pending (bit_xor left (2 ^ p)) mask n))
  next-at true e = let none : bit_and left mask ≡ 0 = search (rules, nat_tests) in unpublished none
  next-at false e = let has : bit_and left mask ≢ 0 = search (rules, nat_tests) in published (omega (arith, has))

  pub pending-next : (bit_at left (least_pending left mask) ≡ 1) × (pending left mask n ≡ least_pending left mask ∷ pending (bit_xor left (2 ^ least_pending left mask)) mask n)
  pending-next = next-at (eqb (bit_and left mask) 0) refl

-- What is left of a list.

pub left-some : (xs : List ℕ) (k p : ℕ) (ps : List ℕ) → drop k xs ≡ p ∷ ps → k < length xs
left-some xs k p ps h = elim (cases_lt k (length xs)) [
  | inl below ↦ below
  | inr above ↦ absurd (let e : ◌≡◌ {A = List ℕ} [] (p ∷ ps) = sym (drop_all k xs above) ∙ h in cc)
]

pub left-first : (xs : List ℕ) (k p : ℕ) (ps : List ℕ) → drop k xs ≡ p ∷ ps → (get_or xs k 0 ≡ p) × (drop (k + 1) xs ≡ ps)
left-first xs k p ps h =
    let e : get_or xs k 0 ∷ drop (k + 1) xs ≡ p ∷ ps = sym (drop_more xs k 0 (left-some xs k p ps h)) ∙ h in
    (cc, cc)
