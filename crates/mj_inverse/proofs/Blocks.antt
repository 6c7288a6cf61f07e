-- The projections of the rows of a block are those of the block.
use Rattle.std.proofs.Common.{◌≡◌, ℕ, zero, suc, ◌+◌, ◌-◌, ◌*◌, ◌<◌, ◌≤◌, refl, sym, ap, ◌∙◌, arith, ◌⊎◌, inl, inr, length, subst, ℤ, pos}
use Rattle.std.specs.Prelude.{bit_xor, if◌then◌else◌, ◌==◌, negsuc, unsigned_abs}
use Rattle.std.proofs.lemmas.Bool.{cases_lt}
use Rattle.std.proofs.lemmas.Grind.{common_steps}
use mathlib.Core.Path.{fun_ext}
use lib.Bits.{xor_zero_l, xor_zero_r, xor_assoc}
use Rattle.mj_angles.specs.Xor.{xor_below}
use Rattle.mj_angles.specs.Projection.{bins, bin, offset, row_start}
use Rattle.mj_angles.proofs.Sums.{xor_below-same, xor_below-zero, row_at, row_misses, row_within}
use Rattle.mj_angles.proofs.Order.{lifted}
use Rattle.mj_inverse_sums.specs.Polynomials.{raised, IsFinite}
use Rattle.mj_inverse.specs.Rows.{value, Every, cut, block_rows}
use Rattle.mj_inverse_sums.proofs.Algebra.{split, plus_at, raised_below, raised_at, raised-raised, finite-raised}

pub cut_in : (cols : ℕ) (w : ℕ → ℕ) (k : ℕ) → k < cols → cut cols w k ≡ w k
unfolding cut
cut_in cols w k h = grind (arith, common_steps)

pub cut_out : (cols : ℕ) (w : ℕ → ℕ) (k : ℕ) → cols ≤ k → cut cols w k ≡ 0
unfolding cut
cut_out cols w k h = grind (arith, common_steps)

finite-cut : (cols : ℕ) (w : ℕ → ℕ) → IsFinite (cut cols w)
finite-cut cols w = (cols, λ e h. cut_out cols w e h)

pub finite-block_rows : (cols low n : ℕ) (w : ℕ → ℕ) → Every IsFinite (block_rows cols low n w)
finite-block_rows cols low zero w = tt
finite-block_rows cols low (suc n) w =
    (finite-raised (low + 16 * suc n) (cut cols w) (finite-cut cols w), finite-block_rows cols low n (λ i. w (cols + i)))

pub length-block_rows : (cols low n : ℕ) (w : ℕ → ℕ) → length (block_rows cols low n w) ≡ n
length-block_rows cols low zero w = refl
length-block_rows cols low (suc n) w = ap suc (length-block_rows cols low n (λ i. w (cols + i)))

xor_below-front : (n : ℕ) (f : ℕ → ℕ) → xor_below (suc n) f ≡ bit_xor (f 0) (xor_below n (λ i. f (suc i)))
xor_below-front zero f = xor_zero_l (f 0) ∙ sym (xor_zero_r (f 0))
xor_below-front (suc n) f = ap (λ x. bit_xor x (f (suc n))) (xor_below-front n f) ∙ xor_assoc (f 0) (xor_below n (λ i. f (suc i))) (f (suc n))

raised-xor_below : (q n : ℕ) (g : ℕ → ℕ → ℕ) (e : ℕ) → raised q (λ e. xor_below n (λ i. g i e)) e ≡ xor_below n (λ i. raised q (g i) e)
raised-xor_below q n g e = by (split q e)
  where
    by : (e < q) ⊎ ((d : ℕ) × (e ≡ q + d)) → raised q (λ e. xor_below n (λ i. g i e)) e ≡ xor_below n (λ i. raised q (g i) e)
    by (inl h) = raised_below q (λ e. xor_below n (λ i. g i e)) e h ∙ sym (xor_below-zero n (λ i. raised q (g i) e) (λ i _. raised_below q (g i) e h))
    by (inr (d, h)) = raised_at q (λ e. xor_below n (λ i. g i e)) e d h ∙ sym (xor_below-same n (λ i. raised q (g i) e) (λ i. g i d) (λ i _. raised_at q (g i) e d h))

-- row i, as it stands in the projection
term : ℕ → ℕ → ℕ → ℕ → (ℕ → ℕ) → ℕ → ℕ → ℕ
term q cols low n w i = raised (q * i + (low + 16 * (n - i))) (cut cols (λ k. w (i * cols + k)))

sum_of_rows : (q cols low n : ℕ) (w : ℕ → ℕ) (e : ℕ) → value q (block_rows cols low n w) e ≡ xor_below n (λ i. term q cols low n w i e)
unfolding term
sum_of_rows q cols low zero w e = refl
sum_of_rows q cols low (suc n) w e =
    let rest : ℕ → ℕ = λ i. w (cols + i) in
    let inner : value q (block_rows cols low n rest) ≡ (λ e. xor_below n (λ i. term q cols low n rest i e)) = fun_ext (λ e. sum_of_rows q cols low n rest e) in
    plus_at (raised (low + 16 * suc n) (cut cols w)) (raised q (value q (block_rows cols low n rest))) e
    ∙ ap (λ (f : ℕ → ℕ). bit_xor (raised (low + 16 * suc n) (cut cols w) e) (raised q f e)) inner
    ∙ ap (bit_xor (raised (low + 16 * suc n) (cut cols w) e)) (raised-xor_below q n (λ i. term q cols low n rest i) e
    ∙ xor_below-same n (λ i. raised q (term q cols low n rest i) e) (λ i. term q cols low (suc n) w (suc i) e) (λ i h. next i e h))
    ∙ ap (λ x. bit_xor x (xor_below n (λ i. term q cols low (suc n) w (suc i) e))) first
    ∙ sym (xor_below-front n (λ i. term q cols low (suc n) w i e))
  where
    first : raised (low + 16 * suc n) (cut cols w) e ≡ term q cols low (suc n) w 0 e
    first =
        let a : low + 16 * suc n ≡ q * 0 + (low + 16 * (suc n - 0)) = omega arith in
        let b : w ≡ (λ k. w (0 * cols + k)) = fun_ext (λ k. ap w (omega arith)) in
        ap (λ s. raised s (cut cols w) e) a ∙ ap (λ w. raised (q * 0 + (low + 16 * (suc n - 0))) (cut cols w) e) b

    next : (i e : ℕ) → i < n → raised q (term q cols low n (λ i. w (cols + i)) i) e ≡ term q cols low (suc n) w (suc i) e
    next i e h =
        let s : ℕ = q * i + (low + 16 * (n - i)) in
        let a : q + s ≡ q * suc i + (low + 16 * (suc n - suc i)) = omega arith in
        let b : (λ k. w (cols + (i * cols + k))) ≡ (λ k. w (suc i * cols + k)) = fun_ext (λ k. ap w (omega arith)) in
        ap (λ (f : ℕ → ℕ). f e) (raised-raised q s (cut cols (λ k. w (cols + (i * cols + k)))))
        ∙ ap (λ t. raised t (cut cols (λ k. w (cols + (i * cols + k)))) e) a
        ∙ ap (λ w. raised (q * suc i + (low + 16 * (suc n - suc i))) (cut cols w) e) b

-- where bin 0 of a projection at the angle p stands
abbrev pub first_place : ℕ → ℕ → ℤ → ℕ
first_place low rows p = low + 16 * rows - offset p rows

row_bin : (cols r b : ℕ) (g : ℕ → ℕ) → raised r (cut cols g) b ≡ xor_below cols (λ k. if r + k == b then g k else 0)
row_bin cols r b g = by (split r b)
  where
    by_col : (d : ℕ) → b ≡ r + d → (d < cols) ⊎ (cols ≤ d) → raised r (cut cols g) b ≡ xor_below cols (λ k. if r + k == b then g k else 0)
    by_col d h (inl k) = raised_at r (cut cols g) b d h ∙ cut_in cols g d k ∙ sym (row_at cols r b d g k (sym h))
    by_col d h (inr k) = raised_at r (cut cols g) b d h ∙ cut_out cols g d k ∙ sym (row_misses cols r b g (λ i l. omega arith))

    by : (b < r) ⊎ ((d : ℕ) × (b ≡ r + d)) → raised r (cut cols g) b ≡ xor_below cols (λ k. if r + k == b then g k else 0)
    by (inl h) = raised_below r (cut cols g) b h ∙ sym (row_misses cols r b g (λ i l. omega arith))
    by (inr (d, h)) = by_col d h (cases_lt d cols)

fallen : (low a r i d : ℕ) → r * i + (low + (r + a) * (d + 1)) ≡ low + (r + a) * (i + 1 + d) - a * (i + d) + a * d
fallen low a r i d = omega arith

row_place : (low rows : ℕ) (p : ℤ) (i : ℕ) → unsigned_abs p ≤ 16 → i < rows →
    lifted 16 p * i + (low + 16 * (rows - i)) ≡ first_place low rows p + row_start p rows i
row_place low rows (pos n) i small h = omega arith
row_place low rows (negsuc n) i small h =
    let a : ℕ = n + 1 in
    let r : ℕ = 16 - a in
    let all : r + a ≡ 16 = omega arith in
    let d : ℕ = rows - 1 - i in
    let P : ℕ → Type 0 = λ m. r * i + (low + m * (d + 1)) ≡ low + m * (i + 1 + d) - a * (i + d) + a * d in
    let is : r * i + (low + 16 * (d + 1)) ≡ low + 16 * (i + 1 + d) - a * (i + d) + a * d = subst P all (fallen low a r i d) in
    let x : d + 1 ≡ rows - i = omega arith in
    let y : i + 1 + d ≡ rows = omega arith in
    let z : i + d ≡ rows - 1 = omega arith in
    ap (λ k. r * i + (low + 16 * k)) (sym x) ∙ is ∙ ap (λ k. low + 16 * k - a * (i + d) + a * d) y ∙ ap (λ k. low + 16 * rows - a * k + a * d) z

raised_off : (d r : ℕ) (f : ℕ → ℕ) (b : ℕ) → raised (d + r) f (d + b) ≡ raised r f b
raised_off d r f b =
    ap (λ (g : ℕ → ℕ). g (d + b)) (sym (raised-raised d r f)) ∙ raised_at d (raised r f) (d + b) b refl

-- the projection of the rows is that of the block, moved up
pub value-block_rows : (p : ℤ) (rows cols low : ℕ) (w : ℕ → ℕ) → unsigned_abs p ≤ 16 →
    value (lifted 16 p) (block_rows cols low rows w) ≡ raised (first_place low rows p) (bin (λ l k. w (l * cols + k)) rows cols p)
unfolding term
value-block_rows p rows cols low w small = fun_ext (λ e. sum_of_rows (lifted 16 p) cols low rows w e ∙ by e (split (first_place low rows p) e))
  where
    q : ℕ
    q = lifted 16 p

    term_is : (i e : ℕ) → i < rows → term (lifted 16 p) cols low rows w i e ≡ raised (first_place low rows p + row_start p rows i) (cut cols (λ k. w (i * cols + k))) e
    term_is i e h = ap (λ s. raised s (cut cols (λ k. w (i * cols + k))) e) (row_place low rows p i small h)

    by : (e : ℕ) → (e < first_place low rows p) ⊎ ((d : ℕ) × (e ≡ first_place low rows p + d)) →
        xor_below rows (λ i. term (lifted 16 p) cols low rows w i e) ≡ raised (first_place low rows p) (bin (λ l k. w (l * cols + k)) rows cols p) e
    by e (inl h) =
        xor_below-zero rows (λ i. term (lifted 16 p) cols low rows w i e)
        (λ i l. term_is i e l ∙ raised_below (first_place low rows p + row_start p rows i) (cut cols (λ k. w (i * cols + k))) e (omega arith))
        ∙ sym (raised_below (first_place low rows p) (bin (λ l k. w (l * cols + k)) rows cols p) e h)
    by e (inr (b, h)) =
        xor_below-same rows (λ i. term (lifted 16 p) cols low rows w i e) (λ l. xor_below cols (λ k. if row_start p rows l + k == b then w (l * cols + k) else 0))
        (λ i l. term_is i e l ∙ ap (raised (first_place low rows p + row_start p rows i) (cut cols (λ k. w (i * cols + k)))) h
        ∙ raised_off (first_place low rows p) (row_start p rows i) (cut cols (λ k. w (i * cols + k))) b
        ∙ row_bin cols (row_start p rows i) b (λ k. w (i * cols + k)))
        ∙ sym (raised_at (first_place low rows p) (bin (λ l k. w (l * cols + k)) rows cols p) e b h)

-- no bin behind the last one
pub bin_none : (f : ℕ → ℕ → ℕ) (rows cols : ℕ) (p : ℤ) (b : ℕ) → bins p rows cols ≤ b → bin f rows cols p b ≡ 0
bin_none f rows cols p b h =
    xor_below-zero rows (λ l. xor_below cols (λ k. if row_start p rows l + k == b then f l k else 0))
    (λ l less. row_misses cols (row_start p rows l) b (f l) (λ k small. let w = row_within p rows cols l less in omega arith))
