-- From the bins of words to the values of their rows, and back.
use Rattle.std.proofs.Common.{◌≡◌, ℕ, zero, suc, ◌+◌, ◌*◌, ◌<◌, ◌≤◌, refl, sym, ap, ◌∙◌, arith, ◌⊎◌, inl, inr, ℤ, List, [], ◌∷◌}
use Rattle.std.specs.Prelude.{◌==◌, if◌then◌else◌}
use Rattle.std.proofs.lemmas.Bool.{cases_lt}
use mathlib.Core.Path.{fun_ext}
use Rattle.mj_angles.specs.Projection.{bin, row_start}
use Rattle.mj_angles.proofs.Sums.{xor_below-same}
use Rattle.mj_inverse_sums.specs.Polynomials.{raised}
use Rattle.mj_inverse.specs.Rows.{Every, block_rows, cut}
use Rattle.mj_inverse.specs.Padded.{HasBins}
use Rattle.mj_inverse.specs.declared.placed.Placed.{Placed}
use Rattle.mj_inverse.proofs.Blocks.{cut_in, cut_out}

pub bin-same : (f g : ℕ → ℕ → ℕ) (rows cols : ℕ) (p : ℤ) (b : ℕ) → ((l k : ℕ) → l < rows → k < cols → f l k ≡ g l k) → bin f rows cols p b ≡ bin g rows cols p b
bin-same f g rows cols p b same =
    xor_below-same rows _ _ (λ l h. xor_below-same cols _ _ (λ k m. ap (λ x. if row_start p rows l + k == b then x else 0) (same l k h m)))

pub bins_same : (rows cols i : ℕ) (f g : ℕ → ℕ → ℕ) (ws : List ℕ) (all : List Placed) → ((l k : ℕ) → l < rows → k < cols → f l k ≡ g l k) →
    Every (HasBins rows cols i f ws) all → Every (HasBins rows cols i g ws) all
bins_same rows cols i f g ws [] same every = tt
bins_same rows cols i f g ws (s ∷ rest) same (has, every) = (λ b h. has b h ∙ bin-same f g rows cols s.direction b same, bins_same rows cols i f g ws rest same every)

-- rows of the same words are the same
pub rows_from_words : (cols low n : ℕ) (v w : ℕ → ℕ) → ((l k : ℕ) → l < n → k < cols → v (l * cols + k) ≡ w (l * cols + k)) → block_rows cols low n v ≡ block_rows cols low n w
rows_from_words cols low zero v w same = refl
rows_from_words cols low (suc n) v w same =
    let a : ℕ = low + 16 * suc n in
    let first : ◌≡◌ {A = ℕ → ℕ} (cut cols v) (cut cols w) = fun_ext (λ k. by k (cases_lt k cols)) in
    let rest = rows_from_words cols low n (λ i. v (cols + i)) (λ i. w (cols + i))
    (λ l k h m.
    let e : cols + (l * cols + k) ≡ suc l * cols + k = omega arith in
    ap v e ∙ same (suc l) k (omega arith) m ∙ ap w (sym e)) in
    ap (λ (f : ℕ → ℕ). raised a f ∷ block_rows cols low n (λ i. v (cols + i))) first ∙ ap (λ (fs : List (ℕ → ℕ)). raised a (cut cols w) ∷ fs) rest
  where
    by : (k : ℕ) → (k < cols) ⊎ (cols ≤ k) → cut cols v k ≡ cut cols w k
    by k (inl l) =
        let e : 0 * cols + k ≡ k = omega arith in
        cut_in cols v k l ∙ ap v (sym e) ∙ same 0 k (omega arith) l ∙ ap w e ∙ sym (cut_in cols w k l)
    by k (inr l) = cut_out cols v k l ∙ sym (cut_out cols w k l)
