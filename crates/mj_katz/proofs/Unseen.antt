-- Blocks that some angles do not see.
use Rattle.std.proofs.Common.{◌≡◌, ◌≢◌, ℕ, ◌+◌, ◌-◌, ◌*◌, ◌<◌, ◌≤◌, refl, sym, ap, ◌∙◌, subst, arith, ◌⊎◌, inl, inr, ℤ, pos, List, length, get_or, get_or-set_same, get_or-set_other, replicate}
use Rattle.std.specs.Prelude.{unsigned_abs, bit_xor, if◌then◌else◌, ◌==◌, slice_set, nat_le, negsuc}
use Rattle.std.proofs.lemmas.Bool.{cases_eq}
use Rattle.std.proofs.lemmas.Grind.{common_steps}
use Rattle.std.proofs.lemmas.List.{get_or-replicate, length-replicate, get_or_default}
use Rattle.std.proofs.lemmas.Nat.{mul-add-lt}
use Rattle.std.proofs.Math.Nat.{mul-le-mul_right}
use Rattle.rz_words.specs.Grid.{Grid, grid_of, zero_grid, zero_words}
use Rattle.rz_words.proofs.Little.{length-zero_words, get_or-zero_words}
use Rattle.mj_angles.specs.Projection.{bin, bins, word_at, row_start}
use Rattle.mj_angles.proofs.Sums.{xor_below-same}
use Rattle.mj_angles.proofs.Projections.{projection-from_bins}
use Rattle.mj_forward.specs.Forward.{projection_of}
use Rattle.mj_katz.specs.Factor.{moved, factor, one_first}
use Rattle.mj_katz.specs.Phantom.{IsUnseen}
use Rattle.mj_katz.proofs.Ghost.{IsGhost, ghost_more}

-- the words are those of f, which the first n angles do not see
pub record Hides (f : ℕ → ℕ → ℕ) (p : ℕ → ℤ) (n size rows cols : ℕ) (ws : List ℕ) : Type 0 where
  pub ghost_is : IsGhost p n size rows cols f
  pub words_are : (l k : ℕ) → l < rows → k < cols → word_at ws cols l k ≡ f l k

moved-same : (r c : ℕ) (f g : ℕ → ℕ → ℕ) (rows cols : ℕ) → ((l k : ℕ) → l < rows → k < cols → f l k ≡ g l k) →
    (l k : ℕ) → l < rows → k < cols → moved r c f l k ≡ moved r c g l k
moved-same r c f g rows cols same l k h h' =
    ap (λ x. if nat_le r l then (if nat_le c k then x else 0) else 0) (same (l - r) (k - c) (omega arith) (omega arith))

factor-same : (p : ℤ) (f g : ℕ → ℕ → ℕ) (rows cols : ℕ) → ((l k : ℕ) → l < rows → k < cols → f l k ≡ g l k) →
    (l k : ℕ) → l < rows → k < cols → factor p f l k ≡ factor p g l k
factor-same (pos n) f g rows cols same l k h h' =
    ap (λ x. bit_xor x (moved 0 n f l k)) (moved-same 1 0 f g rows cols same l k h h') ∙ ap (bit_xor (moved 1 0 g l k)) (moved-same 0 n f g rows cols same l k h h')
factor-same (negsuc m) f g rows cols same l k h h' =
    ap (λ x. bit_xor x (moved 0 0 f l k)) (moved-same 1 (m + 1) f g rows cols same l k h h') ∙ ap (bit_xor (moved 1 (m + 1) g l k)) (moved-same 0 0 f g rows cols same l k h h')

-- one more angle does not see the words
pub hides_more : (f : ℕ → ℕ → ℕ) (p : ℕ → ℤ) (n size rows cols : ℕ) (ws ws' : List ℕ) → n + 1 < rows → size + unsigned_abs (p n) < cols →
    ((l k : ℕ) → l < rows → k < cols → word_at ws' cols l k ≡ factor (p n) (word_at ws cols) l k) →
    Hides f p n size rows cols ws → Hides (factor (p n) f) p (n + 1) (size + unsigned_abs (p n)) rows cols ws'
hides_more f p n size rows cols ws ws' room room' made is = record {
  ghost_is = ghost_more p n size rows cols f room room' is.ghost_is;
  words_are = λ l k h h'. made l k h h' ∙ factor-same (p n) (word_at ws cols) f rows cols is.words_are l k h h';
}

one_first-row : (l k : ℕ) → 0 < l → one_first l k ≡ 0
one_first-row l k h = let ne : l ≢ 0 = omega arith in grind (arith, common_steps)

one_first-column : (l k : ℕ) → 0 < k → one_first l k ≡ 0
one_first-column l k h = let ne : k ≢ 0 = omega arith in by_row l k ne (cases_eq l 0)
  where
    by_row : (l k : ℕ) → k ≢ 0 → (l ≡ 0) ⊎ (l ≢ 0) → one_first l k ≡ 0
    by_row l k ne (inl e) = grind (arith, common_steps)
    by_row l k ne (inr d) = grind (arith, common_steps)

pub hides_start : (p : ℕ → ℤ) (rows cols : ℕ) (ws : List ℕ) → ws ≡ slice_set (replicate (rows * cols) 0) 0 1 → 0 < rows → 0 < cols → Hides one_first p 0 0 rows cols ws
hides_start p rows cols ws is h h' = record {
  ghost_is = record {
    nothing = λ i m b. absurd (omega arith);
    lies = record { below = λ l k m. one_first-row l k (omega arith); beyond = λ l k m. one_first-column l k (omega arith) };
    some = (0, omega arith, refl);
  };
  words_are = λ l k m m'. rw is (at l k m m' (mul-add-lt l cols k rows m m') (cases_eq l 0) (cases_eq k 0));
}
  where
    at : (l k : ℕ) → l < rows → k < cols → l * cols + k < cols * rows → (l ≡ 0) ⊎ (l ≢ 0) → (k ≡ 0) ⊎ (k ≢ 0) → word_at (slice_set (replicate (rows * cols) 0) 0 1) cols l k ≡ one_first l k
    at l k m m' within (inl e) (inl e') =
        let z : l * cols + k ≡ 0 = ap (λ x. x * cols + k) e ∙ (let q : 0 * cols + k ≡ 0 = omega arith in q) in
        let some : 0 < length (replicate (rows * cols) 0) = omega (arith, (let z : ℕ = 0 in length-replicate (rows * cols) z), within) in
        ap (λ x. get_or (slice_set (replicate (rows * cols) 0) 0 1) x 0) z ∙ get_or-set_same (replicate (rows * cols) 0) 0 1 0 some
        ∙ sym (ap (λ x. one_first x k) e ∙ ap (one_first 0) e')
    at l k m m' within (inl e) (inr d) =
        let ne : l * cols + k ≢ 0 = omega arith in
        get_or-set_other (replicate (rows * cols) 0) 0 (l * cols + k) 1 0 ne ∙ get_or-replicate (rows * cols) (l * cols + k) 0 0 (omega arith) ∙ sym (one_first-column l k (omega arith))
    at l k m m' within (inr d) _ =
        let big : 1 * cols ≤ l * cols = mul-le-mul_right cols (let q : 1 ≤ l = omega arith in q) in
        let ne : l * cols + k ≢ 0 = omega arith in
        get_or-set_other (replicate (rows * cols) 0) 0 (l * cols + k) 1 0 ne ∙ get_or-replicate (rows * cols) (l * cols + k) 0 0 (omega arith) ∙ sym (one_first-row l k (omega arith))

bin-same : (f g : ℕ → ℕ → ℕ) (rows cols : ℕ) (p : ℤ) (b : ℕ) → ((l k : ℕ) → l < rows → k < cols → f l k ≡ g l k) → bin f rows cols p b ≡ bin g rows cols p b
bin-same f g rows cols p b same =
    xor_below-same rows _ _ (λ l h. xor_below-same cols _ _ (λ k h'. ap (λ x. if row_start p rows l + k == b then x else 0) (same l k h h')))

-- every bin at these angles is zero
pub IsUnseen-from_hides : (f : ℕ → ℕ → ℕ) (angles : List ℤ) (size rows cols : ℕ) (ws : List ℕ) →
    Hides f (λ j. get_or angles j (pos 0)) (length angles) size rows cols ws → IsUnseen angles (grid_of rows cols ws)
IsUnseen-from_hides f angles size rows cols ws is i d h =
    let P : ℤ → Type 0 = λ p. projection_of (grid_of rows cols ws) p ≡ zero_words (bins p rows cols) in
    subst P (sym (get_or_default angles i d (pos 0) h)) here
  where
    p : ℤ
    p = get_or angles i (pos 0)

    here : projection_of (grid_of rows cols ws) p ≡ zero_words (bins p rows cols)
    here =
        sym (projection-from_bins (word_at ws cols) rows cols p (zero_words (bins p rows cols)) (length-zero_words (bins p rows cols))
        (λ b small. get_or-zero_words (bins p rows cols) b
        ∙ sym (bin-same (word_at ws cols) f rows cols p b is.words_are ∙ is.ghost_is.nothing i h b)))

-- and some word is not
pub not_zero-from_hides : (f : ℕ → ℕ → ℕ) (p : ℕ → ℤ) (n size rows cols : ℕ) (ws : List ℕ) → 0 < rows → size < cols →
    Hides f p n size rows cols ws → grid_of rows cols ws ≢ zero_grid rows cols
not_zero-from_hides f p n size rows cols ws some narrow is e =
    let k : ℕ = is.ghost_is.some.0 in
    let le = is.ghost_is.some.1 in
    let one : word_at ws cols 0 k ≡ 1 = is.words_are 0 k some (omega arith) ∙ is.ghost_is.some.2 in
    let none : word_at ws cols 0 k ≡ 0 = ap (λ (g : Grid). get_or g.words (0 * cols + k) 0) e ∙ get_or-zero_words (rows * cols) (0 * cols + k) in
    absurd (omega arith)
