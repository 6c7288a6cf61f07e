-- Two rows that have the bins are a block that is found.
use Rattle.std.proofs.Common.{◌≡◌, ℕ, zero, suc, ◌+◌, ◌-◌, ◌*◌, ◌<◌, ◌≤◌, refl, sym, ap, ◌∙◌, subst, arith, ◌⊎◌, inl, inr, ℤ, pos, List, [], ◌∷◌, length, get_or}
use Rattle.std.specs.Prelude.{bit_xor, negsuc, ◌<ℤ◌, unsigned_abs, All}
use Rattle.std.proofs.lemmas.Bool.{cases_lt}
use Rattle.std.proofs.lemmas.Int.{ints}
use Rattle.std.proofs.lemmas.List.{ext_get_or}
use lib.Bits.{xor_zero_l}
use Rattle.rz_words.specs.Grid.{Grid, IsShape, word, grid_of}
use Rattle.mj_angles.specs.Projection.{bin, bins, projection, row_start}
use Rattle.mj_angles.proofs.Projections.{get_or-projection, projection-from_bins}
use Rattle.mj_inverse.specs.Fits.{Pair, IsFound}
use Rattle.mj_inverse_two.specs.declared.starts.Starts.{Starts}
use Rattle.mj_inverse_two.specs.Two.{share, two_search}
use Rattle.mj_inverse_two.proofs.Rows.{HaveBins}

-- a bin has words of both rows
bin_two : (f : ℕ → ℕ → ℕ) (cols : ℕ) (p : ℤ) (b : ℕ) → bin f 2 cols p b ≡ bit_xor (share cols (row_start p 2 0) (f 0) b) (share cols (row_start p 2 1) (f 1) b)
bin_two f cols p b = ap (λ x. bit_xor x (share cols (row_start p 2 1) (f 1) b)) (xor_zero_l (share cols (row_start p 2 0) (f 0) b))

-- the angles are ordered as the rows are
pub starts_order : (p q : ℤ) → p <ℤ q → row_start p 2 1 + row_start q 2 0 < row_start p 2 0 + row_start q 2 1
starts_order (pos m) (pos n) h = omega (arith, ints)
starts_order (pos m) (negsuc n) h = omega (arith, ints)
starts_order (negsuc m) (pos n) h = omega (arith, ints)
starts_order (negsuc m) (negsuc n) h = omega (arith, ints)

module _ (cols : ℕ) (p : ℤ) (s : Starts) (first : s.first ≡ row_start p 2 0) (second : s.second ≡ row_start p 2 1) (both : s.first + s.second ≡ unsigned_abs p) (xs : List ℕ) (f : ℕ → ℕ → ℕ) where
  count : bins p 2 cols ≡ cols + (s.first + s.second)
  count = omega arith

  bin_of : (b : ℕ) → bin f 2 cols p b ≡ bit_xor (share cols s.first (f 0) b) (share cols s.second (f 1) b)
  bin_of b =
      bin_two f cols p b
      ∙ ap (λ x. bit_xor (share cols x (f 0) b) (share cols (row_start p 2 1) (f 1) b)) (sym first)
      ∙ ap (λ x. bit_xor (share cols s.first (f 0) b) (share cols x (f 1) b)) (sym second)

  pub projected : length xs ≡ bins p 2 cols → HaveBins cols s xs (f 0) (f 1) → xs ≡ projection f 2 cols p
  projected long has =
      projection-from_bins f 2 cols p xs long
      (λ b near. has.all b (let c = count in omega arith) ∙ sym (bin_of b))

  pub have_bins : xs ≡ projection f 2 cols p → HaveBins cols s xs (f 0) (f 1)
  have_bins is = record {
    all = λ b near.
        ap (λ ys. get_or ys b 0) is ∙ get_or-projection f 2 cols p b (let c = count in omega arith) ∙ bin_of b;
  }

module _ (cols : ℕ) (p q : ℤ) (a b : List ℕ) where
  pub found_from : (out : List ℕ) → 0 < cols → cols ≤ 2048 → length out ≡ 2 * cols → a ≡ projection (λ l k. get_or out (l * cols + k) 0) 2 cols p → b ≡ projection (λ l k. get_or out (l * cols + k) 0) 2 cols q →
      IsFound (two_search cols p a q b) (grid_of 2 cols out)
  found_from out some few long low high = record {
    grid = record { shape = record { some_row = omega arith; few_rows = omega arith; some_column = some; few_columns = few }; full = long };
    rows = refl;
    cols = refl;
    fits = fit;
  }
    where
      fit : All (λ (pair : Pair). pair.1 ≡ projection (word (grid_of 2 cols out)) 2 cols pair.0) ((p, a) ∷ (q, b) ∷ [])
      fit zero d h = low
      fit (suc zero) d h = high
      fit (suc (suc n)) d h = absurd (let m : suc (suc n) < 2 = h in omega arith)

  module _ (g : Grid) (found : IsFound (two_search cols p a q b) g) where
    shaped : (x : ℤ) (xs : List ℕ) → xs ≡ projection (word g) g.rows g.cols x → xs ≡ projection (λ l k. get_or g.words (l * cols + k) 0) 2 cols x
    shaped x xs is =
        let P : ℕ → ℕ → Type 0 = λ r c. xs ≡ projection (λ l k. get_or g.words (l * c + k) 0) r c x in
        let Q : ℕ → Type 0 = λ r. P r g.cols in
        let R : ℕ → Type 0 = λ c. P 2 c in
        subst R found.cols (subst Q found.rows is)

    pub low_fits : a ≡ projection (λ l k. get_or g.words (l * cols + k) 0) 2 cols p
    low_fits = shaped p a (found.fits 0 (p, a) (let k : 0 < 2 = omega arith in k))

    pub high_fits : b ≡ projection (λ l k. get_or g.words (l * cols + k) 0) 2 cols q
    high_fits = shaped q b (found.fits 1 (p, a) (let k : 1 < 2 = omega arith in k))

    -- blocks with the same words are the same
    pub grid_same : (out : List ℕ) → length out ≡ 2 * cols → ((k : ℕ) → k < cols → get_or g.words (0 * cols + k) 0 ≡ get_or out k 0) → ((k : ℕ) → k < cols → get_or g.words (1 * cols + k) 0 ≡ get_or out (cols + k) 0) → g ≡ grid_of 2 cols out
    grid_same out long first second =
        let m : g.rows * g.cols ≡ 2 * cols = ap (λ r. r * g.cols) found.rows ∙ ap (λ c. 2 * c) found.cols in
        let n : length g.words ≡ 2 * cols = found.grid.full ∙ m in
        let words : g.words ≡ out = ext_get_or 0 g.words out (n ∙ sym long) (λ i l. at i (omega arith) (cases_lt i cols)) in
        ap (λ r. grid_of r g.cols g.words) found.rows ∙ ap (λ c. grid_of 2 c g.words) found.cols ∙ ap (grid_of 2 cols) words
      where
        at : (i : ℕ) → i < 2 * cols → (i < cols) ⊎ (cols ≤ i) → get_or g.words i 0 ≡ get_or out i 0
        at i m (inl less) = ap (λ x. get_or g.words x 0) (let e : i ≡ 0 * cols + i = omega arith in e) ∙ first i less
        at i m (inr more) =
            let j : ℕ = i - cols in
            let e : cols + j ≡ i = omega arith in
            ap (λ x. get_or g.words x 0) (let d : i ≡ 1 * cols + j = omega arith in d) ∙ second j (omega arith) ∙ ap (λ x. get_or out x 0) e
