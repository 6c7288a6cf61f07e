-- Two positions.
use Rattle.std.proofs.Common.{◌≡◌, ℕ, zero, suc, ◌+◌, arith, refl, sym, ap, ◌∙◌, subst, List, [], ◌∷◌, length, get_or, take, drop, length-drop, ℤ}
use Rattle.std.specs.List.{sum_by}
use Rattle.std.proofs.lemmas.List.Sums.{sum_by-cons}
use Rattle.rz_words.specs.Grid.{Grid, grid_of}
use Rattle.mj_angles.specs.declared.layout.Layout.{Layout}
use Rattle.mj_angles.specs.Layout.{inverse_of, cols_of, angle_of, bins_at_of}
use Rattle.mj_angles.specs.Projection.{bins as bin_count}
use Rattle.mj_inverse.specs.Fits.{IsFound, Search}
use Rattle.mj_inverse_two.specs.Two.{two_search}
use Rattle.mj_c.specs.Layouts.{search_of}

pub pair_of : (xs : List ℕ) → length xs ≡ 2 → xs ≡ get_or xs 0 0 ∷ get_or xs 1 0 ∷ []
pair_of [] long = absurd (omega arith)
pair_of (i ∷ []) long = absurd (omega arith)
pair_of (i ∷ j ∷ []) long = refl
pair_of (i ∷ j ∷ k ∷ rest) long = absurd (let e : suc (suc (suc (length rest))) ≡ 2 = long in omega arith)

sum_two : (f : ℕ → ℕ) (i j : ℕ) → sum_by f (i ∷ j ∷ []) ≡ f i + f j
sum_two f i j = let a = sum_by-cons f i (j ∷ []) in let b = sum_by-cons f j [] in omega arith

-- the bins of two positions are those of the first, and behind them those of the second
pub two_bins : (y : Layout) (positions bins : List ℕ) → length positions ≡ 2 → length bins ≡ sum_by (bins_at_of y) positions →
    length bins ≡ bins_at_of y (get_or positions 0 0) + bins_at_of y (get_or positions 1 0)
two_bins y positions bins count long = long ∙ ap (sum_by (bins_at_of y)) (pair_of positions count) ∙ sum_two (bins_at_of y) (get_or positions 0 0) (get_or positions 1 0)

-- how many bins a position of a layout with two rows has
pub bins_of_two : (y : Layout) (i n cols : ℕ) (p : ℤ) → inverse_of y ≡ 2 → cols ≡ cols_of y → p ≡ angle_of y i → n ≡ bins_at_of y i → n ≡ bin_count p 2 cols
bins_of_two y i n cols p two wide angle is =
    is ∙ ap (λ r. bin_count (angle_of y i) r (cols_of y)) two ∙ ap (bin_count (angle_of y i) 2) (sym wide) ∙ ap (λ x. bin_count x 2 cols) (sym angle)

take_whole : (m : ℕ) (xs : List ℕ) → length xs ≡ m → xs ≡ take m xs
take_whole zero [] long = refl
take_whole zero (x ∷ xs) long = absurd (let e : suc (length xs) ≡ 0 = long in omega arith)
take_whole (suc m) [] long = absurd (let e : 0 ≡ suc m = long in omega arith)
take_whole (suc m) (x ∷ xs) long = ap (λ (ys : List ℕ). x ∷ ys) (take_whole m xs (let e : suc (length xs) ≡ suc m = long in omega arith))

rest_long : (n m : ℕ) (xs : List ℕ) → length xs ≡ n + m → length (drop n xs) ≡ m
rest_long n m xs long = let e = length-drop n xs in omega arith

-- the search by two positions
module _ (y : Layout) (positions bins front back : List ℕ) (cols : ℕ) (p q : ℤ) (two : inverse_of y ≡ 2) (wide : cols ≡ cols_of y) (count : length positions ≡ 2)
    (long : length bins ≡ sum_by (bins_at_of y) positions) (first : front ≡ take (bins_at_of y (get_or positions 0 0)) bins) (rest : back ≡ drop (bins_at_of y (get_or positions 0 0)) bins)
    (low : p ≡ angle_of y (get_or positions 0 0)) (high : q ≡ angle_of y (get_or positions 1 0)) where
  two_is : two_search cols p front q back ≡ search_of y positions bins
  two_is =
      let i : ℕ = get_or positions 0 0 in
      let j : ℕ = get_or positions 1 0 in
      let n : ℕ = bins_at_of y (get_or positions 0 0) in
      let total = two_bins y positions bins count long in
      let whole : drop (bins_at_of y (get_or positions 0 0)) bins ≡ take (bins_at_of y (get_or positions 1 0)) (drop (bins_at_of y (get_or positions 0 0)) bins) =
      take_whole (bins_at_of y (get_or positions 1 0)) (drop (bins_at_of y (get_or positions 0 0)) bins) (rest_long (bins_at_of y (get_or positions 0 0)) (bins_at_of y (get_or positions 1 0)) bins total) in
      let P : List ℕ → Type 0 = λ xs. two_search cols p front q back ≡ search_of y xs bins in
      subst P (sym (pair_of positions count))
      (ap (λ x. two_search x p front q back) wide
      ∙ ap (λ x. two_search (cols_of y) x front q back) low
      ∙ ap (λ x. two_search (cols_of y) (angle_of y i) front x back) high
      ∙ ap (λ x. two_search (cols_of y) (angle_of y i) x (angle_of y j) back) first
      ∙ ap (λ x. two_search (cols_of y) (angle_of y i) (take n bins) (angle_of y j) x) (rest ∙ whole)
      ∙ ap (λ r. (let s : Search = record { rows = r; cols = cols_of y; pairs = (angle_of y i, take n bins) ∷ (angle_of y j, take (bins_at_of y j) (drop n bins)) ∷ [] } in s)) (sym two))

  grid_is : (ws : List ℕ) → grid_of 2 cols ws ≡ grid_of (inverse_of y) (cols_of y) ws
  grid_is ws = ap (λ r. grid_of r cols ws) (sym two) ∙ ap (λ k. grid_of (inverse_of y) k ws) wide

  pub found_two : (ws : List ℕ) → IsFound (two_search cols p front q back) (grid_of 2 cols ws) → IsFound (search_of y positions bins) (grid_of (inverse_of y) (cols_of y) ws)
  found_two ws found =
      let P : Search → Type 0 = λ s. IsFound s (grid_of (inverse_of y) (cols_of y) ws) in
      let Q : Grid → Type 0 = λ g. IsFound (two_search cols p front q back) g in
      subst P two_is (subst Q (grid_is ws) found)

  pub searched_two : (g : Grid) → IsFound (search_of y positions bins) g → IsFound (two_search cols p front q back) g
  searched_two g found = let P : Search → Type 0 = λ s. IsFound s g in subst P (sym two_is) found

  pub same_two : (g : Grid) (ws : List ℕ) → g ≡ grid_of 2 cols ws → g ≡ grid_of (inverse_of y) (cols_of y) ws
  same_two g ws same = same ∙ grid_is ws
