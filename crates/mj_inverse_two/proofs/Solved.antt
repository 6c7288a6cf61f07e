-- The block that follows from the bins is the one block that has them.
use Rattle.std.proofs.Common.{◌≡◌, ℕ, ◌+◌, ◌*◌, ◌<◌, ◌≤◌, sym, ap, ◌∙◌, arith, ◌⊎◌, ℤ, List, length, get_or}
use Rattle.std.specs.Prelude.{◌<ℤ◌, unsigned_abs}
use Rattle.rz_words.specs.Grid.{Grid, grid_of}
use Rattle.mj_angles.specs.Projection.{bins, row_start}
use Rattle.mj_inverse.specs.Fits.{IsFound}
use Rattle.mj_inverse_two.specs.declared.starts.Starts.{Starts}
use Rattle.mj_inverse_two.specs.Two.{AreEnds, IsSecond, first_row, two_search}
use Rattle.mj_inverse_two.proofs.Rows.{HaveBins, bins_same, ends_same, first_same, high_bins, low_bins, second_same}
use Rattle.mj_inverse_two.proofs.Found.{found_from, grid_same, have_bins, high_fits, low_fits, projected, starts_order}

-- where the rows begin at an angle
pub record AreStarts (p : ℤ) (s : Starts) : Type 0 where
  pub small : unsigned_abs p ≤ 16
  pub first : s.first ≡ row_start p 2 0
  pub second : s.second ≡ row_start p 2 1
  pub one : (s.first ≡ 0) ⊎ (s.second ≡ 0)
  pub both : s.first + s.second ≡ unsigned_abs p

-- the same of an angle that was passed as another number
pub starts_for : (p given : ℤ) (s : Starts) → given ≡ p → unsigned_abs p ≤ 16 → s.first ≡ row_start given 2 0 → s.second ≡ row_start given 2 1 → (s.first ≡ 0) ⊎ (s.second ≡ 0) →
    s.first + s.second ≡ unsigned_abs given → AreStarts p s
starts_for p given s is small first second one both = record {
  small = small;
  first = first ∙ ap (λ x. row_start x 2 0) is;
  second = second ∙ ap (λ x. row_start x 2 1) is;
  one = one;
  both = both ∙ ap unsigned_abs is;
}

module _ (cols : ℕ) (p q : ℤ) (low high : Starts) (a b : List ℕ) (f : ℕ → ℕ) (rises : p <ℤ q) (at_p : AreStarts p low) (at_q : AreStarts q high) (wide : 16 ≤ cols) (few : cols ≤ 2048)
    (long_a : length a ≡ bins p 2 cols) (long_b : length b ≡ bins q 2 cols) (is : IsSecond cols low high a b f) where
  order : low.second + high.first < low.first + high.second
  order =
      let o = starts_order p q rises in
      let i = at_p.first in
      let j = at_p.second in
      let k = at_q.first in
      let l = at_q.second in
      omega arith

  low_few : low.first + low.second ≤ cols
  low_few = let s = at_p.small in let t = at_p.both in omega arith

  high_few : high.first + high.second ≤ cols
  high_few = let s = at_q.small in let t = at_q.both in omega arith

  module _ (out : List ℕ) (long : length out ≡ 2 * cols) (first : (k : ℕ) → k < cols → get_or out k 0 ≡ first_row cols high b f k) (second : (k : ℕ) → k < cols → get_or out (cols + k) 0 ≡ f k) where
    first_at : (k : ℕ) → k < cols → first_row cols high b f k ≡ get_or out (0 * cols + k) 0
    first_at k m = sym (first k m) ∙ ap (λ x. get_or out x 0) (let e : k ≡ 0 * cols + k = omega arith in e)

    second_at : (k : ℕ) → k < cols → f k ≡ get_or out (1 * cols + k) 0
    second_at k m = sym (second k m) ∙ ap (λ x. get_or out x 0) (let e : cols + k ≡ 1 * cols + k = omega arith in e)

    pub is_found : AreEnds cols low high a b f → IsFound (two_search cols p a q b) (grid_of 2 cols out)
    is_found ends =
        found_from cols p q a b out (omega arith) few long
        (projected cols p low at_p.first at_p.second at_p.both a (λ l k. get_or out (l * cols + k) 0) long_a
        (bins_same cols low a (first_row cols high b f) f (λ k. get_or out (0 * cols + k) 0) (λ k. get_or out (1 * cols + k) 0) first_at second_at
        (low_bins cols low high a b order f is at_p.one at_q.one low_few high_few ends)))
        (projected cols q high at_q.first at_q.second at_q.both b (λ l k. get_or out (l * cols + k) 0) long_b
        (bins_same cols high b (first_row cols high b f) f (λ k. get_or out (0 * cols + k) 0) (λ k. get_or out (1 * cols + k) 0) first_at second_at
        (high_bins cols low high a b order f is at_p.one at_q.one low_few high_few ends)))

  module _ (g : Grid) (found : IsFound (two_search cols p a q b) g) where
    g_low : HaveBins cols low a (λ k. get_or g.words (0 * cols + k) 0) (λ k. get_or g.words (1 * cols + k) 0)
    g_low = have_bins cols p low at_p.first at_p.second at_p.both a (λ l k. get_or g.words (l * cols + k) 0) (low_fits cols p q a b g found)

    g_high : HaveBins cols high b (λ k. get_or g.words (0 * cols + k) 0) (λ k. get_or g.words (1 * cols + k) 0)
    g_high = have_bins cols q high at_q.first at_q.second at_q.both b (λ l k. get_or g.words (l * cols + k) 0) (high_fits cols p q a b g found)

    pub has_ends : AreEnds cols low high a b f
    has_ends =
        ends_same cols low high a b order f is (λ k. get_or g.words (0 * cols + k) 0) (λ k. get_or g.words (1 * cols + k) 0) g_low g_high at_p.one at_q.one low_few high_few

    pub is_only : (out : List ℕ) → length out ≡ 2 * cols → ((k : ℕ) → k < cols → get_or out k 0 ≡ first_row cols high b f k) → ((k : ℕ) → k < cols → get_or out (cols + k) 0 ≡ f k) →
        g ≡ grid_of 2 cols out
    is_only out long first second =
        grid_same cols p q a b g found out long
        (λ k m. first_same cols low high a b order f is (λ k. get_or g.words (0 * cols + k) 0) (λ k. get_or g.words (1 * cols + k) 0) g_low g_high k m ∙ sym (first k m))
        (λ k m. second_same cols low high a b order f is (λ k. get_or g.words (0 * cols + k) 0) (λ k. get_or g.words (1 * cols + k) 0) g_low g_high k m ∙ sym (second k m))
