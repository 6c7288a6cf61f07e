-- Fragments that are long enough.
use Rattle.std.proofs.Common.{◌≡◌, ℕ, zero, suc, ◌+◌, ◌*◌, ◌<◌, ◌≤◌, arith, refl, sym, ap, ◌∙◌, subst, List, [], ◌∷◌, length, get_or, map, ℤ}
use Rattle.std.specs.Prelude.{true, nat_le}
use Rattle.std.specs.Borrow.{Bor}
use Rattle.std.proofs.lemmas.Bool.{leb-true}
use Rattle.std.proofs.lemmas.Grind.{common_steps}
use Rattle.mj_angles.specs.declared.layout.Layout.{Layout}
use Rattle.mj_angles.specs.Projection.{bins as bin_count}
use Rattle.mj_angles.specs.Layout.{inverse_of, cols_of, angle_of, bins_at_of}
use Rattle.mj_inverse_four.specs.Fragments.{AreThere, part_at}
use Rattle.mj_c.specs.Answers.{are_long}
use Rattle.mj_c.proofs.Ascending.{both}
use Rattle.mj_c.proofs.Risen.{angle_in}

-- a list of words and a stride for each position
record IsLong (y : Layout) (last : ℕ) (positions : List ℕ) (parts : List (Bor (List ℕ))) (strides : List ℕ) : Type 0 where
  all : length parts ≡ length positions
  each : length strides ≡ length positions
  within : (m : ℕ) → m < length positions → last * get_or strides m 0 + bins_at_of y (get_or positions m 0) ≤ length (part_at parts m)

is_long : (y : Layout) (last : ℕ) (positions : List ℕ) (parts : List (Bor (List ℕ))) (strides : List ℕ) → are_long y last positions parts strides ≡ true → IsLong y last positions parts strides
is_long y last [] [] [] long = record { all = refl; each = refl; within = λ m h. absurd (omega arith) }
is_long y last [] [] (stride ∷ strides) long = absurd (grind (arith, common_steps))
is_long y last [] (part ∷ parts) strides long = absurd (grind (arith, common_steps))
is_long y last (i ∷ positions) [] strides long = absurd (grind (arith, common_steps))
is_long y last (i ∷ positions) (part ∷ parts) [] long = absurd (grind (arith, common_steps))
is_long y last (i ∷ positions) (part ∷ parts) (stride ∷ strides) long =
    let two = both (nat_le (last * stride + bins_at_of y i) (length part.now)) (are_long y last positions parts strides) long in
    let rest = is_long y last positions parts strides two.1 in
    record {
      all = ap suc rest.all;
      each = ap suc rest.each;
      within = λ m h. at m h (leb-true (last * stride + bins_at_of y i) (length part.now) two.0) rest.within;
    }
  where
    at : (m : ℕ) → m < suc (length positions) → last * stride + bins_at_of y i ≤ length part.now →
        ((n : ℕ) → n < length positions → last * get_or strides n 0 + bins_at_of y (get_or positions n 0) ≤ length (part_at parts n)) →
        last * get_or (stride ∷ strides) m 0 + bins_at_of y (get_or (i ∷ positions) m 0) ≤ length (part_at (part ∷ parts) m)
    at zero h one rest = one
    at (suc n) h one rest = rest n (omega arith)

pub there_long : (y : Layout) (last : ℕ) (positions : List ℕ) (parts : List (Bor (List ℕ))) (strides : List ℕ) → length positions ≡ inverse_of y → are_long y last positions parts strides ≡ true →
    AreThere (inverse_of y) (cols_of y) (map (angle_of y) positions) parts strides last
there_long y last positions parts strides count long =
    let is = is_long y last positions parts strides long in
    record {
      all = is.all ∙ count;
      each = is.each ∙ count;
      within = λ m h.
          (let Q : ℤ → Type 0 = λ q. last * get_or strides m 0 + bin_count q (inverse_of y) (cols_of y) ≤ length (part_at parts m) in
          subst Q (sym (angle_in y positions m (omega arith))) (is.within m (omega arith)));
    }
