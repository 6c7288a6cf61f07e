-- The angles of positions that rise.
use Rattle.std.proofs.Common.{◌≡◌, ℕ, zero, suc, ◌-◌, ◌*◌, ◌/◌, ◌<◌, ◌≤◌, arith, refl, sym, ap, ◌∙◌, subst, List, [], ◌∷◌, length, get_or, map, ℤ}
use Rattle.std.specs.Prelude.{true, unsigned_abs, nat_lt, ◌<ℤ◌}
use Rattle.std.specs.List.{list_all}
use Rattle.std.proofs.lemmas.Int.{ints}
use Rattle.std.proofs.lemmas.Bool.{ltb-true}
use Rattle.std.proofs.Math.Nat.{mul-le-mul_right}
use Rattle.mj_angles.specs.declared.layout.Layout.{Layout}
use Rattle.mj_angles.specs.declared.layout.Layout.TheVariants.{L0, L1, L2, L0B1, L0B2, L0B3, L1B1, L1B2, L1B3, L2B1, L2B2, L2B3}
use Rattle.mj_angles.specs.Layout.{inverse_of, cols_of, safe_of, angle_of}
use Rattle.mj_angles.proofs.Numbers.{angle_of-small}
use Rattle.mj_inverse_four.specs.Rows.{angle_at}
use Rattle.mj_inverse_four.specs.Fragments.{AreAngles}
use Rattle.rz_words.specs.Grid.{IsShape}
use Rattle.mj_c.specs.Layouts.{four_room_of, reach_of, room_of}
use Rattle.mj_c.specs.Answers.{is_ascending_from}
use Rattle.mj_c.proofs.Ascending.{both, later_above}

pub angle_in : (y : Layout) (positions : List ℕ) (m : ℕ) → m < length positions → angle_at (map (angle_of y) positions) m ≡ angle_of y (get_or positions m 0)
angle_in y [] m h = absurd (omega arith)
angle_in y (i ∷ others) zero h = refl
angle_in y (i ∷ others) (suc m) h = angle_in y others m (let k : suc m < suc (length others) = h in omega arith)

pub known_in : (y : Layout) (positions : List ℕ) → list_all (λ i. nat_lt i (safe_of y)) positions ≡ true → (m : ℕ) → m < length positions → get_or positions m 0 < safe_of y
known_in y [] known m h = absurd (omega arith)
known_in y (i ∷ others) known zero h = ltb-true i (safe_of y) (both (nat_lt i (safe_of y)) (list_all (λ i. nat_lt i (safe_of y)) others) known).0
known_in y (i ∷ others) known (suc m) h =
    known_in y others (both (nat_lt i (safe_of y)) (list_all (λ i. nat_lt i (safe_of y)) others) known).1 m (let k : suc m < suc (length others) = h in omega arith)

length_angles : (y : Layout) (positions : List ℕ) → length (map (angle_of y) positions) ≡ length positions
length_angles y [] = refl
length_angles y (i ∷ others) = ap suc (length_angles y others)

pub inverse_most : (y : Layout) → inverse_of y ≤ 8
inverse_most y = grind arith

pub reach_least : (y : Layout) → 8 ≤ reach_of y
reach_least y = grind arith

pub angle_rises : (y : Layout) (i j : ℕ) → i < j → angle_of y i <ℤ angle_of y j
angle_rises y i j h = grind (arith, ints)

pub are_angles : (y : Layout) (positions : List ℕ) → list_all (λ i. nat_lt i (safe_of y)) positions ≡ true → is_ascending_from 0 positions ≡ true → length positions ≡ inverse_of y →
    AreAngles (inverse_of y) (reach_of y) (map (angle_of y) positions)
are_angles y positions known rises count = record {
  count = length_angles y positions ∙ count;
  small = λ m h. (let k = near m h in omega arith);
  near = λ m h. (let k = near m h in let r = reach_least y in omega arith);
  reaches = λ m h. mul-le-mul_right (inverse_of y - 1) (near m h);
  rises = λ l m less h.
      (let Q : ℤ → Type 0 = λ q. angle_at (map (angle_of y) positions) l <ℤ q in
      let P : ℤ → Type 0 = λ p. p <ℤ angle_of y (get_or positions m 0) in
      subst Q (sym (angle_in y positions m (omega arith))) (subst P (sym (angle_in y positions l (omega arith)))
      (angle_rises y (get_or positions l 0) (get_or positions m 0) (later_above 0 positions l m rises less (omega arith)))));
}
  where
    near : (m : ℕ) → m < inverse_of y → unsigned_abs (angle_at (map (angle_of y) positions) m) ≤ 8
    near m h =
        let P : ℤ → Type 0 = λ q. unsigned_abs q ≤ 8 in
        subst P (sym (angle_in y positions m (omega arith))) (angle_of-small y (get_or positions m 0) (known_in y positions known m (omega arith)))

-- the frame of four blocks
pub frame_shape : (y : Layout) → IsShape (inverse_of y) (cols_of y)
frame_shape y = record { some_row = grind arith; few_rows = grind arith; some_column = grind arith; few_columns = grind arith }

pub frame_few : (y : Layout) → reach_of y ≤ 256
frame_few y = grind arith

-- each layout has a multiple of eight columns
pub frame_eights : (y : Layout) → cols_of y / 8 * 8 ≡ cols_of y
frame_eights L0 = refl
frame_eights L1 = refl
frame_eights L2 = refl
frame_eights L0B1 = refl
frame_eights L0B2 = refl
frame_eights L0B3 = refl
frame_eights L1B1 = refl
frame_eights L1B2 = refl
frame_eights L1B3 = refl
frame_eights L2B1 = refl
frame_eights L2B2 = refl
frame_eights L2B3 = refl

-- the room that is lent is enough
pub four_fits : (y : Layout) → four_room_of y ≤ room_of y
four_fits L0 = omega arith
four_fits L1 = omega arith
four_fits L2 = omega arith
four_fits L0B1 = omega arith
four_fits L0B2 = omega arith
four_fits L0B3 = omega arith
four_fits L1B1 = omega arith
four_fits L1B2 = omega arith
four_fits L1B3 = omega arith
four_fits L2B1 = omega arith
four_fits L2B2 = omega arith
four_fits L2B3 = omega arith
