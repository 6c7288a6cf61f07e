use Rattle.std.proofs.Common.{arith, ◌≡◌, ◌≤◌, ◌<◌, ◌+◌, ◌*◌, ◌-◌, ◌/◌, ◌%◌, ◌^◌, ◌⊎◌, inl, inr, ℕ, List, get_or, length, sym, subst, ◌∙◌}
use Rattle.std.proofs.lemmas.Bool.{cases_lt}
use Rattle.rz_words.specs.Grid.{Grid, IsShape, grid_of}
use Rattle.mj_angles.specs.Layout.{inverse_of, cols_of}
use Rattle.mj_inverse.specs.Fits.{IsFound}
use Rattle.mj_inverse_four.specs.declared.frame.Frame.{Frame}
use Rattle.mj_inverse_four.specs.Rows.{IsTaken, room_of as room_for}
use Rattle.mj_inverse_four.specs.Fragments.{AreAngles, AreThere, fragment_search}
use Rattle.mj_c.specs.Layouts.{IsDealt, part_of, reach_of}
use Rattle.mj_c.proofs.Risen.{frame_eights, frame_few, frame_shape}
use Rattle.mj_c.proofs.group.solve_group.Goals as goal

pub find_four-answer-requires-clause-shape : goal.find_four-answer-requires-clause-shape
find_four-answer-requires-clause-shape c = let P : Frame → Type 0 = λ (f : Frame). IsShape f.rows f.cols in subst P (sym c.four_frame.ensures.value) (frame_shape c.args.layout)

pub find_four-answer-requires-clause-few : goal.find_four-answer-requires-clause-few
find_four-answer-requires-clause-few c = let P : Frame → Type 0 = λ (f : Frame). f.reach ≤ 256 in subst P (sym c.four_frame.ensures.value) (frame_few c.args.layout)

pub find_four-answer-requires-clause-eights : goal.find_four-answer-requires-clause-eights
find_four-answer-requires-clause-eights c = let P : Frame → Type 0 = λ (f : Frame). f.cols / 8 * 8 ≡ f.cols in subst P (sym c.four_frame.ensures.value) (frame_eights c.args.layout)

pub find_four-answer-requires-clause-room : goal.find_four-answer-requires-clause-room
find_four-answer-requires-clause-room c = let P : Frame → Type 0 = λ (f : Frame). length c.args.grid.now ≡ room_for f.rows f.cols f.reach in subst P (sym c.four_frame.ensures.value) c.requires.grid

pub find_four-answer-requires-clause-angles : goal.find_four-answer-requires-clause-angles
find_four-answer-requires-clause-angles c = let P : Frame → Type 0 = λ (f : Frame). AreAngles f.rows f.reach c.args.angles.now in subst P (sym c.four_frame.ensures.value) c.requires.angles

pub find_four-answer-requires-clause-there : goal.find_four-answer-requires-clause-there
find_four-answer-requires-clause-there c =
    let P : Frame → Type 0 = λ (f : Frame). AreThere f.rows f.cols c.args.angles.now c.args.parts.now c.args.strides.now (c.args.group.first + (c.args.group.count - 1)) in
    subst P (sym c.four_frame.ensures.value) c.requires.there

two_ways : (n : ℕ) → (n % 2 ≡ 0) ⊎ (n % 2 ≡ 1)
two_ways n = by (cases_lt (n % 2) 1)
  where
    by : (n % 2 < 1) ⊎ (1 ≤ n % 2) → (n % 2 ≡ 0) ⊎ (n % 2 ≡ 1)
    by (inl h) = inl (omega arith)
    by (inr h) = inr (omega arith)

byte_of : (lost n : ℕ) → lost ≡ n % 2 → (lost ≡ 0) ⊎ (lost ≡ 1)
byte_of lost n is = by (two_ways n)
  where
    by : (n % 2 ≡ 0) ⊎ (n % 2 ≡ 1) → (lost ≡ 0) ⊎ (lost ≡ 1)
    by (inl h) = inl (is ∙ h)
    by (inr h) = inr (is ∙ h)

pub returns : goal.returns
returns c = record {
  known = λ i few. (
      let y = c.args.layout in
      let answer : ℕ = c.find_four-answer.result in
      let grid : List ℕ = c.find_four-answer.new.room in
      let near : i < c.args.group.count = (let count = c.requires.count in omega arith) in
      let F : Frame → Type 0 = λ (f : Frame). (ws : List ℕ) → answer / 2 ^ i % 2 ≡ 0 → IsTaken f.rows f.cols f.reach grid i ws →
      IsFound (fragment_search f.rows f.cols c.args.angles.now c.args.parts.now c.args.strides.now (c.args.group.first + i)) (grid_of f.rows f.cols ws) in
      let found : (ws : List ℕ) → answer / 2 ^ i % 2 ≡ 0 → IsTaken (inverse_of y) (cols_of y) (reach_of y) grid i ws →
      IsFound (fragment_search (inverse_of y) (cols_of y) c.args.angles.now c.args.parts.now c.args.strides.now (c.args.group.first + i)) (grid_of (inverse_of y) (cols_of y) ws) =
      subst F c.four_frame.ensures.value (λ ws z taken. c.find_four-answer.ensures.found i ws near z taken) in
      let C : Frame → Type 0 = λ (f : Frame). (g : Grid) → IsFound (fragment_search f.rows f.cols c.args.angles.now c.args.parts.now c.args.strides.now (c.args.group.first + i)) g →
      (answer / 2 ^ i % 2 ≡ 0) × ((ws : List ℕ) → IsTaken f.rows f.cols f.reach grid i ws → g ≡ grid_of f.rows f.cols ws) in
      let complete : (g : Grid) → IsFound (fragment_search (inverse_of y) (cols_of y) c.args.angles.now c.args.parts.now c.args.strides.now (c.args.group.first + i)) g →
      (answer / 2 ^ i % 2 ≡ 0) × ((ws : List ℕ) → IsTaken (inverse_of y) (cols_of y) (reach_of y) grid i ws → g ≡ grid_of (inverse_of y) (cols_of y) ws) =
      subst C c.four_frame.ensures.value (λ g f. c.find_four-answer.ensures.complete i g near f) in
      let dealt : IsDealt y grid answer c.args.out.now i (part_of y c.take_all.new.out i) (get_or c.take_all.new.lost i 0) = c.take_all.ensures.known i few in
      record {
        byte = byte_of (get_or c.take_all.new.lost i 0) (answer / 2 ^ i) dealt.bit;
        exact = (λ z. (_, found (part_of y c.take_all.new.out i) (sym dealt.bit ∙ z) (dealt.taken z)), λ g. dealt.bit ∙ (complete g.0 g.1).0);
        found = λ z. found (part_of y c.take_all.new.out i) (sym dealt.bit ∙ z) (dealt.taken z);
        only = λ g f. (let all = complete g f in all.1 (part_of y c.take_all.new.out i) (dealt.taken (dealt.bit ∙ all.0)));
        kept = dealt.kept;
      });
}
