use Rattle.std.proofs.Common.{rules, arith, ◌≡◌, ◌≤◌, ◌<◌, ◌+◌, ◌*◌, ◌/◌, ◌%◌, ◌^◌, ◌∙◌, ℕ, length, sym, ap, subst}
use Rattle.std.specs.Prelude.{slice_range}
use Rattle.rz_words.specs.Grid.{IsShape}
use Rattle.mj_angles.specs.Layout.{inverse_of, cols_of}
use Rattle.mj_inverse_four.specs.declared.frame.Frame.{Frame}
use Rattle.mj_inverse_four.specs.Rows.{IsTaken, room_of as room_for}
use Rattle.mj_c.specs.Layouts.{part_of, reach_of}
use Rattle.mj_c.proofs.Risen.{frame_eights, frame_few, frame_shape}
use Rattle.mj_c.proofs.group.take_whole.Goals as goal

zero_bits : (a j : ℕ) → a ≡ 0 → a / 2 ^ j % 2 ≡ 0
zero_bits a j e = ap (λ x. x / 2 ^ j % 2) e ∙ none j
  where
    none : (j : ℕ) → 0 / 2 ^ j % 2 ≡ 0
    none j = search (rules, arith)

pub take_four-requires-clause-shape : goal.take_four-requires-clause-shape
take_four-requires-clause-shape c = let P : Frame → Type 0 = λ (f : Frame). IsShape f.rows f.cols in subst P (sym c.four_frame.ensures.value) (frame_shape c.args.layout)

pub take_four-requires-clause-few : goal.take_four-requires-clause-few
take_four-requires-clause-few c = let P : Frame → Type 0 = λ (f : Frame). f.reach ≤ 256 in subst P (sym c.four_frame.ensures.value) (frame_few c.args.layout)

pub take_four-requires-clause-eights : goal.take_four-requires-clause-eights
take_four-requires-clause-eights c = let P : Frame → Type 0 = λ (f : Frame). f.cols / 8 * 8 ≡ f.cols in subst P (sym c.four_frame.ensures.value) (frame_eights c.args.layout)

pub take_four-requires-clause-room : goal.take_four-requires-clause-room
take_four-requires-clause-room c = let P : Frame → Type 0 = λ (f : Frame). length c.args.grid.now ≡ room_for f.rows f.cols f.reach in subst P (sym c.four_frame.ensures.value) c.requires.grid

pub take_four-requires-clause-out : goal.take_four-requires-clause-out
take_four-requires-clause-out c = let P : Frame → Type 0 = λ (f : Frame). length c.args.out.now ≡ 4 * (f.rows * f.cols) in subst P (sym c.four_frame.ensures.value) c.requires.room

pub returns : goal.returns
returns c = record {
  known = λ i few.
      (let y = c.args.layout in
      let four = c.requires.four in
      let small : i < 4 = omega arith in
      let P : Frame → Type 0 = λ (f : Frame). IsTaken f.rows f.cols f.reach c.args.grid.now i (slice_range c.take_four.new.out (i * (f.rows * f.cols)) (i * (f.rows * f.cols) + f.rows * f.cols)) in
      let taken : IsTaken (inverse_of y) (cols_of y) (reach_of y) c.args.grid.now i (part_of y c.take_four.new.out i) = subst P c.four_frame.ensures.value (c.take_four.ensures i small) in
      record {
        bit = c.clear.ensures i ∙ sym (zero_bits c.args.answer i c.requires.zero);
        taken = λ z. taken;
        kept = λ one. absurd (let z = c.clear.ensures i in omega arith);
      });
  kept = λ i h m. absurd (omega arith);
}
