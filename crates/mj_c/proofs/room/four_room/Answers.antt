use Rattle.std.proofs.Common.{arith, ◌≡◌, ◌≤◌, ◌∙◌, ap, sym, subst}
use Rattle.rz_words.specs.Grid.{IsShape}
use Rattle.mj_inverse_four.specs.declared.frame.Frame.{Frame}
use Rattle.mj_inverse_four.specs.Rows.{room_of as room_for}
use Rattle.mj_c.specs.Layouts.{four_room_of}
use Rattle.mj_c.proofs.Risen.{four_fits, frame_few, frame_shape}
use Rattle.mj_c.proofs.room.four_room.Goals as goal

pub room-requires-clause-shape : goal.room-requires-clause-shape
room-requires-clause-shape c = let P : Frame → Type 0 = λ (f : Frame). IsShape f.rows f.cols in subst P (sym c.four_frame.ensures.value) (frame_shape c.args.layout)

pub room-requires-clause-few : goal.room-requires-clause-few
room-requires-clause-few c = let P : Frame → Type 0 = λ (f : Frame). f.reach ≤ 256 in subst P (sym c.four_frame.ensures.value) (frame_few c.args.layout)

pub returns-clause-value : goal.returns-clause-value
returns-clause-value c = c.room.ensures ∙ ap (λ (f : Frame). room_for f.rows f.cols f.reach) c.four_frame.ensures.value

pub returns-clause-few : goal.returns-clause-few
returns-clause-few c =
    let is : c.room.result ≡ four_room_of c.args.layout = c.room.ensures ∙ ap (λ (f : Frame). room_for f.rows f.cols f.reach) c.four_frame.ensures.value in
    let fits = four_fits c.args.layout in
    omega arith
