use Rattle.std.proofs.Common.{◌≡◌, ◌≤◌, ◌*◌, sym, subst, length}
use Rattle.rz_words.specs.Grid.{IsShape}
use Rattle.mj_inverse_four.specs.declared.frame.Frame.{Frame}
use Rattle.mj_inverse_four.specs.Rows.{room_of as room_for}
use Rattle.mj_c.proofs.Risen.{frame_few, frame_shape}
use Rattle.mj_c.proofs.group.take_or_leave.Goals as goal

pub take_one-requires-clause-shape : goal.take_one-requires-clause-shape
take_one-requires-clause-shape c = let P : Frame → Type 0 = λ (f : Frame). IsShape f.rows f.cols in subst P (sym c.four_frame.ensures.value) (frame_shape c.args.layout)

pub take_one-requires-clause-reach : goal.take_one-requires-clause-reach
take_one-requires-clause-reach c = let P : Frame → Type 0 = λ (f : Frame). f.reach ≤ 256 in subst P (sym c.four_frame.ensures.value) (frame_few c.args.layout)

pub take_one-requires-clause-room : goal.take_one-requires-clause-room
take_one-requires-clause-room c = let P : Frame → Type 0 = λ (f : Frame). length c.args.grid.now ≡ room_for f.rows f.cols f.reach in subst P (sym c.four_frame.ensures.value) c.requires.grid

pub take_one-requires-clause-out : goal.take_one-requires-clause-out
take_one-requires-clause-out c = let P : Frame → Type 0 = λ (f : Frame). length c.args.out.now ≡ f.rows * f.cols in subst P (sym c.four_frame.ensures.value) c.requires.room
