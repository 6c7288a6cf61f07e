use Rattle.std.proofs.Common.{◌||◌, ℕ, List, get_or, ap, ◌∙◌, subst}
use Rattle.std.proofs.lemmas.List.{take_all}
use Rattle.rz_blocks.specs.Marks.{is_beside}
use Rattle.rz_export.specs.Kept.{AreRoomy}
use Rattle.rz_export.proofs.Steps.{room-more}
use Rattle.rz_export.proofs.lists.make_room.Goals as goal

pub loop-place-preserved : goal.loop-place-preserved
loop-place-preserved c = record {
  marks = λ n q. c.in_ok-make_room.ensures.marks n q ∙ c.loop-place.invariant.marks n q;
  kept = λ n q had.
      c.in_ok-make_room.ensures.room n q
      ∙ ap (λ t. t || is_beside (get_or c.args.places.now c.loop-place.place-index 0) c.args.key n q) (c.loop-place.invariant.kept n q had);
  room = room-more c.args.places.now c.loop-place.place-index c.args.key c.loop-place.listed c.make_room.new.self c.loop-place-test.true c.in_ok-make_room.ensures.room c.loop-place.invariant.room;
}

pub returns-clause-room : goal.returns-clause-room
returns-clause-room c =
    subst (λ (ps : List ℕ). AreRoomy c.loop-place.listed ps c.args.key) (take_all c.loop-place.place-index c.args.places.now c.loop-place-test.false) c.loop-place.invariant.room
