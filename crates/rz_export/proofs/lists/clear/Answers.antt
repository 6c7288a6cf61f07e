use Rattle.std.proofs.Common.{◌==◌, ◌∙◌}
use Rattle.rz_blocks.specs.Marks.{is_marked, has_room}
use Rattle.rz_export.proofs.Steps.{clear-more}
use Rattle.rz_export.proofs.lists.clear.Goals as goal

pub loop-place-preserved : goal.loop-place-preserved
loop-place-preserved c =
    let places = c.args.places.now in
    let i = c.loop-place.place-index in
    record {
      marks = λ n q.
          c.forget.ensures.marks n q
          ∙ clear-more places i n (q.fid == c.args.fid) (is_marked c.loop-place.listed n q) (is_marked c.args.listed.now n q) c.loop-place-test.true (c.loop-place.invariant.marks n q);
      room = λ n q.
          c.forget.ensures.room n q
          ∙ clear-more places i n (q.fid == c.args.fid) (has_room c.loop-place.listed n q) (has_room c.args.listed.now n q) c.loop-place-test.true (c.loop-place.invariant.room n q);
    }
