use Rattle.std.proofs.Common.{cond, get_or, ap, ◌∙◌}
use Rattle.std.specs.Ordering.{is_eq}
use Rattle.rz_events.specs.Keys.{key_cmp}
use Rattle.rz_blocks.specs.Marks.{is_marked, is_same}
use Rattle.rz_export.specs.Nodes.{is_named}
use Rattle.rz_export.proofs.Steps.{mark-more}
use Rattle.rz_export.proofs.lists.mark.Goals as goal

pub loop-place-preserved : goal.loop-place-preserved
loop-place-preserved c =
    let places = c.args.places.now in
    let i = c.loop-place.place-index in
    let key = c.args.key in
    record {
      marks = λ n q.
          c.set.ensures.marks n q
          ∙ ap (λ b. cond (is_same (get_or places i 0) key n q) b (is_marked c.loop-place.listed n q)) c.is_named.ensures
          ∙ mark-more places i n (is_eq (key_cmp key q)) (λ x. is_named x places c.args.published) (is_marked c.loop-place.listed n q) (is_marked c.args.listed.now n q) c.loop-place-test.true (c.loop-place.invariant.marks n q);
      room = λ n q. c.set.ensures.room n q ∙ c.loop-place.invariant.room n q;
    }
