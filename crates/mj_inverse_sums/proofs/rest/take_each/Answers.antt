use Rattle.std.proofs.Common.{rules, ◌+◌, get_or, ◌∙◌}
use Rattle.mj_inverse_sums.proofs.Taken.{IsTaken, take_more}
use Rattle.mj_inverse_sums.proofs.rest.take_each.Goals as goal

pub loop-t-preserved : goal.loop-t-preserved
loop-t-preserved c =
    let i = c.loop-t.invariant in
    let e = c.take_place.ensures in
    let next : IsTaken c.args.unit c.args.from (c.loop-t.t + 1) (λ k. get_or c.args.words.now.items k 0) (λ k. get_or c.take_place.new.words.items k 0) (λ k. get_or c.args.bad.now k 0) (λ k. get_or c.take_place.new.bad k 0) =
    take_more c.args.unit c.args.from c.loop-t.t (λ k. get_or c.args.words.now.items k 0) (λ k. get_or c.loop-t.words.items k 0) (λ k. get_or c.take_place.new.words.items k 0)
    (λ k. get_or c.args.bad.now k 0) (λ k. get_or c.loop-t.bad k 0) (λ k. get_or c.take_place.new.bad k 0)
    (search rules)
    (record { zero = i.zero; below = i.below; above = i.above; marked = i.marked; unmarked = i.unmarked })
    e.zero e.below e.above e.marked e.unmarked in
    record {
      zero = next.zero;
      below = next.below;
      above = next.above;
      len = e.len ∙ i.len;
      marked = next.marked;
      unmarked = next.unmarked;
    }
