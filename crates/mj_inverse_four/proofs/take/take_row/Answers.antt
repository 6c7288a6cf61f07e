use Rattle.std.proofs.Common.{arith, ◌≡◌, ◌+◌, ◌*◌, ◌∙◌, get_or, ap}
use Rattle.mj_inverse_four.proofs.Taken.{eight_more}
use Rattle.mj_inverse_four.proofs.take.take_row.Goals as goal

pub loop-h-preserved : goal.loop-h-preserved
loop-h-preserved c = record {
  first = eight_more c.args.grid.now c.loop-h.a c.take_two.new.a c.args.from c.args.to c.loop-h.h 0 (λ r h. c.take_two.ensures.first r h ∙ ap (λ x. get_or c.args.grid.now x 0) (let e : c.args.from + 32 * c.loop-h.h + 4 * r ≡ c.args.from + 32 * c.loop-h.h + 0 + 4 * r = omega arith in e)) c.take_two.ensures.first_below c.loop-h.invariant.first;
  second = eight_more c.args.grid.now c.loop-h.b c.take_two.new.b c.args.from c.args.to c.loop-h.h 1 (λ r h. c.take_two.ensures.second r h ∙ ap (λ x. get_or c.args.grid.now x 0) (let e : c.args.from + 32 * c.loop-h.h + 4 * r + 1 ≡ c.args.from + 32 * c.loop-h.h + 1 + 4 * r = omega arith in e)) c.take_two.ensures.second_below c.loop-h.invariant.second;
  third = eight_more c.args.grid.now c.loop-h.c c.take_two-in-loop-h.new.a c.args.from c.args.to c.loop-h.h 2 (λ r h. c.take_two-in-loop-h.ensures.first r h ∙ ap (λ x. get_or c.args.grid.now x 0) (let e : c.args.from + 32 * c.loop-h.h + 2 + 4 * r ≡ c.args.from + 32 * c.loop-h.h + 2 + 4 * r = omega arith in e)) c.take_two-in-loop-h.ensures.first_below c.loop-h.invariant.third;
  fourth = eight_more c.args.grid.now c.loop-h.d c.take_two-in-loop-h.new.b c.args.from c.args.to c.loop-h.h 3 (λ r h. c.take_two-in-loop-h.ensures.second r h ∙ ap (λ x. get_or c.args.grid.now x 0) (let e : c.args.from + 32 * c.loop-h.h + 2 + 4 * r + 1 ≡ c.args.from + 32 * c.loop-h.h + 3 + 4 * r = omega arith in e)) c.take_two-in-loop-h.ensures.second_below c.loop-h.invariant.fourth;
  first_below = λ m h. c.take_two.ensures.first_below m (omega arith) ∙ c.loop-h.invariant.first_below m h;
  second_below = λ m h. c.take_two.ensures.second_below m (omega arith) ∙ c.loop-h.invariant.second_below m h;
  third_below = λ m h. c.take_two-in-loop-h.ensures.first_below m (omega arith) ∙ c.loop-h.invariant.third_below m h;
  fourth_below = λ m h. c.take_two-in-loop-h.ensures.second_below m (omega arith) ∙ c.loop-h.invariant.fourth_below m h;
}
