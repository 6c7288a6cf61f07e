use Rattle.std.proofs.Common.{arith, ◌+◌, ◌∙◌}
use Rattle.mj_inverse_four.proofs.fours.put_eight.Goals as goal

pub returns-clause-low : goal.returns-clause-low
returns-clause-low c = λ i small. c.put_four-2.ensures.below (c.args.at + i) (omega arith) ∙ c.put_four.ensures.here i small

pub returns-clause-below : goal.returns-clause-below
returns-clause-below c = λ k low. c.put_four-2.ensures.below k (omega arith) ∙ c.put_four.ensures.below k low

pub returns-clause-above : goal.returns-clause-above
returns-clause-above c = λ k high. c.put_four-2.ensures.above k (omega arith) ∙ c.put_four.ensures.above k (omega arith)
