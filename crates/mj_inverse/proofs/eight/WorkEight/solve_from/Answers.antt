use Rattle.std.proofs.Common.{arith, ◌-◌}
use Rattle.std.proofs.Math.Nat.{mul-le-mul_right}
use Rattle.mj_inverse.proofs.eight.WorkEight.solve_from.Goals as goal

pub find_from_beside-requires-clause-near : goal.find_from_beside-requires-clause-near
find_from_beside-requires-clause-near c = λ k d h.
    let some = c.self.invariant.0.shape.some_row in
    let small = c.requires.small k d h in
    omega arith

pub find_from_beside-requires-clause-reaches : goal.find_from_beside-requires-clause-reaches
find_from_beside-requires-clause-reaches c = λ k d h.
    let some = c.self.invariant.0.shape.some_row in
    let small = mul-le-mul_right (c.self.inside.rows - 1) (c.requires.small k d h) in
    omega arith
