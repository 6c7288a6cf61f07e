use Rattle.std.proofs.Common.{arith, ◌≡◌, ◌+◌, ◌*◌, ◌-◌, ℕ, ap}
use Rattle.std.specs.Prelude.{min}
use Rattle.mj_inverse_four.proofs.Cases.{of_four}
use Rattle.mj_inverse_four.proofs.starts.starts_of.Goals as goal

pub returns : goal.returns
returns c =
    let g = c.args.group in
    let some = c.requires.some in
    let few = c.requires.few in
    let at : (x y : ℕ) → x ≡ y → (c.args.group.first + x) * c.args.stride ≡ (c.args.group.first + y) * c.args.stride = λ x y e. ap (λ z. (c.args.group.first + z) * c.args.stride) e in
    of_four _
    (let e : c.args.group.first ≡ c.args.group.first + min 0 (c.args.group.count - 1) = omega arith in ap (λ z. z * c.args.stride) e)
    (at c.at_most-second.result (min 1 (c.args.group.count - 1)) c.at_most-second.ensures)
    (at c.at_most-third.result (min 2 (c.args.group.count - 1)) c.at_most-third.ensures)
    (at _ _ (let e : c.args.group.count - 1 ≡ min 3 (c.args.group.count - 1) = omega arith in e))
