use Rattle.std.proofs.Common.{rules, arith, ◌≤◌, ◌+◌, ◌*◌, ℕ, length}
use Rattle.mj_inverse_sums.proofs.AllZero.{zero_between}
use Rattle.mj_inverse.proofs.ends.is_zero_place.Goals as goal

pub returns : goal.returns
returns c zero = λ j small.
    let u : ℕ = c.args.unit in
    let room : u * c.args.t + u ≤ length c.args.words.now.items = search rules in
    zero_between c.args.words.now.items _ (u * c.args.t) (u * c.args.t + u) (u * c.args.t + j) c.deref.ensures.value (c.all_zero.ensures.yes zero) room (omega arith) (omega arith)
