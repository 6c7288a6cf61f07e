use Rattle.std.proofs.Common.{rules, arith, ◌≤◌, ◌+◌, ◌*◌, ℕ, length}
use Rattle.mj_inverse_sums.proofs.Taken.{place_below, place_le}
use Rattle.mj_inverse_sums.proofs.AllZero.{zero_between}
use Rattle.mj_inverse_sums.proofs.rest.take_rest.Goals as goal

pub returns-else-not-all_zero-clause-zero : goal.returns-else-not-all_zero-clause-zero
returns-else-not-all_zero-clause-zero c = λ t j low high small.
    let u : ℕ = c.args.unit in
    let from = place_le u c.args.from t low in
    let to = place_below u t j c.args.to small high in
    let room : u * c.args.to ≤ length c.args.words.now.items = search rules in
    zero_between c.args.words.now.items _ (u * c.args.from) (u * c.args.to) (u * t + j) c.deref.ensures.value (c.if-not-all_zero.ensures.yes (search rules)) room (omega (arith, from)) to

pub returns-else-not-all_zero-clause-marked : goal.returns-else-not-all_zero-clause-marked
returns-else-not-all_zero-clause-marked c = λ j small zero. (zero, λ t low high. returns-else-not-all_zero-clause-zero c t j low high small)
