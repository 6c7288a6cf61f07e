use Rattle.std.proofs.Common.{rules, arith, ◌≤◌, ◌+◌, ◌*◌, ℕ, length}
use Rattle.mj_inverse_sums.proofs.Taken.{place_below, place_le}
use Rattle.mj_inverse_sums.proofs.AllZero.{zero_between}
use Rattle.mj_inverse.proofs.Trimmed.{zero_within}
use Rattle.mj_inverse.proofs.ends.are_zero.Goals as goal

pub returns-clause-yes : goal.returns-clause-yes
returns-clause-yes c = λ zero t j low high small.
    let u : ℕ = c.args.unit in
    let from = place_le u c.args.from t low in
    let to = place_below u t j c.args.to small high in
    let room : u * c.args.to ≤ length c.args.words.now.items = search rules in
    zero_between c.args.words.now.items _ (u * c.args.from) (u * c.args.to) (u * t + j) c.deref.ensures.value (c.all_zero.ensures.yes zero) room (omega (arith, from)) to

pub returns-clause-no : goal.returns-clause-no
returns-clause-no c = λ zeros.
    let u : ℕ = c.args.unit in
    let room : u * c.args.to ≤ length c.args.words.now.items = search rules in
    c.all_zero.ensures.no (zero_within u c.args.from c.args.to c.args.words.now.items _ c.deref.ensures.value c.requires.some room zeros)
