use Rattle.std.proofs.Common.{◌+◌, ℕ, get_or, refl}
use Rattle.mj_inverse.proofs.Given.{given_row}
use Rattle.mj_inverse.proofs.series.Series.give_row.Goals as goal

pub returns-clause-row : goal.returns-clause-row
returns-clause-row c = λ j w h row.
    let u : ℕ = c.args.unit in
    let o : ℕ = c.args.self.now.origin in
    let s : ℕ = o + c.args.at in
    given_row u s (s + c.args.cols) 0 0 o c.args.at c.args.cols j (λ i. get_or c.args.self.now.words.items i 0) h refl refl w row (λ i. get_or c.give_words.new.out i 0) c.give_words.ensures.out
