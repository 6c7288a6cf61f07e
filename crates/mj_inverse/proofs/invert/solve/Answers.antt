use Rattle.std.proofs.Common.{rules, arith, ◌≡◌, ◌<◌, ◌+◌, ◌*◌, ℕ, List, get_or, length, map, ap, ◌∙◌, subst}
use Rattle.mj_inverse.specs.Rows.{AreRows, HaveValues, block_rows}
use Rattle.mj_inverse.specs.Series.{seq, angle}
use Rattle.mj_inverse.proofs.Blocks.{finite-block_rows, length-block_rows}
use Rattle.mj_inverse.proofs.Levels.{same_room, same_length}
use Rattle.mj_inverse.proofs.Rowed.{are-block_rows}
use Rattle.mj_inverse.proofs.invert.solve.Goals as goal

pub returns-then-all_zero-clause-same : goal.returns-then-all_zero-clause-same
returns-then-all_zero-clause-same c = same_room c.args.all.now c.invert.new.all c.give_all.new.all c.invert.ensures.same c.give_all.ensures.same

pub returns-else-all_zero-clause-same : goal.returns-else-all_zero-clause-same
returns-else-all_zero-clause-same c = same_room c.args.all.now c.invert.new.all c.forget.new.all c.invert.ensures.same c.forget.ensures.same

pub returns-then-all_zero-clause-exact : goal.returns-then-all_zero-clause-exact
returns-then-all_zero-clause-exact c = λ yes j h.
    let u : ℕ = c.args.unit in
    let cols : ℕ = c.args.cols in
    let low : ℕ = c.args.low in
    let n : ℕ = length c.args.all.now in
    let out : ℕ → ℕ = λ i. get_or c.give_all.new.out (u * i + j) 0 in
    let m : length c.invert.new.all ≡ n = same_length c.args.all.now c.invert.new.all c.invert.ensures.same in
    let rows : map (seq u j) c.invert.new.all ≡ block_rows cols low n out = c.give_all.ensures.rows yes j h ∙ ap (λ k. block_rows cols low k out) m in
    let long : length c.invert.new.bad ≡ u = search rules in
    let unmarked : get_or c.invert.new.bad j 0 ≡ 0 = c.all_zero.ensures.yes c.if-all_zero.true j (omega arith) in
    let P : List (ℕ → ℕ) → Type 0 = λ fs. HaveValues angle (seq u j) fs c.args.all.now in
    subst P rows (c.invert.ensures.values j h unmarked).1

pub returns-then-all_zero-clause-only : goal.returns-then-all_zero-clause-only
returns-then-all_zero-clause-only c = λ yes j w h values.
    let u : ℕ = c.args.unit in
    let cols : ℕ = c.args.cols in
    let low : ℕ = c.args.low in
    let n : ℕ = length c.args.all.now in
    let out : ℕ → ℕ = λ i. get_or c.give_all.new.out (u * i + j) 0 in
    let m : length c.invert.new.all ≡ n = same_length c.args.all.now c.invert.new.all c.invert.ensures.same in
    let rows : map (seq u j) c.invert.new.all ≡ block_rows cols low n out = c.give_all.ensures.rows yes j h ∙ ap (λ k. block_rows cols low k out) m in
    let found = c.invert.ensures.complete j (block_rows cols low n w) h (c.requires.unmarked j h) (length-block_rows cols low n w) (finite-block_rows cols low n w) values in
    found.1 ∙ rows

pub returns-then-all_zero-clause-complete : goal.returns-then-all_zero-clause-complete
returns-then-all_zero-clause-complete c = λ each. c.give_all.ensures.fits (λ j h.
    let u : ℕ = c.args.unit in
    let cols : ℕ = c.args.cols in
    let low : ℕ = c.args.low in
    let n : ℕ = length c.args.all.now in
    let w : ℕ → ℕ = (each j h).0 in
    let found = c.invert.ensures.complete j (block_rows cols low n w) h (c.requires.unmarked j h) (length-block_rows cols low n w) (finite-block_rows cols low n w) (each j h).1 in
    let P : List (ℕ → ℕ) → Type 0 = λ fs. AreRows cols low fs in
    subst P found.1 (are-block_rows cols low n w))

pub returns-else-all_zero-clause-complete : goal.returns-else-all_zero-clause-complete
returns-else-all_zero-clause-complete c = λ each.
    let no = c.if-all_zero.false in
    let long : length c.invert.new.bad ≡ c.args.unit = search rules in
    let yes = c.all_zero.ensures.no (λ j l.
    let u : ℕ = c.args.unit in
    let cols : ℕ = c.args.cols in
    let low : ℕ = c.args.low in
    let n : ℕ = length c.args.all.now in
    let h : j < u = omega arith in
    let w : ℕ → ℕ = (each j h).0 in
    (c.invert.ensures.complete j (block_rows cols low n w) h (c.requires.unmarked j h) (length-block_rows cols low n w) (finite-block_rows cols low n w) (each j h).1).0) in
    search rules
