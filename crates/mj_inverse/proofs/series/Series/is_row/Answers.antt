use Rattle.std.proofs.Common.{rules, arith, ◌≡◌, ◌+◌, ◌*◌, ℕ, get_or, min, max, refl}
use Rattle.mj_inverse.proofs.Given.{only_row, none_before, none_behind}
use Rattle.mj_inverse.proofs.series.Series.is_row.Goals as goal

pub returns-then-before-clause-row : goal.returns-then-before-clause-row
returns-then-before-clause-row c = λ yes j h.
    let u : ℕ = c.args.unit in
    let o : ℕ = c.args.self.now.origin in
    let s : ℕ = o + c.args.at in
    let e : ℕ = s + c.args.cols in
    let f : ℕ = c.args.self.now.from in
    let t : ℕ = c.args.self.now.to in
    let a : ℕ → ℕ = λ i. get_or c.args.self.now.words.items i 0 in
    let first : c.min.result ≡ min f s = search rules in
    let last : c.max.result ≡ max t e = search rules in
    let is = c.requires.is in (
      λ k. a (u * (s + k) + j),
      only_row u s e f t o c.args.at c.args.cols j a h refl refl is.below is.above
          (λ k l m. c.are_zero-before.ensures.yes c.if-before.true k j (omega arith) m h)
          (λ k l m. c.are_zero-behind.ensures.yes yes k j l (omega arith) h),
    )

pub returns-then-before-clause-fits : goal.returns-then-before-clause-fits
returns-then-before-clause-fits c = λ rows. c.are_zero-behind.ensures.no (λ k j l m h.
    let u : ℕ = c.args.unit in
    let o : ℕ = c.args.self.now.origin in
    let s : ℕ = o + c.args.at in
    let e : ℕ = s + c.args.cols in
    let f : ℕ = c.args.self.now.from in
    let t : ℕ = c.args.self.now.to in
    let a : ℕ → ℕ = λ i. get_or c.args.self.now.words.items i 0 in
    none_behind u s e f t o c.args.at c.args.cols j a h refl refl (rows j h).0 (rows j h).1 k l)

pub returns-else-before-clause-fits : goal.returns-else-before-clause-fits
returns-else-before-clause-fits c = λ rows. c.are_zero-before.ensures.no (λ k j l m h.
    let u : ℕ = c.args.unit in
    let o : ℕ = c.args.self.now.origin in
    let s : ℕ = o + c.args.at in
    let e : ℕ = s + c.args.cols in
    let f : ℕ = c.args.self.now.from in
    let t : ℕ = c.args.self.now.to in
    let a : ℕ → ℕ = λ i. get_or c.args.self.now.words.items i 0 in
    let first : c.min.result ≡ min f s = search rules in
    none_before u s e f t o c.args.at c.args.cols j a h refl refl (rows j h).0 (rows j h).1 c.requires.low c.requires.is.below k (omega arith) m)
