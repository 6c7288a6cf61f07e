use Rattle.std.proofs.Common.{arith, ◌≡◌, ℕ, subst}
use Rattle.mj_inverse.specs.Padded.{IsPadded}
use Rattle.mj_inverse.proofs.lent.clear_beside.Goals as goal

pub loop-l-init : goal.loop-l-init
loop-l-init c = record { left = λ l k i h small low. absurd (omega arith); right = λ l k i h small from near. absurd (omega arith) }

pub loop-l-preserved : goal.loop-l-preserved
loop-l-preserved c = c.clear_row.ensures c.loop-l.invariant

pub returns : goal.returns
returns c =
    let end : c.loop-l.l ≡ c.args.frame.rows = omega arith in
    let P : ℕ → Type 0 = λ n. IsPadded n c.args.frame.cols c.args.frame.reach c.loop-l.grid in
    subst P end c.loop-l.invariant
