use Rattle.std.proofs.Common.{arith, ◌≡◌, ◌<◌, ◌+◌, ◌*◌, ℕ, ℤ, get_or, sym, ◌∙◌, ◌≤◌, ◌⊎◌, inl, inr, subst}
use Rattle.std.proofs.lemmas.Bool.{cases_lt}
use Rattle.mj_angles.specs.Projection.{bins, bin}
use Rattle.mj_inverse_sums.specs.Line.{line_sum}
use Rattle.mj_inverse.specs.Padded.{inner, width_of}
use Rattle.mj_inverse.proofs.Crossed.{line-is, line_fits}
use Rattle.mj_inverse.proofs.Left.{none_left, left_none}
use Rattle.mj_inverse.proofs.compare.compare_run.Goals as goal

later : (P : ℕ → Type 0) (b m : ℕ) → m < b + 1 → (m < b → P m) → P b → P m
later P b m h before here = by (cases_lt m b)
  where
    by : (m < b) ⊎ (b ≤ m) → P m
    by (inl l) = before l
    by (inr g) = let e : b ≡ m = omega arith in subst P e here

pub add_difference-sum-requires-clause-line : goal.add_difference-sum-requires-clause-line
add_difference-sum-requires-clause-line c = λ j h.
    let p : ℤ = c.args.s.now.direction in
    let within : c.loop-b.b < bins p c.args.frame.rows c.args.frame.cols = (let all = c.requires.within in let test = c.loop-b-test.true in omega arith) in
    rw (c.line_start-begin.ensures.value, c.line_step-step.ensures, c.width.ensures, c.requires.room)
    (line_fits c.args.frame.rows c.args.frame.cols c.args.frame.reach p c.loop-b.b j c.requires.lined.near c.requires.lined.reaches within h)

pub add_difference-sum-requires-clause-given : goal.add_difference-sum-requires-clause-given
add_difference-sum-requires-clause-given c =
    let all = c.requires.within in
    let test = c.loop-b-test.true in
    let inside = c.requires.given.within in
    omega arith

pub loop-b-init : goal.loop-b-init
loop-b-init c = λ i small. (λ z. (z, λ b l h. absurd (omega arith)), λ h. h.0)

pub loop-b-preserved : goal.loop-b-preserved
loop-b-preserved c = λ i small.
    let rows : ℕ = c.args.frame.rows in
    let cols : ℕ = c.args.frame.cols in
    let s = c.args.s.now in
    let p : ℤ = s.direction in
    let b : ℕ = c.loop-b.b in
    let v : ℕ = width_of cols c.args.frame.reach in
    let within : b < bins p rows cols = (let all = c.requires.within in let test = c.loop-b-test.true in omega arith) in
    let before = c.loop-b.invariant i small in
    let sum : line_sum c.args.grid.now i rows (c.line_start-begin.result + b) c.line_step-step.result ≡ bin (inner c.args.grid.now v c.args.frame.reach i) rows cols p b =
    rw (c.line_start-begin.ensures.value, c.line_step-step.ensures, c.width.ensures)
    (line-is c.args.grid.now i rows cols c.args.frame.reach c.requires.padded small p b c.requires.lined.near c.requires.lined.reaches within) in
    let P : ℕ → Type 0 = λ m. get_or c.args.words.now (8 * (s.from + m) + i) 0 ≡ bin (inner c.args.grid.now v c.args.frame.reach i) rows cols p m in
    let new = c.add_difference-sum.ensures i small in (
      λ z.
          (let n = none_left (get_or c.loop-b.sum i 0) (get_or c.args.words.now (8 * (s.from + b) + i) 0) (line_sum c.args.grid.now i rows (c.line_start-begin.result + b) c.line_step-step.result) (sym new ∙ z) in
          let k = before.0 n.0 in
          (k.0, λ m from l. later P b m (omega arith) (k.1 m from) (n.1 ∙ sum))),
      λ h.
          new
          ∙ left_none (get_or c.loop-b.sum i 0) (get_or c.args.words.now (8 * (s.from + b) + i) 0) (line_sum c.args.grid.now i rows (c.line_start-begin.result + b) c.line_step-step.result)
          (before.1 (h.0, λ m from l. h.1 m from (omega arith))) (h.1 b (omega arith) (omega arith) ∙ sym sum),
    )

pub returns : goal.returns
returns c = λ i small.
    let end : c.loop-b.b ≡ c.args.to = omega arith in
    let is = c.loop-b.invariant i small in (
      λ z. (let k = is.0 z in (k.0, λ b from h. k.1 b from (omega arith))),
      λ h. is.1 (h.0, λ b from l. h.1 b from (omega arith)),
    )
