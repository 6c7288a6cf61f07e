use Rattle.std.proofs.Common.{arith, ◌≡◌, ◌<◌, ◌+◌, ◌*◌, ◌-◌, ℕ, ℤ, get_or, sym, ap, ◌∙◌, ◌≤◌, ◌⊎◌, inl, inr, subst}
use Rattle.std.proofs.lemmas.Bool.{cases_lt}
use Rattle.mj_angles.specs.Projection.{bins, bin, offset}
use Rattle.mj_inverse_four.specs.Rows.{inner, step_of, width_of}
use Rattle.mj_inverse_four.specs.Starts.{start_of}
use Rattle.mj_inverse_four.proofs.Crossed.{line-is, line_fits}
use Rattle.mj_inverse_four.proofs.Left.{none_left, left_none}
use Rattle.mj_inverse_four.proofs.compare.compare_run.Goals as goal

line_next : (x reach off b : ℕ) → x ≡ reach - off → 4 * x + 4 * b + 4 ≡ 4 * (reach - off + (b + 1))
line_next x reach off b e = omega arith

line_at : (x reach off b : ℕ) → x ≡ reach - off → 4 * x + 4 * b ≡ 4 * (reach - off + b)
line_at x reach off b e = omega arith

stepped : (x y : ℕ) → x ≡ y → 4 * x ≡ 4 * y
stepped x y e = omega arith

-- two more bins
later : (P : ℕ → Type 0) (from h m : ℕ) → m < from + 2 * (h + 1) → (m < from + 2 * h → P m) → P (from + 2 * h) → P (from + 2 * h + 1) → P m
later P from h m l before here next = by (cases_lt m (from + 2 * h)) (cases_lt m (from + 2 * h + 1))
  where
    by : (m < from + 2 * h) ⊎ (from + 2 * h ≤ m) → (m < from + 2 * h + 1) ⊎ (from + 2 * h + 1 ≤ m) → P m
    by (inl less) _ = before less
    by (inr more) (inl less) = let e : from + 2 * h ≡ m = omega arith in subst P e here
    by (inr more) (inr most) = let e : from + 2 * h + 1 ≡ m = omega arith in subst P e next

pub two_of-two-requires : goal.two_of-two-requires
two_of-two-requires c = λ i small. let w = c.requires.there i small in let test = c.loop-h-test.true in let within = c.requires.within in omega arith

pub add_difference-more-requires : goal.add_difference-more-requires
add_difference-more-requires c = λ j h.
    let b : ℕ = c.args.from + 2 * c.loop-h.h in
    let within : b < bins c.args.p.angle c.args.frame.rows c.args.frame.cols = (let all = c.requires.within in let test = c.loop-h-test.true in omega arith) in
    rw (c.requires.room)
    (line_fits c.args.frame.rows c.args.frame.cols c.args.frame.reach c.args.p.angle b j _ _ (line_at c.line_start-begin.result c.args.frame.reach (offset c.args.p.angle c.args.frame.rows) (c.args.from + 2 * c.loop-h.h) c.line_start-begin.ensures.value)
    (stepped c.line_step-step.result (step_of (width_of c.args.frame.cols c.args.frame.reach) c.args.p.angle) (c.line_step-step.ensures.value ∙ ap (λ w. step_of w c.args.p.angle) c.width.ensures)) c.requires.near c.requires.reaches within h)

pub add_difference-sum-requires : goal.add_difference-sum-requires
add_difference-sum-requires c = λ j h.
    let b : ℕ = c.args.from + 2 * c.loop-h.h + 1 in
    let within : b < bins c.args.p.angle c.args.frame.rows c.args.frame.cols = (let all = c.requires.within in let test = c.loop-h-test.true in omega arith) in
    rw (c.requires.room)
    (line_fits c.args.frame.rows c.args.frame.cols c.args.frame.reach c.args.p.angle b j _ _ (line_next c.line_start-begin.result c.args.frame.reach (offset c.args.p.angle c.args.frame.rows) (c.args.from + 2 * c.loop-h.h) c.line_start-begin.ensures.value)
    (stepped c.line_step-step.result (step_of (width_of c.args.frame.cols c.args.frame.reach) c.args.p.angle) (c.line_step-step.ensures.value ∙ ap (λ w. step_of w c.args.p.angle) c.width.ensures)) c.requires.near c.requires.reaches within h)

pub loop-h-init : goal.loop-h-init
loop-h-init c = λ i small. (λ z. (z, λ b l h. absurd (omega arith)), λ h. h.0)

pub loop-h-preserved : goal.loop-h-preserved
loop-h-preserved c = λ i small.
    let rows : ℕ = c.args.frame.rows in
    let cols : ℕ = c.args.frame.cols in
    let p : ℤ = c.args.p.angle in
    let b : ℕ = c.args.from + 2 * c.loop-h.h in
    let v : ℕ = width_of cols c.args.frame.reach in
    let f : ℕ → ℕ → ℕ = inner c.args.grid.now v c.args.frame.reach i in
    let step : ℕ = 4 * c.line_step-step.result in
    let steps = stepped c.line_step-step.result (step_of (width_of c.args.frame.cols c.args.frame.reach) c.args.p.angle) (c.line_step-step.ensures.value ∙ ap (λ w. step_of w c.args.p.angle) c.width.ensures) in
    let one : b < bins c.args.p.angle c.args.frame.rows c.args.frame.cols = (let all = c.requires.within in let test = c.loop-h-test.true in omega arith) in
    let two : b + 1 < bins c.args.p.angle c.args.frame.rows c.args.frame.cols = (let all = c.requires.within in let test = c.loop-h-test.true in omega arith) in
    let before = c.loop-h.invariant i small in
    let sum = line-is c.args.grid.now i rows cols c.args.frame.reach c.requires.padded small p b _ _ (line_at c.line_start-begin.result c.args.frame.reach (offset c.args.p.angle c.args.frame.rows) (c.args.from + 2 * c.loop-h.h) c.line_start-begin.ensures.value) steps c.requires.near c.requires.reaches one in
    let sum' = line-is c.args.grid.now i rows cols c.args.frame.reach c.requires.padded small p (b + 1) _ _ (line_next c.line_start-begin.result c.args.frame.reach (offset c.args.p.angle c.args.frame.rows) (c.args.from + 2 * c.loop-h.h) c.line_start-begin.ensures.value) steps c.requires.near c.requires.reaches two in
    let P : ℕ → Type 0 = λ m. get_or c.args.words.now (start_of c.args.starts i + m) 0 ≡ bin f rows cols p m in
    let new = c.add_difference-more.ensures i small in
    let new' = c.add_difference-sum.ensures i small in
    let given = c.two_of-two.ensures.first i small in
    let given' : get_or c.two_of-two.result.second i 0 ≡ get_or c.args.words.now (start_of c.args.starts i + (b + 1)) 0 = c.two_of-two.ensures.second i small in (
      λ z.
          (let n' = none_left _ _ _ (sym new' ∙ z) in
          let n = none_left _ _ _ (sym new ∙ n'.0) in
          let k = before.0 n.0 in
          (k.0, λ m from l. later P c.args.from c.loop-h.h m l (k.1 m from) (sym given ∙ n.1 ∙ sum) (sym given' ∙ n'.1 ∙ sum'))),
      λ h.
          new'
          ∙ left_none _ _ _
          (new ∙ left_none _ _ _ (before.1 (h.0, λ m from l. h.1 m from (omega arith))) (given ∙ h.1 b (omega arith) (omega arith) ∙ sym sum))
          (given' ∙ h.1 (b + 1) (omega arith) (omega arith) ∙ sym sum'),
    )

pub returns : goal.returns
returns c = λ i small.
    let end : c.loop-h.h ≡ c.args.twos = omega arith in
    let is = c.loop-h.invariant i small in (
      λ z. (let k = is.0 z in (k.0, λ b from h. k.1 b from (omega arith))),
      λ h. is.1 (h.0, λ b from l. h.1 b from (omega arith)),
    )
