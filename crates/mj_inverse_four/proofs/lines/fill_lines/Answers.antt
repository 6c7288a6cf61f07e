use Rattle.std.proofs.Common.{◌≡◌, ◌≤◌, ◌<◌, ◌≢◌, ◌+◌, ◌*◌, ◌-◌, ◌∙◌, ap, ℕ, length, arith, below_more, get_or-set_same, get_or-set_other}
use Rattle.mj_angles.specs.Projection.{offset, row_start}
use Rattle.mj_angles.proofs.Order.{lifted, slope_sum}
use Rattle.mj_inverse_four.specs.Rows.{direction_of, step_of, width_of}
use Rattle.mj_inverse_four.proofs.Swept.{slope_sum-step}
use Rattle.mj_inverse_four.proofs.lines.fill_lines.Goals as goal
use Rattle.mj_inverse_four.proofs.lines.fill_lines.Goals.{then-l-gt0, else-l-gt0}

pub loop-l-preserved : goal.loop-l-preserved
loop-l-preserved c =
    let l : ℕ = c.loop-l.l in
    let q : ℕ → ℕ = λ j. lifted 16 (direction_of c.args.frame.rows c.args.angles.now j) in
    let is = c.slope_at-p.ensures.value in
    let sum : c.if-l-gt0.sum ≡ slope_sum q c.loop-l.l =
    elim c.if-l-gt0.branch [
      | then-l-gt0 w ↦
          w.sum-is ∙ ap (λ x. x + w.raised-sum.result) c.loop-l.invariant.sum ∙ ap (λ x. slope_sum q (c.loop-l.l - 1) + x) (w.raised-sum.ensures.value ∙ ap (lifted 16) is)
          ∙ slope_sum-step q c.loop-l.l (omega arith)
      | else-l-gt0 w ↦ w.sum-is ∙ c.loop-l.invariant.sum ∙ ap (slope_sum q) (let e : c.loop-l.l - 1 ≡ c.loop-l.l = omega arith in e)
    ] in
    let small : c.if-l-gt0.sum ≤ 32 * c.loop-l.l + 32 = elim c.if-l-gt0.branch [ then-l-gt0 w ↦ omega (arith, w.raised-sum.ensures.small) | else-l-gt0 w ↦ omega arith ] in
    let within : c.loop-l.l < length c.loop-l.lines = omega arith in
    let turned = c.line_of.ensures.turn in
    record {
      sum = sum ∙ ap (slope_sum q) (let e : l ≡ l + 1 - 1 = omega arith in e);
      small = omega arith;
      are = record {
        turns = below_more _ _ (λ j h. let ne : j ≢ l = omega arith in rw get_or-set_other (c.loop-l.invariant.are.turns j h))
            (rw get_or-set_same (c.line_of.ensures.turn ∙ ap (λ x. x + 16 * (c.args.frame.rows - 1 - l)) sum));
        ats = below_more _ _ (λ j h. let ne : j ≢ l = omega arith in rw get_or-set_other (c.loop-l.invariant.are.ats j h))
            (rw get_or-set_same (c.line_of.ensures.at ∙ ap (λ p. 4 * (c.args.frame.reach - offset p c.args.frame.rows + row_start p c.args.frame.rows c.loop-l.l)) is));
        steps = below_more _ _ (λ j h. let ne : j ≢ l = omega arith in rw get_or-set_other (c.loop-l.invariant.are.steps j h))
            (rw get_or-set_same (c.line_of.ensures.step ∙ ap (λ p. 4 * step_of (width_of c.args.frame.cols c.args.frame.reach) p) is));
        owns = below_more _ _ (λ j h. let ne : j ≢ l = omega arith in rw get_or-set_other (c.loop-l.invariant.are.owns j h)) (rw get_or-set_same c.line_of.ensures.own);
        early = below_more _ _ (λ j h. let ne : j ≢ l = omega arith in rw get_or-set_other (c.loop-l.invariant.are.early j h)) (rw get_or-set_same (omega arith));
      };
    }
