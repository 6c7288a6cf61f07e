use Rattle.std.proofs.Common.{◌≡◌, ◌+◌, ℕ, Bool, length, sym, ap, ◌∙◌, arith}
use Rattle.std.specs.Prelude.{count_by}
use Rattle.std.specs.List.{range_with_len}
use Rattle.std.proofs.lemmas.List.Sums.{length-filter}
use Rattle.mj_angles.specs.Layout.{safe_of}
use Rattle.rz_words.specs.Grid.{Grid}
use Rattle.rz_scrub.specs.Records.{Records, positions}
use Rattle.rz_scrub.specs.Misfits.{is_misfit}
use Rattle.rz_scrub.proofs.Counting.{one, count-few, count-upto}
use Rattle.rz_scrub.proofs.solver.Solver.misfits.Goals as goal
use Rattle.rz_scrub.proofs.solver.Solver.misfits.Goals.{then-is_misfit, else-is_misfit}

pub overflow_add-count : goal.overflow_add-count
overflow_add-count c =
    let so_far = c.loop-position.invariant.count in
    omega (arith, so_far, count-few (is_misfit c.args.records.now c.args.block.now) 0 c.loop-position.position)

pub loop-position-preserved : goal.loop-position-preserved
loop-position-preserved c =
    let test : ℕ → Bool = is_misfit c.args.records.now c.args.block.now in
    let p : ℕ = c.loop-position.position in
    let so_far : c.loop-position.count ≡ count_by test (range_with_len 0 p) = c.loop-position.invariant.count in
    let more = count-upto test p in
    let next : c.if-is_misfit.count ≡ count_by test (range_with_len 0 (p + 1)) =
    elim c.if-is_misfit.branch [
      | then-is_misfit w ↦
          (let on : one (test p) ≡ 1 = ap one (sym c.is_misfit.ensures.value ∙ w.if-is_misfit.true) in
          let is = w.count-is in
          omega (arith, on, is, more, so_far))
      | else-is_misfit w ↦
          (let off : one (test p) ≡ 0 = ap one (sym c.is_misfit.ensures.value ∙ w.if-is_misfit.false) in
          let is = w.count-is in
          omega (arith, off, is, more, so_far))
    ] in
    record { layout = c.is_misfit.ensures.layout ∙ c.loop-position.invariant.layout; count = next }

pub returns-clause-value : goal.returns-clause-value
returns-clause-value c =
    let s : Records = c.args.records.now in
    let g : Grid = c.args.block.now in
    let places : length s.bins ≡ safe_of s.layout = c.layout.ensures.records.places in
    let end : c.safe-position-end.result ≡ safe_of s.layout = c.safe-position-end.ensures.value ∙ ap safe_of c.layout.ensures.value in
    let all : c.loop-position.position ≡ length s.bins = omega (arith, places, end) in
    c.loop-position.invariant.count ∙ ap (λ (n : ℕ). count_by (is_misfit s g) (range_with_len 0 n)) all ∙ sym (length-filter (is_misfit s g) (positions s))
