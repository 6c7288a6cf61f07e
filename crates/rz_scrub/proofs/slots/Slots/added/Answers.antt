use Rattle.std.proofs.Common.{◌≡◌, ◌+◌, ℕ, arith, ap, ◌∙◌, sym}
use Rattle.std.specs.Prelude.{count_by}
use Rattle.std.specs.List.{range_with_len}
use Rattle.rz_scrub.specs.Records.{Records, has_bins}
use Rattle.rz_scrub.proofs.Counting.{one, count-few, count-upto}
use Rattle.rz_scrub.proofs.slots.Slots.added.Goals as goal
use Rattle.rz_scrub.proofs.slots.Slots.added.Goals.{then-has_bins, else-has_bins}

pub overflow_add-count : goal.overflow_add-count
overflow_add-count c =
    let so_far = c.loop-position.invariant in
    omega (arith, so_far, count-few (has_bins c.args.self.now) 0 c.loop-position.position)

pub loop-position-preserved : goal.loop-position-preserved
loop-position-preserved c =
    let s : Records = c.args.self.now in
    let p : ℕ = c.loop-position.position in
    let so_far : c.loop-position.count ≡ count_by (has_bins s) (range_with_len 0 p) = c.loop-position.invariant in
    let more = count-upto (has_bins s) p in
    let next : c.if-has_bins.count ≡ count_by (has_bins s) (range_with_len 0 (p + 1)) =
    elim c.if-has_bins.branch [
      | then-has_bins w ↦
          (let on : one (has_bins s p) ≡ 1 = ap one (sym c.has_bins.ensures ∙ w.if-has_bins.true) in
          let is = w.count-is in
          omega (arith, on, is, more, so_far))
      | else-has_bins w ↦
          (let off : one (has_bins s p) ≡ 0 = ap one (sym c.has_bins.ensures ∙ w.if-has_bins.false) in
          let is = w.count-is in
          omega (arith, off, is, more, so_far))
    ] in
    next
