use Rattle.std.proofs.Common.{◌≡◌, ℕ, ◌<◌, ◌↔◌, true}
use Rattle.std.specs.Int.{bit_at}
use Rattle.rz_scrub.specs.Misfits.{is_misfit}
use Rattle.rz_scrub.proofs.solver.Solver.mask.Given as goal

abbrev pub invariant-loop-position : goal.invariant-loop-position
invariant-loop-position l = record {
  layout : l.self ≡ l.initial.self;
  names : (p : ℕ) → (bit_at l.mask p ≡ 1) ↔ ((p < l.position) × (is_misfit l.records l.block p ≡ true));
}
