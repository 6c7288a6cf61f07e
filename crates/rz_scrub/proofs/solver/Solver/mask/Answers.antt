use Rattle.std.proofs.Common.{◌≡◌, ◌+◌, ℕ, Bool, length, sym, ap, ◌∙◌, subst, arith}
use Rattle.mj_angles.specs.Layout.{safe_of}
use Rattle.rz_words.specs.Grid.{Grid}
use Rattle.rz_scrub.specs.Records.{Records}
use Rattle.rz_scrub.specs.Misfits.{is_misfit}
use Rattle.rz_scrub.proofs.Fitting.{misfit-has}
use Rattle.rz_scrub.proofs.Slotted.{has-within}
use Rattle.rz_scrub.proofs.Masks.{Names, names-more, names-same}
use Rattle.rz_scrub.proofs.solver.Solver.mask.Goals as goal
use Rattle.rz_scrub.proofs.solver.Solver.mask.Goals.{then-is_misfit, else-is_misfit}

pub loop-position-preserved : goal.loop-position-preserved
loop-position-preserved c =
    let test : ℕ → Bool = is_misfit c.args.records.now c.args.block.now in
    let i : ℕ = c.loop-position.position in
    let next : Names c.if-is_misfit.mask (i + 1) test =
    elim c.if-is_misfit.branch [
      | then-is_misfit w ↦
          subst (λ (m : ℕ). Names m (i + 1) test) (sym w.mask-is)
          (names-more c.loop-position.mask i test (omega arith) (sym c.is_misfit.ensures.value ∙ w.if-is_misfit.true) c.loop-position.invariant.names)
      | else-is_misfit w ↦
          subst (λ (m : ℕ). Names m (i + 1) test) (sym w.mask-is)
          (names-same c.loop-position.mask i test (sym c.is_misfit.ensures.value ∙ w.if-is_misfit.false) c.loop-position.invariant.names)
    ] in
    record { layout = c.is_misfit.ensures.layout ∙ c.loop-position.invariant.layout; names = next }

pub returns-clause-names : goal.returns-clause-names
returns-clause-names c p =
    let s : Records = c.args.records.now in
    let g : Grid = c.args.block.now in
    let names = c.loop-position.invariant.names p in
    let places : length s.bins ≡ safe_of s.layout = c.layout.ensures.records.places in
    let end : c.safe-position-end.result ≡ safe_of s.layout = c.safe-position-end.ensures.value ∙ ap safe_of c.layout.ensures.value in (
      λ b. (names.0 b).1,
      λ h. names.1 (let within = has-within s p (misfit-has s g p h) in omega (arith, within, places, end), h),
    )
