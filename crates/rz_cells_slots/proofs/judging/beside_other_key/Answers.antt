-- The other cell of the pair stands earlier only where this one is odd.
use Rattle.std.proofs.Common.{◌≡◌, ℕ, ◌-◌, Some, IsTrue, sym, ◌∙◌, ap, arith}
use Rattle.rz_cells_slots.specs.Held.{in_cell}
use Rattle.rz_cells_slots.proofs.judging.beside_other_key.Goals as goal

pub returns-then-cell-eq1-clause-none : goal.returns-then-cell-eq1-clause-none
returns-then-cell-eq1-clause-none c miss d q bad =
    let at : d ≡ c.args.cell - 1 = omega (arith, bad.earlier, bad.pair) in
    let here : c.get.result ≡ Some q = c.get.ensures ∙ ap (λ (e : ℕ). in_cell c.args.heads.now e) (sym at) ∙ bad.is in
    let found : IsTrue c.has_other_key.result = c.has_other_key.ensures.1 (q, here, bad.other) in
    absurd (cc)
