-- A new disk holds nothing.
use Rattle.std.proofs.Common.{◌≡◌, None, refl, sym, ◌∙◌, ap, subst}
use Rattle.std.specs.FinMap as maps
use Rattle.rz_events.specs.declared.nodes.Phase.TheVariants as phase
use Rattle.rz_index.specs.Indexed.{Indexed}
use Rattle.rz_cells_slots.specs.declared.geometry.Geometry.{Geometry}
use Rattle.rz_node.specs.Kept.{held_by, IsTied}
use Rattle.rz_node.proofs.Tied.{tied-fresh, held-empty}
use Rattle.rz_node.proofs.node.Node.format.Goals as goal

pub invariant_of-result : goal.invariant_of-result
invariant_of-result g c = record {
  tied = subst (λ (y : Geometry). IsTied y.cells c.in-Ok-format.cells.heads c.in-Ok.index) (sym c.in-Ok-format.ensures.geometry) (tied-fresh c.args.geometry.cells c.in-Ok-format.cells.heads c.in-Ok-format.ensures.heads c.in-Ok.index c.in-Ok.ensures);
  decided = λ down. refl;
  ready = c.in-Ok-format.ensures.open;
}

pub returns-in-Ok-format-clause-state : goal.returns-in-Ok-format-clause-state
returns-in-Ok-format-clause-state g c =
    let heads = c.in-Ok-format.cells.heads in
    let nothing : held_by c.in-Ok.index.entries heads ≡ maps.empty = ap (λ (x : Indexed). held_by x.entries heads) c.in-Ok.ensures ∙ held-empty heads in
    λ i. record { phase = phase.Up; fence = c.in-Ok-format.ensures.fence i; losses = 0; held = nothing i; undecided = None }
