-- A node that lost its disk holds nothing.
use Rattle.std.proofs.Common.{refl, sym, subst}
use Rattle.rz_cells_slots.specs.declared.geometry.Geometry.{Geometry}
use Rattle.rz_node.specs.Kept.{IsTied}
use Rattle.rz_node.proofs.Tied.{tied-fresh}
use Rattle.rz_node.proofs.node.Node.lost.Goals as goal

pub invariant_of-result : goal.invariant_of-result
invariant_of-result g c = record {
  tied = subst (λ (y : Geometry). IsTied y.cells c.in-Ok-unopened.cells.heads c.in-Ok.index) (sym c.in-Ok-unopened.ensures.geometry) (tied-fresh c.args.geometry.cells c.in-Ok-unopened.cells.heads c.in-Ok-unopened.ensures.heads c.in-Ok.index c.in-Ok.ensures);
  decided = λ down. refl;
  ready = record {};
}
