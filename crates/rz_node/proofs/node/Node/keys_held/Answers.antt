-- The pairs that are not free are those of the keys.
use Rattle.std.proofs.Common.{◌∙◌, ap}
use Rattle.std.specs.Prelude.{◌-◌}
use Rattle.std.specs.FinMap as maps
use Rattle.rz_node_model.specs.States.{NodeState}
use Rattle.rz_node.proofs.Views.{state-same}
use Rattle.rz_node.proofs.Counts.{none-counted, counted-in}
use Rattle.rz_node.proofs.node.Node.keys_held.Goals as goal

pub returns-in-Lost : goal.returns-in-Lost
returns-in-Lost g c =
    let s = c.self.inside in
    none-counted s.phase s.index.entries s.cells.heads c.in-Lost.is ∙ ap (λ (x : NodeState). maps.len x.held) (state-same _ _ c.self.view_is)

pub returns-in-Up : goal.returns-in-Up
returns-in-Up g c =
    let s = c.self.inside in
    (λ i. (c.geometry.ensures i).cells - c.free_cells.ensures i)
    ∙ counted-in s.phase s.cells.geometry.cells s.cells.heads s.index c.self.invariant.tied c.in-Up.is ∙ ap (λ (x : NodeState). maps.len x.held) (state-same _ _ c.self.view_is)
