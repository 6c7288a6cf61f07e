-- A node that is up or down holds the records of its pairs, a lost one nothing.
use Rattle.std.proofs.Common.{◌∙◌, ap}
use Rattle.std.specs.Prelude.{is_some}
use Rattle.rz_node_model.specs.Records.{held_of, found}
use Rattle.rz_node_model.specs.States.{NodeState}
use Rattle.rz_node.proofs.Views.{state-same}
use Rattle.rz_node.proofs.Counts.{none-found}
use Rattle.rz_node.proofs.node.Node.holds.Goals as goal

pub returns-in-Lost : goal.returns-in-Lost
returns-in-Lost g c =
    let s = c.self.inside in
    none-found s.phase s.index.entries s.cells.heads c.args.key c.args.stamp c.in-Lost.is ∙ ap (λ (x : NodeState). is_some (found c.args.stamp (held_of x.held c.args.key))) (state-same _ _ c.self.view_is)
