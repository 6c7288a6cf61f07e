use Rattle.std.proofs.Common.{◌≤◌, ◌∙◌, ap, map}
use Rattle.std.proofs.lemmas.List.{take_all}
use Rattle.std.proofs.lemmas.List.Elements.{All-more}
use Rattle.serde_json.specs.Data.{array}
use Rattle.serde_json.specs.View.{items_of}
use Rattle.serde_json.proofs.Views.{view-Array}
use Rattle.rz_store_file.specs.Written.{node_data}
use Rattle.rz_store_file.proofs.Rows.{pushed}
use Rattle.rz_store_file.proofs.writing.nodes_value.Goals as goal

pub loop-node-preserved : goal.loop-node-preserved
loop-node-preserved c = (
  pushed node_data c.loop-node.items.items c.push.new.self.items c.in_ok-node_value.field-0 c.args.nodes.now c.loop-node.node-index _ c.loop-node-test.true c.loop-node.invariant.0
      c.in_ok-node_value.ensures.value c.in_ok-push.ensures.items,
  All-more (λ n. n.sid ≤ 65535) c.args.nodes.now c.loop-node.node-index _ c.loop-node-test.true c.loop-node.invariant.1 c.in_ok-node_value.ensures.small,
)

pub returns-clause-value : goal.returns-clause-value
returns-clause-value c =
    view-Array c.loop-node.items
    ∙ ap (λ ds. array (items_of ds)) (c.loop-node.invariant.0 ∙ ap (map node_data) (take_all c.loop-node.node-index c.args.nodes.now c.loop-node-test.false))
