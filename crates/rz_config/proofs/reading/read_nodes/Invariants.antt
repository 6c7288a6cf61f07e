use Rattle.std.proofs.Common.{◌≡◌, [], drop}
use Rattle.serde_json.specs.View.{items_view}
use Rattle.rz_config.specs.Described.{nodes_from}
use Rattle.rz_config.proofs.reading.read_nodes.Given as goal

abbrev pub invariant-loop-i : goal.invariant-loop-i
invariant-loop-i l =
    nodes_from l.path l.clusters l.i l.nodes.items (items_view (drop l.i l.items))
    ≡ nodes_from l.path l.clusters 0 [] (items_view l.items)
