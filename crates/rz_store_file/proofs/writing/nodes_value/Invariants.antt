use Rattle.std.proofs.Common.{◌≡◌, map, take}
use Rattle.serde_json.specs.View.{view}
use Rattle.rz_store_file.specs.Written.{node_data, AreSmall}
use Rattle.rz_store_file.proofs.writing.nodes_value.Given as goal

abbrev pub invariant-loop-node : goal.invariant-loop-node
invariant-loop-node l = (map view l.items.items ≡ map node_data (take l.node-index l.nodes)) × AreSmall (take l.node-index l.nodes)
