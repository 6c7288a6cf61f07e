use Rattle.std.proofs.Common.{◌≡◌, map, take}
use Rattle.std.specs.Prelude.{All}
use Rattle.serde_json.specs.View.{view}
use Rattle.rz_store_file.specs.Written.{cluster_data, IsSmall}
use Rattle.rz_store_file.proofs.writing.clusters_value.Given as goal

abbrev pub invariant-loop-cluster : goal.invariant-loop-cluster
invariant-loop-cluster l = (map view l.items.items ≡ map cluster_data (take l.cluster-index l.clusters)) × All IsSmall (take l.cluster-index l.clusters)
