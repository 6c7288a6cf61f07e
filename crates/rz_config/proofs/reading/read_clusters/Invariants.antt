use Rattle.std.proofs.Common.{◌≡◌, [], codes, drop}
use Rattle.serde_json.specs.View.{items_view}
use Rattle.rz_config.specs.Described.{clusters_from}
use Rattle.rz_config.proofs.reading.read_clusters.Given as goal

abbrev pub invariant-loop-i : goal.invariant-loop-i
invariant-loop-i l =
    clusters_from (codes "clusters") l.safe l.i l.clusters.items (items_view (drop l.i l.items))
    ≡ clusters_from (codes "clusters") l.safe 0 [] (items_view l.items)
