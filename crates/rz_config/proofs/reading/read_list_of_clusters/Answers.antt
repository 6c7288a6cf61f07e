use Rattle.std.proofs.Common.{codes}
use Rattle.serde_json.specs.View.{items_view}
use Rattle.rz_config.specs.declared.fault.VolumeCause.TheVariants.{OutOfRange}
use Rattle.rz_config.proofs.Good.{few_ok}
use Rattle.rz_config.proofs.Sums.{few_fit}
use Rattle.rz_config.proofs.reading.read_list_of_clusters.Goals as goal

pub node_count-requires : goal.node_count-requires
node_count-requires c =
    let all =
    few_ok (codes "clusters") OutOfRange c.args.safe _ (items_view c.in_ok-items.items.now.items) c.in_ok-clusters.clusters.items c.in_ok-items.ensures
    (rw (← c.deref.ensures.value) c.in_ok-clusters.ensures)
    in
    rw c.as_slice.ensures.value (few_fit c.args.safe c.in_ok-clusters.clusters.items all.few all.good.clusters_are)
