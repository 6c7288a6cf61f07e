use Rattle.mj_angles.specs.Layout.{safe_of}
use Rattle.rz_config.proofs.Sums.{few_fit}
use Rattle.rz_config.proofs.volume.Volume.node_count.Goals as goal

pub node_count-requires : goal.node_count-requires
node_count-requires c =
    let is = c.self.invariant.1 in
    rw c.as_slice.ensures.value (few_fit (safe_of c.self.inside.layout) c.self.inside.clusters.items is.few_clusters is.clusters)
