use Rattle.std.proofs.Common.{arith}
use Rattle.rz_events.specs.Volume.{Cluster}
use Rattle.rz_config.specs.Sizes.{cluster_bytes_of}
use Rattle.rz_config.proofs.Sums.{bytes_fit, more_fit}
use Rattle.rz_config.proofs.volume.Volume.disk_bytes.Goals as goal

pub cluster_bytes_of-total-requires : goal.cluster_bytes_of-total-requires
cluster_bytes_of-total-requires c =
    let sum = λ (b : Cluster). cluster_bytes_of c.self.inside.layout b in
    let more =
    more_fit sum c.deref-cluster-items.result.now c.loop-cluster.cluster-index c.cluster-item.result c.loop-cluster-test.true c.cluster-item.is
    (rw c.deref-cluster-items.ensures.value (bytes_fit (record { layout = c.self.inside.layout; clusters = c.self.inside.clusters.items }) c.self.invariant.1))
    in
    omega (arith, more)

pub overflow_add-total : goal.overflow_add-total
overflow_add-total c =
    let sum = λ (b : Cluster). cluster_bytes_of c.self.inside.layout b in
    let more =
    more_fit sum c.deref-cluster-items.result.now c.loop-cluster.cluster-index c.cluster-item.result c.loop-cluster-test.true c.cluster-item.is
    (rw c.deref-cluster-items.ensures.value (bytes_fit (record { layout = c.self.inside.layout; clusters = c.self.inside.clusters.items }) c.self.invariant.1))
    in
    omega (arith, more, c.loop-cluster.invariant, c.cluster_bytes_of-total.ensures)
