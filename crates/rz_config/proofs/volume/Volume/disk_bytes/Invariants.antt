use Rattle.std.proofs.Common.{◌≡◌, take}
use Rattle.std.specs.Prelude.{sum_by}
use Rattle.rz_config.specs.Sizes.{cluster_bytes_of}
use Rattle.rz_config.proofs.volume.Volume.disk_bytes.Given as goal

abbrev pub invariant-loop-cluster : goal.invariant-loop-cluster
invariant-loop-cluster l = l.total ≡ sum_by (λ c. cluster_bytes_of l.layout c) (take l.cluster-index l.cluster-items)
