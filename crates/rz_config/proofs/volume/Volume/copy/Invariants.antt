use Rattle.std.proofs.Common.{◌≡◌, take}
use Rattle.rz_config.proofs.volume.Volume.copy.Given as goal

abbrev pub invariant-loop-cluster : goal.invariant-loop-cluster
invariant-loop-cluster l = l.clusters.items ≡ take l.cluster-index l.cluster-items
