use Rattle.std.proofs.Common.{◌≡◌, map}
use Rattle.std.specs.List.{range_with_len}
use Rattle.rz_generate.specs.Workload.{node_of}
use Rattle.rz_generate.proofs.volume.cluster.Given as goal

abbrev pub invariant-loop-place : goal.invariant-loop-place
invariant-loop-place l = l.nodes.items ≡ map node_of (range_with_len l.first l.place)
