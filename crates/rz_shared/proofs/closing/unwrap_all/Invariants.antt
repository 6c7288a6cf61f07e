use Rattle.std.proofs.Common.{◌≡◌, ◌+◌, ◌≤◌, ◌++◌, map, Some, vec_len}
use Rattle.std.specs.Prelude.{reverse}
use Rattle.std.specs.Vec.{vec_capacity}
use Rattle.rz_shared.proofs.closing.unwrap_all.Given as goal

-- the disks that are out, and those that wait
abbrev pub invariant-loop-disk : goal.invariant-loop-disk
invariant-loop-disk g l = record {
  whole : map (λ d. Some d) l.home.items ++ reverse l.disks.items ≡ l.fn.disks.items;
  count : vec_len l.home + vec_len l.disks ≡ vec_len l.fn.disks;
  room : vec_len l.fn.disks ≤ vec_capacity l.home;
}

abbrev pub decreases-loop-disk : goal.decreases-loop-disk
decreases-loop-disk g l = vec_len l.disks
