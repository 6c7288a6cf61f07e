use Rattle.std.proofs.Common.{◌≡◌, length}
use Rattle.rz_replay.proofs.disks.files.Given as goal

-- a disk for each index so far
abbrev pub invariant-loop-index : goal.invariant-loop-index
invariant-loop-index g l = length l.disks.items ≡ l.index
