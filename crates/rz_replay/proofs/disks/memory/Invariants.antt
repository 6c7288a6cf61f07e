use Rattle.std.proofs.Common.{◌≡◌, length}
use Rattle.rz_replay.proofs.disks.memory.Given as goal

-- as many disks as rounds so far
abbrev pub invariant-loop : goal.invariant-loop
invariant-loop l = length l.disks.items ≡ l.counter
