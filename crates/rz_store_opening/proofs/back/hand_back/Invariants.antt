use Rattle.std.proofs.Common.{◌≡◌, ◌+◌, ◌≤◌, ◌++◌, length, reverse, vec_len}
use Rattle.std.specs.Vec.{vec_capacity}
use Rattle.rz_store_opening.specs.Opening.{disks_in}
use Rattle.rz_store_opening.proofs.back.hand_back.Given as goal

-- the disks that are out and those that wait are all
abbrev pub invariant-loop-node : goal.invariant-loop-node
invariant-loop-node g l = record {
  all : disks_in l.nodes.items l.missing.items ++ reverse l.disks.items ≡ disks_in l.fn.opened.parts.nodes.items l.fn.opened.missing.items;
  count : length l.missing.items ≡ length l.nodes.items;
  room : vec_len l.nodes + vec_len l.disks ≤ vec_capacity l.disks;
}

abbrev pub decreases-loop-node : goal.decreases-loop-node
decreases-loop-node g l = vec_len l.nodes
