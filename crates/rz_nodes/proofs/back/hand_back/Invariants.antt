use Rattle.std.proofs.Common.{◌≡◌, ◌+◌, ◌≤◌, ◌++◌, reverse, vec_len}
use Rattle.std.specs.Vec.{vec_capacity}
use Rattle.rz_nodes.specs.Formatted.{disks_of}
use Rattle.rz_nodes.proofs.back.hand_back.Given as goal

-- the disks that are back and those to come are all
abbrev pub invariant-loop-server : goal.invariant-loop-server
invariant-loop-server g l = record {
  room : vec_len l.servers + vec_len l.home ≤ vec_capacity l.home;
  all : disks_of l.servers.items ++ reverse l.home.items ≡ disks_of l.fn.servers.items ++ reverse l.fn.home.items;
}

abbrev pub decreases-loop-server : goal.decreases-loop-server
decreases-loop-server g l = vec_len l.servers
