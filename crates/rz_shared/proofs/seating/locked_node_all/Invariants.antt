use Rattle.std.proofs.Common.{◌≡◌, ◌+◌, ◌≤◌, vec_len}
use Rattle.std.specs.List.{AllZip}
use Rattle.std.specs.Vec.{vec_capacity}
use Rattle.rz_shared.specs.Seating.{IsNodeReady}
use Rattle.rz_shared.proofs.seating.locked_node_all.Given as goal

-- those that wait are ready, and there is room for them
abbrev pub invariant-loop-server : goal.invariant-loop-server
invariant-loop-server g l = record {
  ready : AllZip (IsNodeReady g.D.Disk.tells g.D.Disk.meter g.D.Disk.image g.J.Naming.kind g.J.Naming.earlier g.J.Metering.first) l.servers.items l.word_tokens.items;
  count : vec_len l.locked_nodes + vec_len l.servers ≡ vec_len l.fn.servers;
  room : vec_len l.fn.servers ≤ vec_capacity l.locked_nodes;
  home : vec_capacity l.word_tokens ≡ vec_capacity l.fn.word_tokens;
}

abbrev pub decreases-loop-server : goal.decreases-loop-server
decreases-loop-server g l = vec_len l.servers
