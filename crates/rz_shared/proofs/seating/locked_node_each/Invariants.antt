use Rattle.std.proofs.Common.{◌≡◌, ◌+◌, ◌≤◌, vec_len}
use Rattle.std.specs.List.{AllZip}
use Rattle.std.specs.Vec.{vec_capacity}
use Rattle.rz_shared.specs.Seating.{IsArrivedReady}
use Rattle.rz_shared.proofs.seating.locked_node_each.Given as goal

-- those that wait are ready, and there is room for them
abbrev pub invariant-loop-node : goal.invariant-loop-node
invariant-loop-node g l = record {
  ready : AllZip (IsArrivedReady g.D.Disk.tells g.D.Disk.meter g.D.Disk.image g.J.Naming.kind g.J.Naming.earlier g.J.Metering.first) l.nodes.items l.word_tokens.items;
  count : vec_len l.locked_nodes + vec_len l.nodes ≡ vec_len l.fn.nodes;
  room : vec_len l.fn.nodes ≤ vec_capacity l.locked_nodes;
  home : vec_capacity l.word_tokens ≡ vec_capacity l.fn.word_tokens;
}

abbrev pub decreases-loop-node : goal.decreases-loop-node
decreases-loop-node g l = vec_len l.nodes
