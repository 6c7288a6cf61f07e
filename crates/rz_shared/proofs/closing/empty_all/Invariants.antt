use Rattle.std.proofs.Common.{◌≡◌, ◌+◌, ◌≤◌, ◌++◌, vec_len}
use Rattle.std.specs.Prelude.{reverse}
use Rattle.std.specs.List.{AllZip}
use Rattle.std.specs.Vec.{vec_capacity}
use Rattle.rz_shared.specs.Returned.{IsReturnedIf}
use Rattle.rz_shared.proofs.Ordered.{words, words-at}
use Rattle.rz_shared.proofs.closing.empty_all.Given as goal

-- the disks that are back, each beside its token
abbrev pub invariant-loop-locked_node : goal.invariant-loop-locked_node
invariant-loop-locked_node g l = record {
  returned : AllZip (IsReturnedIf g.D.Disk.meter g.D.Disk.image g.J.Metering.fixed g.J.Naming.kind g.J.Naming.earlier g.J.Metering.first) l.disks.items l.word_tokens.items;
  words : words l.word_tokens.items ++ words-at (reverse l.locked_nodes.items) ≡ words-at l.fn.locked_nodes.items;
  count : vec_len l.disks + vec_len l.locked_nodes ≡ vec_len l.fn.locked_nodes;
  same : vec_len l.word_tokens ≡ vec_len l.disks;
  disks : vec_len l.fn.locked_nodes ≤ vec_capacity l.disks;
  word_tokens : vec_len l.fn.locked_nodes ≤ vec_capacity l.word_tokens;
}

abbrev pub decreases-loop-locked_node : goal.decreases-loop-locked_node
decreases-loop-locked_node g l = vec_len l.locked_nodes
