use Rattle.std.proofs.Common.{◌≡◌, ◌+◌, ◌≤◌, List, ◌++◌, length, drop, reverse, vec_len}
use Rattle.std.specs.List.{AllZip, zip}
use Rattle.std.specs.Vec.{vec_capacity}
use Rattle.rz_events.specs.declared.files.NodeSpec.{NodeSpec}
use Rattle.rz_nodes.specs.Formatted.{IsNodeFormatted}
use Rattle.rz_nodes.proofs.formatting.format_all.Given as goal

-- the disks so far are formatted, and those to come wait
abbrev pub invariant-loop-index : goal.invariant-loop-index
invariant-loop-index g l = record {
  made : (done : List (NodeSpec × g.row.D.Denot)) × (zip l.nodes l.fn.disks.items ≡ done ++ zip (drop l.index l.nodes) (reverse l.home.items)) × (length done ≡ l.index) × AllZip (IsNodeFormatted g.D.Disk.tells g.D.Disk.meter g.D.Disk.text g.D.Disk.image l.layout) done l.servers.items;
  count : vec_len l.home + l.index ≡ length l.nodes;
  room : length l.nodes ≤ vec_capacity l.home;
  more : length l.nodes ≤ vec_capacity l.servers;
}
