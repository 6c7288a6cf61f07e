use Rattle.std.proofs.Common.{ℕ, ◌≡◌, ◌+◌, ◌≤◌, List, ◌++◌, length, drop, reverse, vec_len}
use Rattle.std.specs.List.{AllZip, zip}
use Rattle.std.specs.Vec.{vec_capacity}
use Rattle.rz_events.specs.declared.files.NodeSpec.{NodeSpec}
use Rattle.rz_nodes.specs.Opened.{IsNodeOpened}
use Rattle.rz_nodes.proofs.opening.open_all.Given as goal

-- the disks so far are opened, and those to come wait
abbrev pub invariant-loop-index : goal.invariant-loop-index
invariant-loop-index g l = record {
  made : (done : List ((NodeSpec × ℕ) × g.row.D.Denot)) × (zip (zip l.nodes l.losses) l.fn.disks.items ≡ done ++ zip (drop l.index (zip l.nodes l.losses)) (reverse l.home.items)) × (length done ≡ l.index) × AllZip (IsNodeOpened g.D.Disk.tells g.D.Disk.meter g.D.Disk.text g.D.Disk.image l.layout) done l.servers.items;
  count : vec_len l.home + l.index ≡ length l.nodes;
  room : length l.nodes ≤ vec_capacity l.home;
  more : length l.nodes ≤ vec_capacity l.servers;
}
