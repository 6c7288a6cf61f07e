use Rattle.std.proofs.Common.{◌≡◌, ◌+◌, ◌≤◌, List, Option, ◌++◌, length, drop, reverse, vec_len}
use Rattle.std.specs.List.{AllZip, zip}
use Rattle.std.specs.Vec.{vec_capacity}
use Rattle.rz_nodes.specs.declared.arriving.KnownNode.{KnownNode}
use Rattle.rz_nodes.specs.Arrived.{IsArrival}
use Rattle.rz_nodes.proofs.arriving.open_each.Given as goal

-- it is told what came of the disks so far, and those to come wait
abbrev pub invariant-loop-known : goal.invariant-loop-known
invariant-loop-known g l = record {
  made : (done : List (KnownNode × Option g.row.D.Denot)) × (zip l.nodes l.fn.disks.items ≡ done ++ zip (drop l.known-index l.nodes) (reverse l.home.items)) × (length done ≡ l.known-index)
      × AllZip (IsArrival g.D.Disk.tells g.D.Disk.meter g.D.Disk.text g.D.Disk.image l.layout) done l.arrivals.items;
  count : vec_len l.home + l.known-index ≡ length l.nodes;
  room : length l.nodes ≤ vec_capacity l.home;
  more : length l.nodes ≤ vec_capacity l.arrivals;
}
