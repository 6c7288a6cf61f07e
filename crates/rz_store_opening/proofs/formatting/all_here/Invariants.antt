use Rattle.std.proofs.Common.{◌≡◌, ◌+◌, ◌≤◌, ◌++◌, Some, map, reverse, vec_len}
use Rattle.std.specs.Vec.{vec_capacity}
use Rattle.rz_disk.specs.UnderFuse.{UnderFuse}
use Rattle.rz_nodes.specs.declared.formatting.Server.{Server}
use Rattle.rz_store_opening.proofs.formatting.all_here.Given as goal

-- the disks in the row and those to come are all
abbrev pub invariant-loop-server : goal.invariant-loop-server
invariant-loop-server g l = record {
  all : map (λ (s : Server (UnderFuse g.row.D.Denot)). Some s.node.disk.disk) l.servers.items ++ reverse l.row.items ≡ map (λ (s : Server (UnderFuse g.row.D.Denot)). Some s.node.disk.disk) l.fn.servers.items;
  room : vec_len l.servers + vec_len l.row ≤ vec_capacity l.row;
}

abbrev pub decreases-loop-server : goal.decreases-loop-server
decreases-loop-server g l = vec_len l.servers
