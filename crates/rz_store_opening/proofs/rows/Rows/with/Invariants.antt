use Rattle.std.proofs.Common.{◌≡◌, ◌+◌, ◌≤◌, ◌++◌, length, map, reverse, vec_len}
use Rattle.std.specs.Vec.{vec_capacity}
use Rattle.rz_nodes.specs.declared.arriving.Arrival.{Arrival}
use Rattle.rz_store_opening.specs.Opening.{arrived_by, missing_in}
use Rattle.rz_store_opening.proofs.rows.Rows.with.Given as goal

-- what is in the rows already and what is still to come are all
abbrev pub invariant-loop-arrival : goal.invariant-loop-arrival
invariant-loop-arrival g l = record {
  all : arrived_by l.known l.arrivals.items ++ reverse l.nodes.items ≡ arrived_by l.known l.fn.arrivals.items;
  why : map (λ (a : Arrival g.row.D.Denot). missing_in a) l.arrivals.items ++ reverse l.missing.items ≡ map (λ (a : Arrival g.row.D.Denot). missing_in a) l.fn.arrivals.items;
  count : vec_len l.arrivals ≤ length l.known;
  nodes_room : vec_len l.arrivals + vec_len l.nodes ≤ vec_capacity l.nodes;
  missing_room : vec_len l.arrivals + vec_len l.missing ≤ vec_capacity l.missing;
}

abbrev pub decreases-loop-arrival : goal.decreases-loop-arrival
decreases-loop-arrival g l = vec_len l.arrivals
