use Rattle.std.proofs.Common.{◌≡◌, ◌≤◌, length}
use Rattle.std.specs.Vec.{vec_capacity}
use Rattle.std.specs.Vec.Iter.{into_iter_items}
use Rattle.rz_threads_workers.proofs.MakingPools.{SoFar}
use Rattle.rz_threads_workers.proofs.making.make_workers.Given as goal

-- the first workers are made, and there is room for all
abbrev pub invariant-loop-parts : goal.invariant-loop-parts
invariant-loop-parts g l = record {
  first : SoFar g.J.Naming.kind l.fn.all_parts.items (into_iter_items l.parts-iterator) l.workers.items l.links.items l.fn.links.items;
  room : length l.fn.all_parts.items ≤ vec_capacity l.workers;
  home : vec_capacity l.links ≡ vec_capacity l.fn.links;
}
