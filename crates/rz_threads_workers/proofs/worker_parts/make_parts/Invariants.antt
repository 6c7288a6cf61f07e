use Rattle.std.specs.Vec.Iter.{into_iter_items}
use Rattle.rz_threads_workers.proofs.PartsMade.{SoFar}
use Rattle.rz_threads_workers.proofs.worker_parts.make_parts.Given as goal

-- the first have what they have to do
abbrev pub invariant-loop-pass : goal.invariant-loop-pass
invariant-loop-pass g l = SoFar g.J.Naming.kind l.lines l.fn.passes.items (into_iter_items l.pass-iterator) l.all_parts.items
