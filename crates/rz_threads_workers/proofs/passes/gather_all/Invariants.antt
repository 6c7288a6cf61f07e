use Rattle.std.specs.Vec.Iter.{into_iter_items}
use Rattle.rz_threads_workers.proofs.Gathered.{SoFar}
use Rattle.rz_threads_workers.proofs.passes.gather_all.Given as goal

-- the passes so far are gathered
abbrev pub invariant-loop-pass : goal.invariant-loop-pass
invariant-loop-pass g l = SoFar g.J.Naming.kind l.fn.front l.fn.passes.items (into_iter_items l.pass-iterator) l.front
