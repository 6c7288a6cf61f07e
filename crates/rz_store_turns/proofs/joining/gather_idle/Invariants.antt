use Rattle.std.specs.Vec.Iter.{into_iter_items}
use Rattle.rz_store_turns.proofs.Gathered.{SoFar}
use Rattle.rz_store_turns.proofs.joining.gather_idle.Given as goal

-- the passes so far are gathered
abbrev pub invariant-loop-pass : goal.invariant-loop-pass
invariant-loop-pass g l = SoFar l.fn.front l.fn.passes.items (into_iter_items l.pass-iterator) l.front
