use Rattle.std.specs.Vec.Iter.{into_iter_items}
use Rattle.rz_store_turns.proofs.Gathered.{first, more}
use Rattle.rz_store_turns.proofs.joining.gather_idle.Goals as goal

pub loop-pass-init : goal.loop-pass-init
loop-pass-init g c = first c.args.front.now c.args.passes.items (into_iter_items c.into_iter-pass-iterator.result) c.into_iter-pass-iterator.ensures.into_iter_gives.0 c.requires.front c.requires.passes

pub loop-pass-preserved : goal.loop-pass-preserved
loop-pass-preserved g c =
    let one = c.gather.ensures in
    more c.args.front.now c.args.passes.items (into_iter_items c.loop-pass.pass-iterator) (into_iter_items c.next.new.self) c.in-Some.pass c.loop-pass.front c.gather.new.front
    c.in-Some.ensures.steps.0 c.loop-pass.invariant one.same.0 one.same.1 one.stays one.gathers
