use Rattle.std.specs.Vec.Iter.{into_iter_items}
use Rattle.rz_threads_workers.proofs.Gathered.{so-far-first, so-far-more}
use Rattle.rz_threads_workers.proofs.passes.gather_all.Goals as goal

pub loop-pass-init : goal.loop-pass-init
loop-pass-init g c = so-far-first g.J.Naming.kind c.args.front.now c.args.passes.items (into_iter_items c.into_iter-pass-iterator.result) c.into_iter-pass-iterator.ensures.into_iter_gives.0 c.actor-fit.ensures.fit

pub loop-pass-preserved : goal.loop-pass-preserved
loop-pass-preserved g c =
    let one = c.gather_one.ensures in
    so-far-more g.J.Naming.kind c.args.front.now c.args.passes.items (into_iter_items c.loop-pass.pass-iterator) (into_iter_items c.next.new.self) c.in-Some.pass c.loop-pass.front c.gather_one.new.front
    c.in-Some.ensures.steps.0 c.loop-pass.invariant one.goes one.held one.fit
