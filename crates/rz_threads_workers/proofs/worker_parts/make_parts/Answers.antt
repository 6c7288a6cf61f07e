use Rattle.std.proofs.Common.{sym, ◌∙◌}
use Rattle.std.specs.Vec.Iter.{into_iter_items}
use Rattle.rz_threads_workers.proofs.Taken.{empty}
use Rattle.rz_threads_workers.proofs.PartsMade.{so-far-first, so-far-more, so-far-all, next-new}
use Rattle.rz_threads_workers.proofs.worker_parts.make_parts.Goals as goal

pub loop-pass-init : goal.loop-pass-init
loop-pass-init g c =
    so-far-first g.J.Naming.kind c.args.lines.now c.args.passes.items (into_iter_items c.into_iter-pass-iterator.result) c.in_ok-all_parts.all_parts.items c.into_iter-pass-iterator.ensures.into_iter_gives.0 c.in_ok-all_parts.ensures.items c.requires.new

pub parts_of-requires-clause-new : goal.parts_of-requires-clause-new
parts_of-requires-clause-new g c =
    next-new g.J.Naming.kind c.args.lines.now c.args.passes.items (into_iter_items c.loop-pass.pass-iterator) (into_iter_items c.next.new.self) c.in-Some.pass c.loop-pass.all_parts.items c.in-Some.ensures.steps.0 c.loop-pass.invariant

pub loop-pass-preserved : goal.loop-pass-preserved
loop-pass-preserved g c =
    so-far-more g.J.Naming.kind c.args.lines.now c.args.passes.items (into_iter_items c.loop-pass.pass-iterator) (into_iter_items c.next.new.self) c.in-Some.pass c.loop-pass.all_parts.items _ c.in_ok-newest.newest
    c.in-Some.ensures.steps.0 c.in_ok-push.ensures.items c.in_ok-newest.ensures c.loop-pass.invariant

pub returns : goal.returns
returns g c = so-far-all g.J.Naming.kind c.args.lines.now c.args.passes.items (into_iter_items c.loop-pass.pass-iterator) c.loop-pass.all_parts.items (empty _ (sym c.loop-pass.pass-iterator.rest.ok.0 ∙ c.in-None.ensures.steps.0)) c.loop-pass.invariant
