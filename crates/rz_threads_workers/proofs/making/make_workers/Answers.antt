use Rattle.std.proofs.Common.{◌≡◌, length, vec_len, ◌∙◌, sym, arith}
use Rattle.std.specs.Vec.Iter.{into_iter_items}
use Rattle.rz_threads_workers.proofs.Taken.{empty}
use Rattle.rz_threads_workers.proofs.MakingPools.{so-far-first, so-far-more, so-far-all, next-can, one-left, one-fits, none-left, all-linked}
use Rattle.rz_threads_workers.proofs.making.make_workers.Goals as goal

pub loop-parts-init : goal.loop-parts-init
loop-parts-init g c =
    let none = c.requires.room.0 in
    let workers : vec_len c.args.room ≡ length c.args.room.items = c.args.room.ok.0 in
    record {
      first = so-far-first g.J.Naming.kind c.args.all_parts.items (into_iter_items c.into_iter-parts-iterator.result) c.args.room.items c.reverse.new.self.items c.args.links.items c.into_iter-parts-iterator.ensures.into_iter_gives.0
          c.requires.can (omega (arith, none, workers)) c.reverse.ensures.items c.requires.links;
      room = c.requires.room.1;
      home = c.reverse.ensures.capacity;
    }

pub make_worker-requires : goal.make_worker-requires
make_worker-requires g c =
    next-can g.J.Naming.kind c.args.all_parts.items (into_iter_items c.loop-parts.parts-iterator) (into_iter_items c.next.new.self) c.in-Some.parts c.loop-parts.workers.items c.loop-parts.links.items c.args.links.items
    c.in-Some.ensures.steps.0 c.loop-parts.invariant.first

pub push_reserved-requires : goal.push_reserved-requires
push_reserved-requires g c =
    let inv = c.loop-parts.invariant in
    let workers : vec_len c.loop-parts.workers ≡ length c.loop-parts.workers.items = c.loop-parts.workers.ok.0 in
    let fits = one-fits g.J.Naming.kind c.args.all_parts.items (into_iter_items c.loop-parts.parts-iterator) (into_iter_items c.next.new.self) c.in-Some.parts c.loop-parts.workers.items c.loop-parts.links.items c.args.links.items c.in-Some.ensures.steps.0 inv.first in
    let room = inv.room in
    omega (arith, workers, fits, room)

pub loop-parts-preserved-in-Some-pop : goal.loop-parts-preserved-in-Some-pop
loop-parts-preserved-in-Some-pop g c =
    let inv = c.loop-parts.invariant in
    let room = inv.room in
    let same = c.push_reserved.ensures.capacity in
    record {
      first = so-far-more g.J.Naming.kind c.args.all_parts.items (into_iter_items c.loop-parts.parts-iterator) (into_iter_items c.next.new.self) c.in-Some.parts c.loop-parts.workers.items c.push_reserved.new.self.items c.make_worker.result c.loop-parts.links.items c.pop.new.self.items c.args.links.items c.in-Some-pop.link
          c.in-Some.ensures.steps.0 c.push_reserved.ensures.items c.in-Some-pop.ensures.items c.make_worker.ensures.hired c.make_worker.ensures.link inv.first;
      room = omega (arith, room, same);
      home = c.in-Some-pop.ensures.capacity ∙ inv.home;
    }

pub loop-parts-preserved : goal.loop-parts-preserved
loop-parts-preserved g c =
    let left = one-left g.J.Naming.kind c.args.all_parts.items (into_iter_items c.loop-parts.parts-iterator) (into_iter_items c.next.new.self) c.in-Some.parts c.loop-parts.workers.items c.loop-parts.links.items c.args.links.items
    c.in-Some.ensures.steps.0 c.loop-parts.invariant.first in
    let none = c.in_default.ensures.cases.0 in
    let links : vec_len c.loop-parts.links ≡ length c.loop-parts.links.items = c.loop-parts.links.ok.0 in
    absurd (omega (arith, left, none, links))

pub returns-clause-hired : goal.returns-clause-hired
returns-clause-hired g c =
    so-far-all g.J.Naming.kind c.args.all_parts.items (into_iter_items c.loop-parts.parts-iterator) c.loop-parts.workers.items c.loop-parts.links.items c.args.links.items (empty _ (sym c.loop-parts.parts-iterator.rest.ok.0 ∙ c.in-None.ensures.steps.0)) c.loop-parts.invariant.first

pub returns-clause-links : goal.returns-clause-links
returns-clause-links g c =
    all-linked g.J.Naming.kind c.args.all_parts.items (into_iter_items c.loop-parts.parts-iterator) c.loop-parts.workers.items c.loop-parts.links.items c.args.links.items (empty _ (sym c.loop-parts.parts-iterator.rest.ok.0 ∙ c.in-None.ensures.steps.0)) c.loop-parts.invariant.first

pub returns-clause-empty : goal.returns-clause-empty
returns-clause-empty g c =
    let inv = c.loop-parts.invariant in
    let none = none-left g.J.Naming.kind c.args.all_parts.items (into_iter_items c.loop-parts.parts-iterator) c.loop-parts.workers.items c.loop-parts.links.items c.args.links.items (empty _ (sym c.loop-parts.parts-iterator.rest.ok.0 ∙ c.in-None.ensures.steps.0)) inv.first in
    let left : vec_len c.loop-parts.links ≡ length c.loop-parts.links.items = c.loop-parts.links.ok.0 in
    let links : vec_len c.args.links ≡ length c.args.links.items = c.args.links.ok.0 in
    let within = c.args.links.ok.1 in
    let home = inv.home in let count = c.requires.links in
    (omega (arith, none, left), omega (arith, links, within, home, count))
