use Rattle.std.proofs.Common.{◌≡◌, length, vec_len, refl, sym, ◌∙◌, arith}
use Rattle.std.specs.Vec.Iter.{into_iter_items}
use Rattle.rz_threads_workers.specs.WorkerPool.{link_of, pass_of, shown_by}
use Rattle.rz_threads_workers.proofs.Taken.{empty, taken-first, taken-more, taken-fits, taken-all}
use Rattle.rz_threads_workers.proofs.ending.take_results.Goals as goal

pub loop-pool_worker-init : goal.loop-pool_worker-init
loop-pool_worker-init g c =
    let room = c.requires.room in
    let no_link = room.links.0 in let no_pass = room.passes.0 in let no_row = room.shown.0 in
    let links : vec_len c.args.room.links ≡ length c.args.room.links.items = c.args.room.links.ok.0 in
    let passes : vec_len c.args.room.passes ≡ length c.args.room.passes.items = c.args.room.passes.ok.0 in
    let shown : vec_len c.args.room.shown ≡ length c.args.room.shown.items = c.args.room.shown.ok.0 in
    let all = c.args.workers.items in let rest = into_iter_items c.into_iter-pool_worker-iterator.result in
    let same = c.into_iter-pool_worker-iterator.ensures.into_iter_gives.0 in
    record {
      links = taken-first link_of all rest c.args.room.links.items same (omega (arith, no_link, links));
      passes = taken-first pass_of all rest c.args.room.passes.items same (omega (arith, no_pass, passes));
      shown = taken-first shown_by all rest c.args.room.shown.items same (omega (arith, no_row, shown));
      room = room.links.1;
      places = room.passes.1;
      rows = room.shown.1;
    }

pub push_reserved-requires : goal.push_reserved-requires
push_reserved-requires g c =
    let inv = c.loop-pool_worker.invariant in
    let room = inv.room in
    let length_is : vec_len c.loop-pool_worker.links ≡ length c.loop-pool_worker.links.items = c.loop-pool_worker.links.ok.0 in
    let fits = taken-fits link_of c.args.workers.items (into_iter_items c.loop-pool_worker.pool_worker-iterator) (into_iter_items c.next.new.self) c.in-Some.pool_worker c.loop-pool_worker.links.items c.in-Some.ensures.steps.0 inv.links in
    omega (arith, room, length_is, fits)

pub push_reserved-requires-in-loop-pool_worker : goal.push_reserved-requires-in-loop-pool_worker
push_reserved-requires-in-loop-pool_worker g c =
    let inv = c.loop-pool_worker.invariant in
    let room = inv.places in
    let length_is : vec_len c.loop-pool_worker.passes ≡ length c.loop-pool_worker.passes.items = c.loop-pool_worker.passes.ok.0 in
    let fits = taken-fits pass_of c.args.workers.items (into_iter_items c.loop-pool_worker.pool_worker-iterator) (into_iter_items c.next.new.self) c.in-Some.pool_worker c.loop-pool_worker.passes.items c.in-Some.ensures.steps.0 inv.passes in
    omega (arith, room, length_is, fits)

pub push_reserved-requires-in-loop-pool_worker-2 : goal.push_reserved-requires-in-loop-pool_worker-2
push_reserved-requires-in-loop-pool_worker-2 g c =
    let inv = c.loop-pool_worker.invariant in
    let room = inv.rows in
    let length_is : vec_len c.loop-pool_worker.shown ≡ length c.loop-pool_worker.shown.items = c.loop-pool_worker.shown.ok.0 in
    let fits = taken-fits shown_by c.args.workers.items (into_iter_items c.loop-pool_worker.pool_worker-iterator) (into_iter_items c.next.new.self) c.in-Some.pool_worker c.loop-pool_worker.shown.items c.in-Some.ensures.steps.0 inv.shown in
    omega (arith, room, length_is, fits)

pub loop-pool_worker-preserved : goal.loop-pool_worker-preserved
loop-pool_worker-preserved g c =
    let inv = c.loop-pool_worker.invariant in let m = c.in-Some.pool_worker in
    let all = c.args.workers.items in let rest = into_iter_items c.loop-pool_worker.pool_worker-iterator in let after = into_iter_items c.next.new.self in
    let step = c.in-Some.ensures.steps.0 in
    let room = inv.room in let places = inv.places in let rows = inv.rows in
    let same = c.push_reserved.ensures.capacity in let as_wide = c.push_reserved-in-loop-pool_worker.ensures.capacity in let as_long = c.push_reserved-in-loop-pool_worker-2.ensures.capacity in
    record {
      links = taken-more link_of all rest after m c.loop-pool_worker.links.items c.push_reserved.new.self.items (link_of m) step c.push_reserved.ensures.items refl inv.links;
      passes = taken-more pass_of all rest after m c.loop-pool_worker.passes.items c.push_reserved-in-loop-pool_worker.new.self.items (pass_of m) step c.push_reserved-in-loop-pool_worker.ensures.items refl inv.passes;
      shown = taken-more shown_by all rest after m c.loop-pool_worker.shown.items c.push_reserved-in-loop-pool_worker-2.new.self.items (shown_by m) step c.push_reserved-in-loop-pool_worker-2.ensures.items refl inv.shown;
      room = omega (arith, room, same);
      places = omega (arith, places, as_wide);
      rows = omega (arith, rows, as_long);
    }

pub returns-clause-links : goal.returns-clause-links
returns-clause-links g c = taken-all link_of c.args.workers.items (into_iter_items c.loop-pool_worker.pool_worker-iterator) c.loop-pool_worker.links.items (empty _ (sym c.loop-pool_worker.pool_worker-iterator.rest.ok.0 ∙ c.in-None.ensures.steps.0)) c.loop-pool_worker.invariant.links

pub returns-clause-passes : goal.returns-clause-passes
returns-clause-passes g c = taken-all pass_of c.args.workers.items (into_iter_items c.loop-pool_worker.pool_worker-iterator) c.loop-pool_worker.passes.items (empty _ (sym c.loop-pool_worker.pool_worker-iterator.rest.ok.0 ∙ c.in-None.ensures.steps.0)) c.loop-pool_worker.invariant.passes

pub returns-clause-shown : goal.returns-clause-shown
returns-clause-shown g c = taken-all shown_by c.args.workers.items (into_iter_items c.loop-pool_worker.pool_worker-iterator) c.loop-pool_worker.shown.items (empty _ (sym c.loop-pool_worker.pool_worker-iterator.rest.ok.0 ∙ c.in-None.ensures.steps.0)) c.loop-pool_worker.invariant.shown
