use Rattle.std.proofs.Common.{◌≤◌, ◌∙◌, arith}
use Rattle.rz_chronicle.specs.Keys.{sids_of}
use Rattle.rz_threads_workers.proofs.Counts.{counted-first, counted-more, counted-now, counted-old}
use Rattle.rz_threads_workers.proofs.Totals.{placed-before, total}
use Rattle.rz_threads_workers.proofs.counting.count_all.Goals as goal

pub loop-place-init : goal.loop-place-init
loop-place-init g c = counted-first (sids_of c.args.book.now) c.args.pass.now

pub loop-place-preserved : goal.loop-place-preserved
loop-place-preserved g c =
    let e = c.count-count.ensures in
    counted-more (sids_of c.args.book.now) c.args.pass.now c.loop-place.pass c.count-count.new.pass c.loop-place.place c.loop-place.sum c.count-count.result c.sum_of-sum.result
    c.requires.held c.loop-place-test.true c.loop-place.invariant e.same.0 e.same.1 e.later e.stays e.count c.sum_of-sum.ensures

pub returns-clause-count : goal.returns-clause-count
returns-clause-count g c =
    let past : 338 ≤ c.loop-place.place = omega (arith, c.loop-place-test.false) in
    counted-now (sids_of c.args.book.now) c.args.pass.now c.loop-place.pass c.loop-place.place c.loop-place.sum c.requires.held past c.loop-place.invariant
    ∙ total g.J.Naming.kind c.args.book.now c.stands.ensures.volume c.stands.ensures.apart c.loop-place.pass.log c.actor-placed.ensures.places

pub returns-clause-old : goal.returns-clause-old
returns-clause-old g c =
    let past : 338 ≤ c.loop-place.place = omega (arith, c.loop-place-test.false) in
    counted-old (sids_of c.args.book.now) c.args.pass.now c.loop-place.pass c.loop-place.place c.loop-place.sum past c.loop-place.invariant
    ∙ total g.J.Naming.kind c.args.book.now c.stands.ensures.volume c.stands.ensures.apart c.args.pass.now.log
    (placed-before g.J.Naming.kind c.args.pass.now.log c.loop-place.pass.log c.loop-place.invariant.goes.later c.actor-placed.ensures.places)
