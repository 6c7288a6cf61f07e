use Rattle.std.proofs.Common.{ℕ, List, map, subst, sym, ap, ◌∙◌}
use Rattle.std.specs.List.{AllByRecursion, AllZip}
use Rattle.std.specs.Global.{Vec}
use Rattle.std.proofs.lemmas.Slice.Zip.{AllZip-long}
use Rattle.rz_events.specs.declared.events.Event.{Event}
use Rattle.rz_chronicle.specs.Rules.{PassView}
use Rattle.rz_threads_workers.specs.Gathered.{HoldsPass}
use Rattle.rz_threads.proofs.Done.{begun-on, done-on}
use Rattle.rz_threads_workers.specs.WorkerPool.{IsRoomFor, WantsNothing}
use Rattle.rz_threads.specs.PlayResult.{HasLost}
use Rattle.rz_threads.proofs.PoolWorkers.{and-both, begun-all, finished-all, lost-all, shown-all}
use Rattle.rz_threads.proofs.Tallies.{same-actors}
use Rattle.rz_threads.proofs.playing.play.Goals as goal

pub take_results-links-requires : goal.take_results-links-requires
take_results-links-requires g c = record { room = subst (λ (n : ℕ). IsRoomFor n c.args.pool.room) (sym (AllZip-long _ _ _ c.at_work-workers.ensures.worked)) c.args.pool.fits }

pub returns-clause-held : goal.returns-clause-held
returns-clause-held g c = λ are.
    c.gather_up-front.ensures.words (ap (map (λ (p : PassView). p.actor)) c.take_results-links.ensures.passes ∙ (same-actors g.L.Link.lost g.J.Naming.kind c.args.pool.workers.items c.at_work-workers.result.workers.items c.at_work-workers.ensures.worked ∙ are))

pub returns-clause-begun : goal.returns-clause-begun
returns-clause-begun g c =
    let front = c.gather_up-front.result.front in
    let held = subst (AllByRecursion (HoldsPass front)) c.take_results-links.ensures.passes c.gather_up-front.ensures.held in
    begun-all g.L.Link.lost g.J.Naming.kind front c.args.pool.workers.items c.at_work-workers.result.workers.items c.at_work-workers.ensures.worked held

pub returns-clause-finished : goal.returns-clause-finished
returns-clause-finished g c = λ is.
    let front = c.gather_up-front.result.front in
    let held = subst (AllByRecursion (HoldsPass front)) c.take_results-links.ensures.passes c.gather_up-front.ensures.held in
    let both = and-both _ _ (sym c.both-ended.ensures ∙ is) in
    finished-all g.L.Link.lost g.J.Naming.kind front c.args.pool.workers.items c.at_work-workers.result.workers.items c.at_work-workers.ensures.worked held (subst (AllByRecursion WantsNothing) c.as_slice.ensures.value (c.have_finished-finished.ensures.all both.1))

pub returns-clause-ordered : goal.returns-clause-ordered
returns-clause-ordered g c = begun-on g.J.Naming.kind c.args.lines.now c.args.admin.log _ _ c.at_work-workers.ensures.ordered.begun c.gather_up-front.ensures.waits

pub returns-clause-orders : goal.returns-clause-orders
returns-clause-orders g c = λ is.
    let both = and-both _ _ (sym c.both-ended.ensures ∙ is) in
    done-on g.J.Naming.kind c.args.lines.now c.args.admin.log _ _ (c.at_work-workers.ensures.ordered.done both.0) c.gather_up-front.ensures.waits

pub returns-clause-links : goal.returns-clause-links
returns-clause-links g c =
    let front = c.gather_up-front.result.front in
    let held = subst (AllByRecursion (HoldsPass front)) c.take_results-links.ensures.passes c.gather_up-front.ensures.held in
    let all = lost-all g.L.Link.lost g.J.Naming.kind front c.args.pool.workers.items c.at_work-workers.result.workers.items c.at_work-workers.ensures.worked held in
    subst (λ (ls : List g.row.L.Denot). AllZip (HasLost g.L.Link.lost front.log) c.args.pool.workers.items ls) (sym c.take_results-links.ensures.links) all

pub returns-clause-shown : goal.returns-clause-shown
returns-clause-shown g c =
    let front = c.gather_up-front.result.front in
    let held = subst (AllByRecursion (HoldsPass front)) c.take_results-links.ensures.passes c.gather_up-front.ensures.held in
    ap (map (λ (s : Vec Event). s.items)) c.take_results-links.ensures.shown
    ∙ shown-all g.L.Link.lost g.J.Naming.kind front c.args.pool.workers.items c.at_work-workers.result.workers.items c.at_work-workers.ensures.worked held
