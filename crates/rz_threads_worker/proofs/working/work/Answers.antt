use Rattle.std.proofs.Common.{◌∙◌, refl, sym}
use Rattle.rz_chronicle.specs.Kinds.{is_honest, volume_in}
use Rattle.rz_threads_steps.proofs.Acts.{still-lasts, lasts-on, on-err}
use Rattle.rz_threads_worker.specs.Workers.{agenda_of}
use Rattle.rz_threads_worker.proofs.Doings.{none-done, still-lost}
use Rattle.rz_threads_worker.proofs.Workings.{done-both, lost-both, shown-at}
use Rattle.rz_threads_worker.proofs.working.work.Goals as goal

pub loop-init : goal.loop-init
loop-init g c =
    record {
      lasts = still-lasts c.args.worker.now.pass;
      ready = c.requires.ready;
      done = none-done (is_honest g.J.Naming.kind) (volume_in g.J.Naming.kind).layout c.args.worker.now.pass.actor (agenda_of c.args.worker.now.agenda) c.args.worker.now.pass.log c.args.worker.now.pass.log refl;
      lost = still-lost c.args.worker.now.pass.actor c.args.worker.now.pass.log (g.L.Link.lost c.args.worker.now.link);
    }

pub returns-then-not-has_work-clause-same : goal.returns-then-not-has_work-clause-same
returns-then-not-has_work-clause-same g c = (c.loop.invariant.lasts.actor, c.loop.invariant.lasts.keys)

pub returns-then-not-has_work-clause-later : goal.returns-then-not-has_work-clause-later
returns-then-not-has_work-clause-later g c = c.loop.invariant.lasts.later

pub returns-then-not-has_work-clause-done : goal.returns-then-not-has_work-clause-done
returns-then-not-has_work-clause-done g c = record { last = agenda_of c.loop.worker.agenda; done = c.loop.invariant.done; rests = sym c.has_work.ensures ∙ c.if-not-has_work.true }

pub returns-then-not-has_work-clause-lost : goal.returns-then-not-has_work-clause-lost
returns-then-not-has_work-clause-lost g c = c.loop.invariant.lost

pub returns-then-not-has_work-clause-shown : goal.returns-then-not-has_work-clause-shown
returns-then-not-has_work-clause-shown g c = shown-at c.args.worker.now.pass c.loop.worker.pass c.loop.worker.pass c.loop.invariant.lasts c.loop.worker.shown.items c.loop.invariant.ready.shows

pub returns-in_err-take_turn-clause-same : goal.returns-in_err-take_turn-clause-same
returns-in_err-take_turn-clause-same g c =
    let all = lasts-on c.args.worker.now.pass c.loop.worker.pass c.take_turn.new.worker.pass c.loop.invariant.lasts c.in_err-take_turn.ensures.lasts in (all.actor, all.keys)

pub returns-in_err-take_turn-clause-later : goal.returns-in_err-take_turn-clause-later
returns-in_err-take_turn-clause-later g c = (lasts-on c.args.worker.now.pass c.loop.worker.pass c.take_turn.new.worker.pass c.loop.invariant.lasts c.in_err-take_turn.ensures.lasts).later

pub returns-in_err-take_turn-clause-begun : goal.returns-in_err-take_turn-clause-begun
returns-in_err-take_turn-clause-begun g c = on-err c.from_residual.result (c.in_err-take_turn.ensures.begun.0, done-both c.args.worker.now.pass c.loop.worker.pass c.take_turn.new.worker.pass c.loop.invariant.lasts (is_honest g.J.Naming.kind) (volume_in g.J.Naming.kind).layout (agenda_of c.args.worker.now.agenda) (agenda_of c.loop.worker.agenda) c.in_err-take_turn.ensures.begun.0 c.loop.invariant.done c.in_err-take_turn.ensures.begun.1)

pub returns-in_err-take_turn-clause-lost : goal.returns-in_err-take_turn-clause-lost
returns-in_err-take_turn-clause-lost g c = lost-both c.args.worker.now.pass c.loop.worker.pass c.take_turn.new.worker.pass c.loop.invariant.lasts (g.L.Link.lost c.args.worker.now.link) (g.L.Link.lost c.loop.worker.link) (g.L.Link.lost c.take_turn.new.worker.link) c.loop.invariant.lost c.in_err-take_turn.ensures.lost

pub returns-in_err-take_turn-clause-shown : goal.returns-in_err-take_turn-clause-shown
returns-in_err-take_turn-clause-shown g c = shown-at c.args.worker.now.pass c.loop.worker.pass c.take_turn.new.worker.pass c.loop.invariant.lasts c.take_turn.new.worker.shown.items c.in_err-take_turn.ensures.shown

pub loop-preserved : goal.loop-preserved
loop-preserved g c =
    record {
      lasts = lasts-on c.args.worker.now.pass c.loop.worker.pass c.take_turn.new.worker.pass c.loop.invariant.lasts c.in_ok-take_turn.ensures.lasts;
      ready = c.in_ok-take_turn.ensures.ready;
      done = done-both c.args.worker.now.pass c.loop.worker.pass c.take_turn.new.worker.pass c.loop.invariant.lasts (is_honest g.J.Naming.kind) (volume_in g.J.Naming.kind).layout (agenda_of c.args.worker.now.agenda) (agenda_of c.loop.worker.agenda) (agenda_of c.take_turn.new.worker.agenda) c.loop.invariant.done c.in_ok-take_turn.ensures.done;
      lost = lost-both c.args.worker.now.pass c.loop.worker.pass c.take_turn.new.worker.pass c.loop.invariant.lasts (g.L.Link.lost c.args.worker.now.link) (g.L.Link.lost c.loop.worker.link) (g.L.Link.lost c.take_turn.new.worker.link) c.loop.invariant.lost c.in_ok-take_turn.ensures.lost;
    }
