use Rattle.std.proofs.Common.{◌∙◌, ◌≤◌, ℕ, List, length, refl, sym, ap, subst}
use Rattle.std.specs.List.{AllByRecursion}
use Rattle.mj_angles.specs.declared.layout.Layout.{Layout}
use Rattle.mj_angles.specs.Layout.{max_bins_of}
use Rattle.rz_events.specs.Volume.{Volume}
use Rattle.rz_operation.specs.Answers as answers
use Rattle.rz_chronicle.specs.Kinds.{is_honest, volume_in}
use Rattle.rz_events.specs.declared.events.Event.{Event}
use Rattle.rz_threads_steps.specs.Acted.{IsWorkRight}
use Rattle.rz_threads_steps.proofs.Acts.{still-lasts, on-err}
use Rattle.rz_threads_worker.specs.Workers.{agenda_of}
use Rattle.rz_threads_worker.proofs.Doings.{none-done, still-lost}
use Rattle.rz_threads_worker.proofs.Agendas.{all-taken, ready-on, hand-layout, hand-right}
use Rattle.rz_threads_worker.proofs.Workings.{written, ready-again, turn-begun, turn-taken}
use Rattle.rz_threads_worker.proofs.working.take_turn.Goals as goal

pub returns-in_err-begin_next-clause-lasts : goal.returns-in_err-begin_next-clause-lasts
returns-in_err-begin_next-clause-lasts g c = still-lasts c.args.worker.now.pass

pub returns-in_err-begin_next-clause-lost : goal.returns-in_err-begin_next-clause-lost
returns-in_err-begin_next-clause-lost g c = still-lost c.args.worker.now.pass.actor c.args.worker.now.pass.log (g.L.Link.lost c.args.worker.now.link)

pub returns-in_err-begin_next-clause-shown : goal.returns-in_err-begin_next-clause-shown
returns-in_err-begin_next-clause-shown g c = c.requires.ready.shows

pub returns-in_err-begin_next-clause-begun : goal.returns-in_err-begin_next-clause-begun
returns-in_err-begin_next-clause-begun g c = on-err c.from_residual.result (agenda_of c.args.worker.now.agenda, none-done (is_honest g.J.Naming.kind) (volume_in g.J.Naming.kind).layout c.args.worker.now.pass.actor (agenda_of c.args.worker.now.agenda) c.args.worker.now.pass.log c.args.worker.now.pass.log refl)

pub returns-in_default-clause-lasts : goal.returns-in_default-clause-lasts
returns-in_default-clause-lasts g c = still-lasts c.args.worker.now.pass

pub returns-in_default-clause-lost : goal.returns-in_default-clause-lost
returns-in_default-clause-lost g c = still-lost c.args.worker.now.pass.actor c.args.worker.now.pass.log (g.L.Link.lost c.args.worker.now.link)

pub returns-in_default-clause-shown : goal.returns-in_default-clause-shown
returns-in_default-clause-shown g c = c.requires.ready.shows

pub returns-in_default-clause-begun : goal.returns-in_default-clause-begun
returns-in_default-clause-begun g c = (agenda_of c.args.worker.now.agenda, none-done (is_honest g.J.Naming.kind) (volume_in g.J.Naming.kind).layout c.args.worker.now.pass.actor (agenda_of c.args.worker.now.agenda) c.args.worker.now.pass.log c.args.worker.now.pass.log refl)

pub begin_next-requires : goal.begin_next-requires
begin_next-requires g c = (
  c.type_bounds.sync-R,
  subst (λ (y : Layout). AllByRecursion (answers.IsWithinLayout y) c.args.worker.now.agenda.todo.items) (sym (c.layout-layout.ensures ∙ ap (λ (v : Volume). v.layout) c.requires.volume))
      (all-taken (volume_in g.J.Naming.kind) (c.scripted.ensures (volume_in g.J.Naming.kind)) c.args.worker.now.pass.actor c.args.worker.now.agenda.todo.items c.requires.ready.todo),
)

pub step-requires-clause-actor : goal.step-requires-clause-actor
step-requires-clause-actor g c = c.requires.ready.actor

pub step-requires-clause-layout : goal.step-requires-clause-layout
step-requires-clause-layout g c = (hand-layout g.J.Naming.kind c.args.worker.now.pass c.begin_next.new.self c.begin_next.new.self c.args.worker.now.bins.items c.args.worker.now.shown.items (ready-on g.J.Naming.kind c.args.worker.now.pass c.args.worker.now.agenda c.begin_next.new.self c.args.worker.now.bins.items c.args.worker.now.shown.items c.requires.ready (c.scripted.ensures (volume_in g.J.Naming.kind)) (c.begins.ensures (volume_in g.J.Naming.kind)) c.layout-layout.result (c.layout-layout.ensures ∙ ap (λ (v : Volume). v.layout) c.requires.volume) c.in_ok-begin_next.ensures) c.in-Some.machine c.in-Some.is)

pub step-requires-clause-right : goal.step-requires-clause-right
step-requires-clause-right g c = subst (λ (e : List Event). IsWorkRight g.J.Naming.kind e c.args.worker.now.pass c.begin_next.new.self.number c.in-Some.machine) (sym g.met.J.Counting.anew) (hand-right g.J.Naming.kind c.args.worker.now.pass c.begin_next.new.self c.begin_next.new.self c.args.worker.now.bins.items c.args.worker.now.shown.items (ready-on g.J.Naming.kind c.args.worker.now.pass c.args.worker.now.agenda c.begin_next.new.self c.args.worker.now.bins.items c.args.worker.now.shown.items c.requires.ready (c.scripted.ensures (volume_in g.J.Naming.kind)) (c.begins.ensures (volume_in g.J.Naming.kind)) c.layout-layout.result (c.layout-layout.ensures ∙ ap (λ (v : Volume). v.layout) c.requires.volume) c.in_ok-begin_next.ensures) c.in-Some.machine c.in-Some.is)

pub step-requires-clause-room : goal.step-requires-clause-room
step-requires-clause-room g c = subst (λ (xs : List ℕ). max_bins_of (volume_in g.J.Naming.kind).layout ≤ length xs) (sym c.deref_mut.ensures.value) c.requires.ready.room

pub step-requires-clause-shows : goal.step-requires-clause-shows
step-requires-clause-shows g c = c.requires.ready.shows

pub returns-in_err-step-clause-lasts : goal.returns-in_err-step-clause-lasts
returns-in_err-step-clause-lasts g c = c.in_err-step.ensures.lasts

pub returns-in_err-step-clause-lost : goal.returns-in_err-step-clause-lost
returns-in_err-step-clause-lost g c = c.in_err-step.ensures.lost

pub returns-in_err-step-clause-shown : goal.returns-in_err-step-clause-shown
returns-in_err-step-clause-shown g c = c.in_err-step.ensures.shows

pub returns-clause-lasts : goal.returns-clause-lasts
returns-clause-lasts g c = c.in_ok-step.ensures.lasts

pub returns-clause-lost : goal.returns-clause-lost
returns-clause-lost g c = c.in_ok-step.ensures.lost

pub returns-clause-shown : goal.returns-clause-shown
returns-clause-shown g c = c.in_ok-step.ensures.shows

pub returns-in_err-step-clause-begun : goal.returns-in_err-step-clause-begun
returns-in_err-step-clause-begun g c = on-err c.from_residual-in_err-step.result (turn-begun g.J.Naming.kind c.args.worker.now.pass c.step.new.pass c.layout-layout.result c.args.worker.now.agenda c.begin_next.new.self c.in-Some.machine (c.layout-layout.ensures ∙ ap (λ (v : Volume). v.layout) c.requires.volume) c.in_ok-begin_next.ensures c.in-Some.is (hand-layout g.J.Naming.kind c.args.worker.now.pass c.begin_next.new.self c.begin_next.new.self c.args.worker.now.bins.items c.args.worker.now.shown.items (ready-on g.J.Naming.kind c.args.worker.now.pass c.args.worker.now.agenda c.begin_next.new.self c.args.worker.now.bins.items c.args.worker.now.shown.items c.requires.ready (c.scripted.ensures (volume_in g.J.Naming.kind)) (c.begins.ensures (volume_in g.J.Naming.kind)) c.layout-layout.result (c.layout-layout.ensures ∙ ap (λ (v : Volume). v.layout) c.requires.volume) c.in_ok-begin_next.ensures) c.in-Some.machine c.in-Some.is) c.in_err-step.ensures.stopped)

pub returns-clause-ready : goal.returns-clause-ready
returns-clause-ready g c = ready-again g.J.Naming.kind g.J.Naming.earlier g.met.J.Counting.anew c.args.worker.now.pass c.step.new.pass c.begin_next.new.self c.in-Some.machine c.step.new.machine c.args.worker.now.bins.items _ c.args.worker.now.shown.items c.step.new.shown.items (ready-on g.J.Naming.kind c.args.worker.now.pass c.args.worker.now.agenda c.begin_next.new.self c.args.worker.now.bins.items c.args.worker.now.shown.items c.requires.ready (c.scripted.ensures (volume_in g.J.Naming.kind)) (c.begins.ensures (volume_in g.J.Naming.kind)) c.layout-layout.result (c.layout-layout.ensures ∙ ap (λ (v : Volume). v.layout) c.requires.volume) c.in_ok-begin_next.ensures) c.in_ok-step.ensures.lasts c.in_ok-step.ensures.acted (hand-layout g.J.Naming.kind c.args.worker.now.pass c.begin_next.new.self c.begin_next.new.self c.args.worker.now.bins.items c.args.worker.now.shown.items (ready-on g.J.Naming.kind c.args.worker.now.pass c.args.worker.now.agenda c.begin_next.new.self c.args.worker.now.bins.items c.args.worker.now.shown.items c.requires.ready (c.scripted.ensures (volume_in g.J.Naming.kind)) (c.begins.ensures (volume_in g.J.Naming.kind)) c.layout-layout.result (c.layout-layout.ensures ∙ ap (λ (v : Volume). v.layout) c.requires.volume) c.in_ok-begin_next.ensures) c.in-Some.machine c.in-Some.is) (written c.args.worker.now.bins.len c.step.new.bins c.args.worker.now.bins.items (c.step.auto.bins ∙ ap length c.deref_mut.ensures.value) (sym c.deref_mut.ensures.len ∙ ap length c.deref_mut.ensures.value)) c.in_ok-step.ensures.shows

pub returns-clause-done : goal.returns-clause-done
returns-clause-done g c = turn-taken g.J.Naming.kind c.args.worker.now.pass c.step.new.pass c.layout-layout.result c.args.worker.now.agenda c.begin_next.new.self c.in-Some.machine (c.layout-layout.ensures ∙ ap (λ (v : Volume). v.layout) c.requires.volume) c.in_ok-begin_next.ensures c.in-Some.is (hand-layout g.J.Naming.kind c.args.worker.now.pass c.begin_next.new.self c.begin_next.new.self c.args.worker.now.bins.items c.args.worker.now.shown.items (ready-on g.J.Naming.kind c.args.worker.now.pass c.args.worker.now.agenda c.begin_next.new.self c.args.worker.now.bins.items c.args.worker.now.shown.items c.requires.ready (c.scripted.ensures (volume_in g.J.Naming.kind)) (c.begins.ensures (volume_in g.J.Naming.kind)) c.layout-layout.result (c.layout-layout.ensures ∙ ap (λ (v : Volume). v.layout) c.requires.volume) c.in_ok-begin_next.ensures) c.in-Some.machine c.in-Some.is) g.J.Naming.earlier c.actor-fit.ensures.earlier g.met.J.Counting.anew c.step.new.machine c.in_ok-step.ensures.acted
