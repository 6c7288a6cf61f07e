use Rattle.std.proofs.Common.{◌≡◌, true, List, ◌∷◌, sym, ◌∙◌, ap}
use Rattle.rz_events.specs.declared.events.Event.{Event}
use Rattle.rz_events.specs.declared.events.Event.TheVariants as e
use Rattle.rz_cells_slots.specs.Opening.{opening_calls}
use Rattle.rz_node_model.specs.NodeEvents.{node_event}
use Rattle.rz_driver_nodes.proofs.MeterLemmas.{call-goes, call-lasts, missed-goes}
use Rattle.rz_operation_model.specs.Ask.{ask_of}
use Rattle.rz_operation.proofs.NodeAsks.{may-miss}
use Rattle.rz_driver_nodes.proofs.MessageCoherence.{eventless, keeps-lost, not-called}
use Rattle.rz_driver_nodes.proofs.CoherenceLemmas.{on-err}
use Rattle.rz_driver_nodes.proofs.messages.without_reply.Goals as goal

pub tell_missed-requires : goal.tell_missed-requires
tell_missed-requires g c = record { asked = may-miss (ask_of c.args.machine.now.layout c.args.machine.now.work) c.args.number c.args.ask c.requires.asked c.requires.lossy }

pub returns-clause-metered : goal.returns-clause-metered
returns-clause-metered g c =
    let meter = g.D.Disk.meter in
    let node = c.args.node.now in
    let h = c.args.log.now.events in
    let s = c.in_ok-answer.ensures in
    let goes = call-goes meter c.faults.ensures c.args.by c.args.number (opening_calls node.geometry) node.geometry.cells c.args.ask c.in_ok-answer.answer node c.serve.new.node s.no_start s.served.given_is s.served.after s.counts h in
    let n : c.note-2.new.self.events ≡ e.Missed c.args.by c.args.number true ∷ c.in-Some.event ∷ h = c.note-2.ensures.noted ∙ ap (λ (k : List Event). e.Missed c.args.by c.args.number true ∷ k) c.note.ensures.noted in (
    missed-goes meter c.args.number node c.serve.new.node h c.note-2.new.self.events c.in-Some.event c.args.by (node_event c.args.by c.args.number c.args.ask c.in_ok-answer.answer) (sym c.node_event.ensures ∙ c.in-Some.is) n goes)

pub returns-clause-counted : goal.returns-clause-counted
returns-clause-counted g c =
    let s = c.in_ok-answer.ensures in
    call-lasts (opening_calls c.args.node.now.geometry) c.args.node.now.geometry.cells c.args.ask c.in_ok-answer.answer c.args.node.now.state (g.D.Disk.meter c.args.node.now.disk) (g.D.Disk.meter c.serve.new.node.disk) s.no_start s.served.given_is s.counts

-- Beside the log.

pub returns-clause-coherent : goal.returns-clause-coherent
returns-clause-coherent g c =
    let s = c.in_ok-answer.ensures in
    let h = c.args.log.now.events in
    let n : c.note-2.new.self.events ≡ e.Missed c.args.by c.args.number true ∷ c.in-Some.event ∷ h = c.note-2.ensures.noted ∙ ap (λ (k : List Event). e.Missed c.args.by c.args.number true ∷ k) c.note.ensures.noted in (λ told.
    keeps-lost g.D.Disk.text g.D.Disk.image (c.heard.ensures told) c.args.by c.args.number c.args.machine.now c.args.ask c.in_ok-answer.answer c.args.node.now c.serve.new.node c.serve.new.bins h
    (s.message told c.args.number c.requires.asked) c.serve.ensures.geometry s.served.after c.told.ensures c.requires.asked c.requires.lossy c.in-Some.event (sym c.node_event.ensures ∙ c.in-Some.is) c.tell_missed.new.self c.tell_missed.ensures
    c.note-2.new.self.events n)

pub returns-in_default-clause-unchanged : goal.returns-in_default-clause-unchanged
returns-in_default-clause-unchanged g c = λ told.
    let s = c.in_ok-answer.ensures in
    eventless g.D.Disk.text g.D.Disk.image (c.heard.ensures told) c.args.by c.args.number c.args.machine.now c.args.ask c.in_ok-answer.answer c.args.node.now c.serve.new.node c.serve.new.bins c.args.log.now.events
    (s.message told c.args.number c.requires.asked) c.serve.ensures.geometry s.served.after s.actor s.served.given_is (sym c.node_event.ensures ∙ c.in_default.is)

pub returns-in_err-answer-clause-unchanged : goal.returns-in_err-answer-clause-unchanged
returns-in_err-answer-clause-unchanged g c = on-err c.from_residual.result (λ told. not-called g.D.Disk.image c.args.by c.args.number c.args.machine.now c.args.node.now c.serve.new.node c.args.log.now.events c.in_err-answer.ensures.same)
