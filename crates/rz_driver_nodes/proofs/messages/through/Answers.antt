use Rattle.std.proofs.Common.{◌≡◌, ◌∷◌, ◌∙◌, refl, sym}
use Rattle.rz_cells_slots.specs.Opening.{opening_calls}
use Rattle.rz_node_model.specs.NodeEvents.{node_event}
use Rattle.rz_driver_nodes.proofs.Fits.{told-so}
use Rattle.rz_driver_nodes.proofs.MeterLemmas.{call-goes, call-lasts, noted-goes}
use Rattle.rz_driver_nodes.proofs.MessageCoherence.{answers-to, eventless, keeps-through, not-called}
use Rattle.rz_driver_nodes.proofs.CoherenceLemmas.{on-err}
use Rattle.rz_driver_nodes.proofs.messages.through.Goals as goal

pub tell-requires-clause-answers : goal.tell-requires-clause-answers
tell-requires-clause-answers g c =
    let node = c.args.node.now in
    let s = c.in_ok-answer.ensures in
    answers-to c.args.layout node.geometry.cells node.state c.args.ask c.in_ok-answer.answer s.actor s.served.given_is s.fetched

pub returns-clause-ok : goal.returns-clause-ok
returns-clause-ok g c =
    let s = c.in_ok-answer.ensures in
    let h = c.args.log.now.events in
    let so = told-so c.args.machine.now c.in_ok-answer.answer c.serve.new.bins c.tell.new.machine c.tell.ensures in
    let n : c.note.new.self.events ≡ c.in-Some.event ∷ h = c.note.ensures.noted in (record {
      given = c.in_ok-answer.answer;
      served = s.served;
      noted = (c.in-Some.event, sym c.node_event.ensures ∙ c.in-Some.is, n);
      fits = so.0;
      may_fit = so.1;
      goes = so.2;
    })

pub returns-clause-metered : goal.returns-clause-metered
returns-clause-metered g c =
    let meter = g.D.Disk.meter in
    let node = c.args.node.now in
    let h = c.args.log.now.events in
    let s = c.in_ok-answer.ensures in
    let goes = call-goes meter c.faults.ensures c.args.by c.args.number (opening_calls node.geometry) node.geometry.cells c.args.ask c.in_ok-answer.answer node c.serve.new.node s.no_start s.served.given_is s.served.after s.counts h in
    let n : c.note.new.self.events ≡ c.in-Some.event ∷ h = c.note.ensures.noted in (
    noted-goes meter c.args.number node c.serve.new.node h c.note.new.self.events c.node_event.result (node_event c.args.by c.args.number c.args.ask c.in_ok-answer.answer) c.node_event.ensures (c.in-Some.event, c.in-Some.is, n) goes)

-- No count falls.

pub returns-clause-counted : goal.returns-clause-counted
returns-clause-counted g c =
    let s = c.in_ok-answer.ensures in
    call-lasts (opening_calls c.args.node.now.geometry) c.args.node.now.geometry.cells c.args.ask c.in_ok-answer.answer c.args.node.now.state (g.D.Disk.meter c.args.node.now.disk) (g.D.Disk.meter c.serve.new.node.disk) s.no_start s.served.given_is s.counts

pub returns-in_default-clause-counted : goal.returns-in_default-clause-counted
returns-in_default-clause-counted g c =
    let s = c.in_ok-answer.ensures in
    call-lasts (opening_calls c.args.node.now.geometry) c.args.node.now.geometry.cells c.args.ask c.in_ok-answer.answer c.args.node.now.state (g.D.Disk.meter c.args.node.now.disk) (g.D.Disk.meter c.serve.new.node.disk) s.no_start s.served.given_is s.counts

-- Beside the log.

pub returns-clause-coherent : goal.returns-clause-coherent
returns-clause-coherent g c =
    let s = c.in_ok-answer.ensures in
    let h = c.args.log.now.events in
    let n : c.note.new.self.events ≡ c.in-Some.event ∷ h = c.note.ensures.noted in (λ told.
    keeps-through g.D.Disk.text g.D.Disk.image (c.heard.ensures told) c.args.by c.args.number c.args.machine.now c.args.ask c.in_ok-answer.answer c.args.node.now c.serve.new.node c.serve.new.bins h
    (s.message told c.args.number c.requires.asked) c.serve.ensures.geometry s.served.after c.in-Some.event (sym c.node_event.ensures ∙ c.in-Some.is) c.tell.new.machine c.tell.ensures c.note.new.self.events n)

pub returns-in_default-clause-unchanged : goal.returns-in_default-clause-unchanged
returns-in_default-clause-unchanged g c = λ told.
    let s = c.in_ok-answer.ensures in
    eventless g.D.Disk.text g.D.Disk.image (c.heard.ensures told) c.args.by c.args.number c.args.machine.now c.args.ask c.in_ok-answer.answer c.args.node.now c.serve.new.node c.serve.new.bins c.args.log.now.events
    (s.message told c.args.number c.requires.asked) c.serve.ensures.geometry s.served.after s.actor s.served.given_is (sym c.node_event.ensures ∙ c.in_default.is)

pub returns-in_err-answer-clause-unchanged : goal.returns-in_err-answer-clause-unchanged
returns-in_err-answer-clause-unchanged g c = on-err c.from_residual.result (λ told. not-called g.D.Disk.image c.args.by c.args.number c.args.machine.now c.args.node.now c.serve.new.node c.args.log.now.events c.in_err-answer.ensures.same)

pub returns-then-not-is_placed-clause-unchanged : goal.returns-then-not-is_placed-clause-unchanged
returns-then-not-is_placed-clause-unchanged g c = λ told. not-called g.D.Disk.image c.args.by c.args.number c.args.machine.now c.args.node.now c.args.node.now c.args.log.now.events refl
