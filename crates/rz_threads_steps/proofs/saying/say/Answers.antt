use Rattle.std.proofs.Common.{◌∙◌, [], ◌∷◌, Some, refl, ap}
use Rattle.rz_core.specs.History.{of_actor}
use Rattle.rz_chronicle.specs.Kinds.{volume_in}
use Rattle.rz_operation_model.specs.Steps.{Noted}
use Rattle.rz_operation.specs.Machine.{text_of}
use Rattle.rz_play.specs.Faults.{missed}
use Rattle.rz_show.specs.Shown.{shown_of}
use Rattle.rz_threads_steps.proofs.Added.{noted-quiet, word-quiet}
use Rattle.rz_threads_steps.proofs.Acts.{still-lasts, still-stopped, on-err, shows-on, went}
use Rattle.rz_threads_steps.proofs.Sayings.{its-by, its-word, say-may, say-step, at-actor}
use Rattle.rz_threads_steps.proofs.saying.say.Goals as goal

pub returns-then-not-has_room_after-clause-lasts : goal.returns-then-not-has_room_after-clause-lasts
returns-then-not-has_room_after-clause-lasts g c = still-lasts c.args.pass.now

pub returns-then-not-has_room_after-clause-quiet : goal.returns-then-not-has_room_after-clause-quiet
returns-then-not-has_room_after-clause-quiet g c = refl

pub returns-then-not-has_room_after-clause-shows : goal.returns-then-not-has_room_after-clause-shows
returns-then-not-has_room_after-clause-shows g c = c.requires.shows

pub returns-then-not-has_room_after-clause-stopped : goal.returns-then-not-has_room_after-clause-stopped
returns-then-not-has_room_after-clause-stopped g c = still-stopped g.J.Naming.kind c.args.number c.args.pass.now c.args.machine.now

pub returns-in_err-make_room-clause-lasts : goal.returns-in_err-make_room-clause-lasts
returns-in_err-make_room-clause-lasts g c = still-lasts c.args.pass.now

pub returns-in_err-make_room-clause-quiet : goal.returns-in_err-make_room-clause-quiet
returns-in_err-make_room-clause-quiet g c = refl

pub returns-in_err-make_room-clause-shows : goal.returns-in_err-make_room-clause-shows
returns-in_err-make_room-clause-shows g c = c.make_room.ensures.kept _ c.requires.shows

pub returns-in_err-make_room-clause-stopped : goal.returns-in_err-make_room-clause-stopped
returns-in_err-make_room-clause-stopped g c = on-err c.from_residual.result (still-stopped g.J.Naming.kind c.args.number c.args.pass.now c.args.machine.now)

pub returns-in_err-event-clause-lasts : goal.returns-in_err-event-clause-lasts
returns-in_err-event-clause-lasts g c = still-lasts c.args.pass.now

pub returns-in_err-event-clause-quiet : goal.returns-in_err-event-clause-quiet
returns-in_err-event-clause-quiet g c = refl

pub returns-in_err-event-clause-shows : goal.returns-in_err-event-clause-shows
returns-in_err-event-clause-shows g c = c.make_room.ensures.kept _ c.requires.shows

pub returns-in_err-event-clause-stopped : goal.returns-in_err-event-clause-stopped
returns-in_err-event-clause-stopped g c = on-err c.from_residual-in_err-event.result (still-stopped g.J.Naming.kind c.args.number c.args.pass.now c.args.machine.now)

pub add_own-requires-clause-word : goal.add_own-requires-clause-word
add_own-requires-clause-word g c = its-word g.J.Naming.kind c.args.pass.now c.args.number c.args.machine.now c.said.new.machine c.in_ok-event.event (at-actor c.actor-by.result c.args.pass.now.actor c.args.number c.args.machine.now c.said.new.machine c.in_ok-event.event c.actor-by.ensures.value c.in_ok-event.ensures.said)

pub add_own-requires-clause-by : goal.add_own-requires-clause-by
add_own-requires-clause-by g c = its-by g.J.Naming.kind c.args.pass.now c.args.number c.args.machine.now c.said.new.machine c.in_ok-event.event (at-actor c.actor-by.result c.args.pass.now.actor c.args.number c.args.machine.now c.said.new.machine c.in_ok-event.event c.actor-by.ensures.value c.in_ok-event.ensures.said)

pub add_own-requires-clause-legal : goal.add_own-requires-clause-legal
add_own-requires-clause-legal g c =
    let v = volume_in g.J.Naming.kind in
    say-may g.J.Naming.kind c.args.pass.now c.args.number c.args.machine.now c.said.new.machine c.in_ok-event.event (at-actor c.actor-by.result c.args.pass.now.actor c.args.number c.args.machine.now c.said.new.machine c.in_ok-event.event c.actor-by.ensures.value c.in_ok-event.ensures.said) c.roomy.ensures g.J.Naming.earlier (c.asks.ensures v) (c.says.ensures v) c.one_rule.ensures c.actor-by.ensures.earlier (c.actor-by.ensures.fit, c.actor-by.ensures.after) c.requires.right (c.has_room_after.ensures.0 c.if-not-has_room_after.false)

pub returns-clause-lasts : goal.returns-clause-lasts
returns-clause-lasts g c = c.add_own.ensures.lasts

pub returns-clause-quiet : goal.returns-clause-quiet
returns-clause-quiet g c =
    let said = (at-actor c.actor-by.result c.args.pass.now.actor c.args.number c.args.machine.now c.said.new.machine c.in_ok-event.event c.actor-by.ensures.value c.in_ok-event.ensures.said) in
    ap missed c.add_own.ensures.own ∙ noted-quiet (Some c.in_ok-event.event) (of_actor c.args.pass.now.actor c.args.pass.now.log) (λ x is. word-quiet c.args.pass.now.actor c.args.number (text_of c.args.machine.now) said.saying c.in_ok-event.event x said.event is)

pub returns-clause-shows : goal.returns-clause-shows
returns-clause-shows g c =
    shows-on (g.S.Shows.has c.show.new.shown) g.J.Naming.kind g.J.Naming.earlier c.args.pass.now c.add_own.new.pass (Some c.in_ok-event.event) (c.show.ensures (shown_of (of_actor c.args.pass.now.actor c.args.pass.now.log)) (c.make_room.ensures.kept _ c.requires.shows)) c.add_own.ensures

pub returns-clause-acted : goal.returns-clause-acted
returns-clause-acted g c =
    let said = (at-actor c.actor-by.result c.args.pass.now.actor c.args.number c.args.machine.now c.said.new.machine c.in_ok-event.event c.actor-by.ensures.value c.in_ok-event.ensures.said) in
    went g.J.Naming.kind g.J.Naming.earlier c.args.number c.args.pass.now c.add_own.new.pass c.args.machine.now c.said.new.machine c.add_own.ensures.lasts (c.goes.ensures (volume_in g.J.Naming.kind)) (Noted (text_of c.args.machine.now)) (c.in_ok-event.event ∷ []) (say-step g.J.Naming.kind c.args.pass.now c.args.number c.args.machine.now c.said.new.machine c.in_ok-event.event said) tt c.add_own.ensures.own c.add_own.ensures.alone
    (λ keeps. (c.add_own.ensures.said keeps, tt)) (λ keeps. tt) said.goes c.requires.right
