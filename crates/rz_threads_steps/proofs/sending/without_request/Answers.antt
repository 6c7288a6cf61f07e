use Rattle.std.proofs.Common.{◌∙◌, false, refl, ap, arith}
use Rattle.rz_events.specs.declared.events.Event.TheVariants as e
use Rattle.rz_operation_model.specs.Ask.{ask_of}
use Rattle.rz_core.specs.History.{of_actor}
use Rattle.rz_chronicle.specs.Kinds.{volume_in}
use Rattle.rz_play.specs.Faults.{missed}
use Rattle.rz_show.specs.Shown.{shown_of}
use Rattle.rz_threads_steps.proofs.Added.{lost-count}
use Rattle.rz_threads_steps.proofs.ShownEvents.{unshown-of}
use Rattle.rz_threads_steps.proofs.Acts.{still-lasts, still-stopped, missed-request}
use Rattle.rz_operation.proofs.NodeAsks.{may-miss}
use Rattle.rz_threads_steps.proofs.Messages.{is-open}
use Rattle.rz_threads_steps.proofs.sending.without_request.Goals as goal

pub returns-then-not-has_room_after-clause-lasts : goal.returns-then-not-has_room_after-clause-lasts
returns-then-not-has_room_after-clause-lasts g c = still-lasts c.args.pass.now

pub returns-then-not-has_room_after-clause-one : goal.returns-then-not-has_room_after-clause-one
returns-then-not-has_room_after-clause-one g c = omega arith

pub returns-then-not-has_room_after-clause-unshown : goal.returns-then-not-has_room_after-clause-unshown
returns-then-not-has_room_after-clause-unshown g c = refl

pub returns-then-not-has_room_after-clause-stopped : goal.returns-then-not-has_room_after-clause-stopped
returns-then-not-has_room_after-clause-stopped g c = λ number. still-stopped g.J.Naming.kind number c.args.pass.now c.args.machine.now

pub add_missed-requires-clause-going : goal.add_missed-requires-clause-going
add_missed-requires-clause-going g c =
    let v = volume_in g.J.Naming.kind in
    λ keeps. is-open v (c.asks.ensures v) g.J.Naming.earlier c.args.pass.now.log c.args.pass.now.actor c.requires.right.0 c.args.machine.now c.args.node c.args.ask.now (c.requires.right.1 keeps) c.requires.asked c.requires.lossy

pub tell_missed-requires : goal.tell_missed-requires
tell_missed-requires g c = record { asked = may-miss (ask_of c.args.machine.now.layout c.args.machine.now.work) c.args.node c.args.ask.now c.requires.asked c.requires.lossy }

pub returns-clause-lasts : goal.returns-clause-lasts
returns-clause-lasts g c = c.add_missed.ensures.lasts

pub returns-clause-one : goal.returns-clause-one
returns-clause-one g c =
    let own = ap missed c.add_missed.ensures.own in
    let one = lost-count c.args.pass.now.actor c.args.node false (of_actor c.args.pass.now.actor c.args.pass.now.log) in
    omega (arith, own, one)

pub returns-clause-unshown : goal.returns-clause-unshown
returns-clause-unshown g c =
    ap shown_of c.add_missed.ensures.own ∙ unshown-of (e.Missed c.args.pass.now.actor c.args.node false) (of_actor c.args.pass.now.actor c.args.pass.now.log) refl

pub returns-clause-noted : goal.returns-clause-noted
returns-clause-noted g c = c.add_missed.ensures.own

pub returns-clause-acted : goal.returns-clause-acted
returns-clause-acted g c =
    λ number right. missed-request g.J.Naming.kind g.J.Naming.earlier number c.args.pass.now c.add_missed.new.pass c.args.machine.now c.tell_missed.new.self c.add_missed.ensures.lasts (c.goes.ensures (volume_in g.J.Naming.kind)) c.args.node c.args.ask.now c.requires.asked c.requires.lossy
    c.add_missed.ensures c.tell_missed.ensures right
