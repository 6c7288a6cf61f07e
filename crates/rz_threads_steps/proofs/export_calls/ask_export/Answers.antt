use Rattle.std.proofs.Common.{◌++◌, None, refl, sym, ap, subst}
use Rattle.rz_events.specs.declared.keys.Actor.{Actor}
use Rattle.rz_events.specs.Borrowed.{call_of}
use Rattle.rz_export_model.specs.ExportEvents.{export_event}
use Rattle.rz_operation_model.specs.Ask.{AskExport}
use Rattle.rz_operation_model.specs.Steps.{Replied}
use Rattle.rz_core.specs.History.{of_actor}
use Rattle.rz_play.specs.Faults.{missed}
use Rattle.rz_chronicle.specs.Kinds.{volume_in}
use Rattle.rz_show.specs.Shown.{shown_in, shown_of}
use Rattle.rz_threads_steps.proofs.Added.{export-same}
use Rattle.rz_threads_steps.proofs.Acts.{still-lasts, still-stopped, stopped-by, not-taken, on-err, shows-on, export-step, exported}
use Rattle.rz_threads_steps.proofs.export_calls.ask_export.Goals as goal

pub returns-in_err-make_room-clause-lasts : goal.returns-in_err-make_room-clause-lasts
returns-in_err-make_room-clause-lasts g c = still-lasts c.args.pass.now

pub returns-in_err-make_room-clause-quiet : goal.returns-in_err-make_room-clause-quiet
returns-in_err-make_room-clause-quiet g c = refl

pub returns-in_err-make_room-clause-shows : goal.returns-in_err-make_room-clause-shows
returns-in_err-make_room-clause-shows g c = c.make_room.ensures.kept _ c.requires.shows

pub returns-in_err-make_room-clause-stopped : goal.returns-in_err-make_room-clause-stopped
returns-in_err-make_room-clause-stopped g c = on-err c.from_residual.result (λ number. still-stopped g.J.Naming.kind number c.args.pass.now c.args.machine.now)

pub returns-in_err-call-clause-lasts : goal.returns-in_err-call-clause-lasts
returns-in_err-call-clause-lasts g c = still-lasts c.args.pass.now

pub returns-in_err-call-clause-quiet : goal.returns-in_err-call-clause-quiet
returns-in_err-call-clause-quiet g c = refl

pub returns-in_err-call-clause-shows : goal.returns-in_err-call-clause-shows
returns-in_err-call-clause-shows g c = c.make_room.ensures.kept _ c.requires.shows

pub returns-in_err-call-clause-stopped : goal.returns-in_err-call-clause-stopped
returns-in_err-call-clause-stopped g c = on-err c.from_residual-in_err-call.result (λ number. still-stopped g.J.Naming.kind number c.args.pass.now c.args.machine.now)

pub returns-in_err-opening-clause-lasts : goal.returns-in_err-opening-clause-lasts
returns-in_err-opening-clause-lasts g c = still-lasts c.args.pass.now

pub returns-in_err-opening-clause-quiet : goal.returns-in_err-opening-clause-quiet
returns-in_err-opening-clause-quiet g c = refl

pub returns-in_err-opening-clause-shows : goal.returns-in_err-opening-clause-shows
returns-in_err-opening-clause-shows g c = c.make_room.ensures.kept _ c.requires.shows

pub returns-in_err-opening-clause-stopped : goal.returns-in_err-opening-clause-stopped
returns-in_err-opening-clause-stopped g c = on-err c.from_residual-in_err-opening.result (λ number. still-stopped g.J.Naming.kind number c.args.pass.now c.args.machine.now)

pub call_export-requires-clause-may : goal.call_export-requires-clause-may
call_export-requires-clause-may g c = λ keeps. c.asks.ensures (volume_in g.J.Naming.kind) g.J.Naming.earlier c.args.pass.now.log c.args.pass.now.actor c.requires.right.0 c.args.machine.now (AskExport (call_of c.in_ok-call.call)) (c.requires.right.1 keeps) c.in_ok-call.ensures

pub returns-in_err-reply-clause-lasts : goal.returns-in_err-reply-clause-lasts
returns-in_err-reply-clause-lasts g c = c.in_err-reply.ensures.none.lasts

pub returns-in_err-reply-clause-quiet : goal.returns-in_err-reply-clause-quiet
returns-in_err-reply-clause-quiet g c = ap missed c.in_err-reply.ensures.none.own

pub returns-in_err-reply-clause-shows : goal.returns-in_err-reply-clause-shows
returns-in_err-reply-clause-shows g c =
    subst (g.S.Shows.has c.make_room.new.self) (sym (ap shown_of c.in_err-reply.ensures.none.own)) (c.make_room.ensures.kept _ c.requires.shows)

pub returns-in_err-reply-clause-stopped : goal.returns-in_err-reply-clause-stopped
returns-in_err-reply-clause-stopped g c =
    on-err c.from_residual-in_err-reply.result (λ number. stopped-by g.J.Naming.kind g.J.Naming.earlier number c.args.pass.now c.call_export.new.pass c.args.machine.now None c.in_err-reply.ensures.none (λ x is. absurd (cc)) (λ keeps. refl))

pub returns-then-not-takes-clause-lasts : goal.returns-then-not-takes-clause-lasts
returns-then-not-takes-clause-lasts g c = c.in_ok-reply.ensures.adds.lasts

pub returns-then-not-takes-clause-quiet : goal.returns-then-not-takes-clause-quiet
returns-then-not-takes-clause-quiet g c =
    export-same g.J.Naming.kind g.J.Naming.earlier c.args.pass.now c.call_export.new.pass (call_of c.in_ok-call.call) c.in_ok-reply.reply c.in_ok-reply.ensures.adds

pub returns-then-not-takes-clause-shows : goal.returns-then-not-takes-clause-shows
returns-then-not-takes-clause-shows g c =
    let p = c.args.pass.now in
    let event = export_event p.actor (call_of c.in_ok-call.call) c.in_ok-reply.reply in
    shows-on (g.S.Shows.has c.show_opening.new.shown) g.J.Naming.kind g.J.Naming.earlier p c.call_export.new.pass event
    (subst (λ (a : Actor). g.S.Shows.has c.show_opening.new.shown (shown_of (of_actor p.actor p.log) ++ shown_in (export_event a (call_of c.in_ok-call.call) c.in_ok-reply.reply))) c.actor-by.ensures.value
    (c.show_opening.ensures _ (c.make_room.ensures.kept _ c.requires.shows))) c.in_ok-reply.ensures.adds

pub returns-then-not-takes-clause-stopped : goal.returns-then-not-takes-clause-stopped
returns-then-not-takes-clause-stopped g c =
    let p = c.args.pass.now in
    λ number. stopped-by g.J.Naming.kind g.J.Naming.earlier number p c.call_export.new.pass c.args.machine.now (export_event p.actor (call_of c.in_ok-call.call) c.in_ok-reply.reply) c.in_ok-reply.ensures.adds
    (λ x is. (Replied c.in_ok-reply.reply, export-step p.actor number c.args.machine.now (call_of c.in_ok-call.call) c.in_ok-reply.reply x c.in_ok-call.ensures is))
    (not-taken g.J.Naming.kind g.J.Naming.earlier p c.requires.right.0 c.args.machine.now (call_of c.in_ok-call.call) c.in_ok-reply.reply c.in_ok-call.ensures c.requires.right.1 c.in_ok-reply.ensures.answers (λ is. (let yes = c.takes_reply-takes.ensures.1 is in let no = c.if-not-takes.true in absurd cc)))

pub returns-clause-lasts : goal.returns-clause-lasts
returns-clause-lasts g c = c.in_ok-reply.ensures.adds.lasts

pub returns-clause-quiet : goal.returns-clause-quiet
returns-clause-quiet g c =
    export-same g.J.Naming.kind g.J.Naming.earlier c.args.pass.now c.call_export.new.pass (call_of c.in_ok-call.call) c.in_ok-reply.reply c.in_ok-reply.ensures.adds

pub returns-clause-shows : goal.returns-clause-shows
returns-clause-shows g c =
    let p = c.args.pass.now in
    let event = export_event p.actor (call_of c.in_ok-call.call) c.in_ok-reply.reply in
    shows-on (g.S.Shows.has c.show_opening.new.shown) g.J.Naming.kind g.J.Naming.earlier p c.call_export.new.pass event
    (subst (λ (a : Actor). g.S.Shows.has c.show_opening.new.shown (shown_of (of_actor p.actor p.log) ++ shown_in (export_event a (call_of c.in_ok-call.call) c.in_ok-reply.reply))) c.actor-by.ensures.value
    (c.show_opening.ensures _ (c.make_room.ensures.kept _ c.requires.shows))) c.in_ok-reply.ensures.adds

pub returns-clause-acted : goal.returns-clause-acted
returns-clause-acted g c =
    λ number right.
    exported g.J.Naming.kind g.J.Naming.earlier number c.args.pass.now c.call_export.new.pass c.args.machine.now c.tell_reply.new.self c.in_ok-reply.ensures.adds.lasts
    (c.goes.ensures (volume_in g.J.Naming.kind)) (call_of c.in_ok-call.call) c.in_ok-reply.reply c.in_ok-call.ensures (c.takes_reply-takes.ensures.0 c.if-not-takes.false) c.in_ok-reply.ensures.adds c.call_export.ensures.bytes c.tell_reply.ensures right
