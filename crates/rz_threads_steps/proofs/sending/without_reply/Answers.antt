use Rattle.std.proofs.Common.{◌∙◌, ◌+◌, ◌<◌, ◌^◌, true, refl, sym, ap, subst, arith}
use Rattle.rz_events.specs.declared.keys.Actor.{Actor}
use Rattle.rz_events.specs.declared.events.Word.TheVariants.{Own}
use Rattle.rz_chronicle.specs.Keys.{count_at, word_key}
use Rattle.rz_events.specs.declared.events.Event.TheVariants as e
use Rattle.rz_operation_model.specs.Ask.{ask_of}
use Rattle.rz_core.specs.History.{of_actor}
use Rattle.rz_chronicle.specs.Kinds.{volume_in}
use Rattle.rz_chronicle.specs.Rules.{PassView}
use Rattle.rz_show.specs.Shown.{shown_of}
use Rattle.rz_play.specs.Faults.{missed}
use Rattle.rz_threads_steps.specs.Acted.{IsStopped}
use Rattle.rz_threads_steps.specs.Adding.{PassLasts}
use Rattle.rz_threads_steps.proofs.Added.{lost-count}
use Rattle.rz_threads_steps.proofs.ShownEvents.{unshown-of}
use Rattle.rz_threads_steps.proofs.Acts.{still-lasts, still-stopped, on-err, lasts-on, missed-reply}
use Rattle.rz_operation.proofs.NodeAsks.{may-miss}
use Rattle.rz_threads_steps.proofs.Messages.{event-of, missed-by, missed-own, open-after, noted-reply, served-stopped}
use Rattle.rz_threads_steps.proofs.sending.without_reply.Goals as goal

pub returns-then-not-has_room_after-clause-lasts : goal.returns-then-not-has_room_after-clause-lasts
returns-then-not-has_room_after-clause-lasts g c = still-lasts c.args.pass.now

pub returns-then-not-has_room_after-clause-one : goal.returns-then-not-has_room_after-clause-one
returns-then-not-has_room_after-clause-one g c = omega arith

pub returns-then-not-has_room_after-clause-unshown : goal.returns-then-not-has_room_after-clause-unshown
returns-then-not-has_room_after-clause-unshown g c = refl

pub returns-then-not-has_room_after-clause-stopped : goal.returns-then-not-has_room_after-clause-stopped
returns-then-not-has_room_after-clause-stopped g c = λ number. still-stopped g.J.Naming.kind number c.args.pass.now c.args.machine.now

pub returns-in_err-answer-clause-lasts : goal.returns-in_err-answer-clause-lasts
returns-in_err-answer-clause-lasts g c = subst (λ (q : PassView). PassLasts c.args.pass.now q) (sym c.in_err-answer.ensures.still) (still-lasts c.args.pass.now)

pub returns-in_err-answer-clause-one : goal.returns-in_err-answer-clause-one
returns-in_err-answer-clause-one g c = (let same = ap (λ (q : PassView). missed (of_actor c.args.pass.now.actor q.log)) c.in_err-answer.ensures.still in omega (arith, same))

pub returns-in_err-answer-clause-unshown : goal.returns-in_err-answer-clause-unshown
returns-in_err-answer-clause-unshown g c = ap (λ (q : PassView). shown_of (of_actor c.args.pass.now.actor q.log)) c.in_err-answer.ensures.still

pub returns-in_err-answer-clause-stopped : goal.returns-in_err-answer-clause-stopped
returns-in_err-answer-clause-stopped g c =
    on-err c.from_residual.result (λ number. subst (λ (q : PassView). IsStopped g.J.Naming.kind number c.args.pass.now q c.args.machine.now) (sym c.in_err-answer.ensures.still) (still-stopped g.J.Naming.kind number c.args.pass.now c.args.machine.now))

pub returns-then-not-tells-clause-lasts : goal.returns-then-not-tells-clause-lasts
returns-then-not-tells-clause-lasts g c = c.in_ok-answer.ensures.served.adds.lasts

pub returns-then-not-tells-clause-one : goal.returns-then-not-tells-clause-one
returns-then-not-tells-clause-one g c = (let same = c.in_ok-answer.ensures.served.quiet in omega (arith, same))

pub returns-then-not-tells-clause-unshown : goal.returns-then-not-tells-clause-unshown
returns-then-not-tells-clause-unshown g c = c.in_ok-answer.ensures.served.unshown

pub returns-then-not-tells-clause-stopped : goal.returns-then-not-tells-clause-stopped
returns-then-not-tells-clause-stopped g c =
    served-stopped g.J.Naming.kind g.J.Naming.earlier c.args.node c.args.ask.now c.in_ok-answer.answer c.args.pass.now c.serve.new.pass c.args.bins.now c.serve.new.bins c.args.machine.now c.requires.right.0 c.requires.asked
    c.in_ok-answer.ensures.served (c.taken.ensures (volume_in g.J.Naming.kind)) c.requires.right.1 (c.tells.ensures.not c.if-not-tells.true)

pub add_missed-requires-clause-actor : goal.add_missed-requires-clause-actor
add_missed-requires-clause-actor g c = λ is. c.requires.actor (sym c.in_ok-answer.ensures.served.adds.lasts.actor ∙ is)

pub add_missed-requires-clause-going : goal.add_missed-requires-clause-going
add_missed-requires-clause-going g c = λ keeps. open-after g.J.Naming.kind g.J.Naming.earlier c.args.node c.args.ask.now c.in_ok-answer.answer c.args.pass.now c.serve.new.pass
    (event-of c.args.machine.now c.args.pass.now.actor c.args.node c.args.ask.now c.in_ok-answer.answer c.requires.asked (c.tells.ensures.takes c.if-not-tells.false) (c.tells.ensures.some c.if-not-tells.false))
    c.in_ok-answer.ensures.served.adds c.in_ok-answer.ensures.served.for_actor

pub add_missed-requires-clause-room : goal.add_missed-requires-clause-room
add_missed-requires-clause-room g c =
    let served = c.in_ok-answer.ensures.served in
    subst (λ (a : Actor). count_at (word_key (Own a)) c.serve.new.pass.log + 1 < 2 ^ 62) (sym served.adds.lasts.actor)
    (subst (λ n. n + 1 < 2 ^ 62) (sym served.moves) (c.has_room_after.ensures.0 c.if-not-has_room_after.false))

pub tell_missed-requires : goal.tell_missed-requires
tell_missed-requires g c = record { asked = may-miss (ask_of c.args.machine.now.layout c.args.machine.now.work) c.args.node c.args.ask.now c.requires.asked c.requires.lossy }

pub returns-clause-lasts : goal.returns-clause-lasts
returns-clause-lasts g c = lasts-on c.args.pass.now c.serve.new.pass c.add_missed.new.pass c.in_ok-answer.ensures.served.adds.lasts c.add_missed.ensures.lasts

pub returns-clause-one : goal.returns-clause-one
returns-clause-one g c =
    let own = ap missed (missed-own g.J.Naming.kind g.J.Naming.earlier c.args.pass.now c.serve.new.pass c.add_missed.new.pass c.args.node true c.in_ok-answer.ensures.served.adds.lasts c.add_missed.ensures) in
    let one = lost-count c.args.pass.now.actor c.args.node true (of_actor c.args.pass.now.actor c.serve.new.pass.log) in
    let same = c.in_ok-answer.ensures.served.quiet in
    omega (arith, own, one, same)

pub returns-clause-unshown : goal.returns-clause-unshown
returns-clause-unshown g c =
    ap shown_of (missed-own g.J.Naming.kind g.J.Naming.earlier c.args.pass.now c.serve.new.pass c.add_missed.new.pass c.args.node true c.in_ok-answer.ensures.served.adds.lasts c.add_missed.ensures)
    ∙ unshown-of (e.Missed c.args.pass.now.actor c.args.node true) (of_actor c.args.pass.now.actor c.serve.new.pass.log) refl ∙ c.in_ok-answer.ensures.served.unshown

pub returns-clause-noted : goal.returns-clause-noted
returns-clause-noted g c =
    noted-reply g.J.Naming.kind g.J.Naming.earlier c.args.node c.args.ask.now c.in_ok-answer.answer c.args.pass.now c.serve.new.pass
    (event-of c.args.machine.now c.args.pass.now.actor c.args.node c.args.ask.now c.in_ok-answer.answer c.requires.asked (c.tells.ensures.takes c.if-not-tells.false) (c.tells.ensures.some c.if-not-tells.false))
    c.in_ok-answer.ensures.served.adds c.add_missed.new.pass
    (missed-own g.J.Naming.kind g.J.Naming.earlier c.args.pass.now c.serve.new.pass c.add_missed.new.pass c.args.node true c.in_ok-answer.ensures.served.adds.lasts c.add_missed.ensures)

pub returns-clause-acted : goal.returns-clause-acted
returns-clause-acted g c =
    λ number right. missed-reply g.J.Naming.kind g.J.Naming.earlier number c.args.pass.now c.add_missed.new.pass c.args.machine.now c.tell_missed.new.self (lasts-on c.args.pass.now c.serve.new.pass c.add_missed.new.pass c.in_ok-answer.ensures.served.adds.lasts c.add_missed.ensures.lasts) (c.goes.ensures (volume_in g.J.Naming.kind)) c.args.node c.args.ask.now c.in_ok-answer.answer c.serve.new.pass
    c.requires.asked c.requires.lossy (event-of c.args.machine.now c.args.pass.now.actor c.args.node c.args.ask.now c.in_ok-answer.answer c.requires.asked (c.tells.ensures.takes c.if-not-tells.false) (c.tells.ensures.some c.if-not-tells.false)) c.in_ok-answer.ensures.served.adds
    (missed-by g.J.Naming.kind g.J.Naming.earlier c.args.pass.now c.serve.new.pass c.add_missed.new.pass c.args.node true c.in_ok-answer.ensures.served.adds.lasts c.add_missed.ensures) c.tell_missed.ensures right
