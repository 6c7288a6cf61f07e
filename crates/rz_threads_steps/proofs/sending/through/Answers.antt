use Rattle.std.proofs.Common.{◌≡◌, ◌∙◌, ◌≤◌, length, refl, sym, ap, subst, arith}
use Rattle.mj_angles.specs.declared.layout.Layout.{Layout}
use Rattle.mj_angles.specs.Layout.{max_bins_of}
use Rattle.rz_events.specs.Volume.{Volume}
use Rattle.rz_operation.specs.Answers.{IsPlaced}
use Rattle.rz_operation_model.specs.Ask.{ask_of}
use Rattle.rz_core.specs.History.{of_actor}
use Rattle.rz_chronicle.specs.Kinds.{volume_in}
use Rattle.rz_chronicle.specs.Rules.{PassView}
use Rattle.rz_show.specs.Shown.{shown_of}
use Rattle.rz_play.specs.Faults.{missed}
use Rattle.rz_threads_steps.specs.Acted.{IsStopped}
use Rattle.rz_threads_steps.specs.Adding.{PassLasts}
use Rattle.rz_threads_steps.proofs.Acts.{still-lasts, still-stopped, on-err, heard-of}
use Rattle.rz_operation.proofs.NodeAsks.{come-with}
use Rattle.rz_threads_steps.proofs.Messages.{event-of, noted-through, served-stopped}
use Rattle.rz_threads_steps.proofs.sending.through.Goals as goal

pub returns-then-not-is_placed-clause-lasts : goal.returns-then-not-is_placed-clause-lasts
returns-then-not-is_placed-clause-lasts g c = still-lasts c.args.pass.now

pub returns-then-not-is_placed-clause-quiet : goal.returns-then-not-is_placed-clause-quiet
returns-then-not-is_placed-clause-quiet g c = refl

pub returns-then-not-is_placed-clause-unshown : goal.returns-then-not-is_placed-clause-unshown
returns-then-not-is_placed-clause-unshown g c = refl

pub returns-then-not-is_placed-clause-stopped : goal.returns-then-not-is_placed-clause-stopped
returns-then-not-is_placed-clause-stopped g c = λ number. still-stopped g.J.Naming.kind number c.args.pass.now c.args.machine.now

pub returns-in_err-answer-clause-lasts : goal.returns-in_err-answer-clause-lasts
returns-in_err-answer-clause-lasts g c = subst (λ (q : PassView). PassLasts c.args.pass.now q) (sym c.in_err-answer.ensures.still) (still-lasts c.args.pass.now)

pub returns-in_err-answer-clause-quiet : goal.returns-in_err-answer-clause-quiet
returns-in_err-answer-clause-quiet g c = ap (λ (q : PassView). missed (of_actor c.args.pass.now.actor q.log)) c.in_err-answer.ensures.still

pub returns-in_err-answer-clause-unshown : goal.returns-in_err-answer-clause-unshown
returns-in_err-answer-clause-unshown g c = ap (λ (q : PassView). shown_of (of_actor c.args.pass.now.actor q.log)) c.in_err-answer.ensures.still

pub returns-in_err-answer-clause-stopped : goal.returns-in_err-answer-clause-stopped
returns-in_err-answer-clause-stopped g c =
    on-err c.from_residual.result (λ number. subst (λ (q : PassView). IsStopped g.J.Naming.kind number c.args.pass.now q c.args.machine.now) (sym c.in_err-answer.ensures.still) (still-stopped g.J.Naming.kind number c.args.pass.now c.args.machine.now))

pub returns-then-not-tells-clause-lasts : goal.returns-then-not-tells-clause-lasts
returns-then-not-tells-clause-lasts g c = c.in_ok-answer.ensures.served.adds.lasts

pub returns-then-not-tells-clause-quiet : goal.returns-then-not-tells-clause-quiet
returns-then-not-tells-clause-quiet g c = c.in_ok-answer.ensures.served.quiet

pub returns-then-not-tells-clause-unshown : goal.returns-then-not-tells-clause-unshown
returns-then-not-tells-clause-unshown g c = c.in_ok-answer.ensures.served.unshown

pub returns-then-not-tells-clause-stopped : goal.returns-then-not-tells-clause-stopped
returns-then-not-tells-clause-stopped g c =
    served-stopped g.J.Naming.kind g.J.Naming.earlier c.args.node c.args.ask.now c.in_ok-answer.answer c.args.pass.now c.serve.new.pass c.args.bins.now c.serve.new.bins c.args.machine.now c.requires.right.0 c.requires.asked
    c.in_ok-answer.ensures.served (c.taken.ensures (volume_in g.J.Naming.kind)) c.requires.right.1 (c.tells.ensures.not c.if-not-tells.true)

pub returns-clause-lasts : goal.returns-clause-lasts
returns-clause-lasts g c = c.in_ok-answer.ensures.served.adds.lasts

pub returns-clause-quiet : goal.returns-clause-quiet
returns-clause-quiet g c = c.in_ok-answer.ensures.served.quiet

pub returns-clause-unshown : goal.returns-clause-unshown
returns-clause-unshown g c = c.in_ok-answer.ensures.served.unshown

pub returns-clause-noted : goal.returns-clause-noted
returns-clause-noted g c =
    noted-through g.J.Naming.kind g.J.Naming.earlier c.args.node c.args.ask.now c.in_ok-answer.answer c.args.pass.now c.serve.new.pass
    (event-of c.args.machine.now c.args.pass.now.actor c.args.node c.args.ask.now c.in_ok-answer.answer c.requires.asked (c.tells.ensures.takes c.if-not-tells.false) (c.tells.ensures.some c.if-not-tells.false))
    c.in_ok-answer.ensures.served.adds

pub returns-clause-acted : goal.returns-clause-acted
returns-clause-acted g c =
    λ number right. heard-of g.J.Naming.kind g.J.Naming.earlier number c.args.pass.now c.serve.new.pass c.args.machine.now c.tell_answer.new.self c.in_ok-answer.ensures.served.adds.lasts (c.hears.ensures (volume_in g.J.Naming.kind)) c.args.node c.args.ask.now c.in_ok-answer.answer c.args.bins.now c.serve.new.bins c.requires.asked
    (event-of c.args.machine.now c.args.pass.now.actor c.args.node c.args.ask.now c.in_ok-answer.answer c.requires.asked (c.tells.ensures.takes c.if-not-tells.false) (c.tells.ensures.some c.if-not-tells.false))
    c.in_ok-answer.ensures.served.adds c.in_ok-answer.ensures.served.read c.tell_answer.ensures right

pub tell_answer-requires-clause-asked : goal.tell_answer-requires-clause-asked
tell_answer-requires-clause-asked g c = c.tells.ensures.takes c.if-not-tells.false

pub tell_answer-requires-clause-bins : goal.tell_answer-requires-clause-bins
tell_answer-requires-clause-bins g c =
    let m = c.args.machine.now in
    let same : c.layout-layout.result ≡ m.layout = c.layout-layout.ensures ∙ ap (λ (v : Volume). v.layout) c.requires.volume ∙ sym c.requires.layout in
    come-with m.layout (ask_of m.layout m.work) c.args.node c.args.ask.now c.in_ok-answer.answer c.serve.new.bins c.requires.asked
    (subst (λ (y : Layout). IsPlaced y c.args.ask.now) same (c.is_placed.ensures c.if-not-is_placed.false))
    (let room = subst (λ (y : Layout). max_bins_of y ≤ length c.args.bins.now) (sym c.requires.layout) c.requires.room in let kept = c.serve.auto.bins in omega (arith, room, kept))
