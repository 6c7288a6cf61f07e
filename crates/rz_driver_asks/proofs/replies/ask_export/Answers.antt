use Rattle.std.proofs.Common.{subst}
use Rattle.rz_events.specs.Borrowed.{call_of}
use Rattle.rz_operation.specs.Answers.{IsReply}
use Rattle.rz_operation_model.specs.Ask.{Ask, ask_of}
use Rattle.rz_driver_asks.proofs.Keeping.{at-err, changes-asked, keeps-asked, leaves-refused, leaves-unasked, leaves-unnoted, leaves-untaken, on-err}
use Rattle.rz_driver_asks.proofs.replies.ask_export.Goals as goal

pub returns-in-Ok-note_reply-clause-kept : goal.returns-in-Ok-note_reply-clause-kept
returns-in-Ok-note_reply-clause-kept g c =
    keeps-asked g.D.Disk.tells g.D.Disk.meter g.D.Disk.image c.args.export.now c.reply.new.self c.args.machine.now (call_of c.in-Export.ask) c.in-Ok.reply
    c.in-Export.ensures.value c.in-Ok.ensures.reply c.look_into.ensures c.in-Ok.ensures.open c.in-Ok.ensures.kept

-- where the export was asked nothing

pub returns-in_default-clause-left : goal.returns-in_default-clause-left
returns-in_default-clause-left g c = leaves-unasked g.D.Disk.tells g.D.Disk.meter g.D.Disk.image c.args.export.now (ask_of c.args.machine.now.layout c.args.machine.now.work)

pub returns-in_err-words-clause-left : goal.returns-in_err-words-clause-left
returns-in_err-words-clause-left g c =
    on-err c.from_residual.result (leaves-unasked g.D.Disk.tells g.D.Disk.meter g.D.Disk.image c.args.export.now (ask_of c.args.machine.now.layout c.args.machine.now.work))

-- where it gave no reply, or one that was not noted

pub returns-in_default-reply-clause-left : goal.returns-in_default-reply-clause-left
returns-in_default-reply-clause-left g c = λ is_open.
    leaves-refused g.D.Disk.tells g.D.Disk.meter g.D.Disk.image c.args.export.now c.reply.new.self (ask_of c.args.machine.now.layout c.args.machine.now.work) (call_of c.in-Export.ask)
    (changes-asked c.args.machine.now (call_of c.in-Export.ask) c.in-Export.ensures.value) (at-err c.reply.result c.in_default-reply.not-Ok c.reply.ensures.refused is_open)
    (at-err c.reply.result c.in_default-reply.not-Ok c.reply.ensures.left)

pub returns-then-not-takes_reply-clause-left : goal.returns-then-not-takes_reply-clause-left
returns-then-not-takes_reply-clause-left g c = λ is_open.
    leaves-untaken g.D.Disk.tells g.D.Disk.meter g.D.Disk.image c.args.export.now c.reply.new.self (ask_of c.args.machine.now.layout c.args.machine.now.work) (call_of c.in-Export.ask) c.in-Ok.reply
    is_open c.in-Ok.ensures.open c.reply.ensures.journal c.in-Ok.ensures.kept c.in-Ok.ensures.reply c.args.machine.now
    (λ fits. (let yes = c.takes_reply.ensures.1 (subst (λ (a : Ask). IsReply c.args.machine.now.layout a c.in-Ok.reply) c.in-Export.ensures.value fits) in let no = c.if-not-takes_reply.true in cc))

pub returns-in-Err-clause-left : goal.returns-in-Err-clause-left
returns-in-Err-clause-left g c = λ is_open.
    leaves-unnoted g.D.Disk.tells g.D.Disk.meter g.D.Disk.image c.args.export.now c.reply.new.self (ask_of c.args.machine.now.layout c.args.machine.now.work) (call_of c.in-Export.ask) c.in-Ok.reply
    is_open c.in-Ok.ensures.open c.reply.ensures.journal c.in-Ok.ensures.kept c.in-Ok.ensures.reply c.args.by c.args.machine.now c.in-Err.ensures.unnoted
