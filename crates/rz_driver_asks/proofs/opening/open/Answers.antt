use Rattle.std.proofs.Common.{sym, ◌∙◌}
use Rattle.rz_events.specs.declared.export.Call.TheVariants as call
use Rattle.rz_operation.specs.Meaning.{path_in}
use Rattle.rz_metadata.specs.Stands.{export_in}
use Rattle.rz_driver_asks.specs.Locking.{lock_of}
use Rattle.rz_operation_model.specs.Ask.{ask_of}
use Rattle.rz_driver_asks.proofs.Keeping.{at-err, keeps-opened, leaves-looked, leaves-refused, leaves-unasked, never-refused, on-err, open-looks}
use Rattle.rz_driver_asks.proofs.OpenLemmas.{none-lock, opened}
use Rattle.rz_driver_asks.proofs.opening.open.Goals as goal

pub returns-in-Ok-note_names-clause-ok : goal.returns-in-Ok-note_names-clause-ok
returns-in-Ok-note_names-clause-ok g c =
    let tree_call = c.in-Lock.call.now in (
      path_in tree_call,
      c.in-Lock.exclusive,
      c.in-Lock.from,
      c.in-Lock.count,
      sym c.in-Lock.ensures.value,
      (
        c.in-Client.owner,
        opened c.args.by c.in-Client.owner tree_call c.in_ok-copy.copy (path_in tree_call) c.in-Ok.reply c.in-Lock.exclusive c.in-Lock.from c.in-Lock.count
            (lock_of c.wanted-wanted.result) c.take-granted.result c.args.machine.now c.tell_locked.new.self (export_in c.args.export.now) (export_in c.reply.new.self) c.args.locks.now c.take-granted.new.locks
            (lock_of c.args.held.now) (lock_of c.take-granted.new.held) c.args.log.now.events c.note_names.new.log.events
            c.in-Client.is c.in_ok-copy.ensures (c.opens.ensures c.if-not-opens.false) c.in-Ok.ensures.reply c.in-Ok-note_names.ensures.ok c.in-Ok.ensures.after
            (none-lock c.args.held.now (sym c.is_some.ensures ∙ c.if-is_some.false)) c.wanted-wanted.ensures c.take-granted.ensures.grants c.take-granted.ensures.held
            c.tell_locked.ensures,
      ),
    )

pub returns-in-Ok-note_names-clause-kept : goal.returns-in-Ok-note_names-clause-kept
returns-in-Ok-note_names-clause-kept g c =
    let opened_by = c.in-Lock.call.now in
    keeps-opened g.D.Disk.tells g.D.Disk.meter g.D.Disk.image c.args.export.now c.reply.new.self c.args.machine.now opened_by (path_in opened_by) c.in-Lock.exclusive c.in-Lock.from c.in-Lock.count c.in-Ok.reply
    c.in-Lock.ensures.value (c.opens.ensures c.if-not-opens.false) c.in-Ok.ensures.reply c.in-Ok.ensures.open c.in-Ok.ensures.kept

-- where the export was asked nothing

pub returns-in_default-clause-left : goal.returns-in_default-clause-left
returns-in_default-clause-left g c = leaves-unasked g.D.Disk.tells g.D.Disk.meter g.D.Disk.image c.args.export.now (ask_of c.args.machine.now.layout c.args.machine.now.work)

pub returns-in_default-by-clause-left : goal.returns-in_default-by-clause-left
returns-in_default-by-clause-left g c = leaves-unasked g.D.Disk.tells g.D.Disk.meter g.D.Disk.image c.args.export.now (ask_of c.args.machine.now.layout c.args.machine.now.work)

pub returns-then-is_some-clause-left : goal.returns-then-is_some-clause-left
returns-then-is_some-clause-left g c = leaves-unasked g.D.Disk.tells g.D.Disk.meter g.D.Disk.image c.args.export.now (ask_of c.args.machine.now.layout c.args.machine.now.work)

pub returns-then-not-opens-clause-left : goal.returns-then-not-opens-clause-left
returns-then-not-opens-clause-left g c = leaves-unasked g.D.Disk.tells g.D.Disk.meter g.D.Disk.image c.args.export.now (ask_of c.args.machine.now.layout c.args.machine.now.work)

pub returns-in_err-copy-clause-left : goal.returns-in_err-copy-clause-left
returns-in_err-copy-clause-left g c =
    on-err c.from_residual.result (leaves-unasked g.D.Disk.tells g.D.Disk.meter g.D.Disk.image c.args.export.now (ask_of c.args.machine.now.layout c.args.machine.now.work))

-- where it gave no reply, or one that was not noted: an open changes nothing, and a journal does not refuse it

pub returns-in_default-reply-clause-left : goal.returns-in_default-reply-clause-left
returns-in_default-reply-clause-left g c = λ is_open.
    leaves-refused g.D.Disk.tells g.D.Disk.meter g.D.Disk.image c.args.export.now c.reply.new.self (ask_of c.args.machine.now.layout c.args.machine.now.work) (call.Tree c.in-Lock.call.now)
    (never-refused c.in-Lock.call.now (path_in c.in-Lock.call.now) (ask_of c.args.machine.now.layout c.args.machine.now.work) (c.opens.ensures c.if-not-opens.false))
    (at-err c.reply.result c.in_default-reply.not-Ok c.reply.ensures.refused is_open)
    (at-err c.reply.result c.in_default-reply.not-Ok c.reply.ensures.left)

pub returns-then-not-takes_locked-clause-left : goal.returns-then-not-takes_locked-clause-left
returns-then-not-takes_locked-clause-left g c = λ is_open.
    leaves-looked g.D.Disk.tells g.D.Disk.meter g.D.Disk.image c.args.export.now c.reply.new.self (ask_of c.args.machine.now.layout c.args.machine.now.work) (call.Tree c.in-Lock.call.now) c.in-Ok.reply
    is_open c.in-Ok.ensures.open c.reply.ensures.journal c.in-Ok.ensures.kept (open-looks c.in-Lock.call.now (path_in c.in-Lock.call.now) (c.opens.ensures c.if-not-opens.false))

pub returns-in-Err-clause-left : goal.returns-in-Err-clause-left
returns-in-Err-clause-left g c = λ is_open.
    leaves-looked g.D.Disk.tells g.D.Disk.meter g.D.Disk.image c.args.export.now c.reply.new.self (ask_of c.args.machine.now.layout c.args.machine.now.work) (call.Tree c.in-Lock.call.now) c.in-Ok.reply
    is_open c.in-Ok.ensures.open c.reply.ensures.journal c.in-Ok.ensures.kept (open-looks c.in-Lock.call.now (path_in c.in-Lock.call.now) (c.opens.ensures c.if-not-opens.false))
