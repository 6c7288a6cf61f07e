-- The entry of an accepted call stands behind the others, and makes the export after the call.
use Rattle.std.proofs.Common.{rules, ◌≡◌, false, true, sym, ◌∙◌, subst}
use Rattle.rz_export_model.specs.Export.{Export}
use Rattle.rz_events.specs.Borrowed.{call_of}
use Rattle.rz_journal_text.specs.Spelling.{entry_bytes}
use Rattle.rz_journal.specs.Kept.{IsJournalReady}
use Rattle.rz_journal.proofs.Keepings.{answered_so, answered_not, answered_volume, accepted_of, added_images, ready_after}
use Rattle.rz_journal.proofs.keeping.keep.Goals as goal

pub returns-then-not-accepts-clause-ready : goal.returns-then-not-accepts-clause-ready
returns-then-not-accepts-clause-ready g c =
    let s = c.args.export.now in
    let u = c.answer_ref-reply.new.self in
    let mid = c.make_room.new.entries in
    let shut : c.accepts.result ≡ false = search rules in
    let same = answered_not s u (call_of c.args.call) c.answer_ref-reply.result c.answer_ref-reply.ensures (sym c.accepts.ensures ∙ shut) in
    subst (λ (x : Export). IsJournalReady g.D.Disk.tells (g.D.Disk.text mid.disk) (g.D.Disk.image mid.disk) mid.half mid.used x) (sym same) c.in_ok-make_room.ensures.ready

pub returns-then-not-accepts-clause-volume : goal.returns-then-not-accepts-clause-volume
returns-then-not-accepts-clause-volume g c = answered_volume c.args.export.now c.answer_ref-reply.new.self (call_of c.args.call) c.answer_ref-reply.result c.answer_ref-reply.ensures

pub returns-in-Ok-clause-ready : goal.returns-in-Ok-clause-ready
returns-in-Ok-clause-ready g c =
    let s = c.args.export.now in
    let u = c.answer_ref-reply.new.self in
    let mid = c.make_room.new.entries in
    let new = c.append.new.self in
    let e = c.requires.row.0 in
    let good : c.accepts.result ≡ true = search rules in
    let so = answered_so s u (call_of c.args.call) c.answer_ref-reply.result c.answer_ref-reply.ensures (sym c.accepts.ensures ∙ good) in
    let accepted = accepted_of s (call_of c.args.call) e c.requires.row.1 c.requires.proper so.0 in
    ready_after g.D.Disk.tells (g.D.Disk.text mid.disk) (g.D.Disk.image mid.disk) mid.half mid.used s c.in_ok-make_room.ensures.ready c.args.row.now (call_of c.args.call) e c.requires.row.1 c.requires.row.2 accepted
    (c.stays_whole.ensures s (call_of c.args.call) c.requires.proper c.in_ok-make_room.ensures.ready.whole)
    (g.D.Disk.text new.disk) (g.D.Disk.image new.disk) new.half new.used u so.1 (c.in-Ok.ensures.open (entry_bytes e) c.requires.row.2.1)
    (λ told. c.in-Ok.ensures.done told (entry_bytes e) c.requires.row.2.1)

pub returns-in-Ok-clause-volume : goal.returns-in-Ok-clause-volume
returns-in-Ok-clause-volume g c = answered_volume c.args.export.now c.answer_ref-reply.new.self (call_of c.args.call) c.answer_ref-reply.result c.answer_ref-reply.ensures

pub returns-in-Ok-clause-images : goal.returns-in-Ok-clause-images
returns-in-Ok-clause-images g c told =
    let s = c.args.export.now in
    let mid = c.make_room.new.entries in
    let e = c.requires.row.0 in
    let good : c.accepts.result ≡ true = search rules in
    let so = answered_so s c.answer_ref-reply.new.self (call_of c.args.call) c.answer_ref-reply.result c.answer_ref-reply.ensures (sym c.accepts.ensures ∙ good) in
    added_images g.D.Disk.tells (g.D.Disk.text mid.disk) (g.D.Disk.image mid.disk) mid.half mid.used s c.in_ok-make_room.ensures.ready c.args.row.now (call_of c.args.call) e c.requires.row.1 c.requires.row.2
    (accepted_of s (call_of c.args.call) e c.requires.row.1 c.requires.proper so.0) told
    (g.D.Disk.image c.append.new.self.disk) (c.append.ensures.crash told (entry_bytes e) c.requires.row.2.1)

pub returns-in-Err-clause-volume : goal.returns-in-Err-clause-volume
returns-in-Err-clause-volume g c = answered_volume c.args.export.now c.answer_ref-reply.new.self (call_of c.args.call) c.answer_ref-reply.result c.answer_ref-reply.ensures

pub returns-in-Err-clause-images : goal.returns-in-Err-clause-images
returns-in-Err-clause-images g c told =
    let s = c.args.export.now in
    let mid = c.make_room.new.entries in
    let e = c.requires.row.0 in
    let good : c.accepts.result ≡ true = search rules in
    let so = answered_so s c.answer_ref-reply.new.self (call_of c.args.call) c.answer_ref-reply.result c.answer_ref-reply.ensures (sym c.accepts.ensures ∙ good) in
    added_images g.D.Disk.tells (g.D.Disk.text mid.disk) (g.D.Disk.image mid.disk) mid.half mid.used s c.in_ok-make_room.ensures.ready c.args.row.now (call_of c.args.call) e c.requires.row.1 c.requires.row.2
    (accepted_of s (call_of c.args.call) e c.requires.row.1 c.requires.proper so.0) told
    (g.D.Disk.image c.append.new.self.disk) (c.append.ensures.crash told (entry_bytes e) c.requires.row.2.1)
