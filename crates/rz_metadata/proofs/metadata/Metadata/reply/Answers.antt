use Rattle.std.proofs.Common.{◌≡◌, ℕ, List, None, IfOk, OnErr, sym, ◌∙◌, ap, subst}
use Rattle.rz_events.specs.declared.export.Call.{Call}
use Rattle.rz_journal.specs.Seen.{calls_after}
use Rattle.rz_events.specs.Borrowed.{call_of}
use Rattle.rz_metadata.specs.declared.metadata.Metadata.{Metadata}
use Rattle.rz_metadata.specs.declared.metadata.Metadata.TheVariants.{InMemory, Journaled}
use Rattle.rz_metadata.specs.Journals.{IsAsBefore}
use Rattle.rz_metadata.specs.Stands.{CountsFaults, CountsOn, IsJournalOpen, IsJournalKept, Stands, export_in, refusal_of}
use Rattle.rz_metadata.proofs.MetadataReplies.{as-before-behind, as-before-in, volume-kept}
use Rattle.rz_metadata.proofs.metadata.Metadata.reply.Goals as goal

pub returns-in-Journaled-clause-kept : goal.returns-in-Journaled-clause-kept
returns-in-Journaled-clause-kept g c =
    subst (λ (m : Metadata g.row.D.Denot). IfOk c.reply.result (λ r. (first : ℕ) (calls : List Call) → Stands g.D.Disk.tells g.D.Disk.meter g.D.Disk.image first m calls
    → IsJournalKept {D = g.row.D.Denot} g.D.Disk.tells g.D.Disk.meter g.D.Disk.image first c.reply.new.self (calls_after r (call_of c.args.ask) calls)))
    (sym c.in-Journaled.is) c.reply.ensures.kept

pub returns-in-InMemory-clause-volume : goal.returns-in-InMemory-clause-volume
returns-in-InMemory-clause-volume g c =
    volume-kept c.in-InMemory.export c.reply_to.new.export (call_of c.args.ask) c.reply_to.result c.reply_to.ensures.after c.reply_to.ensures.err
    ∙ ap (λ (m : Metadata g.row.D.Denot). (export_in m).volume) (sym c.in-InMemory.is)

pub returns-in-Journaled-clause-counted : goal.returns-in-Journaled-clause-counted
returns-in-Journaled-clause-counted g c =
    let meter = g.D.Disk.meter in
    subst (λ (m : Metadata g.row.D.Denot). IsJournalOpen m → (first : ℕ) → CountsFaults meter first m → CountsOn {D = g.row.D.Denot} meter first c.reply.new.self) (sym c.in-Journaled.is) c.reply.ensures.counted

pub returns-in-InMemory-clause-unkept : goal.returns-in-InMemory-clause-unkept
returns-in-InMemory-clause-unkept g c =
    subst (λ (m : Metadata g.row.D.Denot). OnErr c.reply_to.result (refusal_of {D = g.row.D.Denot} (InMemory c.reply_to.new.export) ≡ None → IsAsBefore g.D.Disk.tells g.D.Disk.meter g.D.Disk.image m (InMemory c.reply_to.new.export)))
    (sym c.in-InMemory.is) (as-before-in {D = g.row.D.Denot} g.D.Disk.tells g.D.Disk.meter g.D.Disk.image c.reply_to.result c.in-InMemory.export c.reply_to.new.export c.reply_to.ensures.err)

pub returns-in-Journaled-clause-unkept : goal.returns-in-Journaled-clause-unkept
returns-in-Journaled-clause-unkept g c =
    subst (λ (m : Metadata g.row.D.Denot). OnErr c.reply.result (refusal_of {D = g.row.D.Denot} (Journaled c.reply.new.self) ≡ None → IsAsBefore g.D.Disk.tells g.D.Disk.meter g.D.Disk.image m (Journaled c.reply.new.self)))
    (sym c.in-Journaled.is) (as-before-behind g.D.Disk.tells g.D.Disk.meter g.D.Disk.image c.reply.result c.in-Journaled.journaled c.reply.new.self (call_of c.args.ask) c.reply.ensures.unkept c.reply.ensures.left)
