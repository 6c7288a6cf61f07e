use Rattle.std.proofs.Common.{◌≡◌, List, IsTrue, sym, subst}
use Rattle.rz_disk.specs.Meter.{faults}
use Rattle.rz_events.specs.Volume.{Volume}
use Rattle.rz_events.specs.declared.export.Call.{Call}
use Rattle.rz_journal.specs.JournalText.{IsTextOf}
use Rattle.rz_journal.specs.Kept.{IsExportAfter}
use Rattle.rz_journal.specs.Opening.{IsJournalRefused}
use Rattle.rz_metadata.specs.Reopened.{AllTextsOf}
use Rattle.rz_metadata.specs.Stands.{Stands, export_in}
use Rattle.rz_metadata.specs.declared.metadata.Metadata.{Metadata}
use Rattle.rz_store_opening.specs.declared.disks.OpenedDisks.{OpenedDisks}
use Rattle.rz_store_opening.proofs.Outcomes.{ok-so}
use Rattle.rz_store_opening.proofs.disks.open_disks.Goals as goal

pub returns-in-Ok-reopen-clause-calls : goal.returns-in-Ok-reopen-clause-calls
returns-in-Ok-reopen-clause-calls g c =
    ok-so c.open_nodes.result (λ (o : OpenedDisks g.row.D.Denot). o.parts.metadata ≡ c.in-Ok-reopen.metadata)
    (λ (o : OpenedDisks g.row.D.Denot). IsTrue g.D.Disk.tells → (calls : List Call) → IsTextOf c.args.volume.now (g.D.Disk.text c.args.journal) calls → IsExportAfter (export_in o.parts.metadata) calls)
    (λ o same told calls is. subst (λ (m : Metadata g.row.D.Denot). IsExportAfter (export_in m) calls) (sym same)
    (c.in-Ok-reopen.ensures.calls told calls (subst (λ (v : Volume). IsTextOf v (g.D.Disk.text c.args.journal) calls) (sym c.in-Ok.ensures) is)))
    c.open_nodes.ensures.metadata

pub returns-in-Ok-reopen-clause-stands : goal.returns-in-Ok-reopen-clause-stands
returns-in-Ok-reopen-clause-stands g c =
    ok-so c.open_nodes.result (λ (o : OpenedDisks g.row.D.Denot). o.parts.metadata ≡ c.in-Ok-reopen.metadata)
    (λ (o : OpenedDisks g.row.D.Denot). IsTrue g.D.Disk.tells → (calls : List Call) → AllTextsOf c.args.volume.now (g.D.Disk.image c.args.journal) calls → Stands g.D.Disk.tells g.D.Disk.meter g.D.Disk.image (faults (g.D.Disk.meter c.args.journal)) o.parts.metadata calls)
    (λ o same told calls are. subst (λ (m : Metadata g.row.D.Denot). Stands g.D.Disk.tells g.D.Disk.meter g.D.Disk.image (faults (g.D.Disk.meter c.args.journal)) m calls) (sym same)
    (c.in-Ok-reopen.ensures.stands told calls (subst (λ (v : Volume). AllTextsOf v (g.D.Disk.image c.args.journal) calls) (sym c.in-Ok.ensures) are)))
    c.open_nodes.ensures.metadata

pub returns-in-Err-clause-unopened : goal.returns-in-Err-clause-unopened
returns-in-Err-clause-unopened g c = record {
  same = c.in-Err.ensures.back;
  refused = subst (λ (v : Volume). IsJournalRefused g.D.Disk.tells v (g.D.Disk.text c.args.journal) c.in-Err.fault) c.in-Ok.ensures c.in-Err.ensures.refused;
  exact = λ told calls is. c.in-Err.ensures.exact told calls (subst (λ (v : Volume). IsTextOf v (g.D.Disk.text c.args.journal) calls) (sym c.in-Ok.ensures) is);
  risen = c.in-Err.ensures.risen;
}
