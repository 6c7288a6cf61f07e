use Rattle.std.proofs.Common.{sym, ◌∙◌, subst}
use Rattle.rz_events.specs.Volume.{Volume}
use Rattle.rz_journal.specs.Opening.{IsJournalRefused}
use Rattle.rz_metadata.specs.Reopened.{AllTextsOf, MakesExport}
use Rattle.rz_metadata.specs.Stands.{export_in}
use Rattle.rz_nodes.specs.declared.refusal.OpenRefusal.{OpenRefusal}
use Rattle.rz_driver.specs.Continued.{IsJournalCause}
use Rattle.rz_driver.proofs.AgainLemmas.{as-it-came, cause-of}
use Rattle.rz_driver.proofs.continuing.open_journal.Goals as goal

pub returns-in_default-clause-back : goal.returns-in_default-clause-back
returns-in_default-clause-back g c = as-it-came g.D.Disk.meter g.D.Disk.text g.D.Disk.image c.args.disk

pub returns-in-Ok-reopen-clause-volume : goal.returns-in-Ok-reopen-clause-volume
returns-in-Ok-reopen-clause-volume g c = c.in-Ok-reopen.ensures.volume ∙ c.in-Ok.ensures

pub returns-in-Ok-reopen-clause-made : goal.returns-in-Ok-reopen-clause-made
returns-in-Ok-reopen-clause-made g c = λ told. subst (λ (u : Volume). MakesExport u (g.D.Disk.text c.args.disk) (export_in c.in-Ok-reopen.export)) c.in-Ok.ensures (c.in-Ok-reopen.ensures.made told)

pub returns-in-Ok-reopen-clause-stands : goal.returns-in-Ok-reopen-clause-stands
returns-in-Ok-reopen-clause-stands g c = λ told calls all. c.in-Ok-reopen.ensures.stands told calls (subst (λ (u : Volume). AllTextsOf u (g.D.Disk.image c.args.disk) calls) (sym c.in-Ok.ensures) all)

pub returns-in-Err-clause-cause : goal.returns-in-Err-clause-cause
returns-in-Err-clause-cause g c =
    let tells = g.D.Disk.tells in
    let meter = g.D.Disk.meter in
    let text = g.D.Disk.text in
    let v = c.args.volume.now in
    let disk = c.args.disk in
    let refused = subst (λ (u : Volume). IsJournalRefused tells u (text disk) c.in-Err.fault) c.in-Ok.ensures c.in-Err.ensures.refused in
    subst (λ (r : OpenRefusal). IsJournalCause tells meter text v c.args.index disk c.in-Err.disk r) (sym c.refusal_at.ensures) (cause-of tells meter text v disk c.in-Err.disk c.args.index c.in-Err.fault refused c.in-Err.ensures.risen)
