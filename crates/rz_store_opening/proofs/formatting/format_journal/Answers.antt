use Rattle.std.proofs.Common.{◌≡◌, length, sym, ◌∙◌, subst, arith, vec_len}
use Rattle.rz_disk.specs.Meter.{faults}
use Rattle.rz_nodes.specs.Formatted.{disks_of}
use Rattle.rz_store_opening.specs.NewStores.{IsCause}
use Rattle.rz_store_opening.specs.declared.formatting.FormatRefusal.{FormatRefusal}
use Rattle.rz_store_opening.proofs.EmptyDisks.{journal-cause, lasts-on, no-calls}
use Rattle.rz_store_opening.proofs.InOrder.{none-out}
use Rattle.rz_store_opening.proofs.formatting.format_journal.Goals as goal

pub returns-in-Ok-clause-texts : goal.returns-in-Ok-clause-texts
returns-in-Ok-clause-texts g c =
    no-calls g.D.Disk.tells g.D.Disk.meter g.D.Disk.image (faults (g.D.Disk.meter c.args.journal)) c.args.volume c.in-Ok.metadata c.journal_of-journal.result c.in-Ok.ensures.export c.in-Ok.ensures.stands c.journal_of-journal.ensures

pub returns-in-Ok-clause-lasts : goal.returns-in-Ok-clause-lasts
returns-in-Ok-clause-lasts g c = lasts-on g.D.Disk.meter (faults (g.D.Disk.meter c.args.journal)) c.in-Ok.metadata c.journal_of-journal.result c.in-Ok.ensures.counted c.journal_of-journal.ensures

pub returns-in-Err-clause-disks : goal.returns-in-Err-clause-disks
returns-in-Err-clause-disks g c =
    let home : vec_len c.args.home ≡ length c.args.home.items = c.args.home.ok.0 in
    let none = c.requires.home.0 in
    c.hand_back.ensures ∙ none-out (disks_of c.args.servers.items) c.args.home.items (omega (arith, none, home))

pub returns-in-Err-clause-cause : goal.returns-in-Err-clause-cause
returns-in-Err-clause-cause g c = λ disks.
    subst (λ (r : FormatRefusal). IsCause g.D.Disk.meter disks c.args.journal c.hand_back.result.items c.in-Err.journal r) (sym c.journal_refusal.ensures)
    (journal-cause g.D.Disk.meter disks c.args.journal c.hand_back.result.items c.in-Err.journal c.in-Err.fault c.in-Err.ensures.risen)
