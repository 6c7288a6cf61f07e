use Rattle.std.proofs.Common.{◌≡◌, List, Option, Some, IsTrue, sym, ◌∙◌, ap, subst}
use Rattle.std.specs.Global.{Vec}
use Rattle.std.specs.List.{AllZip}
use Rattle.rz_disk.specs.Meter.{faults}
use Rattle.rz_chronicle.specs.Kinds.{kind_after}
use Rattle.rz_chronicle.specs.declared.start.NewBook.{NewBook}
use Rattle.rz_journal.specs.declared.rebuilding.JournalFault.TheVariants as fault
use Rattle.rz_metadata.specs.Stands.{disk_of}
use Rattle.rz_store_opening.specs.Opening.{GoesOnAfter, IsOpenedStore, IsPlaceBack, IsUnopened, disks_in, reopened}
use Rattle.rz_store_opening.specs.declared.disks.OpenedDisks.{OpenedDisks}
use Rattle.rz_store_opening.specs.declared.disks.Unopened.{Unopened}
use Rattle.rz_store_opening.proofs.Joinings.{count-missing}
use Rattle.rz_store_opening.proofs.OpenedStores.{all-same, are-handed-back, goes-on-after, wanted}
use Rattle.rz_store_opening.proofs.Outcomes.{err-both, err-so, ok-both, ok-so}
use Rattle.rz_store_opening.proofs.past.open_after.Goals as goal

pub with_book-requires-clause-legal : goal.with_book-requires-clause-legal
with_book-requires-clause-legal g c = λ known.
    (goes-on-after g.D.Disk.tells g.D.Disk.meter g.D.Disk.text g.D.Disk.image c.reopening.ensures c.args.volume.now g.P.Past.log g.P.Past.new c.args.disks.items c.args.journal c.in-Ok.opened
    c.in-Ok.ensures.opened (c.requires.left known) (g.met.D.Disk.text_is_image c.args.journal) c.in-Ok.ensures.calls c.in-Ok.ensures.stands).nodes.back.back.restart.legal

pub with_book-requires-clause-count : goal.with_book-requires-clause-count
with_book-requires-clause-count g c = count-missing g.D.Disk.tells g.D.Disk.meter g.D.Disk.text g.D.Disk.image c.args.volume.now c.args.disks.items c.in-Ok.opened c.in-Ok.ensures.opened.nodes

pub returns-in-Ok-clause-opened : goal.returns-in-Ok-clause-opened
returns-in-Ok-clause-opened g c =
    ok-so c.with_book.result (λ (r : OpenedDisks g.row.D.Denot × NewBook). r.0 ≡ c.in-Ok.opened) (λ (r : OpenedDisks g.row.D.Denot × NewBook). IsOpenedStore g.D.Disk.tells g.D.Disk.meter g.D.Disk.text g.D.Disk.image c.args.volume.now c.args.disks.items c.args.journal r.0)
    (λ r same. subst (λ (o : OpenedDisks g.row.D.Denot). IsOpenedStore g.D.Disk.tells g.D.Disk.meter g.D.Disk.text g.D.Disk.image c.args.volume.now c.args.disks.items c.args.journal o) (sym same) c.in-Ok.ensures.opened) c.with_book.ensures.opened

pub returns-in-Ok-clause-kind : goal.returns-in-Ok-clause-kind
returns-in-Ok-clause-kind g c =
    ok-both c.with_book.result (λ (r : OpenedDisks g.row.D.Denot × NewBook). r.0 ≡ c.in-Ok.opened)
    (λ (r : OpenedDisks g.row.D.Denot × NewBook). r.1.tokens.kind ≡ kind_after g.P.Past.known c.args.volume.now (reopened c.args.volume.now g.P.Past.new c.in-Ok.opened.parts.nodes.items g.P.Past.log))
    (λ (r : OpenedDisks g.row.D.Denot × NewBook). r.1.tokens.kind ≡ kind_after g.P.Past.known c.args.volume.now (reopened c.args.volume.now g.P.Past.new r.0.parts.nodes.items g.P.Past.log))
    (λ r same kind. kind ∙ ap (λ (o : OpenedDisks g.row.D.Denot). kind_after g.P.Past.known c.args.volume.now (reopened c.args.volume.now g.P.Past.new o.parts.nodes.items g.P.Past.log)) (sym same))
    c.with_book.ensures.opened c.with_book.ensures.kind

pub returns-in-Ok-clause-goes_on : goal.returns-in-Ok-clause-goes_on
returns-in-Ok-clause-goes_on g c =
    ok-so c.with_book.result (λ (r : OpenedDisks g.row.D.Denot × NewBook). r.0 ≡ c.in-Ok.opened)
    (λ (r : OpenedDisks g.row.D.Denot × NewBook). IsTrue g.P.Past.known → GoesOnAfter g.D.Disk.tells g.D.Disk.meter g.D.Disk.text g.D.Disk.image c.args.volume.now g.P.Past.log g.P.Past.new (faults (g.D.Disk.meter c.args.journal)) r.0)
    (λ r same known. subst (λ (o : OpenedDisks g.row.D.Denot). GoesOnAfter g.D.Disk.tells g.D.Disk.meter g.D.Disk.text g.D.Disk.image c.args.volume.now g.P.Past.log g.P.Past.new (faults (g.D.Disk.meter c.args.journal)) o) (sym same)
    (goes-on-after g.D.Disk.tells g.D.Disk.meter g.D.Disk.text g.D.Disk.image c.reopening.ensures c.args.volume.now g.P.Past.log g.P.Past.new c.args.disks.items c.args.journal c.in-Ok.opened
    c.in-Ok.ensures.opened (c.requires.left known) (g.met.D.Disk.text_is_image c.args.journal) c.in-Ok.ensures.calls c.in-Ok.ensures.stands))
    c.with_book.ensures.opened

pub returns-in-Ok-clause-back : goal.returns-in-Ok-clause-back
returns-in-Ok-clause-back g c =
    err-so c.with_book.result (λ (e : Unopened g.row.D.Denot). e.disks.items ≡ disks_in c.in-Ok.opened.parts.nodes.items c.in-Ok.opened.missing.items)
    (λ (e : Unopened g.row.D.Denot). AllZip (IsPlaceBack g.D.Disk.meter g.D.Disk.text g.D.Disk.image) c.args.disks.items e.disks.items)
    (λ e are. subst (λ (ds : List (Option g.row.D.Denot)). AllZip (IsPlaceBack g.D.Disk.meter g.D.Disk.text g.D.Disk.image) c.args.disks.items ds) (sym are)
    (are-handed-back g.D.Disk.tells g.D.Disk.meter g.D.Disk.text g.D.Disk.image c.args.volume.now c.args.disks.items c.in-Ok.opened c.in-Ok.ensures.opened.nodes))
    c.with_book.ensures.disks

pub returns-in-Ok-clause-unopened : goal.returns-in-Ok-clause-unopened
returns-in-Ok-clause-unopened g c =
    err-both c.with_book.result (λ (e : Unopened g.row.D.Denot). disk_of c.in-Ok.opened.parts.metadata ≡ Some e.journal) (λ (e : Unopened g.row.D.Denot). e.fault ≡ fault.NoMemory)
    (λ (e : Unopened g.row.D.Denot). IsUnopened g.D.Disk.tells g.D.Disk.meter g.D.Disk.text g.D.Disk.image c.args.volume.now c.args.journal e.journal e.fault)
    (λ e at want. wanted g.D.Disk.tells g.D.Disk.meter g.D.Disk.text g.D.Disk.image c.args.volume.now c.args.journal (disk_of c.in-Ok.opened.parts.metadata) e.journal e.fault c.in-Ok.ensures.opened.came at want)
    c.with_book.ensures.journal c.with_book.ensures.want

pub returns-in-Err-clause-back : goal.returns-in-Err-clause-back
returns-in-Err-clause-back g c =
    subst (λ (ds : List (Option g.row.D.Denot)). AllZip (IsPlaceBack g.D.Disk.meter g.D.Disk.text g.D.Disk.image) c.args.disks.items ds) (ap (λ (d : Vec (Option g.row.D.Denot)). d.items) (sym c.in-Err.ensures.untouched))
    (all-same g.D.Disk.tells g.D.Disk.meter g.D.Disk.text g.D.Disk.image c.args.volume.now.layout c.args.disks.items)
