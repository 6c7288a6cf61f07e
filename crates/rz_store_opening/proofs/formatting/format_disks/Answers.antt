use Rattle.std.proofs.Common.{ℕ, ◌≡◌, List, [], Option, Some, IsTrue, length, map, sym, ◌∙◌, ap, subst, arith, vec_len}
use Rattle.std.specs.List.{AllZip, zip}
use Rattle.rz_events.specs.Volume.{Volume, nodes_of}
use Rattle.rz_metadata.specs.Reopened.{AllTextsOf}
use Rattle.rz_nodes.specs.Formatted.{AreBack, disks_of}
use Rattle.rz_nodes.proofs.FormatLemmas.{untouched}
use Rattle.rz_restart_laws.specs.Returns.{NewDisk}
use Rattle.rz_shared.proofs.NewLockedNodes.{made-length}
use Rattle.rz_store_opening.specs.NewStores.{IsCause, IsFormattedDisk, IsJournalBack}
use Rattle.rz_store_opening.specs.Opening.{AreLeft}
use Rattle.rz_store_opening.specs.declared.formatting.FormattedDisks.{FormattedDisks}
use Rattle.rz_store_opening.specs.declared.formatting.Unmade.{Unmade}
use Rattle.rz_store_opening.proofs.EmptyDisks.{as-made, go-back, in-places, left-by-none}
use Rattle.rz_store_opening.proofs.Outcomes.{err-so, ok-both, ok-so}
use Rattle.rz_store_opening.proofs.formatting.format_disks.Goals as goal

pub returns-in_default-clause-back : goal.returns-in_default-clause-back
returns-in_default-clause-back g c = untouched g.D.Disk.tells g.D.Disk.meter g.D.Disk.image c.args.volume.now.layout (nodes_of c.args.volume.now.clusters) c.args.disks.items c.requires.count

pub format_journal-requires-clause-row : goal.format_journal-requires-clause-row
format_journal-requires-clause-row g c =
    let nodes : c.as_slice.result.now ≡ nodes_of c.args.volume.now.clusters = c.as_slice.ensures.value ∙ c.in-Ok.ensures.nodes in
    let many = made-length g.D.Disk.tells g.D.Disk.meter g.D.Disk.image g.D.Disk.text c.volume.inside.layout c.as_slice.result.now c.args.disks.items c.in-Ok-format_all.servers.items (c.requires.count ∙ ap length (sym nodes)) c.in-Ok-format_all.ensures.made in
    let all = ap length c.as_slice.ensures.value in
    let room = c.in-Ok.ensures.room.1 in
    let servers : vec_len c.in-Ok-format_all.servers ≡ length c.in-Ok-format_all.servers.items = c.in-Ok-format_all.servers.ok.0 in
    let parts : vec_len c.in-Ok.field-0.nodes ≡ length c.in-Ok.field-0.nodes.items = c.in-Ok.field-0.nodes.ok.0 in
    (c.in-Ok.ensures.room.0, omega (arith, many, all, room, servers, parts))

pub returns-in-Ok-format_all-clause-nodes : goal.returns-in-Ok-format_all-clause-nodes
returns-in-Ok-format_all-clause-nodes g c =
    let layout : c.volume.inside.layout ≡ c.args.volume.now.layout = cc (c.in-Ok.ensures.volume) in
    let made = as-made g.D.Disk.tells g.D.Disk.meter g.D.Disk.text g.D.Disk.image c.volume.inside.layout c.args.volume.now.layout c.as_slice.result.now (nodes_of c.args.volume.now.clusters) c.args.disks.items c.in-Ok-format_all.servers.items
    layout (c.as_slice.ensures.value ∙ c.in-Ok.ensures.nodes) c.in-Ok-format_all.ensures.made in
    ok-so c.format_journal.result (λ (f : FormattedDisks g.row.D.Denot). f.disks.items ≡ map (λ (d : g.row.D.Denot). Some d) (disks_of c.in-Ok-format_all.servers.items))
    (λ (f : FormattedDisks g.row.D.Denot). AllZip (IsFormattedDisk g.D.Disk.tells g.D.Disk.meter g.D.Disk.text g.D.Disk.image c.args.volume.now.layout) (zip (nodes_of c.args.volume.now.clusters) c.args.disks.items) f.disks.items)
    (λ f here. subst (λ (ds : List (Option g.row.D.Denot)). AllZip (IsFormattedDisk g.D.Disk.tells g.D.Disk.meter g.D.Disk.text g.D.Disk.image c.args.volume.now.layout) (zip (nodes_of c.args.volume.now.clusters) c.args.disks.items) ds) (sym here)
    (in-places g.D.Disk.tells g.D.Disk.meter g.D.Disk.text g.D.Disk.image c.args.volume.now.layout (zip (nodes_of c.args.volume.now.clusters) c.args.disks.items) c.in-Ok-format_all.servers.items made))
    c.format_journal.ensures.here

pub returns-in-Ok-format_all-clause-texts : goal.returns-in-Ok-format_all-clause-texts
returns-in-Ok-format_all-clause-texts g c =
    ok-so c.format_journal.result (λ (f : FormattedDisks g.row.D.Denot). IsTrue g.D.Disk.tells → AllTextsOf c.in-Ok.field-0.volume (g.D.Disk.image f.journal) [])
    (λ (f : FormattedDisks g.row.D.Denot). IsTrue g.D.Disk.tells → AllTextsOf c.args.volume.now (g.D.Disk.image f.journal) [])
    (λ f texts. subst (λ (v : Volume). IsTrue g.D.Disk.tells → AllTextsOf v (g.D.Disk.image f.journal) []) c.in-Ok.ensures.volume texts)
    c.format_journal.ensures.texts

pub returns-in-Ok-format_all-clause-left : goal.returns-in-Ok-format_all-clause-left
returns-in-Ok-format_all-clause-left g c =
    ok-both c.format_journal.result
    (λ (f : FormattedDisks g.row.D.Denot). AllZip (IsFormattedDisk g.D.Disk.tells g.D.Disk.meter g.D.Disk.text g.D.Disk.image c.args.volume.now.layout) (zip (nodes_of c.args.volume.now.clusters) c.args.disks.items) f.disks.items)
    (λ (f : FormattedDisks g.row.D.Denot). IsTrue g.D.Disk.tells → AllTextsOf c.args.volume.now (g.D.Disk.image f.journal) [])
    (λ (f : FormattedDisks g.row.D.Denot). IsTrue g.D.Disk.tells → (new : ℕ → NewDisk) → AreLeft g.D.Disk.image c.args.volume.now [] new f.disks.items f.journal)
    (λ f made texts told new. left-by-none g.D.Disk.tells g.D.Disk.meter g.D.Disk.text g.D.Disk.image told c.args.volume.now new c.in-Ok.ensures.rules c.args.disks.items c.requires.count f.disks.items made f.journal (texts told))
    (returns-in-Ok-format_all-clause-nodes g c) (returns-in-Ok-format_all-clause-texts g c)

pub returns-in-Ok-format_all-clause-back : goal.returns-in-Ok-format_all-clause-back
returns-in-Ok-format_all-clause-back g c =
    let layout : c.volume.inside.layout ≡ c.args.volume.now.layout = cc (c.in-Ok.ensures.volume) in
    let made = as-made g.D.Disk.tells g.D.Disk.meter g.D.Disk.text g.D.Disk.image c.volume.inside.layout c.args.volume.now.layout c.as_slice.result.now (nodes_of c.args.volume.now.clusters) c.args.disks.items c.in-Ok-format_all.servers.items
    layout (c.as_slice.ensures.value ∙ c.in-Ok.ensures.nodes) c.in-Ok-format_all.ensures.made in
    err-so c.format_journal.result (λ (e : Unmade g.row.D.Denot). e.disks.items ≡ disks_of c.in-Ok-format_all.servers.items)
    (λ (e : Unmade g.row.D.Denot). AreBack g.D.Disk.tells g.D.Disk.meter g.D.Disk.image c.args.volume.now.layout (nodes_of c.args.volume.now.clusters) c.args.disks.items e.disks.items)
    (λ e are. subst (λ (ds : List g.row.D.Denot). AreBack g.D.Disk.tells g.D.Disk.meter g.D.Disk.image c.args.volume.now.layout (nodes_of c.args.volume.now.clusters) c.args.disks.items ds) (sym are)
    (go-back g.D.Disk.tells g.D.Disk.meter g.D.Disk.text g.D.Disk.image c.args.volume.now.layout (zip (nodes_of c.args.volume.now.clusters) c.args.disks.items) c.in-Ok-format_all.servers.items made))
    c.format_journal.ensures.disks

pub returns-in-Ok-format_all-clause-journal : goal.returns-in-Ok-format_all-clause-journal
returns-in-Ok-format_all-clause-journal g c =
    err-so c.format_journal.result (λ (e : Unmade g.row.D.Denot). IsJournalBack g.D.Disk.tells g.D.Disk.meter g.D.Disk.image c.in-Ok.field-0.volume c.args.journal e.journal)
    (λ (e : Unmade g.row.D.Denot). IsJournalBack g.D.Disk.tells g.D.Disk.meter g.D.Disk.image c.args.volume.now c.args.journal e.journal)
    (λ e back. subst (λ (v : Volume). IsJournalBack g.D.Disk.tells g.D.Disk.meter g.D.Disk.image v c.args.journal e.journal) c.in-Ok.ensures.volume back)
    c.format_journal.ensures.back

pub returns-in-Ok-format_all-clause-cause : goal.returns-in-Ok-format_all-clause-cause
returns-in-Ok-format_all-clause-cause g c =
    err-so c.format_journal.result (λ (e : Unmade g.row.D.Denot). (disks : List g.row.D.Denot) → IsCause g.D.Disk.meter disks c.args.journal e.disks.items e.journal e.fault)
    (λ (e : Unmade g.row.D.Denot). IsCause g.D.Disk.meter c.args.disks.items c.args.journal e.disks.items e.journal e.fault)
    (λ e cause. cause c.args.disks.items) c.format_journal.ensures.cause
