use Rattle.std.proofs.Common.{arith, ◌≡◌, ◌<◌, ◌+◌, ◌^◌, true, false, IsTrue, List, length, sym, ◌∙◌, ap, subst}
use Rattle.std.proofs.lemmas.Result.{IfOk-weaker, IfErr-weaker}
use Rattle.rz_events.specs.Volume.{nodes_of}
use Rattle.rz_events.specs.declared.events.Event.{Event}
use Rattle.rz_metadata.specs.Stands.{is_journaled}
use Rattle.rz_nodes.specs.Opened.{AreDisksBack}
use Rattle.rz_restart_laws.specs.Earlier.{IsEarlier, IsRestarted}
use Rattle.rz_driver_nodes.specs.Images.{AreDisksImaged}
use Rattle.rz_driver_nodes.specs.Meters.{faults_at}
use Rattle.rz_driver.specs.Continued.{AllOpen, AreLeft, IsCauseAgain, IsOpenedAgain, IsOpenedOver, IsRefusedOver}
use Rattle.rz_driver.specs.Endings.{StandsForLog}
use Rattle.rz_driver.specs.Worlds.{HasCounted, left_behind, IsDriver, HoldsBetweenTurns}
use Rattle.rz_driver.proofs.AgainLemmas.{over-counted, over-ready, over-again, over-held, over-open, over-untold, over-back, over-cause, journal-back, journal-cause, kept-same, split-same}
use Rattle.rz_driver.proofs.BehindJournal.{front-count}
use Rattle.rz_driver.proofs.driver.Driver.again.Goals as goal

pub open_nodes-requires-clause-count : goal.open_nodes-requires-clause-count
open_nodes-requires-clause-count g c = front-count c.args.disks.items c.in-Ok.nodes.items c.in-Ok.journal (length (nodes_of c.args.volume.now.clusters)) c.in-Ok.ensures.split c.requires.count

pub open_nodes-requires-clause-room : goal.open_nodes-requires-clause-room
open_nodes-requires-clause-room g c =
    let whole = c.requires.count in
    let count = front-count c.args.disks.items c.in-Ok.nodes.items c.in-Ok.journal (length (nodes_of c.args.volume.now.clusters)) c.in-Ok.ensures.split whole in
    let room = c.in-Ok.ensures.room in
    omega (arith, whole, count, room)

pub with_last-requires-clause-room : goal.with_last-requires-clause-room
with_last-requires-clause-room g c =
    let whole = c.requires.count in
    let count = front-count c.args.disks.items c.in-Ok.nodes.items c.in-Ok.journal (length (nodes_of c.args.volume.now.clusters)) c.in-Ok.ensures.split whole in
    let room = c.in-Ok.ensures.room in
    omega (arith, whole, count, room)

pub returns-in-Ok-open_journal-clause-ready : goal.returns-in-Ok-open_journal-clause-ready
returns-in-Ok-open_journal-clause-ready g c =
    let v = c.args.volume.now in
    let nodes = c.in-Ok.nodes.items in
    let export = c.in-Ok-open_journal.export in
    let count = front-count c.args.disks.items nodes c.in-Ok.journal (length (nodes_of v.clusters)) c.in-Ok.ensures.split c.requires.count in
    IfOk-weaker c.open_nodes.result (λ d. IsOpenedOver v export nodes d) (λ d. IsDriver d) (λ d over. over-ready v c.open_nodes.ensures.rules export nodes count d over c.in-Ok-open_journal.ensures.open) c.open_nodes.ensures.opened

pub returns-in-Ok-open_journal-clause-volume : goal.returns-in-Ok-open_journal-clause-volume
returns-in-Ok-open_journal-clause-volume g c =
    let v = c.args.volume.now in
    IfOk-weaker c.open_nodes.result (λ d. IsOpenedOver v c.in-Ok-open_journal.export c.in-Ok.nodes.items d) (λ d. d.volume ≡ v) (λ d over. over.volume) c.open_nodes.ensures.opened

pub returns-in-Ok-open_journal-clause-journal : goal.returns-in-Ok-open_journal-clause-journal
returns-in-Ok-open_journal-clause-journal g c =
    let v = c.args.volume.now in
    IfOk-weaker c.open_nodes.result (λ d. IsOpenedOver v c.in-Ok-open_journal.export c.in-Ok.nodes.items d) (λ d. is_journaled d.shared.export ≡ true)
    (λ d over. ap (λ m. is_journaled m) over.export_is ∙ c.in-Ok-open_journal.ensures.journal) c.open_nodes.ensures.opened

pub returns-in-Ok-open_journal-clause-counted : goal.returns-in-Ok-open_journal-clause-counted
returns-in-Ok-open_journal-clause-counted g c =
    let v = c.args.volume.now in
    let disks = c.args.disks.items in
    let nodes = c.in-Ok.nodes.items in
    let journal = c.in-Ok.journal in
    let export = c.in-Ok-open_journal.export in
    let count = front-count disks nodes journal (length (nodes_of v.clusters)) c.in-Ok.ensures.split c.requires.count in
    IfOk-weaker c.open_nodes.result (λ d. IsOpenedOver v export nodes d) (λ d. HasCounted d (faults_at g.D.Disk.meter disks (length (nodes_of v.clusters))))
    (λ d over. over-counted v c.open_nodes.ensures.rules export nodes count d over disks journal c.in-Ok.ensures.split
    (over-ready v c.open_nodes.ensures.rules export nodes count d over c.in-Ok-open_journal.ensures.open) c.in-Ok-open_journal.ensures.counted) c.open_nodes.ensures.opened

pub returns-in-Ok-open_journal-clause-opened : goal.returns-in-Ok-open_journal-clause-opened
returns-in-Ok-open_journal-clause-opened g c =
    let v = c.args.volume.now in
    let disks = c.args.disks.items in
    let nodes = c.in-Ok.nodes.items in
    let journal = c.in-Ok.journal in
    let export = c.in-Ok-open_journal.export in
    let count = front-count disks nodes journal (length (nodes_of v.clusters)) c.in-Ok.ensures.split c.requires.count in
    IfOk-weaker c.open_nodes.result (λ d. IsOpenedOver v export nodes d) (λ d. IsOpenedAgain v disks d)
    (λ d over. over-again v c.open_nodes.ensures.rules export nodes count d over disks journal c.in-Ok.ensures.split c.in-Ok-open_journal.ensures.made) c.open_nodes.ensures.opened

pub returns-in-Ok-open_journal-clause-open : goal.returns-in-Ok-open_journal-clause-open
returns-in-Ok-open_journal-clause-open g c =
    let v = c.args.volume.now in
    let disks = c.args.disks.items in
    let nodes = c.in-Ok.nodes.items in
    let journal = c.in-Ok.journal in
    let export = c.in-Ok-open_journal.export in
    let count = front-count disks nodes journal (length (nodes_of v.clusters)) c.in-Ok.ensures.split c.requires.count in
    IfOk-weaker c.open_nodes.result (λ d. IsOpenedOver v export nodes d) (λ d. AllOpen g.D.Disk.tells g.D.Disk.text v disks)
    (λ d over. over-open v c.open_nodes.ensures.rules export nodes count d over disks journal c.in-Ok.ensures.split c.in-Ok-open_journal.ensures.sized c.in-Ok-open_journal.ensures.made) c.open_nodes.ensures.opened

pub returns-in-Ok-open_journal-clause-untold : goal.returns-in-Ok-open_journal-clause-untold
returns-in-Ok-open_journal-clause-untold g c =
    let v = c.args.volume.now in
    let disks = c.args.disks.items in
    let nodes = c.in-Ok.nodes.items in
    let journal = c.in-Ok.journal in
    let export = c.in-Ok-open_journal.export in
    let count = front-count disks nodes journal (length (nodes_of v.clusters)) c.in-Ok.ensures.split c.requires.count in
    IfOk-weaker c.open_nodes.result (λ d. IsOpenedOver v export nodes d)
    (λ d. g.D.Disk.tells ≡ false → (old : List Event) → length old < 2 ^ 63 + 512 → HoldsBetweenTurns d (left_behind (faults_at g.D.Disk.meter disks) old))
    (λ d over. over-untold v c.open_nodes.ensures.rules export nodes count d over disks journal c.in-Ok.ensures.split) c.open_nodes.ensures.opened

pub returns-in-Ok-open_journal-clause-held : goal.returns-in-Ok-open_journal-clause-held
returns-in-Ok-open_journal-clause-held g c =
    let v = c.args.volume.now in
    let disks = c.args.disks.items in
    let nodes = c.in-Ok.nodes.items in
    let journal = c.in-Ok.journal in
    let export = c.in-Ok-open_journal.export in
    let image = g.D.Disk.image in
    let count = front-count disks nodes journal (length (nodes_of v.clusters)) c.in-Ok.ensures.split c.requires.count in
    let rules = c.open_nodes.ensures.rules in
    IfOk-weaker c.open_nodes.result (λ d. IsOpenedOver v export nodes d)
    (λ d. IsTrue g.D.Disk.tells → (h : List Event) → IsEarlier v h → AreLeft image v h disks
    → (old : List Event) × IsRestarted v h old × HoldsBetweenTurns d (left_behind (faults_at g.D.Disk.meter disks) old))
    (λ d over told h earlier left.
    let same = split-same left.nodes nodes left.journal journal (sym left.disks_are ∙ c.in-Ok.ensures.split) in
    let each = subst (λ (ds : List g.row.D.Denot). AreDisksImaged image v _ ds h) same.0 left.each in
    let last = subst (λ (j : g.row.D.Denot). StandsForLog (image j) v h) same.1 left.last in
    over-held v rules export nodes count d over disks journal c.in-Ok.ensures.split told g.met.D.Disk.text_is_image h earlier left.bytes each last c.in-Ok-open_journal.ensures.journal c.in-Ok-open_journal.ensures.volume
    (c.in-Ok-open_journal.ensures.stands told) c.found.ensures (c.goes_on.ensures v rules))
    c.open_nodes.ensures.opened

pub returns-in-Ok-open_journal-clause-back : goal.returns-in-Ok-open_journal-clause-back
returns-in-Ok-open_journal-clause-back g c =
    let v = c.args.volume.now in
    let disks = c.args.disks.items in
    let nodes = c.in-Ok.nodes.items in
    let journal = c.in-Ok.journal in
    let export = c.in-Ok-open_journal.export in
    let tells = g.D.Disk.tells in
    let meter = g.D.Disk.meter in
    let text = g.D.Disk.text in
    let image = g.D.Disk.image in
    IfErr-weaker c.open_nodes.result (λ r. IsRefusedOver tells meter text image v export nodes r.0.items r.1) (λ r. AreDisksBack meter text image disks r.0.items)
    (λ r refused. over-back tells meter text image v disks nodes journal c.in-Ok.ensures.split export c.in-Ok-open_journal.ensures.journal c.in-Ok-open_journal.ensures.came c.in-Ok-open_journal.ensures.made r.0.items r.1 refused)
    c.open_nodes.ensures.refused

pub returns-in-Ok-open_journal-clause-cause : goal.returns-in-Ok-open_journal-clause-cause
returns-in-Ok-open_journal-clause-cause g c =
    let v = c.args.volume.now in
    let disks = c.args.disks.items in
    let nodes = c.in-Ok.nodes.items in
    let journal = c.in-Ok.journal in
    let export = c.in-Ok-open_journal.export in
    let tells = g.D.Disk.tells in
    let meter = g.D.Disk.meter in
    let text = g.D.Disk.text in
    let image = g.D.Disk.image in
    IfErr-weaker c.open_nodes.result (λ r. IsRefusedOver tells meter text image v export nodes r.0.items r.1) (λ r. IsCauseAgain tells meter text image v disks r.0.items r.1)
    (λ r refused. over-cause tells meter text image v disks nodes journal c.in-Ok.ensures.split export c.in-Ok-open_journal.ensures.journal c.in-Ok-open_journal.ensures.came c.in-Ok-open_journal.ensures.made r.0.items r.1 refused)
    c.open_nodes.ensures.refused

pub returns-in-Err-open_journal-clause-back : goal.returns-in-Err-open_journal-clause-back
returns-in-Err-open_journal-clause-back g c =
    journal-back g.D.Disk.tells g.D.Disk.meter g.D.Disk.text g.D.Disk.image c.args.volume.now c.args.disks.items c.in-Ok.nodes.items c.in-Ok.journal c.in-Ok.ensures.split
    c.in-Err-open_journal.journal c.with_last.result.items c.with_last.ensures c.in-Err-open_journal.ensures.back

pub returns-in-Err-open_journal-clause-cause : goal.returns-in-Err-open_journal-clause-cause
returns-in-Err-open_journal-clause-cause g c =
    let nodes = c.in-Ok.nodes in
    let at = c.len.ensures in
    let long = nodes.ok.0 in
    let place : c.len.result ≡ length nodes.items = omega (arith, at, long) in
    journal-cause g.D.Disk.tells g.D.Disk.meter g.D.Disk.text g.D.Disk.image c.args.volume.now c.args.disks.items nodes.items c.in-Ok.journal c.in-Ok.ensures.split
    c.in-Err-open_journal.journal c.with_last.result.items c.with_last.ensures c.len.result place c.in-Err-open_journal.refusal c.in-Err-open_journal.ensures.cause

pub returns-in-Err-clause-back : goal.returns-in-Err-clause-back
returns-in-Err-clause-back g c =
    subst (λ (ds : List g.row.D.Denot). AreDisksBack g.D.Disk.meter g.D.Disk.text g.D.Disk.image c.args.disks.items ds) (sym c.in-Err.ensures.back) (kept-same g.D.Disk.meter g.D.Disk.text g.D.Disk.image c.args.disks.items)
