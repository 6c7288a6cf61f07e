use Rattle.std.proofs.Common.{arith, ◌++◌, ◌∷◌, [], List, length, sym, ◌∙◌, subst}
use Rattle.std.proofs.lemmas.Result.{IfOk-weaker, IfErr-weaker}
use Rattle.rz_events.specs.Volume.{Volume, nodes_of}
use Rattle.rz_nodes.specs.Formatted.{AreFormatted, IsCause, disks_of}
use Rattle.rz_nodes.proofs.FormatLemmas.{untouched}
use Rattle.rz_driver_nodes.specs.Meters.{faults_at}
use Rattle.rz_driver.specs.declared.driver.Driver.{Driver}
use Rattle.rz_driver.specs.Formatted.{AreBackWithJournal, IsBehindJournal, IsJournalUnmade}
use Rattle.rz_driver.specs.Worlds.{HasCounted, anew, HoldsBetweenTurns}
use Rattle.rz_driver.proofs.BehindJournal.{back-count, behind-counted, behind-holds, behind-made, behind-ready, behind-world, back-with, cause-with, front-count, has-last, refused-back, refused-cause}
use Rattle.rz_driver.proofs.MadeLemmas.{as-many}
use Rattle.rz_driver.proofs.driver.Driver.first.Goals as goal

pub new-requires : goal.new-requires
new-requires g c = record { count = front-count c.args.disks.items c.in-Ok.nodes.items c.in-Ok.journal (length (nodes_of c.args.volume.now.clusters)) c.in-Ok.ensures.split c.requires.count }

pub with_last-requires-clause-room : goal.with_last-requires-clause-room
with_last-requires-clause-room g c =
    let v = c.args.volume.now in
    let nodes = c.in-Ok.nodes.items in
    let whole = c.requires.count in
    let count = front-count c.args.disks.items nodes c.in-Ok.journal (length (nodes_of v.clusters)) c.in-Ok.ensures.split whole in
    let many = back-count g.D.Disk.tells g.D.Disk.meter g.D.Disk.image v.layout (nodes_of v.clusters) nodes c.in-Err-new.back.items count c.in-Err-new.ensures.back in
    let room = c.in-Ok.ensures.room in
    omega (arith, whole, count, many, room)

pub returns-in-Ok-new-clause-ready : goal.returns-in-Ok-new-clause-ready
returns-in-Ok-new-clause-ready g c =
    let d = c.in-Ok-new.driver in
    IfOk-weaker c.behind_journal.result (λ e. IsBehindJournal c.in-Ok.journal d e) _ (λ e behind. behind-ready c.in-Ok.journal d e behind c.in-Ok-new.ensures.ready) c.behind_journal.ensures.behind

pub returns-in-Ok-new-clause-volume : goal.returns-in-Ok-new-clause-volume
returns-in-Ok-new-clause-volume g c =
    let d = c.in-Ok-new.driver in
    IfOk-weaker c.behind_journal.result (λ e. IsBehindJournal c.in-Ok.journal d e) _ (λ e behind. behind.volume ∙ c.in-Ok-new.ensures.volume) c.behind_journal.ensures.behind

pub returns-in-Ok-new-clause-journal : goal.returns-in-Ok-new-clause-journal
returns-in-Ok-new-clause-journal g c =
    let d = c.in-Ok-new.driver in
    IfOk-weaker c.behind_journal.result (λ e. IsBehindJournal c.in-Ok.journal d e) _ (λ e behind. behind.journal) c.behind_journal.ensures.behind

pub returns-in-Ok-new-clause-world : goal.returns-in-Ok-new-clause-world
returns-in-Ok-new-clause-world g c =
    let d = c.in-Ok-new.driver in
    IfOk-weaker c.behind_journal.result (λ e. IsBehindJournal c.in-Ok.journal d e) _
    (λ e behind. behind-world c.in-Ok.journal d e behind c.args.volume.now c.in-Ok-new.ensures.volume c.in-Ok-new.ensures.world) c.behind_journal.ensures.behind

pub returns-in-Ok-new-clause-made : goal.returns-in-Ok-new-clause-made
returns-in-Ok-new-clause-made g c =
    let d = c.in-Ok-new.driver in
    let v = c.args.volume.now in
    let nodes = c.in-Ok.nodes.items in
    let journal = c.in-Ok.journal in
    let n = length (nodes_of v.clusters) in
    let count = front-count c.args.disks.items nodes journal n c.in-Ok.ensures.split c.requires.count in
    let made = λ (disks : List g.row.D.Denot) (e : Driver g.row.D.Denot g.D.Disk). AreFormatted g.D.Disk.tells g.D.Disk.meter g.D.Disk.text g.D.Disk.image v.layout (nodes_of v.clusters) disks e.shared.servers.items in
    IfOk-weaker c.behind_journal.result (λ e. IsBehindJournal journal d e) (made c.args.disks.items)
    (λ e behind. subst (λ (disks : List g.row.D.Denot). made disks e) (sym c.in-Ok.ensures.split)
    (behind-made journal d e behind v c.in-Ok-new.ensures.volume c.in-Ok-new.ensures.world g.D.Disk.tells g.D.Disk.meter g.D.Disk.text g.D.Disk.image nodes count c.in-Ok-new.ensures.made))
    c.behind_journal.ensures.behind

pub returns-in-Ok-new-clause-held : goal.returns-in-Ok-new-clause-held
returns-in-Ok-new-clause-held g c =
    let d = c.in-Ok-new.driver in
    let v = c.args.volume.now in
    let nodes = c.in-Ok.nodes.items in
    let journal = c.in-Ok.journal in
    let count = front-count c.args.disks.items nodes journal (length (nodes_of v.clusters)) c.in-Ok.ensures.split c.requires.count in
    IfOk-weaker c.behind_journal.result (λ e. IsBehindJournal journal d e) (λ e. HoldsBetweenTurns e (anew (faults_at g.D.Disk.meter c.args.disks.items)))
    (λ e behind. subst (λ (disks : List g.row.D.Denot). HoldsBetweenTurns e (anew (faults_at g.D.Disk.meter disks))) (sym c.in-Ok.ensures.split)
    (behind-holds journal d e behind v c.in-Ok-new.ensures.volume c.in-Ok-new.ensures.world nodes count c.in-Ok-new.ensures.held))
    c.behind_journal.ensures.behind

pub returns-in-Ok-new-clause-counted : goal.returns-in-Ok-new-clause-counted
returns-in-Ok-new-clause-counted g c =
    let d = c.in-Ok-new.driver in
    let v = c.args.volume.now in
    let nodes = c.in-Ok.nodes.items in
    let journal = c.in-Ok.journal in
    let n = length (nodes_of v.clusters) in
    let count = front-count c.args.disks.items nodes journal n c.in-Ok.ensures.split c.requires.count in
    IfOk-weaker c.behind_journal.result (λ e. IsBehindJournal journal d e) (λ e. HasCounted e (faults_at g.D.Disk.meter c.args.disks.items n))
    (λ e behind. subst (λ (disks : List g.row.D.Denot). HasCounted e (faults_at g.D.Disk.meter disks n)) (sym c.in-Ok.ensures.split)
    (behind-counted journal d e behind v c.in-Ok-new.ensures.volume c.in-Ok-new.ensures.world nodes count (behind-ready journal d e behind c.in-Ok-new.ensures.ready)))
    c.behind_journal.ensures.behind

pub returns-in-Ok-new-clause-back : goal.returns-in-Ok-new-clause-back
returns-in-Ok-new-clause-back g c =
    let d = c.in-Ok-new.driver in
    let v = c.args.volume.now in
    let nodes = c.in-Ok.nodes.items in
    let journal = c.in-Ok.journal in
    let row = d.shared.servers.items in
    let tells = g.D.Disk.tells in
    let meter = g.D.Disk.meter in
    let image = g.D.Disk.image in
    IfErr-weaker c.behind_journal.result (λ r. IsJournalUnmade tells meter image d.volume (disks_of row) journal r.0.items r.1) (λ r. AreBackWithJournal tells meter image v c.args.disks.items r.0.items)
    (λ r refused.
    let here = subst (λ (u : Volume). IsJournalUnmade tells meter image u (disks_of row) journal r.0.items r.1) c.in-Ok-new.ensures.volume refused in
    refused-back tells meter g.D.Disk.text image v nodes journal row r.0.items r.1 here c.args.disks.items c.in-Ok.ensures.split c.in-Ok-new.ensures.made)
    c.behind_journal.ensures.back

pub returns-in-Ok-new-clause-cause : goal.returns-in-Ok-new-clause-cause
returns-in-Ok-new-clause-cause g c =
    let d = c.in-Ok-new.driver in
    let v = c.args.volume.now in
    let nodes = c.in-Ok.nodes.items in
    let journal = c.in-Ok.journal in
    let row = d.shared.servers.items in
    let tells = g.D.Disk.tells in
    let meter = g.D.Disk.meter in
    let text = g.D.Disk.text in
    let image = g.D.Disk.image in
    let count = front-count c.args.disks.items nodes journal (length (nodes_of v.clusters)) c.in-Ok.ensures.split c.requires.count in
    let many = count ∙ sym (as-many tells meter text image v.layout (nodes_of v.clusters) nodes row count c.in-Ok-new.ensures.made) in
    IfErr-weaker c.behind_journal.result (λ r. IsJournalUnmade tells meter image d.volume (disks_of row) journal r.0.items r.1) (λ r. IsCause meter c.args.disks.items r.0.items r.1)
    (λ r refused. refused-cause tells meter text image d.volume nodes journal row r.0.items r.1 refused c.args.disks.items c.in-Ok.ensures.split many)
    c.behind_journal.ensures.back

pub returns-in-Err-new-clause-back : goal.returns-in-Err-new-clause-back
returns-in-Err-new-clause-back g c =
    back-with g.D.Disk.tells g.D.Disk.meter g.D.Disk.image c.args.volume.now c.args.disks.items c.in-Ok.nodes.items c.in-Err-new.back.items c.in-Ok.journal c.in-Ok.ensures.split c.in-Err-new.ensures.back _ c.with_last.ensures

pub returns-in-Err-new-clause-cause : goal.returns-in-Err-new-clause-cause
returns-in-Err-new-clause-cause g c =
    let nodes = c.in-Ok.nodes.items in
    let journal = c.in-Ok.journal in
    let back = c.in-Err-new.back.items in
    let meter = g.D.Disk.meter in
    let cause = cause-with g.D.Disk.tells meter g.D.Disk.image c.args.volume.now nodes back journal c.in-Err-new.fault c.in-Err-new.ensures.cause in
    subst (λ (xs : List g.row.D.Denot). IsCause meter xs c.with_last.result.items c.in-Err-new.fault) (sym c.in-Ok.ensures.split)
    (subst (λ (ys : List g.row.D.Denot). IsCause meter (nodes ++ journal ∷ []) ys c.in-Err-new.fault) (sym c.with_last.ensures) cause)

pub returns-in-Err-clause-back : goal.returns-in-Err-clause-back
returns-in-Err-clause-back g c =
    let v = c.args.volume.now in
    let tells = g.D.Disk.tells in
    let meter = g.D.Disk.meter in
    let image = g.D.Disk.image in
    let disks = c.args.disks.items in
    let last = has-last disks (length (nodes_of v.clusters)) c.requires.count in
    back-with tells meter image v disks last.0 last.0 last.1 last.2 (untouched tells meter image v.layout (nodes_of v.clusters) last.0 last.3) _ (c.in-Err.ensures.back ∙ last.2)
