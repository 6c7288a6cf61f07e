use Rattle.std.proofs.Common.{◌≡◌, List, ◌++◌, length, ◌+◌, ◌≤◌, ◌^◌, map, Option, None, inl, refl, sym, ◌∙◌, ap, subst}
use Rattle.std.specs.Prelude.{option_to_list}
use Rattle.std.proofs.lemmas.List.{length-map}
use Rattle.rz_disk.specs.UnderFuse.{UnderFuse, fused_meter}
use Rattle.rz_events.specs.Volume.{Volume, nodes_of}
use Rattle.rz_events.specs.declared.files.NodeSpec.{NodeSpec}
use Rattle.rz_events.specs.declared.events.Event.{Event}
use Rattle.rz_driver_actors.specs.declared.shared.Shared.{Shared}
use Rattle.rz_driver_nodes.specs.Asked.{fused_text}
use Rattle.rz_driver_nodes.specs.Images.{AreDisksImaged}
use Rattle.rz_nodes.specs.declared.formatting.Server.{Server}
use Rattle.rz_nodes.specs.Formatted.{disks_of}
use Rattle.rz_driver.specs.Worlds.{numbers_in}
use Rattle.rz_driver_nodes.proofs.MeterLemmas.{counted-disks, metered-counts}
use Rattle.rz_driver.proofs.DriverMeters.{leaves-counted}
use Rattle.rz_driver.proofs.Closed.{has-few, held-journal, left-imaged, left-journal, whole-disks}
use Rattle.rz_driver.proofs.JournalEndings.{failed-rises}
use Rattle.rz_driver_nodes.proofs.FetchLemmas.{disks-since}
use Rattle.rz_driver.proofs.driver.Driver.close.Goals as goal

pub returns-clause-counted : goal.returns-clause-counted
returns-clause-counted g c = λ b refused left.
    let d = c.args.self in
    counted-disks g.D.Disk.meter b.counts (numbers_in d) d.shared.servers.items d.shared.log.events (leaves-counted d refused b left)

pub returns-clause-imaged : goal.returns-clause-imaged
returns-clause-imaged g c = λ b refused left told.
    let d = c.args.self in
    left-imaged d refused b c.logged.ensures left told (has-few d refused b left c.close-log.ensures.short)

pub returns-clause-asked : goal.returns-clause-asked
returns-clause-asked g c = λ h first met.
    let d = c.args.self in
    let row = d.shared.servers.items in
    counted-disks g.D.Disk.meter first (numbers_in d) row h (metered-counts (fused_meter g.D.Disk.meter) first (numbers_in d) row h met)

pub returns-clause-since : goal.returns-clause-since
returns-clause-since g c = λ b (d, held, asked) told.
    let e = c.args.self in
    let row = e.shared.servers.items in
    let h = d.shared.log.events ++ b.log in
    let image = g.D.Disk.image in
    let same : e.shared.log.events ≡ d.shared.log.events = ap (λ (s : Shared (UnderFuse g.row.D.Denot) g.row.D.Denot). s.log.events) asked.shared in
    let few = has-few d None b (inl (held, refl)) (subst (λ (k : List Event). length k ≤ 2 ^ 62 + 2) same c.close-log.ensures.short) in
    let before = left-imaged d None b c.logged.ensures (inl (held, refl)) told few in
    let after = disks-since (fused_text g.D.Disk.text) image d.volume h (numbers_in d) d.shared.servers.items row asked.nodes before in
    let here = subst (λ (v : Volume). AreDisksImaged image v (map (λ (n : NodeSpec). n.sid) (nodes_of v.clusters)) (disks_of row) h) (sym asked.volume) after in
    subst (λ (k : List Event). AreDisksImaged image e.volume (numbers_in e) (disks_of row) (k ++ b.log)) (sym same) here

pub returns-clause-stands : goal.returns-clause-stands
returns-clause-stands g c = λ b disk held is told. held-journal c.args.self b c.close-log.ensures.short held disk is told

pub returns-clause-ends : goal.returns-clause-ends
returns-clause-ends g c = λ b refused disk left known is. left-journal c.args.self b c.close-log.ensures.short refused left known disk is

pub returns-clause-risen : goal.returns-clause-risen
returns-clause-risen g c = λ first disk counted is failed. failed-rises g.D.Disk.meter first c.args.self.shared.export disk counted.journal is failed

pub returns-clause-each : goal.returns-clause-each
returns-clause-each g c = λ first counted.
    let row = c.args.self.shared.servers in
    length-map row.items (λ (s : Server (UnderFuse g.row.D.Denot)). s.node.disk.disk) ∙ sym row.ok.0 ∙ counted.each

pub returns-clause-left : goal.returns-clause-left
returns-clause-left g c = λ b refused ended journaled told.
    whole-disks c.args.self b c.close-log.ensures.short refused c.logged.ensures ended journaled told _ (c.hand_back_with.ensures ∙ ap (λ (o : Option g.row.D.Denot). disks_of c.args.self.shared.servers.items ++ option_to_list o) c.into_disk-journal.ensures)
