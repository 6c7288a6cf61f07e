use Rattle.std.proofs.Common.{arith, ◌≡◌, List, [], ◌++◌, length, map, refl, sym, ◌∙◌, ap, subst}
use Rattle.std.proofs.lemmas.List.{append-nil}
use Rattle.std.specs.List.{AllByRecursion}
use Rattle.mj_angles.specs.declared.layout.Layout.{Layout}
use Rattle.rz_events.specs.Volume.{Volume, IsNode, nodes_of}
use Rattle.rz_events.specs.declared.files.NodeSpec.{NodeSpec}
use Rattle.rz_events.specs.declared.events.Event.{Event}
use Rattle.rz_export_model.specs.Export.{Export}
use Rattle.rz_core.specs.History.{facts}
use Rattle.rz_driver.specs.Journals.{KeepsLog}
use Rattle.rz_block_laws.specs.Acting.{AreBytes}
use Rattle.rz_driver.proofs.ExportWords.{bytes-none}
use Rattle.rz_driver.proofs.KeptCalls.{no-calls}
use Rattle.rz_nodes.specs.Formatted.{AreFormatted, AreBack}
use Rattle.rz_nodes.proofs.FormatLemmas.{untouched}
use Rattle.rz_driver_nodes.proofs.MeterLemmas.{new-holds}
use Rattle.rz_driver.proofs.MadeLemmas.{as-many, new-ready, new-is}
use Rattle.rz_driver_nodes.specs.Meters.{faults_at}
use Rattle.rz_driver_nodes.specs.Servers.{IsServer}
use Rattle.rz_driver.proofs.Cuts.{counts-none}
use Rattle.rz_driver.proofs.NewCoherence.{new-coherence}
use Rattle.rz_driver.proofs.driver.Driver.new.Goals as goal

pub returns-in_default-clause-back : goal.returns-in_default-clause-back
returns-in_default-clause-back g c = untouched g.D.Disk.tells g.D.Disk.meter g.D.Disk.image c.args.volume.now.layout (nodes_of c.args.volume.now.clusters) c.args.disks.items c.requires.count

pub returns-in_default-new_export-clause-back : goal.returns-in_default-new_export-clause-back
returns-in_default-new_export-clause-back g c = untouched g.D.Disk.tells g.D.Disk.meter g.D.Disk.image c.args.volume.now.layout (nodes_of c.args.volume.now.clusters) c.args.disks.items c.requires.count

pub format_all-requires-clause-nodes : goal.format_all-requires-clause-nodes
format_all-requires-clause-nodes g c = subst (AllByRecursion IsNode) (sym (c.as_slice.ensures.value ∙ c.in-Ok.ensures.nodes)) c.new_parts.ensures.proper

pub format_all-requires-clause-count : goal.format_all-requires-clause-count
format_all-requires-clause-count g c = c.requires.count ∙ ap length (sym (c.as_slice.ensures.value ∙ c.in-Ok.ensures.nodes))

pub returns-in-Ok-format_all-clause-made : goal.returns-in-Ok-format_all-clause-made
returns-in-Ok-format_all-clause-made g c =
    let layout : c.volume.inside.layout ≡ c.args.volume.now.layout = ap (λ (v : Volume). v.layout) c.volume.view_is in
    subst (λ (y : Layout). AreFormatted g.D.Disk.tells g.D.Disk.meter g.D.Disk.text g.D.Disk.image y (nodes_of c.args.volume.now.clusters) c.args.disks.items c.in-Ok-format_all.servers.items) layout
    (subst (λ (ns : List NodeSpec). AreFormatted g.D.Disk.tells g.D.Disk.meter g.D.Disk.text g.D.Disk.image c.volume.inside.layout ns c.args.disks.items c.in-Ok-format_all.servers.items) (c.as_slice.ensures.value ∙ c.in-Ok.ensures.nodes) c.in-Ok-format_all.ensures.made)

pub returns-in-Ok-format_all-clause-ready : goal.returns-in-Ok-format_all-clause-ready
returns-in-Ok-format_all-clause-ready g c =
    new-ready g.D.Disk.tells g.D.Disk.meter g.D.Disk.text g.D.Disk.image c.args.volume.now c.new_parts.ensures.rules c.args.disks.items c.requires.count _ c.in-Ok.ensures.volume (returns-in-Ok-format_all-clause-made g c)
    c.in-Ok.ensures.agendas c.in-Ok.ensures.count c.in-Ok.ensures.bins c.new-locks.ensures c.in-Ok-new_export.ensures.open

pub returns-in-Ok-format_all-clause-world : goal.returns-in-Ok-format_all-clause-world
returns-in-Ok-format_all-clause-world g c =
    new-is g.D.Disk.tells g.D.Disk.meter g.D.Disk.text g.D.Disk.image c.args.volume.now c.args.disks.items
    (record { servers = c.in-Ok-format_all.servers; export = c.in-Ok-new_export.export; locks = c.new-locks.result; lost = 0; log = c.new-log.result; bins = c.in-Ok.parts.bins }) c.in-Ok.parts.agendas.items (returns-in-Ok-format_all-clause-made g c)
    c.in-Ok.ensures.agendas c.in-Ok-new_export.ensures.export refl c.new-log.ensures

pub returns-in-Err-clause-back : goal.returns-in-Err-clause-back
returns-in-Err-clause-back g c =
    let layout : c.volume.inside.layout ≡ c.args.volume.now.layout = ap (λ (v : Volume). v.layout) c.volume.view_is in
    subst (λ (y : Layout). AreBack g.D.Disk.tells g.D.Disk.meter g.D.Disk.image y (nodes_of c.args.volume.now.clusters) c.args.disks.items c.in-Err.back.0.items) layout
    (subst (λ (ns : List NodeSpec). AreBack g.D.Disk.tells g.D.Disk.meter g.D.Disk.image c.volume.inside.layout ns c.args.disks.items c.in-Err.back.0.items) (c.as_slice.ensures.value ∙ c.in-Ok.ensures.nodes) c.in-Err.ensures.back)

pub returns-in-Ok-format_all-clause-held : goal.returns-in-Ok-format_all-clause-held
returns-in-Ok-format_all-clause-held g c =
    let v = c.args.volume.now in
    let ready = returns-in-Ok-format_all-clause-ready g c in
    let made = returns-in-Ok-format_all-clause-made g c in
    let row = c.in-Ok-format_all.servers.items in
    let at = faults_at g.D.Disk.meter c.args.disks.items (length (nodes_of c.in-Ok.parts.volume.clusters)) in
    let none : c.new-log.result.events ++ [] ≡ [] = append-nil c.new-log.result.events ∙ c.new-log.ensures in
    let servers : AllByRecursion (IsServer v) row = subst (λ (u : Volume). AllByRecursion (IsServer u) row) c.in-Ok.ensures.volume ready.servers in (
      new-holds g.D.Disk.tells g.D.Disk.meter g.D.Disk.text g.D.Disk.image v c.new_parts.ensures.rules c.args.disks.items _ _ _ ready.numbers
          (ap (λ (u : Volume). map (λ (n : NodeSpec). n.sid) (nodes_of u.clusters)) c.in-Ok.ensures.volume) made c.new-log.ensures,
      new-coherence g.D.Disk.tells g.D.Disk.meter g.D.Disk.text g.D.Disk.image c.fresh.ensures v c.new_parts.ensures.rules c.args.disks.items _ (returns-in-Ok-format_all-clause-world g c) c.in-Ok.parts.agendas.items c.in-Ok.ensures.agendas row servers made
          c.in-Ok.parts.volume c.in-Ok.ensures.volume,
      (λ exact. record {
        volume = ap (λ (s : Export). s.volume) c.in-Ok-new_export.ensures.export ∙ sym c.in-Ok.ensures.volume;
        bytes = λ told. subst (λ (h : List Event). AreBytes (facts h)) (sym none) bytes-none;
        keeps = λ few. subst (λ (h : List Event). KeepsLog g.D.Disk.tells g.D.Disk.meter g.D.Disk.image at c.in-Ok-new_export.export h) (sym none)
            ([], no-calls g.D.Disk.tells, c.in-Ok-new_export.ensures.stands at);
      }),
      record { short = omega arith },
    )

pub returns-in-Ok-format_all-clause-counted : goal.returns-in-Ok-format_all-clause-counted
returns-in-Ok-format_all-clause-counted g c = counts-none _ (returns-in-Ok-format_all-clause-ready g c) c.in-Ok-new_export.ensures.journal

-- there is room for the disks of the nodes, and for one more
pub invariant_of-result : goal.invariant_of-result
invariant_of-result g c =
    let nodes = c.as_slice.ensures.value ∙ c.in-Ok.ensures.nodes in
    let servers = c.in-Ok-format_all.servers in
    let many = as-many g.D.Disk.tells g.D.Disk.meter g.D.Disk.text g.D.Disk.image c.volume.inside.layout c.as_slice.result.now c.args.disks.items servers.items (c.requires.count ∙ ap length (sym nodes)) c.in-Ok-format_all.ensures.made in
    let as_nodes = ap length nodes in
    let long = servers.ok.0 in
    let empty = c.in-Ok.ensures.empty in
    let room = c.in-Ok.ensures.room in
    record { room = omega (arith, many, as_nodes, long, empty, room) }
