use Rattle.std.proofs.Common.{◌≡◌, List, [], length, sym, ◌∙◌, ap, subst, arith, vec_len}
use Rattle.std.specs.Prelude.{is_some}
use Rattle.std.specs.List.{AllByRecursion}
use Rattle.std.proofs.lemmas.List.{length-map}
use Rattle.rz_events.specs.Volume.{Volume, IsNode, IsVolume, nodes_of}
use Rattle.rz_events.specs.declared.files.NodeSpec.{NodeSpec}
use Rattle.rz_events.specs.declared.events.Event.{Event}
use Rattle.rz_events.specs.declared.events.Word.TheVariants.{Export}
use Rattle.rz_core.specs.History.{facts, of_word}
use Rattle.rz_core.specs.Tied.{IsExport}
use Rattle.rz_export_model.specs.Export.{Export as State, new_export}
use Rattle.rz_metadata.specs.Stands.{export_in, Stands}
use Rattle.rz_restart_laws.specs.Calls.{changing_calls}
use Rattle.rz_chronicle.specs.Kinds.{volume_in}
use Rattle.rz_shared_locked.specs.LockedExports.{AreTextsOfBytes, faults_of}
use Rattle.rz_shared_locked.proofs.Behind.{keeps-honest}
use Rattle.rz_shared.proofs.NewLockedNodes.{untouched, all-ready, made-length}
use Rattle.rz_shared.proofs.cluster.Cluster.new.Goals as goal

pub returns-in_default-clause-back : goal.returns-in_default-clause-back
returns-in_default-clause-back g c = untouched g.D.Disk.tells g.D.Disk.meter g.D.Disk.image c.args.volume.layout (nodes_of c.args.volume.clusters) c.args.disks.items c.requires.count

pub format_all-requires-clause-nodes : goal.format_all-requires-clause-nodes
format_all-requires-clause-nodes g c = subst (AllByRecursion IsNode) (sym (c.as_slice.ensures.value ∙ c.in-Ok.ensures.nodes)) c.new_parts.ensures.proper

pub locked_node_all-locked_nodes-requires-clause-ready : goal.locked_node_all-locked_nodes-requires-clause-ready
locked_node_all-locked_nodes-requires-clause-ready g c =
    all-ready g.D.Disk.tells g.D.Disk.meter g.D.Disk.image g.D.Disk.text g.J.Naming.kind g.J.Naming.earlier g.met.J.Counting.anew
    (λ keeps. c.requires.tells (keeps-honest g.J.Naming.kind g.J.Naming.earlier c.room-fit.ensures.earlier g.met.J.Counting.anew keeps))
    (c.beginning.ensures (volume_in g.J.Naming.kind)) c.fresh.ensures g.J.Metering.first c.args.volume c.in-Ok.parts.layout c.as_slice.result.now c.args.disks.items c.in-Ok-format_all.servers.items c.args.desk.nodes.items
    c.requires.volume c.new_parts.ensures.rules c.in-Ok.ensures.layout (c.as_slice.ensures.value ∙ c.in-Ok.ensures.nodes) c.requires.count c.requires.counts c.in-Ok-format_all.ensures.made c.requires.nodes

pub locked_node_all-locked_nodes-requires-clause-room : goal.locked_node_all-locked_nodes-requires-clause-room
locked_node_all-locked_nodes-requires-clause-room g c =
    let same = made-length g.D.Disk.tells g.D.Disk.meter g.D.Disk.image g.D.Disk.text c.in-Ok.parts.layout c.as_slice.result.now c.args.disks.items c.in-Ok-format_all.servers.items
    (c.requires.count ∙ ap length (sym (c.as_slice.ensures.value ∙ c.in-Ok.ensures.nodes))) c.in-Ok-format_all.ensures.made in
    let nodes = ap length c.as_slice.ensures.value in
    let servers : vec_len c.in-Ok-format_all.servers ≡ length c.in-Ok-format_all.servers.items = c.in-Ok-format_all.servers.ok.0 in
    let parts : vec_len c.in-Ok.parts.nodes ≡ length c.in-Ok.parts.nodes.items = c.in-Ok.parts.nodes.ok.0 in
    let room = c.in-Ok.ensures.room.1 in
    (c.in-Ok.ensures.room.0, omega (arith, same, nodes, servers, parts, room))

-- the export of a new store, behind no earlier log

pub opened-requires-clause-volume : goal.opened-requires-clause-volume
opened-requires-clause-volume g c = ap (λ (s : State). s.volume) c.in-Ok.ensures.export ∙ c.requires.volume

pub opened-requires-clause-journal : goal.opened-requires-clause-journal
opened-requires-clause-journal g c = c.in-Ok.ensures.journal ∙ sym (ap is_some g.met.J.Counting.unkept)

pub opened-requires-clause-open : goal.opened-requires-clause-open
opened-requires-clause-open g c = c.in-Ok.ensures.open

pub opened-requires-clause-counted : goal.opened-requires-clause-counted
opened-requires-clause-counted g c = c.in-Ok.ensures.counted (faults_of g.J.Metering.journal)

pub opened-requires-clause-tied : goal.opened-requires-clause-tied
opened-requires-clause-tied g c = λ keeps.
    let v = volume_in g.J.Naming.kind in
    subst (λ (h : List Event). IsExport v (facts h) (of_word Export h) (export_in c.in-Ok.parts.metadata)) (sym g.met.J.Counting.anew)
    (subst (IsExport v (facts []) []) (sym c.in-Ok.ensures.export) (subst (λ (u : Volume). IsExport v (facts []) [] (new_export u 0)) (sym c.requires.volume) (c.beginning.ensures v (facts [])).1))

pub opened-requires-clause-stands : goal.opened-requires-clause-stands
opened-requires-clause-stands g c = λ keeps.
    subst (λ (h : List Event). Stands g.D.Disk.tells g.D.Disk.meter g.D.Disk.image (faults_of g.J.Metering.journal) c.in-Ok.parts.metadata (changing_calls h)) (sym g.met.J.Counting.anew)
    (c.in-Ok.ensures.stands (faults_of g.J.Metering.journal))

pub opened-requires-clause-bytes : goal.opened-requires-clause-bytes
opened-requires-clause-bytes g c = λ keeps. subst AreTextsOfBytes (sym g.met.J.Counting.anew) (λ s b is. absurd (cc))

pub of-room-requires-clause-locked_nodes : goal.of-room-requires-clause-locked_nodes
of-room-requires-clause-locked_nodes g c =
    let all = ap length c.in-Ok.ensures.nodes in
    let volume = ap (λ (v : Volume). length (nodes_of v.clusters)) c.requires.volume in
    let parts : vec_len c.in-Ok.parts.nodes ≡ length c.in-Ok.parts.nodes.items = c.in-Ok.parts.nodes.ok.0 in
    let room = c.in-Ok.ensures.unlocked.1 in
    (c.in-Ok.ensures.unlocked.0, omega (arith, all, volume, parts, room))

pub of-room-requires-clause-disks : goal.of-room-requires-clause-disks
of-room-requires-clause-disks g c =
    let all = ap length c.in-Ok.ensures.nodes in
    let volume = ap (λ (v : Volume). length (nodes_of v.clusters)) c.requires.volume in
    let parts : vec_len c.in-Ok.parts.nodes ≡ length c.in-Ok.parts.nodes.items = c.in-Ok.parts.nodes.ok.0 in
    let room = c.in-Ok.ensures.disks.1 in
    (c.in-Ok.ensures.disks.0, omega (arith, all, volume, parts, room))

pub of-room-requires-clause-home : goal.of-room-requires-clause-home
of-room-requires-clause-home g c =
    let same = made-length g.D.Disk.tells g.D.Disk.meter g.D.Disk.image g.D.Disk.text c.in-Ok.parts.layout c.as_slice.result.now c.args.disks.items c.in-Ok-format_all.servers.items
    (c.requires.count ∙ ap length (sym (c.as_slice.ensures.value ∙ c.in-Ok.ensures.nodes))) c.in-Ok-format_all.ensures.made in
    let nodes = ap length c.as_slice.ensures.value in
    let all = ap length c.in-Ok.ensures.nodes in
    let volume = ap (λ (v : Volume). length (nodes_of v.clusters)) c.requires.volume in
    let servers : vec_len c.in-Ok-format_all.servers ≡ length c.in-Ok-format_all.servers.items = c.in-Ok-format_all.servers.ok.0 in
    let home = c.in-Ok-format_all.ensures.room in
    (c.in-Ok-format_all.ensures.empty, λ fixed. omega (arith, same, nodes, all, volume, servers, home))

pub of-room-requires-clause-word_tokens : goal.of-room-requires-clause-word_tokens
of-room-requires-clause-word_tokens g c =
    let volume = ap (λ (v : Volume). length (nodes_of v.clusters)) c.requires.volume in
    let desk : vec_len c.args.desk.nodes ≡ length c.args.desk.nodes.items = c.args.desk.nodes.ok.0 in
    let fits = c.args.desk.nodes.ok.1 in
    let word_tokens = ap length c.requires.nodes ∙ (length-map _ _ ∙ length-map (nodes_of c.args.volume.clusters) (λ (n : NodeSpec). n.sid)) in
    let kept = c.locked_node_all-locked_nodes.ensures.home in
    (c.locked_node_all-locked_nodes.ensures.empty, omega (arith, volume, desk, fits, word_tokens, kept))

pub invariant_of-result : goal.invariant_of-result
invariant_of-result g c =
    let same = made-length g.D.Disk.tells g.D.Disk.meter g.D.Disk.image g.D.Disk.text c.in-Ok.parts.layout c.as_slice.result.now c.args.disks.items c.in-Ok-format_all.servers.items
    (c.requires.count ∙ ap length (sym (c.as_slice.ensures.value ∙ c.in-Ok.ensures.nodes))) c.in-Ok-format_all.ensures.made in
    let nodes = ap length c.as_slice.ensures.value in
    let all = ap length c.in-Ok.ensures.nodes in
    let volume = ap (λ (v : Volume). length (nodes_of v.clusters)) c.requires.volume in
    let servers : vec_len c.in-Ok-format_all.servers ≡ length c.in-Ok-format_all.servers.items = c.in-Ok-format_all.servers.ok.0 in
    let parts : vec_len c.in-Ok.parts.nodes ≡ length c.in-Ok.parts.nodes.items = c.in-Ok.parts.nodes.ok.0 in
    let count = c.locked_node_all-locked_nodes.ensures.count in (
      c.in-Ok.ensures.nodes ∙ ap (λ (v : Volume). nodes_of v.clusters) c.requires.volume,
      omega (arith, count, same, nodes, servers, parts),
      omega (arith, count, same, nodes, all, servers, volume),
      subst IsVolume c.requires.volume c.new_parts.ensures.rules,
      subst (λ (v : Volume). AllByRecursion IsNode (nodes_of v.clusters)) c.requires.volume c.new_parts.ensures.proper,
      c.in-Ok.ensures.layout ∙ ap (λ (v : Volume). v.layout) c.requires.volume,
    )
