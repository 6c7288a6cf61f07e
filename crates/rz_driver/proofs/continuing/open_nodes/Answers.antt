use Rattle.std.proofs.Common.{arith, ◌≡◌, ℕ, List, length, map, refl, sym, ◌∙◌, ap, subst}
use Rattle.std.specs.List.{AllByRecursion}
use Rattle.std.proofs.lemmas.List.{length-map}
use Rattle.mj_angles.specs.declared.layout.Layout.{Layout}
use Rattle.rz_events.specs.Volume.{Volume, IsNode, nodes_of}
use Rattle.rz_events.specs.declared.files.NodeSpec.{NodeSpec}
use Rattle.rz_metadata.specs.Enrolled.{loss_of}
use Rattle.rz_metadata.specs.Stands.{export_in}
use Rattle.rz_nodes.specs.Opened.{AreOpened, IsCause}
use Rattle.rz_driver.specs.Continued.{losses_of}
use Rattle.rz_driver.proofs.AgainLemmas.{kept-same, opened-many}
use Rattle.rz_driver.proofs.continuing.open_nodes.Goals as goal

pub returns-in_default-clause-refused : goal.returns-in_default-clause-refused
returns-in_default-clause-refused g c = record {
  nodes_back = c.args.nodes.items;
  back_are = c.with_journal.ensures;
  kept = kept-same g.D.Disk.meter g.D.Disk.text g.D.Disk.image c.args.nodes.items;
  cause = tt;
}

pub returns-in_default-losses-clause-refused : goal.returns-in_default-losses-clause-refused
returns-in_default-losses-clause-refused g c = record {
  nodes_back = c.args.nodes.items;
  back_are = c.with_journal-in_default-losses.ensures;
  kept = kept-same g.D.Disk.meter g.D.Disk.text g.D.Disk.image c.args.nodes.items;
  cause = tt;
}

pub open_all-requires-clause-nodes : goal.open_all-requires-clause-nodes
open_all-requires-clause-nodes g c = subst (AllByRecursion IsNode) (sym (c.as_slice-specs.ensures.value ∙ c.in-Ok.ensures.nodes)) c.new_parts.ensures.proper

pub open_all-requires-clause-count : goal.open_all-requires-clause-count
open_all-requires-clause-count g c = c.requires.count ∙ ap length (sym (c.as_slice-specs.ensures.value ∙ c.in-Ok.ensures.nodes))

pub open_all-requires-clause-losses : goal.open_all-requires-clause-losses
open_all-requires-clause-losses g c =
    ap length (c.as_slice-lost.ensures.value ∙ c.in-Ok-losses.ensures) ∙ length-map c.as_slice-specs.result.now (λ (n : NodeSpec). loss_of (export_in c.args.export) n.sid)

pub returns-in-Ok-open_all-clause-opened : goal.returns-in-Ok-open_all-clause-opened
returns-in-Ok-open_all-clause-opened g c =
    let v = c.args.volume.now in
    let specs : c.as_slice-specs.result.now ≡ nodes_of v.clusters = c.as_slice-specs.ensures.value ∙ c.in-Ok.ensures.nodes in
    let lost : c.as_slice-lost.result.now ≡ losses_of (export_in c.args.export) v =
    c.as_slice-lost.ensures.value ∙ c.in-Ok-losses.ensures ∙ ap (map (λ (n : NodeSpec). loss_of (export_in c.args.export) n.sid)) specs in
    let layout : c.volume.inside.layout ≡ v.layout = ap (λ (u : Volume). u.layout) c.volume.view_is in
    let P = λ (y : Layout) (ns : List NodeSpec) (ls : List ℕ). AreOpened g.D.Disk.tells g.D.Disk.meter g.D.Disk.text g.D.Disk.image y ns ls c.args.nodes.items c.in-Ok-open_all.servers.items in
    record {
      volume = c.in-Ok.ensures.volume;
      export_is = refl;
      made = subst (λ (y : Layout). P y (nodes_of v.clusters) (losses_of (export_in c.args.export) v)) layout
          (subst (λ (ns : List NodeSpec). P c.volume.inside.layout ns (losses_of (export_in c.args.export) v)) specs
          (subst (λ (ls : List ℕ). P c.volume.inside.layout c.as_slice-specs.result.now ls) lost c.in-Ok-open_all.ensures.made));
      agendas = c.in-Ok.ensures.agendas;
      count = c.in-Ok.ensures.count;
      bins = c.in-Ok.ensures.bins;
      locks = c.new-locks.ensures;
      turns = refl;
      lost = refl;
      events = c.new-log.ensures;
    }

pub returns-in-Err-clause-refused : goal.returns-in-Err-clause-refused
returns-in-Err-clause-refused g c =
    let v = c.args.volume.now in
    let specs : c.as_slice-specs.result.now ≡ nodes_of v.clusters = c.as_slice-specs.ensures.value ∙ c.in-Ok.ensures.nodes in
    let lost : c.as_slice-lost.result.now ≡ losses_of (export_in c.args.export) v =
    c.as_slice-lost.ensures.value ∙ c.in-Ok-losses.ensures ∙ ap (map (λ (n : NodeSpec). loss_of (export_in c.args.export) n.sid)) specs in
    let layout : c.volume.inside.layout ≡ v.layout = ap (λ (u : Volume). u.layout) c.volume.view_is in
    let P = λ (y : Layout) (ns : List NodeSpec) (ls : List ℕ). IsCause g.D.Disk.tells g.D.Disk.meter g.D.Disk.text g.D.Disk.image y ns ls c.args.nodes.items c.in-Err.back.items c.in-Err.refusal in
    record {
      nodes_back = c.in-Err.back.items;
      back_are = c.with_journal-in-Err.ensures;
      kept = c.in-Err.ensures.back;
      cause = subst (λ (y : Layout). P y (nodes_of v.clusters) (losses_of (export_in c.args.export) v)) layout
          (subst (λ (ns : List NodeSpec). P c.volume.inside.layout ns (losses_of (export_in c.args.export) v)) specs
          (subst (λ (ls : List ℕ). P c.volume.inside.layout c.as_slice-specs.result.now ls) lost c.in-Err.ensures.cause));
    }

-- there is room for the disks of the nodes, and for one more
pub invariant_of-result : goal.invariant_of-result
invariant_of-result g c =
    let specs = c.as_slice-specs.result.now in
    let f = λ (n : NodeSpec). loss_of (export_in c.args.export) n.sid in
    let nodes : specs ≡ nodes_of c.args.volume.now.clusters = c.as_slice-specs.ensures.value ∙ c.in-Ok.ensures.nodes in
    let lost : c.as_slice-lost.result.now ≡ map f specs = c.as_slice-lost.ensures.value ∙ c.in-Ok-losses.ensures in
    let servers = c.in-Ok-open_all.servers in
    let v = c.args.volume.now in
    let layout : c.volume.inside.layout ≡ v.layout = ap (λ (u : Volume). u.layout) c.volume.view_is in
    let P = λ (y : Layout) (ls : List ℕ). AreOpened g.D.Disk.tells g.D.Disk.meter g.D.Disk.text g.D.Disk.image y specs ls c.args.nodes.items servers.items in
    let made = subst (λ (y : Layout). P y (map f specs)) layout (subst (λ (ls : List ℕ). P c.volume.inside.layout ls) lost c.in-Ok-open_all.ensures.made) in
    let many = opened-many g.D.Disk.tells g.D.Disk.meter g.D.Disk.text g.D.Disk.image v f specs c.args.nodes.items servers.items (c.requires.count ∙ ap length (sym nodes)) made in
    let as_nodes = ap length nodes in
    let long = servers.ok.0 in
    let empty = c.in-Ok.ensures.empty in
    let room = c.in-Ok.ensures.room in
    record { room = omega (arith, many, as_nodes, long, empty, room) }
