use Rattle.std.proofs.Common.{◌≡◌, map, sym, ◌∙◌, ap, subst}
use Rattle.rz_events.specs.Volume.{Volume, nodes_of}
use Rattle.rz_events.specs.declared.files.NodeSpec.{NodeSpec}
use Rattle.rz_node_model.specs.Versions.{Stands}
use Rattle.rz_core.specs.NodeRows.{cells_of}
use Rattle.rz_chronicle.specs.Kinds.{volume_in}
use Rattle.rz_shared_locked.specs.Told.{HoldsKeys}
use Rattle.rz_store.specs.Store.{StoreView}
use Rattle.rz_store.specs.Nodes.{spec_in}
use Rattle.rz_store.proofs.Found.{found-there, found-cells, none-there}
use Rattle.rz_store.proofs.Wholes.{view}
use Rattle.rz_store.proofs.store.Store.room.Goals as goal

pub returns-in_default-clause-away : goal.returns-in_default-clause-away
returns-in_default-clause-away g c = λ keeps of up.
    (let v = volume_in g.J.Naming.kind in
    let none = ap (λ (w : Volume). spec_in w c.args.node) (sym c.volume.ensures) ∙ sym c.find_node.ensures ∙ c.in_default.is in
    subst (λ (z : StoreView). ¬ Stands c.args.node (map (λ (spec : NodeSpec). spec.sid) (nodes_of z.volume.clusters))) c.self.view_is
    (none-there c.args.node (nodes_of v.clusters) none)
    of)

pub keys_held-requires : goal.keys_held-requires
keys_held-requires g c = record {
  node = found-there c.args.node (nodes_of (volume_in g.J.Naming.kind).clusters) c.in-Some.spec
      (ap (λ (w : Volume). spec_in w c.args.node) (sym c.volume.ensures) ∙ sym c.find_node.ensures ∙ c.in-Some.is);
}

pub returns-clause-room : goal.returns-clause-room
returns-clause-room g c = λ keeps.
    (let K = g.J.Naming.kind in
    let there = ap (λ (w : Volume). spec_in w c.args.node) (sym c.volume.ensures) ∙ sym c.find_node.ensures ∙ c.in-Some.is in
    record {
      pairs = subst (λ (z : StoreView). c.in-Some.spec.cells ≡ cells_of z.volume c.args.node) c.self.view_is (found-cells c.args.node (nodes_of (volume_in K).clusters) c.in-Some.spec there);
      used = subst (λ (z : StoreView). HoldsKeys z.log c.args.node c.in-Some-keys_held.used) c.self.view_is (c.in-Some-keys_held.ensures.held keeps);
    })

pub returns-clause-same : goal.returns-clause-same
returns-clause-same g c = ap (view g.J.Naming.kind g.J.Naming.earlier) c.keys_held.ensures.same ∙ c.self.view_is
