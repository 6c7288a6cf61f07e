use Rattle.std.proofs.Common.{◌≡◌, ◌-◌, List, ℕ, length, map, ap, ◌∙◌}
use Rattle.std.proofs.lemmas.List.{length-map}
use Rattle.rz_events.specs.declared.files.NodeSpec.{NodeSpec}
use Rattle.rz_export_model.specs.Place.{place}
use Rattle.rz_events.specs.Volume.{nodes_of}
use Rattle.rz_export_model.specs.Export.{Export, new_places}
use Rattle.rz_export.specs.declared.nodes.KeptNode.{KeptNode}
use Rattle.rz_export.specs.Kept.{used_in}
use Rattle.rz_export.proofs.TreeStates.{free-kept}
use Rattle.rz_export.proofs.export.Export.new_places.Goals as goal

pub place-requires : goal.place-requires
place-requires c =
    let s = c.self.inside in
    let cells = λ (n : NodeSpec). n.cells - used_in s.tree s.blocks n.sid in
    let free : c.as_slice-2.result.now ≡ map cells (nodes_of s.volume.clusters) =
    c.as_slice-2.ensures.value ∙ c.in_ok-free.ensures ∙ ap (map (λ (k : KeptNode). k.spec.cells - k.used)) c.as_slice.ensures.value
    ∙ free-kept s.tree s.blocks s.nodes.items c.self.invariant.counted ∙ ap (map cells) c.self.invariant.all_nodes in
    ap length free ∙ length-map (nodes_of s.volume.clusters) cells

pub returns-clause-cid : goal.returns-clause-cid
returns-clause-cid c =
    let s = c.self.inside in
    let cells = λ (n : NodeSpec). n.cells - used_in s.tree s.blocks n.sid in
    let free : c.as_slice-2.result.now ≡ map cells (nodes_of s.volume.clusters) =
    c.as_slice-2.ensures.value ∙ c.in_ok-free.ensures ∙ ap (map (λ (k : KeptNode). k.spec.cells - k.used)) c.as_slice.ensures.value
    ∙ free-kept s.tree s.blocks s.nodes.items c.self.invariant.counted ∙ ap (map cells) c.self.invariant.all_nodes in
    c.place.ensures.cid ∙ ap (λ (fs : List ℕ). (place s.volume fs).cid) free ∙ ap (λ (x : Export). (new_places x).cid) c.self.view_is

pub returns-clause-places : goal.returns-clause-places
returns-clause-places c =
    let s = c.self.inside in
    let cells = λ (n : NodeSpec). n.cells - used_in s.tree s.blocks n.sid in
    let free : c.as_slice-2.result.now ≡ map cells (nodes_of s.volume.clusters) =
    c.as_slice-2.ensures.value ∙ c.in_ok-free.ensures ∙ ap (map (λ (k : KeptNode). k.spec.cells - k.used)) c.as_slice.ensures.value
    ∙ free-kept s.tree s.blocks s.nodes.items c.self.invariant.counted ∙ ap (map cells) c.self.invariant.all_nodes in
    c.place.ensures.places ∙ ap (λ (fs : List ℕ). (place s.volume fs).places) free ∙ ap (λ (x : Export). (new_places x).places) c.self.view_is
