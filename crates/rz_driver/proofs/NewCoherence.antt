-- A new driver is coherent.
use Rattle.std.proofs.Common.{◌≡◌, inl, ℕ, ◌-◌, ◌^◌, ◌<◌, Bool, IsTrue, List, [], ◌∷◌, ◌++◌, length, Option, None, refl, sym, ◌∙◌, ap, subst}
use Rattle.std.specs.FinMap as maps
use Rattle.std.specs.FinMap.{get-empty}
use Rattle.std.specs.List.{AllByRecursion}
use Rattle.mj_angles.specs.Layout.{bsize_of}
use Rattle.rz_disk.specs.Images.{Only}
use Rattle.rz_disk.specs.Meter.{Meter}
use Rattle.rz_disk.specs.UnderFuse.{UnderFuse}
use Rattle.rz_events.specs.Keys.{key_cmp}
use Rattle.rz_events.specs.Volume.{Volume, IsVolume, nodes_of}
use Rattle.rz_events.specs.declared.files.NodeSpec.{NodeSpec}
use Rattle.rz_events.specs.declared.records.Held.{Held}
use Rattle.rz_node_model.specs.Records.{IsWhole}
use Rattle.rz_node_model.specs.States.{NodeState, fresh}
use Rattle.rz_cells_slots.specs.declared.geometry.Geometry.{Geometry}
use Rattle.rz_cells_slots.specs.Held.{nothing}
use Rattle.rz_cells_slots.specs.Stands.{StandsFor}
use Rattle.rz_core.specs.History.{Facts, facts}
use Rattle.rz_core.specs.NodeRows.{cells_of}
use Rattle.rz_operation.specs.Machine.{Machine}
use Rattle.rz_play.specs.World.{World, new_world}
use Rattle.rz_play_laws.specs.Fine.{IsFine}
use Rattle.rz_node_laws.specs.Images.{IsImaged, geometry_in}
use Rattle.rz_node_laws.specs.Laws.{IsFreshLaw}
use Rattle.rz_driver_actors.specs.declared.actor_agenda.Agenda.{Agenda}
use Rattle.rz_nodes.specs.declared.formatting.Server.{Server}
use Rattle.rz_nodes.specs.Formatted.{AreFormatted, IsNodeFormatted, geometry_of}
use Rattle.rz_driver_nodes.specs.Images.{AreImaged, HasImages, fused_image}
use Rattle.rz_player.specs.Behind.{behind}
use Rattle.rz_driver_actors.specs.Hands.{HasTrueHand}
use Rattle.rz_node_laws.proofs.ImageCalls.{none-held}
use Rattle.rz_driver.specs.Coherence.{IsCoherent, KnowsLengths}
use Rattle.rz_driver_actors.specs.Agendas.{IsEmptyAgenda}
use Rattle.rz_driver_nodes.specs.Servers.{IsServer}

none-whole : IsWhole maps.empty
none-whole key is = let none = get-empty {X = List Held} key_cmp key in cc

new-fine : (v : Volume) → IsFine v [] (new_world v)
new-fine v = record {
  run = [];
  log_is = refl;
  legal = tt;
  nodes_are = λ n. record { phase_is = refl; fence_is = refl; losses_is = refl; held_is = none-held; whole = none-whole; undecided_is = refl };
  export_is = refl;
  own = λ by ok. tt;
  under_way = λ by ok. inl refl;
  todo = λ by. tt;
}

-- an actor without a machine has nothing in hand
no-hand : (v : Volume) (f : Facts) (o : Option Machine) → o ≡ None → HasTrueHand v f o
no-hand v f o none = subst (HasTrueHand v f) (sym none) tt

pub no-hands : (v : Volume) (f : Facts) (agendas : List Agenda) → AllByRecursion IsEmptyAgenda agendas → AllByRecursion (λ (s : Agenda). HasTrueHand v f s.machine) agendas
no-hands v f [] all = tt
no-hands v f (s ∷ agendas) all = (no-hand v f s.machine all.0.machine, no-hands v f agendas all.1)

-- the disks were formatted
module _ {D : Type 0} (tells : Bool) (meter : D → Meter) (text : D → List ℕ) (image : D → List ℕ → Type 0) (law : IsFreshLaw image) (told : IsTrue tells) (v : Volume) (f : Facts) where
  -- each image of one stands for nothing
  empty-of : {g : Geometry} (d : D) → Only (text d) (image d) → StandsFor g 0 (text d) nothing → (c : List ℕ) → image d c → StandsFor g 0 c nothing
  empty-of {g = g} d settled stands c is = subst (λ (b : List ℕ). StandsFor g 0 b nothing) (sym (settled c is)) stands

  new-has : (n : NodeSpec) (d : D) (s : Server (UnderFuse D)) → IsNodeFormatted tells meter text image v.layout (n, d) s → IsServer v s → HasImages (fused_image image) v f s.sid s.node
  new-has n d s new shape =
      let cells : n.cells ≡ cells_of v s.sid = ap (λ (g : Geometry). g.cells) (sym new.geometry) ∙ shape.cells in
      let as_in : geometry_of v.layout n ≡ geometry_in v s.sid = λ i. record { layout = v.layout; bsize = bsize_of v.layout; node = sym new.number i; cells = cells i } in
      let first : IsImaged v f s.sid fresh (geometry_of v.layout n) (image s.node.disk.disk) = law v f s.sid (geometry_of v.layout n) s.node.disk.disk (empty-of s.node.disk.disk new.settled (new.stands told)) in
      record {
        geometry = new.geometry ∙ as_in;
        images = subst (λ (g : Geometry). IsImaged v f s.sid s.node.state g (image s.node.disk.disk)) (sym new.geometry)
            (subst (λ (t : NodeState). IsImaged v f s.sid t (geometry_of v.layout n) (image s.node.disk.disk)) (sym new.state) first);
      }

  new-images : (nodes : List NodeSpec) (disks : List D) (row : List (Server (UnderFuse D))) → AreFormatted tells meter text image v.layout nodes disks row → AllByRecursion (IsServer v) row → AreImaged (fused_image image) v f row
  new-images nodes disks [] new all = tt
  new-images [] disks (s ∷ row) new all = absurd new
  new-images (n ∷ nodes) [] (s ∷ row) new all = absurd new
  new-images (n ∷ nodes) (d ∷ disks) (s ∷ row) new all = (new-has n d s new.0 all.0, new-images nodes disks row new.1 all.1)

pub new-coherence : {D : Type 0} (tells : Bool) (meter : D → Meter) (text : D → List ℕ) (image : D → List ℕ → Type 0) → IsFreshLaw image → (v : Volume) → IsVolume v → (disks : List D) (w : World) → w ≡ new_world v → (agendas : List Agenda) → AllByRecursion IsEmptyAgenda agendas
    → (row : List (Server (UnderFuse D))) → AllByRecursion (IsServer v) row → AreFormatted tells meter text image v.layout (nodes_of v.clusters) disks row → (u : Volume) → u ≡ v
    → IsTrue tells → length (w.log ++ []) < 2 ^ 64 - 1 → IsCoherent (fused_image image) u [] w agendas row
new-coherence tells meter text image law v rules disks w world agendas empty row servers new u volume told few =
    let f = facts (w.log ++ []) in
    let same : behind [] w ≡ new_world v = ap (behind []) world in
    subst (λ (x : Volume). IsCoherent (fused_image image) x [] w agendas row) (sym volume) (record {
      rules = rules;
      bytes = λ s b none. absurd (cc);
      fine = subst (IsFine v []) (sym same) (new-fine v);
      lengths = λ a. subst (λ (x : World). KnowsLengths (facts (w.log ++ [])) (x.agendas a).work) (sym world) tt;
      hands = no-hands v f agendas empty;
      disks = new-images tells meter text image law told v f (nodes_of v.clusters) disks row new servers;
    })
