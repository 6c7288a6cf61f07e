-- An opened node behind its lock.
use Rattle.std.proofs.Common.{ℕ, ◌≡◌, List, refl, sym, ◌∙◌, ap, subst, arith}
use Rattle.rz_disk.specs.Meter.{Meter}
use Rattle.rz_events.specs.declared.events.Word.TheVariants.{Node}
use Rattle.mj_angles.specs.Layout.{bsize_of}
use Rattle.rz_cells_slots.specs.declared.geometry.Geometry.{Geometry}
use Rattle.rz_cells_slots.specs.Held.{Records}
use Rattle.rz_cells_slots.specs.Stands.{StandsFor}
use Rattle.rz_node_model.specs.States.{NodeState, opened as opened_node}
use Rattle.rz_node.specs.HeldOnDisk.{IsHeldOnDisk}
use Rattle.std.specs.Prelude.{Bool}
use Rattle.rz_core.specs.History.{Facts, facts, of_word}
use Rattle.rz_core.specs.NodeRows.{IsNodeOf}
use Rattle.rz_core.specs.Tied.{IsNode}
use Rattle.rz_node_laws.specs.Images.{IsImaged, geometry_in}
use Rattle.rz_chronicle.specs.Kinds.{volume_in}
use Rattle.rz_nodes.specs.Formatted.{geometry_of}
use Rattle.rz_restart_laws.specs.Found.{StandsByLog}
use Rattle.rz_restart_laws.specs.Laws.{IsFoundLaw}
use Rattle.rz_store_opening.specs.Opened.{IsReadyLaw, IsOpenedLaw}

pub ready : {D : Type 0} (tells : Bool) (meter : D → Meter) (text : D → List ℕ) (image : D → List ℕ → Type 0) → IsFoundLaw image → IsReadyLaw tells meter text image
ready tells meter text image found kind here h old export nodes first s told opened back on same = record {
  word_token_is = refl;
  of_volume = opened.of_volume;
  geometry = opened.geometry;
  logged = λ keeps. (
    told,
    record {
      tied = subst (IsNode (facts old) (of_word (Node s.sid) old)) same (back.nodes_are s.sid opened.of_volume on);
      imaged = subst (λ (f : Facts). IsImaged (volume_in kind) f s.sid s.node.state s.node.geometry (image s.node.disk.disk)) (sym back.back.restart.facts_are)
          (subst (λ (g : Geometry). IsImaged (volume_in kind) (facts h) s.sid s.node.state g (image s.node.disk.disk)) (sym opened.geometry)
          (found (volume_in kind) h s.sid (text s.node.disk.disk) s.node.state s.node.disk.disk opened.found opened.settled));
    },
  );
  unarmed = opened.unarmed;
  count = opened.count;
}

pub opened : {D : Type 0} (tells : Bool) (meter : D → Meter) (text : D → List ℕ) (image : D → List ℕ → Type 0) → IsOpenedLaw tells meter text image
opened tells meter text image v h first spec losses disk s told is of_volume cells stands rose =
    let same : geometry_of v.layout spec ≡ geometry_in v s.sid = ap (λ (c : ℕ). record { layout = v.layout; bsize = bsize_of v.layout; node = spec.sid; cells = c }) (sym cells) ∙ ap (geometry_in v) (sym is.number) in
    let lost : s.node.state.losses ≡ losses = ap (λ (z : NodeState). z.losses) is.state in
    let own : text s.node.disk.disk ≡ text disk = is.same in
    record {
      of_volume = subst (IsNodeOf v) (sym is.number) of_volume;
      geometry = is.geometry ∙ same;
      found = record {
        logged = subst (λ (c : List ℕ). StandsByLog v h s.sid c) (sym own) (subst (λ (n : ℕ). StandsByLog v h n (text disk)) (sym is.number) stands);
        state = is.state ∙ ap (λ (l : ℕ). opened_node l s.node.state.fence s.node.state.held) (sym lost);
        stands = subst (λ (g : Geometry). (records : Records) × StandsFor g s.node.state.fence (text s.node.disk.disk) records) same (is.stands told);
        shows = subst (λ (g : Geometry). (records : Records) → StandsFor g s.node.state.fence (text s.node.disk.disk) records → IsHeldOnDisk s.node.state.held records) same (is.shows told);
      };
      settled = is.settled;
      unarmed = is.unarmed;
      count = (let there = ap first is.number in let more = is.count in omega (arith, there, more, rose));
    }
