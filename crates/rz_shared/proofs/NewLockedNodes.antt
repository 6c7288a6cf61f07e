-- The locked nodes of a new cluster.
use Rattle.std.proofs.Common.{◌≡◌, ℕ, suc, Bool, List, [], ◌∷◌, length, map, refl, ap, subst, arith}
use Rattle.std.specs.Prelude.{IsTrue}
use Rattle.std.specs.List.{AllZip}
use Rattle.mj_angles.specs.declared.layout.Layout.{Layout}
use Rattle.rz_disk.specs.Meter.{Meter, faults}
use Rattle.rz_disk.specs.UnderFuse.{UnderFuse}
use Rattle.rz_events.specs.Volume.{Volume, IsVolume, nodes_of}
use Rattle.rz_events.specs.declared.files.NodeSpec.{NodeSpec}
use Rattle.rz_events.specs.declared.events.Word.TheVariants.{Node}
use Rattle.rz_events.specs.declared.events.Event.{Event}
use Rattle.rz_chronicle.specs.Rules.{WordTokenView}
use Rattle.rz_chronicle.specs.Dealing.{new_word_token}
use Rattle.rz_chronicle.specs.Keys.{sids_of}
use Rattle.rz_chronicle.specs.Kinds.{keeps_legal, volume_in}
use Rattle.rz_log_laws.specs.Beside.{IsBeginning}
use Rattle.rz_node_laws.specs.Laws.{IsFreshLaw}
use Rattle.rz_nodes.specs.declared.formatting.Server.{Server}
use Rattle.rz_nodes.specs.Formatted.{AreFormatted, AreBack, IsBack}
use Rattle.rz_nodes.proofs.FormatLemmas.{same-back}
use Rattle.rz_nodes.proofs.Rowwise.{zip-same}
use Rattle.rz_shared.specs.Seating.{IsNodeReady, unfused}
use Rattle.rz_shared.proofs.Readiness.{ready-all}

module _ {D : Type 0} (tells : Bool) (meter : D → Meter) (image : D → List ℕ → Type 0) where
  -- disks that nobody touched
  pub untouched : (layout : Layout) (nodes : List NodeSpec) (disks : List D) → length disks ≡ length nodes → AreBack tells meter image layout nodes disks disks
  untouched layout nodes disks count = zip-same (IsBack tells meter image layout) nodes disks count (same-back tells meter image layout)

  -- all nodes of the book's volume are ready
  pub all-ready : (text : D → List ℕ) (kind : List ℕ) (earlier : List Event) → earlier ≡ [] → (IsTrue (keeps_legal kind) → IsTrue tells) → IsBeginning (volume_in kind) → IsFreshLaw (unfused image) → (first : ℕ → ℕ) (v : Volume) (layout : Layout)
      (nodes : List NodeSpec) (disks : List D) (servers : List (Server (UnderFuse D))) (word_tokens : List WordTokenView) → v ≡ volume_in kind → IsVolume v → layout ≡ v.layout
      → nodes ≡ nodes_of v.clusters → length disks ≡ length (nodes_of v.clusters) → map first (sids_of v) ≡ map (λ (d : D). faults (meter d)) disks → AreFormatted tells meter text image layout nodes disks servers → word_tokens ≡ map (λ k. new_word_token (Node k)) (sids_of v)
      → AllZip (IsNodeReady tells meter image kind earlier first) servers word_tokens
  all-ready text kind earlier none telling begins new first v layout nodes disks servers word_tokens same rules layout_is nodes_are count had made word_tokens_are =
      let w : Volume = volume_in kind in
      let here : AreFormatted tells meter text image v.layout (nodes_of v.clusters) disks servers =
      subst (λ (ns : List NodeSpec). AreFormatted tells meter text image v.layout ns disks servers) nodes_are
      (subst (λ (l : Layout). AreFormatted tells meter text image l nodes disks servers) layout_is made) in
      ready-all tells meter text image kind earlier none telling begins new first
      (subst IsVolume same rules) disks servers word_tokens
      (subst (λ (u : Volume). length disks ≡ length (nodes_of u.clusters)) same count)
      (subst (λ (u : Volume). map first (sids_of u) ≡ map (λ (d : D). faults (meter d)) disks) same had)
      (subst (λ (u : Volume). AreFormatted tells meter text image u.layout (nodes_of u.clusters) disks servers) same here)
      (subst (λ (u : Volume). word_tokens ≡ map (λ k. new_word_token (Node k)) (sids_of u)) same word_tokens_are)

  -- as many nodes are made as there are
  pub made-length : (text : D → List ℕ) (layout : Layout) (nodes : List NodeSpec) (disks : List D) (servers : List (Server (UnderFuse D))) → length disks ≡ length nodes → AreFormatted tells meter text image layout nodes disks servers → length servers ≡ length nodes
  made-length text layout [] [] [] count all = refl
  made-length text layout [] [] (s ∷ servers) count all = absurd all
  made-length text layout [] (d ∷ disks) servers count all = absurd (omega (arith, count))
  made-length text layout (n ∷ nodes) [] servers count all = absurd (omega (arith, count))
  made-length text layout (n ∷ nodes) (d ∷ disks) [] count all = absurd all
  made-length text layout (n ∷ nodes) (d ∷ disks) (s ∷ servers) count all = ap suc (made-length text layout nodes disks servers (omega (arith, count)) all.1)
