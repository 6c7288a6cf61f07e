-- Where files lie.
use Rattle.std.specs.Prelude.{ℕ, ◌≡◌, ◌⊎◌, List, [], ◌∷◌, length, map, Some, slice_get}
use Rattle.std.specs.List.{AllByRecursion}
use Rattle.mj_angles.specs.Layout.{safe_of}
use Rattle.rz_events.specs.Volume.{Volume, Cluster, IsVolume}
use Rattle.rz_events.specs.declared.files.NodeSpec.{NodeSpec}
use Rattle.rz_events.specs.declared.events.Event.{Event}
use Rattle.rz_node_model.specs.Versions.{Stands}
use Rattle.rz_core.specs.History.{facts}
use Rattle.rz_core.specs.NodeRows.{IsNodeOf}
use Rattle.rz_core.specs.Legal.{IsLegalInRuns}

-- the cluster is one of these
abbrev pub HasCluster : List Cluster → Cluster → Type 0
HasCluster [] c = ⊥
HasCluster (d ∷ cs) c = (d ≡ c) ⊎ HasCluster cs c

-- no number stands twice among these
abbrev pub IsApart : List ℕ → Type 0
IsApart ns = (p q n : ℕ) → slice_get ns p ≡ Some n → slice_get ns q ≡ Some n → p ≡ q

-- the numbers of a cluster's nodes
abbrev pub sids_of : Cluster → List ℕ
sids_of c = map (λ (spec : NodeSpec). spec.sid) c.nodes

-- as many nodes as the layout has positions, no two alike, all of one cluster of the volume
pub record IsLaid (v : Volume) (places : List ℕ) : Type 0 where
  pub many : length places ≡ safe_of v.layout
  pub apart : IsApart places
  pub cluster : (c : Cluster) × HasCluster v.clusters c × AllByRecursion (λ n. Stands n (sids_of c)) places
  pub of_volume : AllByRecursion (IsNodeOf v) places

-- Each file that was made lies so.
abbrev pub AreLaid : Volume → Type 0
AreLaid v = IsVolume v → (h : List Event) → IsLegalInRuns v h
    → (fid : ℕ) (places : List ℕ) → (facts h).places fid ≡ Some places → IsLaid v places
