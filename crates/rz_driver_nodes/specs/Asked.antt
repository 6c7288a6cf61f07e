-- Nodes that were asked for records, and nothing else.
use Rattle.std.specs.Prelude.{ℕ, ◌≡◌, List}
use Rattle.std.specs.List.{AllZip}
use Rattle.rz_disk.specs.Images.{Within}
use Rattle.rz_disk.specs.UnderFuse.{UnderFuse}
use Rattle.rz_nodes.specs.declared.formatting.Server.{Server}
use Rattle.rz_driver_nodes.specs.Servers.{IsCalled}

-- Of one node: its disk holds what it held under the fence that it had, and has no image that it did not have.
pub record IsServerOnlyAsked {D : Type 0} (text : D → List ℕ) (image : D → List ℕ → Type 0) (s s' : Server D) : Type 0 where
  pub called : IsCalled s s'
  pub fence : s'.node.state.fence ≡ s.node.state.fence
  pub text_is : text s'.node.disk ≡ text s.node.disk
  pub within : Within (image s.node.disk) (image s'.node.disk)

-- so it is of each node in order
abbrev pub AreOnlyAsked : {D : Type 0} → (D → List ℕ) → (D → List ℕ → Type 0) → List (Server D) → List (Server D) → Type 0
AreOnlyAsked text image old new = AllZip (IsServerOnlyAsked text image) old new

abbrev pub fused_text : {D : Type 0} → (D → List ℕ) → UnderFuse D → List ℕ
fused_text text f = text f.disk
