-- What is true beside the log of the nodes' disks, where disks tell their texts.
use Rattle.std.specs.Prelude.{ℕ, ◌≡◌, List, [], ◌∷◌, ◌++◌}
use Rattle.std.specs.List.{AllByRecursion}
use Rattle.rz_disk.specs.UnderFuse.{UnderFuse}
use Rattle.rz_events.specs.Volume.{Volume}
use Rattle.rz_events.specs.declared.keys.Actor.{Actor}
use Rattle.rz_events.specs.declared.events.Word.TheVariants.{Node}
use Rattle.rz_events.specs.declared.events.Event.{Event}
use Rattle.rz_node.specs.View.{NodeView}
use Rattle.rz_core.specs.History.{Facts, facts, of_word}
use Rattle.rz_core.specs.Tied.{IsNode}
use Rattle.rz_operation.specs.Machine.{Machine}
use Rattle.rz_node_laws.specs.Images.{AreImages, IsImaged, geometry_in}
use Rattle.rz_block_laws.specs.Turns.{HasInHand, IsTrueActor}
use Rattle.rz_nodes.specs.declared.formatting.Server.{Server}
use Rattle.rz_driver_nodes.specs.Servers.{state_in}

-- a disk in a fuse has the images of the disk
abbrev pub fused_image : {D : Type 0} → (D → List ℕ → Type 0) → UnderFuse D → List ℕ → Type 0
fused_image image f = image f.disk

-- Nodes.

-- the images of its disk are those of its state
pub record HasImages {D : Type 0} (image : D → List ℕ → Type 0) (v : Volume) (f : Facts) (n : ℕ) (node : NodeView D) : Type 0 where
  pub geometry : node.geometry ≡ geometry_in v n
  pub images : IsImaged v f n node.state node.geometry (image node.disk)

-- so are those of each node
abbrev pub AreImaged : {D : Type 0} → (D → List ℕ → Type 0) → Volume → Facts → List (Server D) → Type 0
AreImaged {D = D} image v f servers = AllByRecursion (λ (s : Server D). HasImages image v f s.sid s.node) servers

-- What a message to node n keeps, behind the log of all earlier runs.

abbrev pub NodeStaysCoherent : {D : Type 0} → (D → List ℕ → Type 0) → Actor → ℕ → Machine → Machine → NodeView D → NodeView D → List Event → List Event → Type 0
NodeStaysCoherent image by n m m' node node' h h' =
    (v : Volume) (old : List Event) → IsTrueActor v (facts (h ++ old)) by m → HasImages image v (facts (h ++ old)) n node
    → HasInHand v (facts (h' ++ old)) m' × HasImages image v (facts (h' ++ old)) n node'

-- where it ends for want of memory, the node's state is as before
abbrev pub NodeUnchanged : {D : Type 0} → (D → List ℕ → Type 0) → Actor → ℕ → Machine → NodeView D → NodeView D → List Event → Type 0
NodeUnchanged image by n m node node' h =
    (v : Volume) (old : List Event) → IsTrueActor v (facts (h ++ old)) by m → HasImages image v (facts (h ++ old)) n node
    → HasImages image v (facts (h ++ old)) n node' × (node'.state ≡ node.state)

-- What an order to a node keeps, whatever the facts are.
abbrev pub KeepsImages : {D : Type 0} → (D → List ℕ → Type 0) → Server D → Server D → Type 0
KeepsImages image s s' = (v : Volume) (f : Facts) → HasImages image v f s.sid s.node → HasImages image v f s'.sid s'.node

-- And of all nodes, with the log, behind that of all earlier runs.

abbrev pub NodesStayCoherent : {D : Type 0} → (D → List ℕ → Type 0) → List (Server D) → List Event → List (Server D) → List Event → Type 0
NodesStayCoherent image xs h ys h' = (v : Volume) (old : List Event) → AreImaged image v (facts (h ++ old)) xs → AreImaged image v (facts (h' ++ old)) ys

abbrev pub NodesUnchanged : {D : Type 0} → (D → List ℕ → Type 0) → List (Server D) → List Event → List (Server D) → Type 0
NodesUnchanged image xs h ys = (v : Volume) (old : List Event) → AreImaged image v (facts (h ++ old)) xs → AreImaged image v (facts (h ++ old)) ys × (state_in ys ≡ state_in xs)

-- Where a play ended.

-- the node has the state that its word of the log gives, and its disk the images of that
pub record IsServerRight {D : Type 0} (image : D → List ℕ → Type 0) (v : Volume) (h : List Event) (s : Server D) : Type 0 where
  pub images : HasImages image v (facts h) s.sid s.node
  pub state : IsNode (facts h) (of_word (Node s.sid) h) s.node.state

-- Of the disks that are handed back, one for each node in order: unless the node is lost each image stands for its fence and the
-- records that it holds by the log, an undecided change with or without.
abbrev pub AreDisksImaged : {D : Type 0} → (D → List ℕ → Type 0) → Volume → List ℕ → List D → List Event → Type 0
AreDisksImaged image v [] [] h = Unit {0}
AreDisksImaged image v (n ∷ numbers) (d ∷ disks) h =
    AreImages v (facts h) (of_word (Node n) h) n (geometry_in v n) (image d) × AreDisksImaged image v numbers disks h
AreDisksImaged image v _ _ h = ⊥
