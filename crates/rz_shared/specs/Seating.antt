-- Nodes that are put behind locks.
use Rattle.std.specs.Prelude.{ℕ, ◌≡◌, ◌≤◌, Bool, IsTrue, List, None}
use Rattle.rz_disk.specs.Meter.{Meter, faults}
use Rattle.rz_disk.specs.UnderFuse.{UnderFuse}
use Rattle.rz_events.specs.declared.events.Word.TheVariants.{Node}
use Rattle.rz_events.specs.declared.events.Event.{Event}
use Rattle.rz_core.specs.NodeRows.{IsNodeOf}
use Rattle.rz_chronicle.specs.Kinds.{keeps_legal, volume_in}
use Rattle.rz_chronicle.specs.Rules.{WordTokenView}
use Rattle.rz_chronicle.specs.Dealing.{new_word_token}
use Rattle.rz_nodes.specs.declared.formatting.Server.{Server}
use Rattle.rz_node_laws.specs.Images.{geometry_in}
use Rattle.rz_shared_locked.specs.LockedNodes.{IsLogged, IsAwayByLog}
use Rattle.rz_shared.specs.declared.seating.AwayNode.{AwayNode}
use Rattle.rz_shared.specs.declared.seating.Arrived.{Arrived}
use Rattle.rz_shared.specs.declared.seating.Arrived.TheVariants.{Here, Away}

-- what a disk holds, taken out of its fuse
abbrev pub unfused : {D : Type 0} → (D → List ℕ → Type 0) → UnderFuse D → List ℕ → Type 0
unfused image fused = image fused.disk

-- A node of the volume on a disk that is not armed, and whose count of faults did not fall since it was `first` of that node; and the
-- token of its word, which has no event in this run. In a book that keeps its log legal the node is the one that the earlier log gives,
-- each image of its disk is one of its word, and the disk tells what it holds.
pub record IsNodeReady {D : Type 0} (tells : Bool) (meter : D → Meter) (image : D → List ℕ → Type 0) (kind : List ℕ) (earlier : List Event) (first : ℕ → ℕ) (s : Server (UnderFuse D)) (word_token : WordTokenView) : Type 0 where
  pub word_token_is : word_token ≡ new_word_token (Node s.sid)
  pub of_volume : IsNodeOf (volume_in kind) s.sid
  pub geometry : s.node.geometry ≡ geometry_in (volume_in kind) s.sid
  pub logged : IsTrue (keeps_legal kind) → IsTrue tells × IsLogged (unfused image) (volume_in kind) earlier s.sid s.node
  pub unarmed : s.node.disk.fuse ≡ None
  pub count : first s.sid ≤ faults (meter s.node.disk.disk)

-- A node of the volume whose disk is away, and the token of its word, which has no event in this run. In a book that keeps its log
-- legal it is down after the earlier log, which gives its fence and how many disks it lost.
pub record IsAwayReady (tells : Bool) (kind : List ℕ) (earlier : List Event) (a : AwayNode) (word_token : WordTokenView) : Type 0 where
  pub word_token_is : word_token ≡ new_word_token (Node a.sid)
  pub of_volume : IsNodeOf (volume_in kind) a.sid
  pub logged : IsTrue (keeps_legal kind) → IsTrue tells × IsAwayByLog earlier a.sid a.fence a.losses

-- either of them
abbrev pub IsArrivedReady : {D : Type 0} → Bool → (D → Meter) → (D → List ℕ → Type 0) → List ℕ → List Event → (ℕ → ℕ) → Arrived D → WordTokenView → Type 0
IsArrivedReady tells meter image kind earlier first (Here s) word_token = IsNodeReady tells meter image kind earlier first s word_token
IsArrivedReady tells meter image kind earlier first (Away a) word_token = IsAwayReady tells kind earlier a word_token
