-- The export that kept things stand for, and the rules that these keep.
use Rattle.std.specs.Prelude.{ℕ, ◌≡◌, ◌+◌, ◌<◌, ◌≤◌, ◌==◌, Bool, true, false, cond, is_none, List, map, count_by, Option, Some, None, IsSome, All}
use Rattle.std.specs.List.{list_any}
use Rattle.std.specs.Option.{option_map, option_map_or}
use Rattle.std.specs.FinMap as maps
use Rattle.rz_events.specs.Volume.{Volume, nodes_of}
use Rattle.rz_events.specs.declared.keys.Key.{Key}
use Rattle.rz_events.specs.declared.files.FileInfo.{FileInfo}
use Rattle.rz_events.specs.declared.tree.TreeReply.{TreeReply}
use Rattle.rz_events.specs.declared.tree.TreeReply.TheVariants as told
use Rattle.rz_blocks.specs.declared.row.Row.{Row}
use Rattle.rz_blocks.specs.Marks.{is_marked, has_room}
use Rattle.rz_export_model.specs.Tree.{Tree, file_of}
use Rattle.rz_export_model.specs.Export.{Export, Block, Blocks, is_on, listed_at, spent}
use Rattle.rz_export.specs.declared.nodes.KeptNode.{KeptNode}
use Rattle.rz_export.specs.Nodes.{enrolments_of}

abbrev pub export_of : Volume → Tree → Blocks → List KeptNode → ℕ → Export
export_of volume tree blocks nodes last =
    record { volume = volume; tree = tree; blocks = blocks; enrolled = enrolments_of nodes; last = last }

-- whether the block of an entry is a published one of a live file whose mask names the node
abbrev pub lies_on : Tree → ℕ → Key × Block → Bool
lies_on t node e = option_map_or (is_on node) (listed_at t e.0 e.1) false

-- how many published blocks of live files name the node
abbrev pub used_in : Tree → Blocks → ℕ → ℕ
used_in t blocks node = count_by (lies_on t node) (maps.entries blocks)

-- each kept node has the count of its used cells
abbrev pub AreCounted : Tree → Blocks → List KeptNode → Type 0
AreCounted t blocks nodes = All (λ n. n.used ≡ used_in t blocks n.spec.sid) nodes

-- a node's list has the marks of the blocks that lie on the node
abbrev pub AreMarked : Tree → Blocks → List Row → Type 0
AreMarked t blocks marks =
    (node : ℕ) (key : Key) → is_marked marks node key ≡ option_map_or (λ b. lies_on t node (key, b)) (maps.get blocks key) false

-- where the live file of a number lies
abbrev pub lies_at : Tree → ℕ → Option (List ℕ)
lies_at t fid = option_map (λ info. info.places) (file_of t fid)

-- the lists of these nodes have room for the mark of the block
abbrev pub AreRoomy : List Row → List ℕ → Key → Type 0
AreRoomy marks places key = All (λ node. has_room marks node key ≡ true) places

-- each begun block has room in the lists of the nodes where its file lies
abbrev pub HaveRoom : Tree → Blocks → List Row → Type 0
HaveRoom t blocks marks =
    (key : Key) (b : Block) (places : List ℕ) → maps.get blocks key ≡ Some b → lies_at t key.fid ≡ Some places → AreRoomy marks places key

-- a begun block is one of a live file, and was begun with a number that is drawn
pub record IsBlock (t : Tree) (last : ℕ) (key : Key) (b : Block) : Type 0 where
  pub live : IsSome (file_of t key.fid)
  pub near : key.block < 1048576
  pub begun : 1 ≤ b.latest
  pub drawn : b.latest ≤ last

-- the rules of what an export keeps
pub record IsKept (volume : Volume) (t : Tree) (blocks : Blocks) (nodes : List KeptNode) (marks : List Row) (last : ℕ) : Type 0 where
  -- the kept nodes are those of the volume
  pub all_nodes : map (λ n. n.spec) nodes ≡ nodes_of volume.clusters
  pub counted : AreCounted t blocks nodes
  pub marked : AreMarked t blocks marks
  pub room : HaveRoom t blocks marks
  -- no object has a number above the one that was made last
  pub made : (fid : ℕ) → t.made < fid → maps.get t.objects fid ≡ None
  pub each_block : (key : Key) (b : Block) → maps.get blocks key ≡ Some b → IsBlock t last key b

-- whether a node is one of these
abbrev pub is_place : ℕ → List ℕ → Bool
is_place node places = list_any (λ n. n == node) places

-- the export after a new fence for a loss of the node, where a number is left
abbrev pub with_fence : Export → ℕ → ℕ → Export
with_fence s node loss =
    cond (is_none (spent s))
    (record s { enrolled = maps.insert s.enrolled node (record { loss = loss; fence = s.last + 1 }); last = s.last + 1 })
    s

-- the file that a reply says to be gone
abbrev pub gone_in : TreeReply → Option FileInfo
gone_in (told.Gone gone) = gone
gone_in _ = None

-- the file that a reply says to be gone lay where the reply says
abbrev pub LayThere : Tree → TreeReply → Type 0
LayThere t r = (info : FileInfo) → gone_in r ≡ Some info → lies_at t info.fid ≡ Some info.places
