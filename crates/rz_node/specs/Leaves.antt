-- What any call of a node leaves of a disk that tells its text: which images it may have then, and what they stand for.
-- `text` and `image` are from before the call, text' and image' from after it.
use Rattle.std.specs.Prelude.{ℕ, ◌≡◌, ◌⊎◌, Bool, true, false, List, Option, Some, None}
use Rattle.rz_disk.specs.Images.{Only, Within}
use Rattle.rz_events.specs.declared.keys.Key.{Key}
use Rattle.rz_events.specs.declared.records.Held.{Held}
use Rattle.rz_events.specs.declared.nodes.DropAnswer.{DropAnswer}
use Rattle.rz_events.specs.declared.nodes.DropAnswer.TheVariants as drop
use Rattle.rz_events.specs.declared.nodes.StartAnswer.{StartAnswer}
use Rattle.rz_events.specs.declared.nodes.StartAnswer.TheVariants as start
use Rattle.rz_events.specs.declared.nodes.ReplaceAnswer.{ReplaceAnswer}
use Rattle.rz_events.specs.declared.nodes.ReplaceAnswer.TheVariants as replace
use Rattle.rz_events.specs.declared.nodes.NodeAsk.{NodeAsk}
use Rattle.rz_events.specs.declared.nodes.NodeAsk.TheVariants as ask
use Rattle.rz_events.specs.declared.nodes.NodeAnswer.{NodeAnswer}
use Rattle.rz_events.specs.declared.nodes.NodeAnswer.TheVariants as answer
use Rattle.rz_record.specs.Slot.{Rec}
use Rattle.rz_node_model.specs.Records.{record_of, held_of, stamp_of, key_at}
use Rattle.rz_node_model.specs.States.{NodeState}
use Rattle.rz_node_model.specs.Versions.{kept, refilled, without}
use Rattle.rz_cells_slots.specs.declared.geometry.Geometry.{Geometry}
use Rattle.rz_cells_slots.specs.Held.{nothing}
use Rattle.rz_cells_slots.specs.Stands.{IsShut, StandsFor}
use Rattle.rz_node.specs.CrashOutcomes.{CrashOutcomes}
use Rattle.rz_node.specs.Change.{IsBranch}
use Rattle.rz_node.specs.Fetched.{IsFetchedFromDisk, IfHeld}
use Rattle.rz_node.specs.Spends.{keep_used, refill_used}

-- A change of a key's records, which were `before` and are then `after`: `Some` where it used the disk, and whether all
-- went well.
abbrev pub Changes : Geometry → ℕ → List ℕ → List ℕ → (List ℕ → Type 0) → (List ℕ → Type 0) → Option Bool → Key → List Held → List Held → Option Rec → Type 0
Changes g fence text text' image image' None key before after new = Within image image'
Changes g fence text text' image image' (Some done) key before after new = CrashOutcomes g fence text text' image' (Some done) key before after new

-- the lesser version of a block goes, or was to go
abbrev pub Drops : Geometry → NodeState → List ℕ → List ℕ → (List ℕ → Type 0) → (List ℕ → Type 0) → ℕ → DropAnswer → Type 0
Drops g s text text' image image' fid (drop.Dropped block stamp more) =
    CrashOutcomes g s.fence text text' image' (Some true) (key_at fid block) (held_of s.held (key_at fid block)) (without stamp_of stamp (held_of s.held (key_at fid block))) None
Drops g s text text' image image' fid (drop.DiskFault block stamp) =
    CrashOutcomes g s.fence text text' image' (Some false) (key_at fid block) (held_of s.held (key_at fid block)) (without stamp_of stamp (held_of s.held (key_at fid block))) None
Drops g s text text' image image' fid _ = Within image image'

-- The disk was opened: its text, which is as before and the one image, has the undecided change as the answer tells.
pub record Opened (g : Geometry) (s : NodeState) (text text' : List ℕ) (image' : List ℕ → Type 0) (took : Bool) : Type 0 where
  pub text_is : text' ≡ text
  pub settled : Only text' image'
  pub branch : IsBranch g s.fence text' s.undecided s.held took

abbrev pub Starts : Geometry → NodeState → List ℕ → List ℕ → (List ℕ → Type 0) → (List ℕ → Type 0) → StartAnswer → Type 0
Starts g s text text' image image' (start.Started took) = Opened g s text text' image' took
Starts g s text text' image image' _ = Within image image'

-- The disk was made anew, with this fence: it stands for nothing. Where that failed, each image is one from before, or
-- its header is shut, or it stands for nothing.
abbrev pub Renews : Geometry → ℕ → List ℕ → (List ℕ → Type 0) → (List ℕ → Type 0) → ReplaceAnswer → Type 0
Renews g fence text' image image' replace.Replaced = StandsFor g fence text' nothing × Only text' image'
Renews g fence text' image image' replace.DiskFault = (c : List ℕ) → image' c → image c ⊎ IsShut c ⊎ StandsFor g fence c nothing
Renews g fence text' image image' replace.NoMemory = (c : List ℕ) → image' c → image c ⊎ IsShut c ⊎ StandsFor g fence c nothing
Renews g fence text' image image' _ = Within image image'

-- What a call leaves of the disk of a node in this state, by its answer. The bins are those of a record that is kept; after
-- a fetch bins' have those of the record that was read.
abbrev pub LeavesDisk : Geometry → NodeState → NodeAsk → NodeAnswer → List ℕ → List ℕ → List ℕ → List ℕ → (List ℕ → Type 0) → (List ℕ → Type 0) → Type 0
LeavesDisk g s (ask.Keep head) (answer.Keep a) bins bins' text text' image image' =
    Changes g s.fence text text' image image' (keep_used a) head.key (held_of s.held head.key)
    (kept stamp_of head.base (record_of head) (held_of s.held head.key)) (Some record { head = head; bins = bins })
LeavesDisk g s (ask.Refill fence head) (answer.Refill a) bins bins' text text' image image' =
    Changes g s.fence text text' image image' (refill_used a) head.key (held_of s.held head.key)
    (refilled stamp_of (record_of head) (held_of s.held head.key)) (Some record { head = head; bins = bins })
LeavesDisk g s (ask.Fetch key position stamp) (answer.Fetch a) bins bins' text text' image image' =
    Within image image' × IfHeld a (λ told. IsFetchedFromDisk g s.fence text key told bins bins')
LeavesDisk g s (ask.Drop fid) (answer.Drop a) bins bins' text text' image image' = Drops g s text text' image image' fid a
LeavesDisk g s ask.Start (answer.Start a) bins bins' text text' image image' = Starts g s text text' image image' a
LeavesDisk g s (ask.Replace loss fence) (answer.Replace a) bins bins' text text' image image' = Renews g fence text' image image' a
LeavesDisk g s _ _ bins bins' text text' image image' = Within image image'
