-- When an event of a node's word is allowed. `w` has the events of that word, `o` those by the actor, `f` the permanent
-- facts, and `v` is the volume. No row reads another word.
use Rattle.std.specs.Prelude.{ℕ, Bool, true, ◌≡◌, ◌⊎◌, ◌<◌, ◌≤◌, ◌+◌, ◌==◌, List, [], ◌∷◌, Option, Some, None, cond, length, map}
use Rattle.std.specs.List.{AllByRecursion}
use Rattle.mj_angles.specs.Layout.{inverse_of}
use Rattle.rz_events.specs.Volume.{Volume, nodes_of}
use Rattle.rz_events.specs.declared.keys.Key.{Key}
use Rattle.rz_events.specs.declared.keys.Actor.{Actor}
use Rattle.rz_events.specs.declared.files.NodeSpec.{NodeSpec}
use Rattle.rz_events.specs.declared.files.FileInfo.{FileInfo}
use Rattle.rz_events.specs.declared.files.Listed.{Listed}
use Rattle.rz_events.specs.declared.records.Held.{Held}
use Rattle.rz_events.specs.declared.records.Change.{Change}
use Rattle.rz_events.specs.declared.records.Change.TheVariants as change
use Rattle.rz_events.specs.declared.tree.TreeCall.{TreeCall}
use Rattle.rz_events.specs.declared.tree.TreeReply.TheVariants as reply
use Rattle.rz_events.specs.declared.nodes.Phase.TheVariants.{Up, Down, Lost}
use Rattle.rz_events.specs.declared.ends.Why.{Why}
use Rattle.rz_events.specs.declared.ends.Why.TheVariants as why
use Rattle.rz_events.specs.declared.events.Event.{Event}
use Rattle.rz_events.specs.declared.events.Event.TheVariants as e
use Rattle.rz_node_model.specs.Versions.{IsAbove, Stands, IsPast, IsLesser, greatest, IsHeld}
use Rattle.rz_core.specs.History.{Facts, Begun, Has, IsPlace, IsWriter}
use Rattle.rz_core.specs.NodeWord.{phase, losses, last_fence, undecided, held, base_begun}
use Rattle.rz_core.specs.ExportRows.{IsLess}
use Rattle.rz_core.specs.Own.{since, before, is_next, fetched_at, HasDistinct, IsListing}

-- the pairs of cells of a node, of which each holds the records of one key
abbrev pub cells_among : List NodeSpec → ℕ → ℕ
cells_among [] n = 0
cells_among (spec ∷ specs) n = cond (spec.sid == n) spec.cells (cells_among specs n)

abbrev pub cells_of : Volume → ℕ → ℕ
cells_of v n = cells_among (nodes_of v.clusters) n

-- the volume has a node of this number
abbrev pub IsNodeOf : Volume → ℕ → Type 0
IsNodeOf v n = Stands n (map (λ (spec : NodeSpec). spec.sid) (nodes_of v.clusters))

-- the key is one of these
abbrev pub IsAmong : Key → List Key → Type 0
IsAmong key [] = ⊥
IsAmong key (a ∷ keys) = (a ≡ key) ⊎ IsAmong key keys

-- each key is less than those after it
abbrev pub IsRising : List Key → Type 0
IsRising [] = Unit {0}
IsRising (a ∷ keys) = AllByRecursion (λ b. IsLess a b) keys × IsRising keys

-- fewer keys than cells are held: all that are held are among these
pub record HasRoom (v : Volume) (f : Facts) (w : List Event) (n : ℕ) : Type 0 where
  pub keys : List Key
  pub all : (key : Key) → IsHeld (held f w key) → IsAmong key keys
  pub few : length keys < cells_of v n

-- as many keys as cells are held: these, which are distinct
pub record IsFull (v : Volume) (f : Facts) (w : List Event) (n : ℕ) : Type 0 where
  pub keys : List Key
  pub distinct : IsRising keys
  pub all : AllByRecursion (λ key. IsHeld (held f w key)) keys
  pub many : length keys ≡ cells_of v n

-- a cell is there for a record of the key
abbrev pub HasCell : Volume → Facts → List Event → ℕ → Key → Type 0
HasCell v f w n key = IsHeld (held f w key) ⊎ HasRoom v f w n

-- Keeps.

-- the actor began the write of the key with this stamp, and the node has this position of its file
pub record IsWriting (f : Facts) (by : Actor) (node : ℕ) (key : Key) (stamp position : ℕ) : Type 0 where
  pub writer : (b : Begun) × IsWriter f by key stamp b
  pub place : IsPlace f key.fid position node

-- what a writer's record stands on, whatever is held
pub record IsKeep (f : Facts) (w : List Event) (by : Actor) (node : ℕ) (key : Key) (stamp position : ℕ) : Type 0 where
  pub up : phase w ≡ Up
  pub fenced : last_fence w < stamp
  pub writing : IsWriting f by node key stamp position

pub record KeepRow (v : Volume) (f : Facts) (w : List Event) (by : Actor) (node : ℕ) (key : Key) (stamp position : ℕ) : Type 0 where
  pub keep : IsKeep f w by node key stamp position
  pub above : IsAbove stamp (held f w key)
  pub cell : HasCell v f w node key

-- Refills.

-- The actor replaced the node's disk under this fence; its newest `Next` came after that and answered this key with this
-- stamp; and enough distinct positions gave the record since. The node has this position of the file.
pub record IsRebuilding (v : Volume) (f : Facts) (o : List Event) (by : Actor) (node fence : ℕ) (key : Key) (stamp position : ℕ) : Type 0 where
  pub replaced : (loss : ℕ) × Has (before is_next o) (e.Replace by node loss fence)
  pub next : (m : ℕ) × (l : Listed) × IsListing o by m key l × (l.published.stamp ≡ stamp)
  pub enough : HasDistinct (inverse_of v.layout) (fetched_at key stamp (since is_next o))
  pub place : IsPlace f key.fid position node

-- what a rebuilder's record stands on, whatever is held: its fence is the node's own
pub record IsRefill (v : Volume) (f : Facts) (w o : List Event) (by : Actor) (node fence : ℕ) (key : Key) (stamp position : ℕ) : Type 0 where
  pub up : phase w ≡ Up
  pub fence_is : fence ≡ last_fence w
  pub rebuilding : IsRebuilding v f o by node fence key stamp position

pub record RefillRow (v : Volume) (f : Facts) (w o : List Event) (by : Actor) (node fence : ℕ) (key : Key) (stamp position : ℕ) : Type 0 where
  pub refill : IsRefill v f w o by node fence key stamp position
  pub absent : ¬ Stands stamp (held f w key)
  pub dated : ¬ IsPast (base_begun f) stamp (held f w key)
  pub cell : HasCell v f w node key

-- Drops.

-- with a name, the actor took the file's last name away
abbrev pub HasGone : List Event → Actor → ℕ → Type 0
HasGone o by fid = (call : TreeCall) × (info : FileInfo) × Has o (e.Meta by call (reply.Gone (Some info))) × (info.fid ≡ fid)

pub record DropRow (f : Facts) (w o : List Event) (by : Actor) (key : Key) (stamp : ℕ) : Type 0 where
  pub up : phase w ≡ Up
  pub least : (at : Key) → at.fid ≡ key.fid → IsLess at key → held f w at ≡ []
  pub lesser : IsLesser stamp (held f w key)
  pub gone : HasGone o by key.fid

-- a change is done
abbrev pub DidRow : Volume → Facts → List Event → List Event → Actor → ℕ → Change → Type 0
DidRow v f w o by node (change.Keep key stamp position) = KeepRow v f w by node key stamp position
DidRow v f w o by node (change.Refill fence key stamp position) = RefillRow v f w o by node fence key stamp position
DidRow v f w o by node (change.Drop key stamp) = DropRow f w o by key stamp

-- a disk fault: where a change was tried, it is one that could be done
abbrev pub BrokeRow : Volume → Facts → List Event → List Event → Actor → ℕ → Option Change → Type 0
BrokeRow v f w o by node None = phase w ≡ Up
BrokeRow v f w o by node (Some c) = DidRow v f w o by node c

-- A record that is passed over. The event does not say whether it was kept or refilled.

pub record PassedKeepRow (f : Facts) (w : List Event) (by : Actor) (node : ℕ) (key : Key) (stamp now : ℕ) : Type 0 where
  pub keep : (position : ℕ) × IsKeep f w by node key stamp position
  pub now_is : now ≡ greatest (held f w key)
  pub above : stamp ≤ now

pub record PassedRefillRow (v : Volume) (f : Facts) (w o : List Event) (by : Actor) (node : ℕ) (key : Key) (stamp now : ℕ) : Type 0 where
  pub refill : (position : ℕ) × IsRefill v f w o by node (last_fence w) key stamp position
  pub now_is : now ≡ greatest (held f w key)
  pub past : Stands stamp (held f w key) ⊎ IsPast (base_begun f) stamp (held f w key)

abbrev pub PassedRow : Volume → Facts → List Event → List Event → Actor → ℕ → Key → ℕ → ℕ → Type 0
PassedRow v f w o by node key stamp now =
    PassedKeepRow f w by node key stamp now ⊎ PassedRefillRow v f w o by node key stamp now

-- Refusals: the cause, and the fence or loss that was told with it, or 0.
abbrev pub RefusedRow : Volume → Facts → List Event → ℕ → Why → ℕ → Type 0
RefusedRow v f w node why.Lost told = (phase w ≡ Lost) × (told ≡ 0)
RefusedRow v f w node why.Down told = (phase w ≡ Down) × (told ≡ 0)
RefusedRow v f w node why.Fenced told = (phase w ≡ Up) × ¬ (last_fence w ≡ 0) × (told ≡ last_fence w)
RefusedRow v f w node why.OtherFence told = (phase w ≡ Up) × (told ≡ last_fence w)
RefusedRow v f w node why.Full told = (phase w ≡ Up) × IsFull v f w node × (told ≡ 0)
RefusedRow v f w node why.NotLost told = ¬ (phase w ≡ Lost) × (told ≡ 0)
RefusedRow v f w node why.OtherLoss told = (phase w ≡ Lost) × (told ≡ losses w)
RefusedRow v f w node why.DiskFault told = (phase w ≡ Lost) × (told ≡ 0)
RefusedRow v f w node _ told = ⊥

-- Fetches.

-- the record of the write with stamp s
pub record IsRecord (f : Facts) (s : ℕ) (r : Held) (b : Begun) : Type 0 where
  pub found : f.wrote s ≡ Some b
  pub stamp : r.stamp ≡ s
  pub length : r.length ≡ length b.text
  pub base : r.base ≡ b.base

-- the record of this very stamp is told exactly where it is held
abbrev pub IsRecordTold : Facts → ℕ → List ℕ → Option Held → Type 0
IsRecordTold f s stamps None = ¬ Stands s stamps
IsRecordTold f s stamps (Some r) = Stands s stamps × ((b : Begun) × IsRecord f s r b)

pub record FetchRow (f : Facts) (w : List Event) (node : ℕ) (key : Key) (position s : ℕ) (answer : Option Held) : Type 0 where
  pub up : phase w ≡ Up
  pub place : IsPlace f key.fid position node
  pub told : IsRecordTold f s (held f w key) answer

-- nothing of the file is held
pub record VoidRow (f : Facts) (w : List Event) (fid : ℕ) : Type 0 where
  pub up : phase w ≡ Up
  pub none : (key : Key) → key.fid ≡ fid → held f w key ≡ []

-- Losses, starts and replacements.

abbrev pub ProbeRow : List Event → Option ℕ → Type 0
ProbeRow w None = ¬ (phase w ≡ Lost)
ProbeRow w (Some loss) = (phase w ≡ Lost) × (loss ≡ losses w)

pub record StartRow (w : List Event) (took : Bool) : Type 0 where
  pub down : phase w ≡ Down
  pub pending : took ≡ true → (c : Change) × (undecided w ≡ Some c)

-- a disk that tells its text fails to open by a disk fault alone, which is cause 2
pub record UnopenedRow (w : List Event) (cause : ℕ) : Type 0 where
  pub down : phase w ≡ Down
  pub cause_is : cause ≡ 2

pub record LoseRow (w : List Event) (loss : ℕ) : Type 0 where
  pub there : ¬ (phase w ≡ Lost)
  pub next : loss ≡ losses w + 1

pub record ReplaceRow (w o : List Event) (by : Actor) (node loss fence : ℕ) : Type 0 where
  pub lost : phase w ≡ Lost
  pub loss_is : loss ≡ losses w
  pub enrolled : Has o (e.Enroll by node loss fence)
