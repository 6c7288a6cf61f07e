-- When an event of the export's word is allowed. `w` has the events of that word, `o` those by the actor, `f` the
-- permanent facts, and `v` is the volume.
use Rattle.std.specs.Prelude.{ℕ, true, false, ◌≡◌, ◌⊎◌, ◌<◌, ◌≤◌, ◌+◌, ◌-◌, ◌^◌, List, Option, Some, None, length}
use Rattle.mj_angles.specs.Layout.{block_bytes_of}
use Rattle.rz_events.specs.Volume.{Volume}
use Rattle.rz_events.specs.declared.keys.Key.{Key}
use Rattle.rz_events.specs.declared.keys.Actor.{Actor}
use Rattle.rz_events.specs.declared.files.Published.{Published}
use Rattle.rz_events.specs.declared.files.Listed.{Listed}
use Rattle.rz_events.specs.declared.records.Change.TheVariants as change
use Rattle.rz_events.specs.declared.tree.TreeCall.{TreeCall}
use Rattle.rz_events.specs.declared.tree.TreeReply.{TreeReply}
use Rattle.rz_events.specs.declared.ends.Denial.{Denial}
use Rattle.rz_events.specs.declared.ends.Denial.TheVariants as denial
use Rattle.rz_events.specs.declared.export.Asked.{Asked}
use Rattle.rz_events.specs.declared.export.Asked.TheVariants as asked
use Rattle.rz_events.specs.declared.events.Event.{Event}
use Rattle.rz_events.specs.declared.events.Event.TheVariants as e
use Rattle.rz_export_model.specs.Tree.{file_of}
use Rattle.rz_export_model.specs.TreeCalls.{reply_to}
use Rattle.rz_export_model.specs.Export.{Export, file_blocks, new_places, is_mask}
use Rattle.rz_core.specs.History.{Facts, Begun, Has, IsPlace, IsWriter}
use Rattle.rz_core.specs.ExportWord.{is_live, last_drawn, latest, accepted, stamp_in, published, enrolled, or_new, export_of}
use Rattle.rz_events.specs.Masks.{HasBit}
use Rattle.rz_events.specs.Keys.{key_cmp}
use Rattle.std.specs.declared.cmp.Ordering.TheVariants.{Less}

-- a file may have this block
abbrev pub IsInFile : Key → Type 0
IsInFile key = key.block < file_blocks

-- the reply of an export to a call on names: a new file gets the places that are free at that time
abbrev pub names_reply : Export → TreeCall → TreeReply
names_reply s call = reply_to s.tree (new_places s).cid (new_places s).places call

pub record MetaRow (v : Volume) (f : Facts) (w : List Event) (call : TreeCall) (reply : TreeReply) : Type 0 where
  pub told : reply ≡ names_reply (export_of v f w) call

pub record BeginRow (v : Volume) (f : Facts) (w : List Event) (key : Key) (stamp base : ℕ) (text : List ℕ) : Type 0 where
  pub live : is_live w key.fid ≡ true
  pub block : IsInFile key
  pub short : length text ≤ block_bytes_of v.layout
  pub next : stamp ≡ last_drawn w + 1
  pub from : base ≡ stamp_in (accepted w key)

-- Denials.

-- the file of the key is not live
abbrev pub UnknownRow : List Event → Asked → Type 0
UnknownRow w (asked.Begin key) = is_live w key.fid ≡ false
UnknownRow w (asked.Publish key) = is_live w key.fid ≡ false
UnknownRow w (asked.Look key) = is_live w key.fid ≡ false
UnknownRow w (asked.Recheck key) = is_live w key.fid ≡ false
UnknownRow w (asked.Enroll node loss) = ⊥

-- the block is past the end of a live file
abbrev pub IsTooFar : List Event → Key → Type 0
IsTooFar w key = (is_live w key.fid ≡ true) × (file_blocks ≤ key.block)

abbrev pub TooFarRow : List Event → Asked → Type 0
TooFarRow w (asked.Begin key) = IsTooFar w key
TooFarRow w (asked.Look key) = IsTooFar w key
TooFarRow w (asked.Recheck key) = IsTooFar w key
TooFarRow w _ = ⊥

-- the last number was drawn
abbrev pub IsSpent : List Event → Type 0
IsSpent w = last_drawn w ≡ 2 ^ 64 - 1

-- the loss is above all that are enrolled of the node
abbrev pub IsNewLoss : List Event → ℕ → ℕ → Type 0
IsNewLoss w node loss = (by : Actor) (l fence : ℕ) → Has w (e.Enroll by node l fence) → l < loss

-- no number is left for a begin, or for an enrolment that needs a new one
abbrev pub SpentRow : List Event → Asked → Type 0
SpentRow w (asked.Begin key) = IsSpent w × (is_live w key.fid ≡ true) × IsInFile key
SpentRow w (asked.Enroll node loss) = IsSpent w × IsNewLoss w node loss
SpentRow w _ = ⊥

-- `kept` is the greatest loss enrolled of the node
pub record IsGreatestLoss (w : List Event) (node kept : ℕ) : Type 0 where
  pub enrolled : (by : Actor) × (fence : ℕ) × Has w (e.Enroll by node kept fence)
  pub top : (by : Actor) (l fence : ℕ) → Has w (e.Enroll by node l fence) → l ≤ kept

abbrev pub OldLossRow : List Event → Asked → ℕ → Type 0
OldLossRow w (asked.Enroll node loss) kept = IsGreatestLoss w node kept × (loss < kept)
OldLossRow w _ kept = ⊥

abbrev pub DeniedRow : List Event → Asked → Denial → Type 0
DeniedRow w question denial.UnknownFile = UnknownRow w question
DeniedRow w question denial.BlockTooFar = TooFarRow w question
DeniedRow w question denial.StampsSpent = SpentRow w question
DeniedRow w question (denial.OldLoss kept) = OldLossRow w question kept

-- Publishes.

-- the actor kept the write at a node and position, or was passed over there with it
abbrev pub HasKept : List Event → Actor → ℕ → Key → ℕ → ℕ → Type 0
HasKept o by n key s p = Has o (e.Did by n (change.Keep key s p)) ⊎ ((held : ℕ) × Has o (e.Passed by n key s held))

-- no enrolment of the node has a fence above s
abbrev pub IsFree : List Event → ℕ → ℕ → Type 0
IsFree w n s = (by : Actor) (loss fence : ℕ) → Has w (e.Enroll by n loss fence) → fence ≤ s

-- the actor began the write, and a quorum of nodes, at the positions of the mask, have its records
pub record IsPublishing (v : Volume) (f : Facts) (o : List Event) (by : Actor) (key : Key) (stamp mask : ℕ) : Type 0 where
  pub writer : (b : Begun) × IsWriter f by key stamp b
  pub quorum : is_mask v.layout mask ≡ true
  pub kept : (p : ℕ) → HasBit mask p → (n : ℕ) × IsPlace f key.fid p n × HasKept o by n key stamp p

-- the write may be published, as far as enrolments go: its file is live, and no later write of the key began
pub record IsPublishable (v : Volume) (f : Facts) (w o : List Event) (by : Actor) (key : Key) (stamp mask : ℕ) : Type 0 where
  pub live : is_live w key.fid ≡ true
  pub newest : latest w key ≤ stamp
  pub publishing : IsPublishing v f o by key stamp mask

pub record AcceptedRow (v : Volume) (f : Facts) (w o : List Event) (by : Actor) (key : Key) (stamp mask : ℕ) : Type 0 where
  pub publishable : IsPublishable v f w o by key stamp mask
  pub free : (p n : ℕ) → HasBit mask p → IsPlace f key.fid p n → IsFree w n stamp

-- `fence` is the greatest fence that was given to the node
pub record IsGreatestFence (w : List Event) (node fence : ℕ) : Type 0 where
  pub enrolled : (by : Actor) × (loss : ℕ) × Has w (e.Enroll by node loss fence)
  pub top : IsFree w node fence

-- the least position of the mask whose node was enrolled above the stamp, with that node's greatest fence
pub record BarredRow (v : Volume) (f : Facts) (w o : List Event) (by : Actor) (key : Key) (stamp mask position fence : ℕ) : Type 0 where
  pub publishable : IsPublishable v f w o by key stamp mask
  pub named : HasBit mask position
  pub barred : (n : ℕ) × IsPlace f key.fid position n × IsGreatestFence w n fence
  pub above : stamp < fence
  pub least : (p n : ℕ) → p < position → HasBit mask p → IsPlace f key.fid p n → IsFree w n stamp

abbrev pub PublishRow : Volume → Facts → List Event → List Event → Actor → Key → ℕ → ℕ → Option (ℕ × ℕ) → Type 0
PublishRow v f w o by key stamp mask None = AcceptedRow v f w o by key stamp mask
PublishRow v f w o by key stamp mask (Some refused) = BarredRow v f w o by key stamp mask refused.0 refused.1

-- a write of the key began later
pub record RevokedRow (f : Facts) (w : List Event) (by : Actor) (key : Key) (stamp later : ℕ) : Type 0 where
  pub live : is_live w key.fid ≡ true
  pub writer : (b : Begun) × IsWriter f by key stamp b
  pub later_is : later ≡ latest w key
  pub above : stamp < later

-- Looks.

pub record LookRow (f : Facts) (w : List Event) (key : Key) (answer : Option Published) : Type 0 where
  pub live : is_live w key.fid ≡ true
  pub block : IsInFile key
  pub told : answer ≡ published f w key

-- the actor looked the key up, or was told it by a `Next`
abbrev pub HasLooked : List Event → Actor → Key → Type 0
HasLooked o by key = ((answer : Option Published) × Has o (e.Look by key answer))
    ⊎ ((node : ℕ) × (after : Option Key) × (l : Listed) × Has o (e.Next by node after (Some l)) × (l.key ≡ key))

pub record RecheckRow (f : Facts) (w o : List Event) (by : Actor) (key : Key) (answer : Option Published) : Type 0 where
  pub live : is_live w key.fid ≡ true
  pub looked : HasLooked o by key
  pub told : answer ≡ published f w key

-- Enrolments, and the blocks that a node has to hold.

pub record EnrollRow (w o : List Event) (by : Actor) (node loss fence : ℕ) : Type 0 where
  pub probed : Has o (e.Probe by node (Some loss))
  pub top : (a : Actor) (l g : ℕ) → Has w (e.Enroll a node l g) → l ≤ loss
  pub fence_is : fence ≡ or_new (enrolled w node loss) (last_drawn w)

-- the published mask of the key, whose file is live, names the node
pub record IsListed (f : Facts) (w : List Event) (n : ℕ) (key : Key) (p : Published) : Type 0 where
  pub live : is_live w key.fid ≡ true
  pub told : Some p ≡ published f w key
  pub named : (q : ℕ) × HasBit p.mask q × IsPlace f key.fid q n

-- the order of keys
abbrev pub IsLess : Key → Key → Type 0
IsLess a b = key_cmp a b ≡ Less

abbrev pub IsAfter : Option Key → Key → Type 0
IsAfter None key = Unit {0}
IsAfter (Some a) key = IsLess a key

-- the least key after `after` that is listed, with its file
pub record ListedRow (v : Volume) (f : Facts) (w : List Event) (n : ℕ) (after : Option Key) (l : Listed) : Type 0 where
  pub listed : IsListed f w n l.key l.published
  pub later : IsAfter after l.key
  pub least : (key : Key) (p : Published) → IsAfter after key → IsLess key l.key → ¬ IsListed f w n key p
  pub file : file_of (export_of v f w).tree l.key.fid ≡ Some l.info

abbrev pub NextRow : Volume → Facts → List Event → ℕ → Option Key → Option Listed → Type 0
NextRow v f w n after None = (key : Key) (p : Published) → IsAfter after key → ¬ IsListed f w n key p
NextRow v f w n after (Some l) = ListedRow v f w n after l
