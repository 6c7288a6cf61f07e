-- The rebuild of a node: its loss is enrolled and its disk replaced, and then each block that it has to hold is read and
-- refilled, in the order of keys.
use Rattle.std.specs.Prelude.{ℕ, Bool, ◌≡◌, ◌<◌, ◌≤◌, ◌==◌, ◌&&◌, ◌+◌, ◌-◌, ◌^◌, min, cond, List, [], ◌∷◌, length, Option, Some, None}
use Rattle.mj_angles.specs.declared.layout.Layout.{Layout}
use Rattle.mj_angles.specs.Layout.{safe_of, block_bytes_of}
use Rattle.rz_events.specs.declared.keys.Key.{Key}
use Rattle.rz_events.specs.declared.files.Listed.{Listed}
use Rattle.rz_events.specs.declared.ends.LeftWhy.{LeftWhy}
use Rattle.rz_events.specs.declared.ends.LeftWhy.TheVariants as left
use Rattle.rz_events.specs.declared.ends.ReadMark.{ReadMark}
use Rattle.rz_events.specs.declared.ends.ReadMark.TheVariants as mark
use Rattle.rz_events.specs.declared.ends.RebuildEnd.{RebuildEnd}
use Rattle.rz_events.specs.declared.ends.RebuildEnd.TheVariants as ends
use Rattle.rz_events.specs.declared.nodes.FetchAnswer.{FetchAnswer}
use Rattle.rz_events.specs.declared.nodes.FetchAnswer.TheVariants as fetch
use Rattle.rz_events.specs.declared.nodes.RefillAnswer.{RefillAnswer}
use Rattle.rz_events.specs.declared.nodes.RefillAnswer.TheVariants as refill
use Rattle.rz_events.specs.declared.nodes.ReplaceAnswer.{ReplaceAnswer}
use Rattle.rz_events.specs.declared.nodes.ReplaceAnswer.TheVariants as replace
use Rattle.rz_events.specs.declared.machines.ReaderAsk.{ReaderAsk}
use Rattle.rz_events.specs.declared.machines.ReaderAsk.TheVariants as reads
use Rattle.rz_events.specs.declared.machines.ReaderAnswer.{ReaderAnswer}
use Rattle.rz_events.specs.declared.machines.ReaderAnswer.TheVariants as answers
use Rattle.rz_events.specs.declared.machines.RebuildAsk.{RebuildAsk}
use Rattle.rz_events.specs.declared.machines.RebuildAsk.TheVariants as ask
use Rattle.rz_events.specs.declared.machines.RebuildAnswer.{RebuildAnswer}
use Rattle.rz_events.specs.declared.machines.RebuildAnswer.TheVariants as told
use Rattle.rz_client_model.specs.declared.reading.ReaderState.{ReaderState}
use Rattle.rz_client_model.specs.declared.reading.ReadStage.{ReadStage}
use Rattle.rz_client_model.specs.declared.reading.ReadStage.TheVariants.{Fetching}
use Rattle.rz_client_model.specs.Read.{none_fetched, reader_ask, reader_told, reader_end, IsTold, IsFetched}

-- what a rebuild has done so far: under which fence, the last key that is done, and how many were refilled and left
pub record Tally : Type 0 where
  pub fence : ℕ
  pub after : Option Key
  pub refilled : ℕ
  pub left : ℕ

-- what it is about to do
pub data RebuildState : Type 0 where
  Probing : RebuildState
  Enrolling : (loss : ℕ) → RebuildState
  Replacing : (loss fence : ℕ) → RebuildState
  -- it asks which block is next
  Listing : Tally → RebuildState
  -- it reads the block; `base` is that of the first record that came, or 0
  Copying : Tally → Listed → (base : ℕ) → ReaderState → RebuildState
  -- it refills the block with a record of this length and base
  Refilling : Tally → Listed → (length base : ℕ) → RebuildState
  -- it says that it leaves the block
  Leaving : Tally → Key → LeftWhy → RebuildState

-- a rebuild is under way, or has ended
pub data Rebuild : Type 0 where
  Going : RebuildState → Rebuild
  Ended : RebuildEnd → Rebuild

abbrev pub started : ℕ → Tally
started fence = record { fence = fence; after = None; refilled = 0; left = 0 }

-- one more; a count of 64 bits stands still at its end
abbrev pub one_more : ℕ → ℕ
one_more count = min (count + 1) (2 ^ 64 - 1)

-- one more key was refilled, or left
abbrev pub with_refilled : Tally → Key → Tally
with_refilled t key = record t { after = Some key; refilled = one_more t.refilled }

abbrev pub with_left : Tally → Key → Tally
with_left t key = record t { after = Some key; left = one_more t.left }

-- the position of the node among these, of which the first is position i
abbrev pub position_in : ℕ → ℕ → List ℕ → ℕ
position_in node i [] = i
position_in node i (n ∷ places) = cond (n == node) i (position_in node (i + 1) places)

abbrev pub position_of : ℕ → Listed → ℕ
position_of node l = position_in node 0 l.info.places

-- What it asks.

-- the read of a block has its look already, in what was listed
abbrev pub ask_to_copy : Key → ReaderAsk → RebuildAsk
ask_to_copy key (reads.Fetch position n stamp) = ask.Fetch key position n stamp
ask_to_copy key reads.Recheck = ask.Recheck key
ask_to_copy key _ = ask.End

abbrev pub rebuild_ask : ℕ → RebuildState → RebuildAsk
rebuild_ask n Probing = ask.Probe
rebuild_ask n (Enrolling loss) = ask.Enroll loss
rebuild_ask n (Replacing loss fence) = ask.Replace loss fence
rebuild_ask n (Listing t) = ask.Next t.after
rebuild_ask n (Copying t l base s) = ask_to_copy l.key (reader_ask s)
rebuild_ask n (Refilling t l length base) = ask.Refill t.fence l.key l.published.stamp length (position_of n l) base
rebuild_ask n (Leaving t key why) = ask.Left key why

-- The state after an answer.

abbrev pub after_probe : Option ℕ → Rebuild
after_probe None = Ended ends.NotLost
after_probe (Some loss) = Going (Enrolling loss)

-- want of memory is not told
abbrev pub after_replace : ℕ → ℕ → ReplaceAnswer → Rebuild
after_replace loss fence replace.Replaced = Going (Listing (started fence))
after_replace loss fence replace.NotLost = Ended ends.NotLost
after_replace loss fence (replace.OtherLoss now) = Ended (ends.OtherLoss now)
after_replace loss fence replace.DiskFault = Ended ends.DiskFault
after_replace loss fence replace.NoMemory = Going (Replacing loss fence)

-- no block is left to be rebuilt
abbrev pub end_of : Tally → RebuildEnd
end_of t = cond (t.left == 0) (ends.Rebuilt t.fence t.refilled) (ends.Left t.fence t.refilled t.left)

-- the block is read as a reader does, with the answer as its look
abbrev pub reader_of : Layout → Listed → ReaderState
reader_of layout l =
    record { layout = layout; key = l.key; places = l.info.places; stage = Fetching (none_fetched layout l.published) }

abbrev pub after_next : Layout → Tally → Option Listed → Rebuild
after_next layout t None = Ended (end_of t)
after_next layout t (Some l) = Going (Copying t l 0 (reader_of layout l))

-- how the block goes on when its read stands so; a block that is listed is no hole
abbrev pub after_read : Tally → Listed → ℕ → ReaderState → Option ReadMark → RebuildState
after_read t l base s None = Copying t l base s
after_read t l base s (Some (mark.Found stamp length)) = Refilling t l length base
after_read t l base s (Some (mark.TooFew seen)) = Leaving t l.key left.TooFew
after_read t l base s (Some (mark.Moved was now)) = Listing t
after_read t l base s (Some (mark.Denied cause)) = Leaving t l.key (left.Denied cause)
after_read t l base s (Some mark.Inconsistent) = Leaving t l.key left.Inconsistent
after_read t l base s (Some mark.Hole) = Listing t

-- the base that the first record of the stamp told
abbrev pub base_after : ReadStage → ℕ → FetchAnswer → ℕ
base_after (Fetching t) base (fetch.Held r) = cond ((t.given == 0) && (r.stamp == t.stamp)) r.base base
base_after stage base answer = base

abbrev pub base_told : ReaderState → ℕ → ReaderAnswer → ℕ
base_told s base (answers.Fetched answer) = base_after s.stage base answer
base_told s base _ = base

abbrev pub after_copy : Bool → Tally → Listed → ℕ → ReaderState → ReaderAnswer → Rebuild
after_copy fits t l base s answer =
    let next = reader_told fits s answer in Going (after_read t l (base_told s base answer) next (reader_end next))

abbrev pub after_refill : Tally → Listed → RefillAnswer → Rebuild
after_refill t l refill.Kept = Going (Listing (with_refilled t l.key))
after_refill t l (refill.Passed held) = Going (Listing (with_refilled t l.key))
after_refill t l refill.Lost = Ended ends.LostAgain
after_refill t l (refill.OtherFence fence) = Ended (ends.OtherFence fence)
after_refill t l refill.Down = Going (Leaving t l.key left.Down)
after_refill t l refill.Full = Going (Leaving t l.key left.Full)
after_refill t l refill.DiskFault = Going (Leaving t l.key left.DiskFault)

-- `fits` says whether the records that came fit a block. What does not belong to what was asked changes nothing.
abbrev pub rebuild_told : Layout → (fits : Bool) → RebuildState → RebuildAnswer → Rebuild
rebuild_told layout fits Probing (told.Probed answer) = after_probe answer
rebuild_told layout fits (Enrolling loss) (told.Enrolled fence) = Going (Replacing loss fence)
rebuild_told layout fits (Enrolling loss) (told.Denied cause) = Ended (ends.Denied cause)
rebuild_told layout fits (Replacing loss fence) (told.Replaced answer) = after_replace loss fence answer
rebuild_told layout fits (Listing t) (told.Listed answer) = after_next layout t answer
rebuild_told layout fits (Copying t l base s) (told.Fetched answer) = after_copy fits t l base s (answers.Fetched answer)
rebuild_told layout fits (Copying t l base s) told.Missed = after_copy fits t l base s answers.Missed
rebuild_told layout fits (Copying t l base s) (told.Rechecked answer) = after_copy fits t l base s (answers.Looked answer)
rebuild_told layout fits (Copying t l base s) (told.Denied cause) = after_copy fits t l base s (answers.Denied cause)
rebuild_told layout fits (Refilling t l length base) (told.Refilled answer) = after_refill t l answer
rebuild_told layout fits (Refilling t l length base) told.Missed = Going (Leaving t l.key left.Missed)
rebuild_told layout fits (Leaving t key why) told.Noted = Going (Listing (with_left t key))
rebuild_told layout fits s _ = Going s

-- Which answers belong to what was asked.

-- a listed block has a node for each position, of which the node that is rebuilt is one
pub record IsListed (layout : Layout) (node : ℕ) (l : Listed) : Type 0 where
  pub places : length l.info.places ≡ safe_of layout
  pub position : position_of node l < safe_of layout
  pub published : IsTold layout (Some l.published)

abbrev pub IsNextAnswer : Layout → ℕ → Option Listed → Type 0
IsNextAnswer layout n None = Unit {0}
IsNextAnswer layout n (Some l) = IsListed layout n l

abbrev pub IsRebuildAnswer : Layout → ℕ → RebuildAsk → RebuildAnswer → Type 0
IsRebuildAnswer layout n ask.Probe (told.Probed loss) = Unit {0}
IsRebuildAnswer layout n (ask.Enroll loss) (told.Enrolled fence) = Unit {0}
IsRebuildAnswer layout n (ask.Enroll loss) (told.Denied cause) = Unit {0}
IsRebuildAnswer layout n (ask.Replace loss fence) (told.Replaced answer) = Unit {0}
IsRebuildAnswer layout n (ask.Next after) (told.Listed answer) = IsNextAnswer layout n answer
IsRebuildAnswer layout n (ask.Fetch key position node stamp) (told.Fetched answer) = IsFetched layout answer
IsRebuildAnswer layout n (ask.Fetch key position node stamp) told.Missed = Unit {0}
IsRebuildAnswer layout n (ask.Recheck key) (told.Rechecked answer) = IsTold layout answer
IsRebuildAnswer layout n (ask.Recheck key) (told.Denied cause) = Unit {0}
IsRebuildAnswer layout n (ask.Refill fence key stamp length position base) (told.Refilled answer) = Unit {0}
IsRebuildAnswer layout n (ask.Refill fence key stamp length position base) told.Missed = Unit {0}
IsRebuildAnswer layout n (ask.Left key why) told.Noted = Unit {0}
IsRebuildAnswer layout n _ _ = ⊥

-- What holds of every rebuild between its answers.

-- the block's records are fetched: those of the stamp that was listed
abbrev pub IsFetchingStamp : ℕ → ReadStage → Type 0
IsFetchingStamp stamp (Fetching t) = t.stamp ≡ stamp
IsFetchingStamp stamp stage = ⊥

-- a base is below its stamp, and a length fits a block
abbrev pub IsRebuild : Layout → ℕ → RebuildState → Type 0
IsRebuild layout n (Copying t l base s) = IsListed layout n l × IsFetchingStamp l.published.stamp s.stage × (base < l.published.stamp)
IsRebuild layout n (Refilling t l size base) = IsListed layout n l × (base < l.published.stamp) × (size ≤ block_bytes_of layout)
IsRebuild layout n s = Unit {0}
