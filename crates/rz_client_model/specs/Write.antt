-- The write of a block. Its records go to the positions in ascending order until enough nodes have one; a position that
-- failed is made up by the next spare one.
use Rattle.std.specs.Prelude.{ℕ, Bool, true, false, ◌+◌, ◌-◌, ◌*◌, ◌<◌, ◌≤◌, ◌≡◌, nat_lt, cond, List, [], ◌∷◌, length, replicate, slice_index, slice_set, Option, Some, None}
use Rattle.std.specs.Int.{bit_at}
use Rattle.mj_angles.specs.declared.layout.Layout.{Layout}
use Rattle.mj_angles.specs.Layout.{forward_of, safe_of, block_bytes_of}
use Rattle.rz_events.specs.declared.keys.Key.{Key}
use Rattle.rz_events.specs.declared.ends.Why.{Why}
use Rattle.rz_events.specs.declared.ends.Why.TheVariants as why
use Rattle.rz_events.specs.declared.ends.WriteEnd.{WriteEnd}
use Rattle.rz_events.specs.declared.ends.WriteEnd.TheVariants as end
use Rattle.rz_events.specs.declared.nodes.KeepAnswer.{KeepAnswer}
use Rattle.rz_events.specs.declared.nodes.KeepAnswer.TheVariants as keep
use Rattle.rz_events.specs.declared.machines.WriterAsk.{WriterAsk}
use Rattle.rz_events.specs.declared.machines.WriterAsk.TheVariants as ask
use Rattle.rz_events.specs.declared.machines.WriterAnswer.{WriterAnswer}
use Rattle.rz_events.specs.declared.machines.WriterAnswer.TheVariants as told
use Rattle.rz_client_model.specs.declared.writing.WriterState.{WriterState}
use Rattle.rz_client_model.specs.declared.writing.WriteStage.{WriteStage}
use Rattle.rz_client_model.specs.declared.writing.WriteStage.TheVariants.{Beginning, Sending, Ended}
use Rattle.rz_client_model.specs.declared.writing.SentRecords.{SentRecords}

-- The outcomes of positions.

-- what comes of a position whose node answered so
abbrev pub why_of : KeepAnswer → Why
why_of keep.Kept = why.Kept
why_of (keep.Passed held) = why.Passed
why_of keep.Lost = why.Lost
why_of keep.Down = why.Down
why_of (keep.Fenced fence) = why.Fenced
why_of keep.Full = why.Full
why_of keep.DiskFault = why.DiskFault

-- the node has the record, or newer ones in its place
abbrev pub is_kept : Why → Bool
is_kept why.Kept = true
is_kept why.Passed = true
is_kept _ = false

-- bit i is position i, and is set where its node has the record
abbrev pub mask_of : List Why → ℕ
mask_of [] = 0
mask_of (w ∷ ws) = cond (is_kept w) 1 0 + 2 * mask_of ws

-- The state.

-- the write of a text of this length, which has no stamp yet
abbrev pub writer_start : Layout → Key → List ℕ → ℕ → WriterState
writer_start layout key places length =
    record { layout = layout; key = key; places = places; length = length; stage = Beginning }

-- no record was sent yet
abbrev pub none_sent : ℕ → ℕ → SentRecords
none_sent stamp base = record { stamp = stamp; base = base; kept = 0; failed = 0; why = replicate 16 why.NotAsked }

-- the position that comes next: each one before it has the record or has failed
abbrev pub next_position : SentRecords → ℕ
next_position t = t.kept + t.failed

-- What it asks.

-- records are sent until so many nodes have one as are written, and are then published
abbrev pub ask_at : WriterState → WriteStage → WriterAsk
ask_at s Beginning = ask.Begin s.length
ask_at s (Sending t) = cond (nat_lt t.kept (forward_of s.layout))
    (ask.Keep (next_position t) (slice_index s.places (next_position t)) t.stamp t.base)
    (ask.Publish t.stamp (mask_of t.why))
ask_at s (Ended e) = ask.End

abbrev pub writer_ask : WriterState → WriterAsk
writer_ask s = ask_at s s.stage

-- The state after an answer.

-- too few positions are left where more have failed than there are spare ones
abbrev pub unless_too_few : Layout → SentRecords → WriteStage
unless_too_few layout t = cond (nat_lt (safe_of layout - forward_of layout) t.failed) (Ended (end.TooFew t.why)) (Sending t)

-- what came of the next position
abbrev pub after_keep : Layout → SentRecords → Why → WriteStage
after_keep layout t w = cond (is_kept w)
    (Sending (record t { kept = t.kept + 1; why = slice_set t.why (next_position t) w }))
    (unless_too_few layout (record t { failed = t.failed + 1; why = slice_set t.why (next_position t) w }))

-- a position of the mask has failed after all
abbrev pub after_enrolled : Layout → SentRecords → ℕ → WriteStage
after_enrolled layout t position =
    unless_too_few layout (record t { kept = t.kept - 1; failed = t.failed + 1; why = slice_set t.why position why.Enrolled })

abbrev pub after_answer : Layout → WriteStage → WriterAnswer → WriteStage
after_answer layout Beginning (told.Begun stamp base) = Sending (none_sent stamp base)
after_answer layout Beginning (told.Denied denial) = Ended (end.Denied denial)
after_answer layout (Sending t) (told.Kept answer) = after_keep layout t (why_of answer)
after_answer layout (Sending t) told.Missed = after_keep layout t why.Missed
after_answer layout (Sending t) told.Accepted = Ended (end.Acked t.stamp (mask_of t.why))
after_answer layout (Sending t) (told.Enrolled position fence) = after_enrolled layout t position
after_answer layout (Sending t) (told.Denied denial) = Ended (end.Denied denial)
after_answer layout (Sending t) (told.Revoked later) = Ended (end.Revoked later)
after_answer layout stage _ = stage

abbrev pub writer_told : WriterState → WriterAnswer → WriterState
writer_told s answer = record s { stage = after_answer s.layout s.stage answer }

-- How it ends.

abbrev pub end_at : WriteStage → Option WriteEnd
end_at Beginning = None
end_at (Sending t) = None
end_at (Ended e) = Some e

abbrev pub writer_end : WriterState → Option WriteEnd
writer_end s = end_at s.stage

-- Which answers belong to what was asked.

-- a base is below its stamp
abbrev pub IsBeginAnswer : WriterAnswer → Type 0
IsBeginAnswer (told.Begun stamp base) = base < stamp
IsBeginAnswer (told.Denied denial) = Unit {0}
IsBeginAnswer _ = ⊥

abbrev pub IsKeepAnswer : WriterAnswer → Type 0
IsKeepAnswer (told.Kept answer) = Unit {0}
IsKeepAnswer told.Missed = Unit {0}
IsKeepAnswer _ = ⊥

-- an enrolled position is one of the mask
abbrev pub IsPublishAnswer : ℕ → WriterAnswer → Type 0
IsPublishAnswer mask told.Accepted = Unit {0}
IsPublishAnswer mask (told.Enrolled position fence) = (position < 16) × (bit_at mask position ≡ 1)
IsPublishAnswer mask (told.Denied denial) = Unit {0}
IsPublishAnswer mask (told.Revoked later) = Unit {0}
IsPublishAnswer mask _ = ⊥

abbrev pub IsWriterAnswer : WriterAsk → WriterAnswer → Type 0
IsWriterAnswer (ask.Begin length) answer = IsBeginAnswer answer
IsWriterAnswer (ask.Keep position node stamp base) answer = IsKeepAnswer answer
IsWriterAnswer (ask.Publish stamp mask) answer = IsPublishAnswer mask answer
IsWriterAnswer ask.End answer = ⊥

-- What holds of every write between its answers.

-- no more nodes have the record than are wanted, no more positions have failed than there are spare ones, and the base is
-- below the stamp
abbrev pub IsWithin : Layout → WriteStage → Type 0
IsWithin layout (Sending t) = (t.kept ≤ forward_of layout) × (t.failed + forward_of layout ≤ safe_of layout) × (t.base < t.stamp)
IsWithin layout _ = Unit {0}

pub record IsWrite (s : WriterState) : Type 0 where
  pub places : length s.places ≡ safe_of s.layout
  pub short : s.length ≤ block_bytes_of s.layout
  pub within : IsWithin s.layout s.stage
