-- The read of a block. Records of the published stamp alone are wanted: from the published positions first, ascending,
-- and then from the others, ascending.
use Rattle.std.specs.Prelude.{ℕ, Bool, ◌+◌, ◌-◌, ◌^◌, ◌==◌, ◌<◌, ◌≤◌, nat_lt, cond, List, length, replicate, slice_index, slice_set, bit_and, bit_xor, Option, Some, None}
use Rattle.std.specs.Int.Count.{count_trailing_zeros}
use Rattle.mj_angles.specs.declared.layout.Layout.{Layout}
use Rattle.mj_angles.specs.Layout.{inverse_of, safe_of, block_bytes_of}
use Rattle.rz_events.specs.declared.keys.Key.{Key}
use Rattle.rz_events.specs.declared.files.Published.{Published}
use Rattle.rz_events.specs.Masks.{stamp_told}
use Rattle.rz_events.specs.declared.ends.Seen.{Seen}
use Rattle.rz_events.specs.declared.ends.Seen.TheVariants as seen
use Rattle.rz_events.specs.declared.ends.ReadMark.{ReadMark}
use Rattle.rz_events.specs.declared.ends.ReadMark.TheVariants as mark
use Rattle.rz_events.specs.declared.nodes.FetchAnswer.{FetchAnswer}
use Rattle.rz_events.specs.declared.nodes.FetchAnswer.TheVariants as fetch
use Rattle.rz_events.specs.declared.machines.ReaderAsk.{ReaderAsk}
use Rattle.rz_events.specs.declared.machines.ReaderAsk.TheVariants as ask
use Rattle.rz_events.specs.declared.machines.ReaderAnswer.{ReaderAnswer}
use Rattle.rz_events.specs.declared.machines.ReaderAnswer.TheVariants as told
use Rattle.rz_client_model.specs.declared.reading.ReaderState.{ReaderState}
use Rattle.rz_client_model.specs.declared.reading.ReadStage.{ReadStage}
use Rattle.rz_client_model.specs.declared.reading.ReadStage.TheVariants.{Looking, Fetching, Ended}
use Rattle.rz_client_model.specs.declared.reading.Fetches.{Fetches}

-- The state.

abbrev pub reader_start : Layout → Key → List ℕ → ReaderState
reader_start layout key places = record { layout = layout; key = key; places = places; stage = Looking }

-- no position was asked yet
abbrev pub none_fetched : Layout → Published → Fetches
none_fetched layout p = record {
  stamp = p.stamp;
  mask = p.mask;
  left = 2 ^ safe_of layout - 1;
  given = 0;
  length = 0;
  seen = replicate 16 seen.NotAsked;
}

-- The least position among these, of which there is one.
abbrev pub least_of : ℕ → ℕ
least_of positions = count_trailing_zeros 16 positions

-- the published positions that were not asked yet, or, where all were, the others
abbrev pub candidates : Fetches → ℕ
candidates t = cond (bit_and t.left t.mask == 0) t.left (bit_and t.left t.mask)

-- the position that comes next
abbrev pub next_position : Fetches → ℕ
next_position t = least_of (candidates t)

-- What it asks.

-- where all positions were asked, it looks once more
abbrev pub ask_at : ReaderState → ReadStage → ReaderAsk
ask_at s Looking = ask.Look
ask_at s (Fetching t) = cond (t.left == 0) ask.Recheck
    (ask.Fetch (next_position t) (slice_index s.places (next_position t)) t.stamp)
ask_at s (Ended e) = ask.End

abbrev pub reader_ask : ReaderState → ReaderAsk
reader_ask s = ask_at s s.stage

-- The state after an answer.

abbrev pub after_look : Layout → Option Published → ReadStage
after_look layout None = Ended mark.Hole
after_look layout (Some p) = Fetching (none_fetched layout p)

-- what comes of a position whose node answered so
abbrev pub seen_of : FetchAnswer → Seen
seen_of (fetch.Held r) = seen.Held
seen_of fetch.Nothing = seen.Nothing
seen_of fetch.Lost = seen.Lost
seen_of fetch.Down = seen.Down
seen_of fetch.DiskFault = seen.DiskFault

-- what came of the next position, which has been asked now
abbrev pub with_seen : Fetches → Seen → Fetches
with_seen t w = record t { left = bit_xor t.left (2 ^ next_position t); seen = slice_set t.seen (next_position t) w }

-- one more record of the stamp came; the first one's length is that of the text
abbrev pub with_record : Fetches → ℕ → Fetches
with_record t length = record t {
  left = bit_xor t.left (2 ^ next_position t);
  seen = slice_set t.seen (next_position t) seen.Held;
  given = t.given + 1;
  length = cond (t.given == 0) length t.length;
}

-- The records are enough where as many came as give a block back. `fits` says whether some block has them.
abbrev pub unless_enough : Layout → Bool → Fetches → ReadStage
unless_enough layout fits t = cond (nat_lt t.given (inverse_of layout)) (Fetching t)
    (Ended (cond fits (mark.Found t.stamp t.length) mark.Inconsistent))

-- a record of another stamp does not count, though its position held one
abbrev pub after_fetch : Layout → Bool → Fetches → FetchAnswer → ReadStage
after_fetch layout fits t (fetch.Held r) =
    cond (r.stamp == t.stamp) (unless_enough layout fits (with_record t r.length)) (Fetching (with_seen t seen.Held))
after_fetch layout fits t answer = Fetching (with_seen t (seen_of answer))

-- too few records are left of the stamp that is still published; otherwise another one was published since
abbrev pub after_recheck : Fetches → Option Published → ReadStage
after_recheck t p =
    Ended (cond (stamp_told p == t.stamp) (mark.TooFew t.seen) (mark.Moved t.stamp (stamp_told p)))

abbrev pub after_answer : Layout → Bool → ReadStage → ReaderAnswer → ReadStage
after_answer layout fits Looking (told.Looked p) = after_look layout p
after_answer layout fits Looking (told.Denied denial) = Ended (mark.Denied denial)
after_answer layout fits (Fetching t) (told.Fetched answer) = after_fetch layout fits t answer
after_answer layout fits (Fetching t) told.Missed = Fetching (with_seen t seen.Missed)
after_answer layout fits (Fetching t) (told.Looked p) = after_recheck t p
after_answer layout fits (Fetching t) (told.Denied denial) = Ended (mark.Denied denial)
after_answer layout fits stage _ = stage

abbrev pub reader_told : Bool → ReaderState → ReaderAnswer → ReaderState
reader_told fits s answer = record s { stage = after_answer s.layout fits s.stage answer }

-- How it ends.

abbrev pub end_at : ReadStage → Option ReadMark
end_at Looking = None
end_at (Fetching t) = None
end_at (Ended e) = Some e

abbrev pub reader_end : ReaderState → Option ReadMark
reader_end s = end_at s.stage

-- Which answers belong to what was asked.

-- what is told as published: a stamp, positions of the layout, and the length of a text that a block can hold
abbrev pub IsTold : Layout → Option Published → Type 0
IsTold layout None = Unit {0}
IsTold layout (Some p) = (0 < p.stamp) × (p.mask < 2 ^ safe_of layout) × (p.length ≤ block_bytes_of layout)

abbrev pub IsFetched : Layout → FetchAnswer → Type 0
IsFetched layout (fetch.Held r) = (r.base < r.stamp) × (r.length ≤ block_bytes_of layout)
IsFetched layout _ = Unit {0}

abbrev pub IsLookAnswer : Layout → ReaderAnswer → Type 0
IsLookAnswer layout (told.Looked p) = IsTold layout p
IsLookAnswer layout (told.Denied denial) = Unit {0}
IsLookAnswer layout _ = ⊥

abbrev pub IsFetchAnswer : Layout → ReaderAnswer → Type 0
IsFetchAnswer layout (told.Fetched answer) = IsFetched layout answer
IsFetchAnswer layout told.Missed = Unit {0}
IsFetchAnswer layout _ = ⊥

abbrev pub IsReaderAnswer : Layout → ReaderAsk → ReaderAnswer → Type 0
IsReaderAnswer layout ask.Look answer = IsLookAnswer layout answer
IsReaderAnswer layout (ask.Fetch position node stamp) answer = IsFetchAnswer layout answer
IsReaderAnswer layout ask.Recheck answer = IsLookAnswer layout answer
IsReaderAnswer layout ask.End answer = ⊥
