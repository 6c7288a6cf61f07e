-- What a read asks and how it ends, by the answers that it was told. The answers stand newest first.
use Rattle.std.specs.Prelude.{ℕ, Bool, ◌≡◌, ◌+◌, ◌==◌, nat_lt, cond, not, List, [], ◌∷◌, ◌++◌, length, replicate, filter, slice_index, slice_set, Option, Some, None}
use Rattle.std.specs.List.{range_with_len}
use Rattle.mj_angles.specs.declared.layout.Layout.{Layout}
use Rattle.mj_angles.specs.Layout.{inverse_of, safe_of}
use Rattle.rz_events.specs.declared.keys.Key.{Key}
use Rattle.rz_events.specs.declared.files.Published.{Published}
use Rattle.rz_events.specs.declared.ends.Seen.{Seen}
use Rattle.rz_events.specs.declared.ends.Seen.TheVariants as seen
use Rattle.rz_events.specs.declared.ends.ReadMark.{ReadMark}
use Rattle.rz_events.specs.declared.ends.ReadMark.TheVariants as mark
use Rattle.rz_events.specs.declared.nodes.FetchAnswer.TheVariants as fetch
use Rattle.rz_events.specs.declared.machines.ReaderAsk.{ReaderAsk}
use Rattle.rz_events.specs.declared.machines.ReaderAsk.TheVariants as ask
use Rattle.rz_events.specs.declared.machines.ReaderAnswer.{ReaderAnswer}
use Rattle.rz_events.specs.declared.machines.ReaderAnswer.TheVariants as told
use Rattle.rz_client_model.specs.declared.reading.ReaderState.{ReaderState}
use Rattle.rz_client_model.specs.Read.{reader_start, reader_ask, reader_told, reader_end, seen_of, IsReaderAnswer}
use Rattle.rz_events.specs.Masks.{stamp_told, has_bit}

-- The answers of a read.

-- the read after these answers; of any answers `fits` says whether some block has their records
abbrev pub after : (List ReaderAnswer → Bool) → ReaderState → List ReaderAnswer → ReaderState
after fits s [] = s
after fits s (answer ∷ earlier) = reader_told (fits (answer ∷ earlier)) (after fits s earlier) answer

-- each answer belongs to what was asked when it was told
abbrev pub AreAnswers : (List ReaderAnswer → Bool) → ReaderState → List ReaderAnswer → Type 0
AreAnswers fits s [] = Unit {0}
AreAnswers fits s (answer ∷ earlier) = AreAnswers fits s earlier × IsReaderAnswer s.layout (reader_ask (after fits s earlier)) answer

-- What they say.

-- what the look told as published: the oldest answer
abbrev pub looked : List ReaderAnswer → Option Published
looked [] = None
looked (told.Looked p ∷ []) = p
looked (answer ∷ earlier) = looked earlier

-- the published positions, or none
abbrev pub mask_of : Option Published → ℕ
mask_of None = 0
mask_of (Some p) = p.mask

-- the published stamp, or 0
abbrev pub stamp_in : List ReaderAnswer → ℕ
stamp_in answers = stamp_told (looked answers)

-- so many positions were asked
abbrev pub asked_in : List ReaderAnswer → ℕ
asked_in [] = 0
asked_in (told.Fetched answer ∷ earlier) = asked_in earlier + 1
asked_in (told.Missed ∷ earlier) = asked_in earlier + 1
asked_in (answer ∷ earlier) = asked_in earlier

-- the lengths that the records of this stamp told, the first record's first
abbrev pub lengths : ℕ → List ReaderAnswer → List ℕ
lengths stamp [] = []
lengths stamp (told.Fetched (fetch.Held r) ∷ earlier) =
    cond (r.stamp == stamp) (lengths stamp earlier ++ r.length ∷ []) (lengths stamp earlier)
lengths stamp (answer ∷ earlier) = lengths stamp earlier

-- so many records of the published stamp came
abbrev pub given_in : List ReaderAnswer → ℕ
given_in answers = length (lengths (stamp_in answers) answers)

-- the length that the first of them told, or 0
abbrev pub length_in : List ReaderAnswer → ℕ
length_in answers = slice_index (lengths (stamp_in answers) answers) 0

-- In which order positions are asked.

-- the positions of the mask, ascending, and then the others, ascending
abbrev pub order : Layout → ℕ → List ℕ
order layout mask =
    filter (has_bit mask) (range_with_len 0 (safe_of layout)) ++ filter (λ position. not (has_bit mask position)) (range_with_len 0 (safe_of layout))

-- the position that is asked after these answers to fetches
abbrev pub next_in : Layout → List ReaderAnswer → ℕ
next_in layout answers = slice_index (order layout (mask_of (looked answers))) (asked_in answers)

-- what came of each of the sixteen positions
abbrev pub table : Layout → List ReaderAnswer → List Seen
table layout [] = replicate 16 seen.NotAsked
table layout (told.Fetched answer ∷ earlier) = slice_set (table layout earlier) (next_in layout earlier) (seen_of answer)
table layout (told.Missed ∷ earlier) = slice_set (table layout earlier) (next_in layout earlier) seen.Missed
table layout (answer ∷ earlier) = table layout earlier

-- How a read has ended after its answers.

-- nothing is published
abbrev pub end_of_look : Option Published → Option ReadMark
end_of_look None = Some mark.Hole
end_of_look (Some p) = None

-- the records of the published stamp are enough as soon as as many came as give a block back
abbrev pub end_of_fetches : Layout → Bool → List ReaderAnswer → Option ReadMark
end_of_fetches layout fits answers = cond (nat_lt (given_in answers) (inverse_of layout)) None
    (Some (cond fits (mark.Found (stamp_in answers) (length_in answers)) mark.Inconsistent))

-- the stamp that is published now is the one that was, or another one
abbrev pub end_of_recheck : ℕ → ℕ → List Seen → ReadMark
end_of_recheck now was seen = cond (now == was) (mark.TooFew seen) (mark.Moved was now)

-- the newest answer alone can have ended it
abbrev pub end_after : Layout → (List ReaderAnswer → Bool) → List ReaderAnswer → Option ReadMark
end_after layout fits [] = None
end_after layout fits (told.Denied denial ∷ earlier) = Some (mark.Denied denial)
end_after layout fits (told.Looked p ∷ []) = end_of_look p
end_after layout fits (told.Looked p ∷ earlier) = Some (end_of_recheck (stamp_told p) (stamp_in earlier) (table layout earlier))
end_after layout fits (answer ∷ earlier) = end_of_fetches layout (fits (answer ∷ earlier)) (answer ∷ earlier)

-- What a read asks after its answers.

abbrev pub unless_ended : Option ReadMark → ReaderAsk → ReaderAsk
unless_ended None next = next
unless_ended (Some e) next = ask.End

-- the next position for the published stamp, or, where all were asked, a second look
abbrev pub next_ask : Layout → List ℕ → List ReaderAnswer → ReaderAsk
next_ask layout places answers = cond (asked_in answers == safe_of layout) ask.Recheck
    (ask.Fetch (next_in layout answers) (slice_index places (next_in layout answers)) (stamp_in answers))

-- the look comes first
abbrev pub ask_after : Layout → List ℕ → (List ReaderAnswer → Bool) → List ReaderAnswer → ReaderAsk
ask_after layout places fits [] = ask.Look
ask_after layout places fits (answer ∷ earlier) =
    unless_ended (end_after layout fits (answer ∷ earlier)) (next_ask layout places (answer ∷ earlier))

-- The laws.

-- what a read asks after its answers is what they leave to ask
abbrev pub AsksInOrder : Type 0
AsksInOrder = (layout : Layout) (key : Key) (places : List ℕ) (fits : List ReaderAnswer → Bool) (answers : List ReaderAnswer) →
    AreAnswers fits (reader_start layout key places) answers →
    reader_ask (after fits (reader_start layout key places) answers) ≡ ask_after layout places fits answers

-- a read has ended exactly as its answers say
abbrev pub EndsExactly : Type 0
EndsExactly = (layout : Layout) (key : Key) (places : List ℕ) (fits : List ReaderAnswer → Bool) (answers : List ReaderAnswer) →
    AreAnswers fits (reader_start layout key places) answers →
    reader_end (after fits (reader_start layout key places) answers) ≡ end_after layout fits answers
