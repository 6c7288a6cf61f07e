-- What a write asks and how it ends, by the answers that it was told. The answers stand newest first.
use Rattle.std.specs.Prelude.{ℕ, ◌≡◌, ◌-◌, ◌<◌, ◌↔◌, List, [], ◌∷◌, ◌++◌, length, replicate, count_by, slice_index, slice_index_or, slice_set, Some, IsTrue}
use Rattle.std.specs.Int.{bit_at}
use Rattle.mj_angles.specs.declared.layout.Layout.{Layout}
use Rattle.mj_angles.specs.Layout.{forward_of, safe_of}
use Rattle.rz_events.specs.declared.keys.Key.{Key}
use Rattle.rz_events.specs.declared.ends.Why.{Why}
use Rattle.rz_events.specs.declared.ends.Why.TheVariants as why
use Rattle.rz_events.specs.declared.ends.WriteEnd.{WriteEnd}
use Rattle.rz_events.specs.declared.ends.WriteEnd.TheVariants as end
use Rattle.rz_events.specs.declared.machines.WriterAsk.{WriterAsk}
use Rattle.rz_events.specs.declared.machines.WriterAsk.TheVariants as ask
use Rattle.rz_events.specs.declared.machines.WriterAnswer.{WriterAnswer}
use Rattle.rz_events.specs.declared.machines.WriterAnswer.TheVariants as told
use Rattle.rz_client_model.specs.declared.writing.WriterState.{WriterState}
use Rattle.rz_client_model.specs.Write.{why_of, is_kept, mask_of, writer_start, writer_ask, writer_told, writer_end, IsWriterAnswer}

-- The answers of a write.

-- the write after these answers
abbrev pub after : WriterState → List WriterAnswer → WriterState
after s [] = s
after s (answer ∷ earlier) = writer_told (after s earlier) answer

-- each answer belongs to what was asked when it was told
abbrev pub AreAnswers : WriterState → List WriterAnswer → Type 0
AreAnswers s [] = Unit {0}
AreAnswers s (answer ∷ earlier) = AreAnswers s earlier × IsWriterAnswer (writer_ask (after s earlier)) answer

-- What they say.

-- the stamp that was told, or 0
abbrev pub stamp_in : List WriterAnswer → ℕ
stamp_in [] = 0
stamp_in (told.Begun stamp base ∷ earlier) = stamp
stamp_in (answer ∷ earlier) = stamp_in earlier

-- the base that was told, or 0
abbrev pub base_in : List WriterAnswer → ℕ
base_in [] = 0
base_in (told.Begun stamp base ∷ earlier) = base
base_in (answer ∷ earlier) = base_in earlier

-- what came of each position that was asked, position 0 first
abbrev pub outcomes : List WriterAnswer → List Why
outcomes [] = []
outcomes (told.Kept answer ∷ earlier) = outcomes earlier ++ why_of answer ∷ []
outcomes (told.Missed ∷ earlier) = outcomes earlier ++ why.Missed ∷ []
outcomes (told.Enrolled position fence ∷ earlier) = slice_set (outcomes earlier) position why.Enrolled
outcomes (answer ∷ earlier) = outcomes earlier

abbrev pub outcome : List WriterAnswer → ℕ → Why
outcome answers position = slice_index_or (outcomes answers) position why.NotAsked

-- the outcomes of all sixteen positions
abbrev pub table : List WriterAnswer → List Why
table answers = outcomes answers ++ replicate (16 - length (outcomes answers)) why.NotAsked

-- so many positions have the record
abbrev pub kept_in : List WriterAnswer → ℕ
kept_in answers = count_by is_kept (outcomes answers)

-- so many positions have failed: they were asked, and do not have it
abbrev pub failed_in : List WriterAnswer → ℕ
failed_in answers = length (outcomes answers) - kept_in answers

-- the newest answer is this one
abbrev pub IsNewest : WriterAnswer → List WriterAnswer → Type 0
IsNewest answer [] = ⊥
IsNewest answer (newest ∷ earlier) = newest ≡ answer

-- What is asked then.

-- a keep goes to the position after those that were asked, with what the begin told
pub record IsNextKeep (places : List ℕ) (answers : List WriterAnswer) (position node stamp base : ℕ) : Type 0 where
  pub ascending : position ≡ length (outcomes answers)
  pub of_place : node ≡ slice_index places position
  pub begun : stamp ≡ stamp_in answers
  pub based : base ≡ base_in answers

-- a publish names exactly the positions that have the record, and there are as many of them as are written
pub record IsPublish (layout : Layout) (answers : List WriterAnswer) (stamp mask : ℕ) : Type 0 where
  pub begun : stamp ≡ stamp_in answers
  pub names : (position : ℕ) → (bit_at mask position ≡ 1) ↔ IsTrue (is_kept (outcome answers position))
  pub enough : kept_in answers ≡ forward_of layout

-- How it has ended then.

-- too few positions are left exactly where more have failed than there are spare ones
abbrev pub IsEndAfter : Layout → List WriterAnswer → WriteEnd → Type 0
IsEndAfter layout answers (end.Acked stamp mask) =
    IsNewest told.Accepted answers × (stamp ≡ stamp_in answers) × (mask ≡ mask_of (outcomes answers))
IsEndAfter layout answers (end.TooFew why) = (safe_of layout - forward_of layout < failed_in answers) × (why ≡ table answers)
IsEndAfter layout answers (end.Denied denial) = IsNewest (told.Denied denial) answers
IsEndAfter layout answers (end.Revoked later) = IsNewest (told.Revoked later) answers

-- What is asked after these answers, in the write of a text of this size.

abbrev pub IsAskAfter : Layout → List ℕ → ℕ → List WriterAnswer → WriterAsk → Type 0
IsAskAfter layout places size answers (ask.Begin length) = (answers ≡ []) × (length ≡ size)
IsAskAfter layout places size answers (ask.Keep position node stamp base) = IsNextKeep places answers position node stamp base
IsAskAfter layout places size answers (ask.Publish stamp mask) = IsPublish layout answers stamp mask
IsAskAfter layout places size answers ask.End = (e : WriteEnd) × IsEndAfter layout answers e

-- The laws.

-- what a write asks after its answers is what they leave to ask
abbrev pub AsksInOrder : Type 0
AsksInOrder = (layout : Layout) (key : Key) (places : List ℕ) (size : ℕ) (answers : List WriterAnswer) →
    AreAnswers (writer_start layout key places size) answers →
    IsAskAfter layout places size answers (writer_ask (after (writer_start layout key places size) answers))

-- a write has ended so exactly where its answers say it
abbrev pub EndsExactly : Type 0
EndsExactly = (layout : Layout) (key : Key) (places : List ℕ) (size : ℕ) (answers : List WriterAnswer) →
    AreAnswers (writer_start layout key places size) answers → (e : WriteEnd) →
    (writer_end (after (writer_start layout key places size) answers) ≡ Some e) ↔ IsEndAfter layout answers e
