-- Why a write or a read beside which nobody acts did not end well. A history has the newest event first.
use Rattle.std.specs.Prelude.{ℕ, false, ◌≡◌, ◌≤◌, List, ◌∷◌, ◌++◌, Some}
use Rattle.rz_events.specs.Volume.{Volume}
use Rattle.rz_events.specs.declared.keys.Key.{Key}
use Rattle.rz_events.specs.declared.keys.Actor.{Actor}
use Rattle.rz_events.specs.declared.files.Published.{Published}
use Rattle.rz_events.specs.declared.ends.Denial.{Denial}
use Rattle.rz_events.specs.declared.ends.Denial.TheVariants as denial
use Rattle.rz_events.specs.declared.ends.ReadMark.{ReadMark}
use Rattle.rz_events.specs.declared.ends.ReadMark.TheVariants as mark
use Rattle.rz_events.specs.declared.ends.WriteEnd.{WriteEnd}
use Rattle.rz_events.specs.declared.ends.WriteEnd.TheVariants as write
use Rattle.rz_events.specs.declared.events.Word.TheVariants.{Export}
use Rattle.rz_events.specs.declared.events.Event.{Event}
use Rattle.rz_events.specs.declared.events.Event.TheVariants as e
use Rattle.rz_client_model.specs.declared.reading.ReaderState.{ReaderState}
use Rattle.rz_client_model.specs.declared.reading.ReadStage.TheVariants as reading
use Rattle.rz_client_model.specs.declared.writing.WriteStage.{WriteStage}
use Rattle.rz_client_model.specs.declared.writing.WriteStage.TheVariants as writing
use Rattle.rz_export_model.specs.Export.{file_blocks}
use Rattle.rz_operation_model.specs.Work.{Work, Course, OnBlock, PutBlock, GetBlock, Opening, Writing, Reading}
use Rattle.rz_operation_model.specs.Steps.{read_end}
use Rattle.rz_core.specs.History.{facts, of_word}
use Rattle.rz_core.specs.ExportWord.{published}
use Rattle.rz_core.specs.ExportRows.{IsSpent}
use Rattle.rz_core.specs.Legal.{IsLegalInRuns}
use Rattle.rz_safety.specs.Sound.{IsFew}
use Rattle.rz_contents.specs.Files.{IsSilentCourse}

-- Writes.

-- the begin of a write was denied for this, which is so
abbrev pub IsWriteDenied : List Event → Key → Denial → Type 0
IsWriteDenied old key denial.BlockTooFar = file_blocks ≤ key.block
IsWriteDenied old key denial.StampsSpent = IsSpent (of_word Export old)
IsWriteDenied old key _ = ⊥

-- No other write of the block overtakes it.
abbrev pub IsWriteCaused : List Event → Key → WriteStage → Type 0
IsWriteCaused old key (writing.Ended (write.Denied why)) = IsWriteDenied old key why
IsWriteCaused old key (writing.Ended (write.Revoked later)) = ⊥
IsWriteCaused old key stage = Unit {0}

abbrev pub IsPutCaused : List Event → Work → Type 0
IsPutCaused old (Writing course text s) = IsWriteCaused old s.key s.stage
IsPutCaused old work = Unit {0}

abbrev pub ArePutsCaused : Volume → Type 0
ArePutsCaused v = (old xs : List Event) (by : Actor) (number : ℕ) (path : List ℕ) (block : ℕ) (text : List ℕ) (work : Work) → IsLegalInRuns v (xs ++ old)
    → IsSilentCourse v.layout by number (Opening path (OnBlock (PutBlock block text))) xs work → IsPutCaused old work

-- Reads.

-- The look of a read is denied for this, which is so; or of the positions that are published more did not give their record than can be
-- spared. No other write of the block comes between, and the records that came fit a block.
abbrev pub IsReadCaused : Volume → List Event → Key → ReadMark → Type 0
IsReadCaused v old key (mark.Denied denial.BlockTooFar) = file_blocks ≤ key.block
IsReadCaused v old key (mark.Denied why) = ⊥
IsReadCaused v old key (mark.TooFew seen) = (p : Published) × (published (facts old) (of_word Export old) key ≡ Some p) × IsFew v p.mask seen
IsReadCaused v old key (mark.Moved was now) = ⊥
IsReadCaused v old key mark.Inconsistent = ⊥
IsReadCaused v old key m = Unit {0}

abbrev pub AreGetsCaused : Volume → Type 0
AreGetsCaused v = (old xs : List Event) (by : Actor) (number : ℕ) (path : List ℕ) (block : ℕ) (text : List ℕ) (course : Course) (s : ReaderState) (m : ReadMark)
    → IsLegalInRuns v (e.Got by number s.key false (read_end text m) ∷ xs ++ old)
    → IsSilentCourse v.layout by number (Opening path (OnBlock (GetBlock block))) xs (Reading course s) → s.stage ≡ reading.Ended m
    → IsReadCaused v old s.key m
