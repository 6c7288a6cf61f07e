-- The read of one block by one operation beside which nobody acts. Events stand newest first.
use Rattle.std.specs.Prelude.{ℕ, false, ◌≡◌, List, ◌∷◌, ◌++◌, Option}
use Rattle.rz_events.specs.Volume.{Volume}
use Rattle.rz_events.specs.declared.keys.Key.{Key}
use Rattle.rz_events.specs.declared.keys.Actor.{Actor}
use Rattle.rz_events.specs.declared.files.Published.{Published}
use Rattle.rz_events.specs.declared.ends.ReadMark.{ReadMark}
use Rattle.rz_events.specs.declared.ends.ReadMark.TheVariants as mark
use Rattle.rz_events.specs.declared.events.Event.{Event}
use Rattle.rz_events.specs.declared.events.Event.TheVariants as e
use Rattle.rz_client_model.specs.declared.reading.ReaderState.{ReaderState}
use Rattle.rz_client_model.specs.declared.reading.ReadStage.{ReadStage}
use Rattle.rz_client_model.specs.declared.reading.ReadStage.TheVariants as reading
use Rattle.rz_operation_model.specs.Work.{Work, OnBlock, GetBlock, Alone, Opening, Reading, Ending, Over}
use Rattle.rz_operation_model.specs.Steps.{read_end}
use Rattle.rz_core.specs.History.{Has}
use Rattle.rz_core.specs.Legal.{IsLegalInRuns}
use Rattle.rz_contents.specs.Contents.{TellsContents}
use Rattle.rz_contents.specs.Model.{model_of, IsSame, IsStill}
use Rattle.rz_contents.specs.Putting.{IsCourseFrom}

abbrev pub HasLook : Actor → List Event → Type 0
HasLook by xs = (key : Key) × (answer : Option Published) × Has xs (e.Look by key answer)

-- a read that was denied may have had no look
abbrev pub IsGetEnd : Actor → List Event → ReadMark → Type 0
IsGetEnd by xs (mark.Denied cause) = Unit {0}
IsGetEnd by xs m = HasLook by xs

abbrev pub IsGetStage : Actor → List Event → ReadStage → Type 0
IsGetStage by xs reading.Looking = Unit {0}
IsGetStage by xs (reading.Fetching t) = HasLook by xs
IsGetStage by xs (reading.Ended m) = IsGetEnd by xs m

-- the events of a read that has come to this work: it publishes nothing
abbrev pub IsGet : Actor → List Event → Work → Type 0
IsGet by xs (Opening path plan) = IsStill xs × ((block : ℕ) × (plan ≡ OnBlock (GetBlock block)))
IsGet by xs (Reading course s) = IsStill xs × (course ≡ Alone) × IsGetStage by xs s.stage
IsGet by xs (Ending answer) = IsStill xs
IsGet by xs Over = Unit {0}
IsGet by xs _ = ⊥

-- Where nobody acts beside a read, it tells what its block contains, if it tells a text, and changes nothing.
abbrev pub IsGetAlone : Volume → Type 0
IsGetAlone v = (old xs : List Event) (by : Actor) (number : ℕ) (path : List ℕ) (block : ℕ) (text : List ℕ) (s : ReaderState) (m : ReadMark)
    → IsLegalInRuns v (e.Got by number s.key false (read_end text m) ∷ xs ++ old)
    → IsCourseFrom v.layout by number (Opening path (OnBlock (GetBlock block))) xs (Reading Alone s)
    → s.stage ≡ reading.Ended m
    → TellsContents old s.key (read_end text m)
    × IsSame (model_of v old) (model_of v (e.Got by number s.key false (read_end text m) ∷ xs ++ old))
