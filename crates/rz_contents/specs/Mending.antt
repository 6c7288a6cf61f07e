-- The rebuild of a node beside which nobody acts. Events stand newest first.
use Rattle.std.specs.Prelude.{ℕ, ◌≡◌, List, ◌∷◌, ◌++◌}
use Rattle.mj_angles.specs.declared.layout.Layout.{Layout}
use Rattle.rz_events.specs.Volume.{Volume}
use Rattle.rz_events.specs.declared.keys.Actor.{Actor}
use Rattle.rz_events.specs.declared.operations.Operation.TheVariants as operation
use Rattle.rz_events.specs.declared.ends.RebuildEnd.{RebuildEnd}
use Rattle.rz_events.specs.declared.ends.RebuildEnd.TheVariants as ends
use Rattle.rz_events.specs.declared.events.Answer.TheVariants as answer
use Rattle.rz_events.specs.declared.events.Event.{Event}
use Rattle.rz_events.specs.declared.events.Event.TheVariants as e
use Rattle.rz_operation_model.specs.Work.{Work}
use Rattle.rz_operation_model.specs.Ask.{Say, SayDone, ask_of}
use Rattle.rz_operation_model.specs.Steps.{begun}
use Rattle.rz_core.specs.Legal.{IsLegalInRuns}
use Rattle.rz_safety.specs.Rebuilt.{IsWhole}
use Rattle.rz_contents.specs.Model.{model_of, IsSame, IsStill}
use Rattle.rz_contents.specs.Putting.{IsCourseFrom}

-- The events of the rebuild of this node, which has come to this work.
abbrev pub IsRebuildCourse : Layout → Actor → ℕ → ℕ → List Event → Work → Type 0
IsRebuildCourse layout by number node xs work = IsCourseFrom layout by number (begun (operation.Rebuild node)) xs work

-- And it is about to say that it ended so.
abbrev pub IsRebuildEnding : Layout → Actor → ℕ → ℕ → List Event → RebuildEnd → Type 0
IsRebuildEnding layout by number node xs end =
    (work : Work) × IsRebuildCourse layout by number node xs work × (ask_of layout work ≡ Say (SayDone (answer.Rebuild end)))

-- No event of a rebuild may change what a user sees: none of its calls, and none of the blocks that it says to be left.
abbrev pub AreRebuildsStill : Type 0
AreRebuildsStill = (layout : Layout) (by : Actor) (number node : ℕ) (xs : List Event) (work : Work) → IsRebuildCourse layout by number node xs work → IsStill xs

-- However far a rebuild came, a user sees what was there before it.
abbrev pub IsRebuildAlone : Volume → Type 0
IsRebuildAlone v = (old xs : List Event) (by : Actor) (number node : ℕ) (work : Work) → IsLegalInRuns v (xs ++ old)
    → IsRebuildCourse v.layout by number node xs work → IsSame (model_of v old) (model_of v (xs ++ old))

-- Where a rebuild says that it left no block, its node holds all that it has to hold.
abbrev pub IsRebuildWhole : Volume → Type 0
IsRebuildWhole v = (old xs : List Event) (by : Actor) (number node fence refilled : ℕ)
    → IsLegalInRuns v (e.Done by number (answer.Rebuild (ends.Rebuilt fence refilled)) ∷ xs ++ old)
    → IsRebuildEnding v.layout by number node xs (ends.Rebuilt fence refilled)
    → IsWhole (e.Done by number (answer.Rebuild (ends.Rebuilt fence refilled)) ∷ xs ++ old) node fence
