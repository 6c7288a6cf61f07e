-- The course of an operation by the events of its actor: what the actor asks, is told and says from its first call on.
use Rattle.std.specs.Prelude.{ℕ, Bool, true, false, ◌≡◌, List, ◌++◌}
use Rattle.mj_angles.specs.declared.layout.Layout.{Layout}
use Rattle.rz_events.specs.Volume.{Volume}
use Rattle.rz_events.specs.declared.keys.Key.{Key}
use Rattle.rz_events.specs.declared.keys.Actor.{Actor}
use Rattle.rz_events.specs.declared.keys.Actor.TheVariants as actor
use Rattle.rz_events.specs.declared.tree.TreeCall.TheVariants as call
use Rattle.rz_events.specs.declared.ends.ReadMark.{ReadMark}
use Rattle.rz_events.specs.declared.ends.ReadEnd.{ReadEnd}
use Rattle.rz_events.specs.declared.ends.WriteEnd.{WriteEnd}
use Rattle.rz_events.specs.declared.operations.Operation.{Operation}
use Rattle.rz_events.specs.declared.operations.Operation.TheVariants as operation
use Rattle.rz_events.specs.declared.events.Answer.{Answer}
use Rattle.rz_events.specs.declared.events.Event.{Event}
use Rattle.rz_operation_model.specs.Work.{Work}
use Rattle.rz_operation_model.specs.Ask.{Saying, SayGot, SayGave, SayDone, Say, ask_of}
use Rattle.rz_operation_model.specs.Steps.{Told, begun, told, read_end}
use Rattle.rz_operation_model.specs.Turns.{IsStep}
use Rattle.rz_core.specs.Own.{IsBetween}

-- Who does which operation: a rebuilder rebuilds nodes, and a client does all else. No call on names opens a file.
abbrev pub does : Actor → Operation → Bool
does (actor.Client n) (operation.Rebuild node) = false
does (actor.Client n) (operation.Tree (call.OpenFile path)) = false
does (actor.Client n) _ = true
does (actor.Rebuilder n) (operation.Rebuild node) = true
does (actor.Rebuilder n) _ = false
does actor.Admin _ = false

-- The newest of these own events are those of an operation of this number, which now stands at this work: it began when no
-- operation of the actor was open, and each of its turns answered what it asked.
pub data IsCourse (layout : Layout) (by : Actor) (number : ℕ) : List Event → Work → Type 0 where
  Begun : (run : List Event) (op : Operation) → does by op ≡ true → IsBetween run → IsCourse layout by number run (begun op)
  Went : (run : List Event) (work : Work) (t : Told) (xs : List Event) → IsCourse layout by number run work
      → IsStep by number (ask_of layout work) t xs → IsCourse layout by number (xs ++ run) (told layout work t)

-- The actor's operation of this number says this next.
pub record IsSaying (v : Volume) (by : Actor) (number : ℕ) (run : List Event) (said : Saying) : Type 0 where
  pub work : Work
  pub course : IsCourse v.layout by number run work
  pub asks : ask_of v.layout work ≡ Say said

-- it says how the read of a block ended, with this text where the block was found
pub record IsGot (v : Volume) (by : Actor) (number : ℕ) (run : List Event) (key : Key) (part : Bool) (end : ReadEnd) : Type 0 where
  pub mark : ReadMark
  pub text : List ℕ
  pub end_is : end ≡ read_end text mark
  pub saying : IsSaying v by number run (SayGot key part mark)

-- it says how the write of a block ended
abbrev pub IsGave : Volume → Actor → ℕ → List Event → Key → Bool → WriteEnd → Type 0
IsGave v by number run key part end = IsSaying v by number run (SayGave key part end)

-- it says its answer, and is done
abbrev pub DoneRow : Volume → Actor → ℕ → List Event → Answer → Type 0
DoneRow v by number run answer = IsSaying v by number run (SayDone answer)
