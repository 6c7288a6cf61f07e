-- What the rebuild of a node has come to, beside which nobody acts. The newest event stands first; `earlier` is the log after which the
-- run goes on.
use Rattle.std.specs.Prelude.{ℕ, ◌≡◌, IsTrue, List, ◌∷◌, ◌++◌, Option, Some, None}
use Rattle.rz_events.specs.declared.ends.RebuildEnd.{RebuildEnd}
use Rattle.rz_events.specs.declared.ends.RebuildEnd.TheVariants as ends
use Rattle.rz_events.specs.declared.events.Answer.TheVariants as answers
use Rattle.rz_events.specs.declared.events.Event.{Event}
use Rattle.rz_events.specs.declared.events.Event.TheVariants as e
use Rattle.rz_operation.specs.Machine.{Machine}
use Rattle.rz_operation_model.specs.Ask.{Ask, Say, SayDone, ask_of}
use Rattle.rz_operation_model.specs.Work.{Work}
use Rattle.rz_safety.specs.Rebuilt.{IsWhole}
use Rattle.rz_chronicle.specs.Kinds.{keeps_legal, volume_in}
use Rattle.rz_chronicle.specs.Rules.{PassView}
use Rattle.rz_contents.specs.Putting.{IsCourseFrom}
use Rattle.rz_contents.specs.Mending.{IsRebuildEnding}
use Rattle.rz_store_turns.specs.Sole.{SoleView}

-- how a rebuild ends that is about to say so
abbrev pub rebuild_end : Ask → Option RebuildEnd
rebuild_end (Say (SayDone (answers.Rebuild end))) = Some end
rebuild_end asked = None

-- The log has these events more. In a book that keeps its log legal they are those of turns that led from the one machine to the other,
-- and words may be among them.
pub record HasGone (kind : List ℕ) (number : ℕ) (old new : PassView) (m m' : Machine) : Type 0 where
  pub events : List Event
  pub log : new.log ≡ events ++ old.log
  pub course : IsTrue (keeps_legal kind) → IsCourseFrom m.layout old.actor number m.work events m'.work

-- The newest of them is the word with which a rebuild ended so.
pub record HasEnded (kind : List ℕ) (number : ℕ) (old new : PassView) (m : Machine) (end : RebuildEnd) : Type 0 where
  pub events : List Event
  pub log : new.log ≡ e.Done old.actor number (answers.Rebuild end) ∷ events ++ old.log
  pub course : IsTrue (keeps_legal kind)
      → (work : Work) × IsCourseFrom m.layout old.actor number m.work events work × (ask_of m.layout work ≡ Say (SayDone (answers.Rebuild end)))

-- a node whose rebuild left no block holds all that it has to hold
abbrev pub IsWholeIfRebuilt : List Event → ℕ → RebuildEnd → Type 0
IsWholeIfRebuilt h n (ends.Rebuilt fence refilled) = IsWhole h n fence
IsWholeIfRebuilt h n end = Unit {0}

-- The log has the events of the rebuild of a node more, and as the newest one the word with which it ended so.
pub record HasRebuilt (kind : List ℕ) (earlier : List Event) (node : ℕ) (old new : SoleView) (end : RebuildEnd) : Type 0 where
  pub number : ℕ
  pub events : List Event
  pub log : new.pass.log ≡ e.Done new.pass.actor number (answers.Rebuild end) ∷ events ++ old.pass.log
  pub course : IsTrue (keeps_legal kind) → IsRebuildEnding (volume_in kind).layout new.pass.actor number node events end
  pub whole : IsTrue (keeps_legal kind) → IsWholeIfRebuilt (new.pass.log ++ earlier) node end
