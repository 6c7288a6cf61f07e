-- What a call under a lock does to the log that its pass has seen.
use Rattle.std.specs.Prelude.{ℕ, ◌≡◌, IsTrue, List, ◌++◌, Option}
use Rattle.rz_events.specs.declared.events.Event.{Event}
use Rattle.rz_events.specs.Events.{by_of}
use Rattle.rz_core.specs.History.{of_actor}
use Rattle.rz_core.specs.Legal.{IsAllowedIn}
use Rattle.rz_play.specs.Lines.{noted}
use Rattle.rz_chronicle.specs.Keys.{IsLater}
use Rattle.rz_chronicle.specs.Kinds.{keeps_legal, volume_in}
use Rattle.rz_chronicle.specs.Holds.{Stays}

-- An event was added to the log, or none was: the new log is that event on top of one that goes on from the old one, and in
-- which the events of these keys are the old ones.
pub record AddsEvent (ks : List ℕ) (old : List Event) (event : Option Event) (new : List Event) : Type 0 where
  pub before : List Event
  pub later : IsLater old before
  pub stays : Stays ks old before
  pub last : new ≡ noted event before

-- The event may come next: in a book that keeps its log legal it is allowed behind the earlier log and the events of this run.
abbrev pub MayBeNext : List ℕ → List Event → List Event → Event → Type 0
MayBeNext kind earlier h x = IsTrue (keeps_legal kind) → IsAllowedIn (volume_in kind) (h ++ earlier) (of_actor (by_of x) h) x
