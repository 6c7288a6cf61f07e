-- The text of a run on threads.
use Rattle.std.specs.Prelude.{ℕ, ◌≡◌, List, [], ◌++◌, map, reverse}
use Rattle.std.specs.List.{flat_map}
use Rattle.std.specs.Global.{Vec}
use Rattle.rz_events.specs.declared.events.Event.{Event}
use Rattle.rz_core.specs.History.{of_actor}
use Rattle.rz_play.specs.World.{actors}
use Rattle.rz_show.specs.Text.{lines, end_line}
use Rattle.rz_show.specs.Shown.{shown_of}

-- the events of each actor of a script, those of the clients and then those of the rebuilders, the oldest of each actor first
unfoldable pub in_run_order : List Event → List Event
in_run_order history = flat_map (λ a. reverse (of_actor a history)) actors

-- the lines of these events, and a last line with the number of events that the log has
abbrev pub run_text : List Event → ℕ → List ℕ
run_text history events = lines [] (in_run_order history) ++ end_line events

-- the lines of each actor's events by themselves, and that last line
abbrev pub shown_text : List (Vec Event) → ℕ → List ℕ
shown_text shown events = flat_map (λ s. lines [] s.items) shown ++ end_line events

-- these are the events of a history that are shown, those of each actor by themselves, in the order of the actors
abbrev pub AreShownOf : List (Vec Event) → List Event → Type 0
AreShownOf shown history = map (λ s. s.items) shown ≡ map (λ a. shown_of (of_actor a history)) actors

-- the text of a run with so many events, whichever history it is that shows these
abbrev pub IsRunText : List (Vec Event) → ℕ → List ℕ → Type 0
IsRunText shown events text = (history : List Event) → AreShownOf shown history → text ≡ run_text history events
