-- To which operation of the script an event belongs.
use Rattle.std.specs.Prelude.{ℕ, true, cond, ◌+◌, ◌≡◌, List, [], ◌∷◌, Option, Some, None, slice_get}
use Rattle.rz_events.specs.declared.keys.Actor.{Actor}
use Rattle.rz_events.specs.declared.keys.Key.{Key}
use Rattle.rz_events.specs.declared.events.Event.{Event}
use Rattle.rz_events.specs.declared.events.Event.TheVariants as e
use Rattle.rz_events.specs.Events.{same_actor, same_key}
use Rattle.rz_core.specs.History.{of_actor}
use Rattle.rz_core.specs.Own.{is_end}
use Rattle.rz_events.specs.declared.operations.Operation.{Operation}
use Rattle.rz_events.specs.declared.operations.Operation.TheVariants as operation
use Rattle.rz_script.specs.declared.line.Line.{Line}
use Rattle.rz_script.specs.declared.line.Line.TheVariants as line

-- the operations that the lines give an actor, in order
abbrev pub given : Actor → List Line → List Operation
given by [] = []
given by (line.Op a op ∷ lines) = cond (same_actor by a) (op ∷ given by lines) (given by lines)
given by (_ ∷ lines) = given by lines

-- how many operations of the actor came to their end, by its own events
abbrev pub ended : List Event → ℕ
ended [] = 0
ended (x ∷ o) = cond (is_end x) (ended o + 1) (ended o)

-- The operation to which the actor's next event belongs, where these are its operations and its own events so far: the
-- first one that has not come to its end.
abbrev pub in_hand : List Operation → List Event → Option Operation
in_hand ops o = slice_get ops (ended o)

abbrev pub IsUpdate : Option Operation → Type 0
IsUpdate (Some (operation.Update path offset datum)) = Unit {0}
IsUpdate _ = ⊥

-- A key is guarded in a log, where `ops` has the operations of each actor: every accepted publish of it belongs to an update.
abbrev pub IsGuarded : (Actor → List Operation) → Key → List Event → Type 0
IsGuarded ops key [] = Unit {0}
IsGuarded ops key (e.Publish by at stamp mask None ∷ h) =
    IsGuarded ops key h × (same_key key at ≡ true → IsUpdate (in_hand (ops by) (of_actor by h)))
IsGuarded ops key (_ ∷ h) = IsGuarded ops key h
