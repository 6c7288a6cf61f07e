-- What a table knows of the files that actors opened last.
use Rattle.std.specs.Prelude.{ℕ, ◌≡◌, if◌then◌else◌, List, slice_index}
use Rattle.rz_events.specs.declared.keys.Actor.{Actor}
use Rattle.rz_events.specs.declared.keys.Actor.TheVariants.{Client, Rebuilder, Admin}
use Rattle.rz_events.specs.declared.events.Event.{Event}
use Rattle.rz_events.specs.Events.{same_actor}
use Rattle.rz_show.specs.declared.opened.Opened.{Opened}
use Rattle.rz_show.specs.Opened.{positions_after, positions}

-- the entry of an actor in the tables of clients and of rebuilders, or the administrator's
abbrev pub entry_of : List ℕ → List ℕ → ℕ → Actor → ℕ
entry_of clients rebuilders admin (Client n) = slice_index clients n
entry_of clients rebuilders admin (Rebuilder n) = slice_index rebuilders n
entry_of clients rebuilders admin Admin = admin

-- what the table knows of an actor
abbrev pub known : Opened → Actor → ℕ
known o actor = entry_of o.clients o.rebuilders o.admin actor

-- it knows of no file
abbrev pub KnowsNone : Opened → Type 0
KnowsNone o = (actor : Actor) → known o actor ≡ 0

-- it knows what these events tell
abbrev pub Knows : Opened → List Event → Type 0
Knows o before = (actor : Actor) → known o actor ≡ positions actor before

-- one actor's file has so many positions now
abbrev pub Sets : Opened → Opened → Actor → ℕ → Type 0
Sets old new by count = (actor : Actor) → known new actor ≡ (if same_actor actor by then count else known old actor)

-- an event was added to what it knows
abbrev pub NotesPositions : Opened → Opened → Event → Type 0
NotesPositions old new x = (actor : Actor) → known new actor ≡ positions_after x actor (known old actor)
