-- How many positions the file has that an actor opened last.
use Rattle.std.specs.Prelude.{ℕ, if◌then◌else◌, List, [], ◌∷◌, Option, Some, None, length, unwrap_or}
use Rattle.rz_events.specs.declared.keys.Actor.{Actor}
use Rattle.rz_events.specs.declared.tree.TreeCall.{TreeCall}
use Rattle.rz_events.specs.declared.tree.TreeCall.TheVariants as call
use Rattle.rz_events.specs.declared.tree.TreeReply.{TreeReply}
use Rattle.rz_events.specs.declared.tree.TreeReply.TheVariants as reply
use Rattle.rz_events.specs.declared.events.Event.{Event}
use Rattle.rz_events.specs.declared.events.Event.TheVariants as e
use Rattle.rz_events.specs.Events.{same_actor}

-- the places of the file in a reply, where there is one
abbrev pub places_in : TreeReply → Option ℕ
places_in (reply.File info) = Some (length info.places)
places_in _ = None

-- the places of the file that a call opened, where it did
abbrev pub places_opened : TreeCall → TreeReply → Option ℕ
places_opened (call.OpenFile path) r = places_in r
places_opened _ r = None

-- the positions of an actor's file after an event, of which there were so many before it
abbrev pub positions_after : Event → Actor → ℕ → ℕ
positions_after (e.Meta by call reply) actor before =
    if same_actor actor by then unwrap_or (places_opened call reply) before else before
positions_after _ actor before = before

-- the positions of an actor's file after these events, the newest first: none before it opened one
abbrev pub positions : Actor → List Event → ℕ
positions actor [] = 0
positions actor (x ∷ before) = positions_after x actor (positions actor before)
