-- How the next crash of a node's disk picks, by the events of the node's word.
use Rattle.std.specs.Prelude.{ℕ, List, [], ◌∷◌}
use Rattle.rz_events.specs.declared.events.Event.{Event}
use Rattle.rz_events.specs.declared.events.Event.TheVariants as e

-- as the last arming says, or by 0 without one
abbrev pub pick_of : List Event → ℕ
pick_of [] = 0
pick_of (e.Armed node k pick ∷ w) = pick
pick_of (x ∷ w) = pick_of w
