-- A play that goes on after earlier runs: what is said of it goes for the log of those runs and of its own.
use Rattle.std.specs.Prelude.{ℕ, Bool, List, ◌++◌}
use Rattle.rz_events.specs.declared.events.Event.{Event}
use Rattle.rz_play.specs.World.{World}

-- What there was before the first line: how many faults each disk, by its place, had counted, and the log of the earlier runs, the
-- newest event first, with the nodes stopped and started again; and whether it is known that this was their log, as it is where
-- there were none.
pub record Before : Type 0 where
  pub counts : ℕ → ℕ
  pub log : List Event
  pub known : Bool

-- the world of a play with the events of the earlier runs behind its own
abbrev pub behind : List Event → World → World
behind old w = record w { log = w.log ++ old }
