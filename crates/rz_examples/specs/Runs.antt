-- The program ends before a write is published, and is run again.
use Rattle.std.specs.Prelude.{false, List, [], ◌∷◌, None}
use Rattle.rz_events.specs.declared.ends.ReadEnd.TheVariants as read
use Rattle.rz_events.specs.declared.events.Event.{Event}
use Rattle.rz_events.specs.declared.events.Event.TheVariants as e
use Rattle.rz_examples.specs.Plain.{one, block}
use Rattle.rz_examples.specs.Ordinary.{opened}

-- a client of the second run finds nothing published
abbrev pub second_run : List Event
second_run = e.Got one 1 block false read.Hole ∷ e.Look one block None ∷ opened 0 ∷ []

-- a client of the second run goes on with the write of the first one
abbrev pub taken_over : List Event
taken_over = e.Missed one 1 false ∷ []
