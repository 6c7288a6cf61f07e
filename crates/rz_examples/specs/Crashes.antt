-- Node 1 crashes while it keeps the record, and is started with what its disk has.
use Rattle.std.specs.Prelude.{false, true, List, ◌∷◌, Some}
use Rattle.rz_events.specs.declared.files.Published.{Published}
use Rattle.rz_events.specs.declared.records.Change.TheVariants as change
use Rattle.rz_events.specs.declared.ends.ReadEnd.TheVariants as read
use Rattle.rz_events.specs.declared.events.Event.{Event}
use Rattle.rz_events.specs.declared.events.Event.TheVariants as e
use Rattle.rz_examples.specs.Plain.{one, block, hello}
use Rattle.rz_examples.specs.Ordinary.{kept_at, accepted_on, opened, fetched_at, with_begin}
use Rattle.rz_examples.specs.Troubled.{down_at}
use Rattle.rz_examples.specs.Fences.{written_beside}

-- its fuse lets no call of the disk pass
abbrev pub armed : Event
armed = e.Armed 1 0 0

abbrev pub broke : Event
broke = e.Broke one 1 (Some (change.Keep block 1 0))

abbrev pub with_break : List Event
with_break = kept_at 4 3 ∷ kept_at 3 2 ∷ kept_at 2 1 ∷ broke ∷ armed ∷ with_begin

abbrev pub broken_write : List Event
broken_write = written_beside ∷ accepted_on 14 ∷ with_break

-- the disk does not open, and then it does, and has the record; nodes 2 and 3 stop
abbrev pub with_start : List Event
with_start = e.Stop 3 ∷ e.Stop 2 ∷ e.Start 1 true ∷ e.Unopened 1 2 ∷ broken_write

abbrev pub beside_published : Published
beside_published = record { stamp = 1; mask = 14; length = 5 }

abbrev pub looked_beside : Event
looked_beside = e.Look one block (Some beside_published)

abbrev pub with_found : List Event
with_found = fetched_at 1 0 ∷ fetched_at 4 3 ∷ down_at 3 ∷ down_at 2 ∷ looked_beside ∷ opened 5 ∷ with_start

-- a read finds the text with the record that the start took
abbrev pub taken_up : List Event
taken_up = e.Got one 3 block false (read.Found 1 hello) ∷ with_found
