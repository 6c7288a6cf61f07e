-- A client makes a file, writes its first block and reads it again. Histories have the newest event first.
use Rattle.std.specs.Prelude.{ℕ, false, List, [], ◌∷◌, Some, None}
use Rattle.rz_events.specs.declared.files.Published.{Published}
use Rattle.rz_events.specs.declared.records.Held.{Held}
use Rattle.rz_events.specs.declared.records.Change.TheVariants as change
use Rattle.rz_events.specs.declared.tree.TreeCall.TheVariants as call
use Rattle.rz_events.specs.declared.tree.TreeReply.TheVariants as reply
use Rattle.rz_events.specs.declared.ends.ReadEnd.TheVariants as read
use Rattle.rz_events.specs.declared.ends.WriteEnd.TheVariants as write
use Rattle.rz_events.specs.declared.events.Answer.TheVariants as answers
use Rattle.rz_events.specs.declared.events.Event.{Event}
use Rattle.rz_events.specs.declared.events.Event.TheVariants as e
use Rattle.rz_examples.specs.Plain.{one, path, block, file, hello}

-- the events, oldest first

abbrev pub made : Event
made = e.Meta one (call.Create path) (reply.MadeFile (file 0))

abbrev pub made_done : Event
made_done = e.Done one 1 (answers.Created 1)

abbrev pub opened : ℕ → Event
opened size = e.Meta one (call.OpenFile path) (reply.File (file size))

abbrev pub begun : Event
begun = e.Begin one block 1 0 hello

-- the record of the write is kept at a node, which has this position
abbrev pub kept_at : ℕ → ℕ → Event
kept_at node position = e.Did one node (change.Keep block 1 position)

abbrev pub accepted_on : ℕ → Event
accepted_on mask = e.Publish one block 1 mask None

abbrev pub written : Event
written = e.Gave one 2 block false (write.Acked 1 7)

abbrev pub hello_published : Published
hello_published = record { stamp = 1; mask = 7; length = 5 }

abbrev pub looked : Event
looked = e.Look one block (Some hello_published)

abbrev pub hello_record : Held
hello_record = record { stamp = 1; length = 5; base = 0 }

-- a node gives the record
abbrev pub fetched_at : ℕ → ℕ → Event
fetched_at node position = e.Fetch one node block position 1 (Some hello_record)

abbrev pub found : List ℕ → Event
found text = e.Got one 3 block false (read.Found 1 text)

-- the histories

-- the file is there
abbrev pub with_file : List Event
with_file = made_done ∷ made ∷ []

-- the write began
abbrev pub with_begin : List Event
with_begin = begun ∷ opened 0 ∷ with_file

-- three nodes keep its records
abbrev pub with_keeps : List Event
with_keeps = kept_at 3 2 ∷ kept_at 2 1 ∷ kept_at 1 0 ∷ with_begin

-- the write is acknowledged, and the client is told
abbrev pub with_write : List Event
with_write = written ∷ accepted_on 7 ∷ with_keeps

-- two nodes give their records
abbrev pub with_records : List Event
with_records = fetched_at 2 1 ∷ fetched_at 1 0 ∷ looked ∷ opened 5 ∷ with_write

-- the client reads the text
abbrev pub ordinary : List Event
ordinary = found hello ∷ with_records
