-- Histories that are not legal: each ends with one event that an honest store would not have, after events of the
-- ordinary and the mended history.
use Rattle.std.specs.Prelude.{false, List, ◌∷◌, Some, replicate}
use Rattle.rz_events.specs.declared.records.Change.TheVariants as change
use Rattle.rz_events.specs.declared.ends.Seen.TheVariants as seen
use Rattle.rz_events.specs.declared.ends.ReadEnd.TheVariants as read
use Rattle.rz_events.specs.declared.events.Event.{Event}
use Rattle.rz_events.specs.declared.events.Event.TheVariants as e
use Rattle.rz_examples.specs.Plain.{one, two, mender, block, hello, world}
use Rattle.rz_examples.specs.Ordinary.{opened, kept_at, accepted_on, looked, fetched_at, found, with_file, with_begin, with_keeps, with_write, with_records}
use Rattle.rz_examples.specs.Troubled.{none_at, lost_at, looked_again}
use Rattle.rz_examples.specs.Rivals.{begun_later, kept_later_at, world_published, world_record, with_both}
use Rattle.rz_examples.specs.Mended.{lost, probed, enrolled, replaced, given_at, listed, with_disk}

-- Writes.

-- a write is published after two keeps, on three nodes
abbrev pub early : List Event
early = accepted_on 7 ∷ kept_at 2 1 ∷ kept_at 1 0 ∷ with_begin

-- a write is published on two nodes alone
abbrev pub thin : List Event
thin = accepted_on 3 ∷ with_keeps

-- a stamp is drawn twice
abbrev pub drawn_twice : List Event
drawn_twice = e.Begin two block 1 0 world ∷ with_begin

-- a write is published though a later one of the block began
abbrev pub outrun : List Event
outrun = accepted_on 7 ∷ kept_at 3 2 ∷ kept_at 2 1 ∷ kept_at 1 0 ∷ begun_later 0 ∷ with_begin

-- a write is published on a node that was enrolled since it kept the record
abbrev pub enrolled_named : List Event
enrolled_named = accepted_on 7 ∷ enrolled ∷ probed ∷ lost ∷ with_keeps

-- a node keeps a record whose stamp is at most its fence
abbrev pub under_fence : List Event
under_fence = kept_at 1 0 ∷ replaced ∷ enrolled ∷ probed ∷ lost ∷ with_begin

-- a node keeps a record of a smaller stamp than it holds
abbrev pub smaller : List Event
smaller = kept_at 1 0 ∷ kept_later_at 1 0 ∷ begun_later 0 ∷ with_begin

-- Reads.

-- the text that is found is that of no write with this stamp
abbrev pub other_text : List Event
other_text = found world ∷ with_records

-- a look is told an older write than the last one that was acknowledged
abbrev pub stale_look : List Event
stale_look = looked ∷ with_both

-- a read finds an older write than its look was told
abbrev pub older_stamp : List Event
older_stamp =
    e.Got one 3 block false (read.Found 1 hello)
    ∷ fetched_at 2 1 ∷ fetched_at 1 0 ∷ e.Look one block (Some world_published) ∷ with_both

-- a read joins records of two writes
abbrev pub joined : List Event
joined =
    e.Got one 3 block false (read.Found 2 world) ∷ fetched_at 2 1 ∷ e.Fetch one 1 block 0 2 (Some world_record)
    ∷ e.Look one block (Some world_published) ∷ with_both

-- a lost node gives a record
abbrev pub from_lost : List Event
from_lost = fetched_at 1 0 ∷ looked ∷ lost ∷ with_write

-- a read says that another write was published, and has not looked again
abbrev pub unseen_move : List Event
unseen_move = e.Got one 3 block false (read.Moved 1 2) ∷ with_records

-- a message is lost of an actor that does nothing
abbrev pub idle_miss : List Event
idle_miss = e.Missed one 1 false ∷ with_write

-- a message is lost after the reader looked again
abbrev pub late_outcome : List Event
late_outcome =
    e.Got one 3 block false (read.TooFew (seen.Nothing ∷ seen.Lost ∷ seen.Held ∷ seen.Missed ∷ replicate 12 seen.NotAsked)) ∷ e.Missed one 4 false
    ∷ looked_again ∷ fetched_at 3 2 ∷ lost_at 2 ∷ none_at 1 0 ∷ looked ∷ opened 5 ∷ e.Lose 2 1 ∷ with_disk

-- Nodes.

-- a node stops that the volume does not have
abbrev pub unknown_stops : List Event
unknown_stops = e.Stop 5 ∷ with_file

-- node 4 gives a record that it never held
abbrev pub invented : List Event
invented = fetched_at 4 3 ∷ looked ∷ opened 5 ∷ with_write

-- node 1 holds the record, and says that it does not
abbrev pub hidden : List Event
hidden = none_at 1 0 ∷ looked ∷ opened 5 ∷ with_write

-- Rebuilds.

-- a node takes a refill under a fence that is not its own
abbrev pub late_refill : List Event
late_refill = e.Did mender 1 (change.Refill 1 block 1 0) ∷ given_at 3 2 ∷ given_at 2 1 ∷ listed ∷ with_disk

-- a node takes a refill of a record that one node alone gave
abbrev pub thin_refill : List Event
thin_refill = e.Did mender 1 (change.Refill 2 block 1 0) ∷ given_at 2 1 ∷ listed ∷ with_disk
