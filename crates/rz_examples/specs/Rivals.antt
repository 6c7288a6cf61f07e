-- Two clients use one file at one time.
use Rattle.std.specs.Prelude.{ℕ, false, List, [], ◌∷◌, ◌++◌, Some, None}
use Rattle.rz_events.specs.declared.keys.Key.{Key}
use Rattle.rz_events.specs.declared.files.Published.{Published}
use Rattle.rz_events.specs.declared.records.Held.{Held}
use Rattle.rz_events.specs.declared.records.Change.TheVariants as change
use Rattle.rz_events.specs.declared.tree.TreeCall.TheVariants as call
use Rattle.rz_events.specs.declared.tree.TreeReply.TheVariants as reply
use Rattle.rz_events.specs.declared.ends.Denial.TheVariants as denial
use Rattle.rz_events.specs.declared.ends.ReadEnd.TheVariants as read
use Rattle.rz_events.specs.declared.ends.WriteEnd.TheVariants as write
use Rattle.rz_events.specs.declared.export.Asked.TheVariants as asked
use Rattle.rz_events.specs.declared.events.Event.{Event}
use Rattle.rz_events.specs.declared.events.Event.TheVariants as e
use Rattle.rz_export_model.specs.Export.{file_blocks}
use Rattle.rz_examples.specs.Plain.{one, two, path, block, file, world}
use Rattle.rz_examples.specs.Ordinary.{kept_at, opened, looked, fetched_at, with_file, with_begin, with_write}
use Rattle.rz_examples.specs.Troubled.{none_at}

abbrev pub opened_by_two : ℕ → Event
opened_by_two size = e.Meta two (call.OpenFile path) (reply.File (file size))

-- The second client's write of the block, which begins when this stamp is published.

abbrev pub begun_later : ℕ → Event
begun_later base = e.Begin two block 2 base world

abbrev pub kept_later_at : ℕ → ℕ → Event
kept_later_at node position = e.Did two node (change.Keep block 2 position)

abbrev pub accepted_later : Event
accepted_later = e.Publish two block 2 7 None

abbrev pub gave_later : Event
gave_later = e.Gave two 1 block false (write.Acked 2 7)

abbrev pub world_published : Published
world_published = record { stamp = 2; mask = 7; length = 5 }

abbrev pub world_record : Held
world_record = record { stamp = 2; length = 5; base = 1 }

abbrev pub second_write : List Event
second_write =
    gave_later ∷ accepted_later ∷ kept_later_at 3 2 ∷ kept_later_at 2 1 ∷ kept_later_at 1 0 ∷ begun_later 1 ∷ opened_by_two 5 ∷ []

-- both writes are acknowledged, the second one after a reader opened the file
abbrev pub with_both : List Event
with_both = second_write ++ opened 5 ∷ with_write

-- A read that moved: the second write comes between its look and its fetches.

abbrev pub with_move : List Event
with_move = second_write ++ looked ∷ opened 5 ∷ with_write

abbrev pub missed_at : ℕ → Event
missed_at node = e.Missed one node false

-- two of its messages are lost, so that one node alone gives the record that was looked up
abbrev pub with_misses : List Event
with_misses = none_at 4 3 ∷ fetched_at 3 2 ∷ missed_at 2 ∷ missed_at 1 ∷ with_move

abbrev pub looked_later : Event
looked_later = e.Recheck one block (Some world_published)

abbrev pub moved : List Event
moved = e.Got one 3 block false (read.Moved 1 2) ∷ looked_later ∷ with_misses

-- A write that is revoked: a later one of the block began, and its record came to node 1 first.

abbrev pub passed_by : Event
passed_by = e.Passed one 1 block 1 2

abbrev pub revoked_by : Event
revoked_by = e.Revoked one block 1 2

abbrev pub with_passed : List Event
with_passed = kept_at 3 2 ∷ kept_at 2 1 ∷ passed_by ∷ kept_later_at 1 0 ∷ begun_later 0 ∷ opened_by_two 0 ∷ with_begin

abbrev pub revoked : List Event
revoked = e.Gave one 2 block false (write.Revoked 2) ∷ revoked_by ∷ with_passed

-- A read that is denied: the second client takes the file away.

abbrev pub gone_by_two : Event
gone_by_two = e.Meta two (call.Unlink path) (reply.Gone (Some (file 5)))

abbrev pub look_denied : Event
look_denied = e.Denied one (asked.Look block) denial.UnknownFile

abbrev pub denied_read : List Event
denied_read = e.Got one 3 block false (read.Denied denial.UnknownFile) ∷ look_denied ∷ gone_by_two ∷ opened 5 ∷ with_write

-- A write that is denied: no file has this block.

abbrev pub far_block : Key
far_block = record { fid = 1; block = file_blocks }

abbrev pub begin_denied : Event
begin_denied = e.Denied one (asked.Begin far_block) denial.BlockTooFar

abbrev pub denied_write : List Event
denied_write = e.Gave one 2 far_block false (write.Denied denial.BlockTooFar) ∷ begin_denied ∷ opened 0 ∷ with_file
