-- Histories that are not legal since an operation says an answer that it has not come to.
use Rattle.std.specs.Prelude.{ℕ, true, List, [], ◌∷◌, Some, None}
use Rattle.rz_events.specs.declared.records.Change.TheVariants as change
use Rattle.rz_events.specs.declared.tree.TreeCall.TheVariants as call
use Rattle.rz_events.specs.declared.tree.TreeReply.TheVariants as reply
use Rattle.rz_events.specs.declared.ends.Why.TheVariants as why
use Rattle.rz_events.specs.declared.ends.ReadEnd.TheVariants as read
use Rattle.rz_events.specs.declared.ends.WriteEnd.TheVariants as write
use Rattle.rz_events.specs.declared.ends.RebuildEnd.TheVariants as rebuild
use Rattle.rz_events.specs.declared.events.Answer.TheVariants as answers
use Rattle.rz_events.specs.declared.events.Event.{Event}
use Rattle.rz_events.specs.declared.events.Event.TheVariants as e
use Rattle.rz_examples.specs.Plain.{one, two, mender, path, block, next_block, file, hello, world}
use Rattle.rz_examples.specs.Ordinary.{begun, opened, looked, fetched_at, with_file, with_write}
use Rattle.rz_examples.specs.Mended.{with_disk, with_sources, listed, none_left}
use Rattle.rz_examples.specs.Troubled.{down_at, short_causes, gone, dropped_at}

-- Ranges.

abbrev pub kept_next_at : ℕ → ℕ → Event
kept_next_at node position = e.Did two node (change.Keep next_block 2 position)

-- another client wrote the next block
abbrev pub with_next : List Event
with_next =
    e.Publish two next_block 2 7 None ∷ kept_next_at 3 2 ∷ kept_next_at 2 1 ∷ kept_next_at 1 0 ∷ e.Begin two next_block 2 0 world ∷ with_write

-- a range of the first block is read
abbrev pub part_found : List Event
part_found = e.Got one 3 block true (read.Found 1 hello) ∷ fetched_at 2 1 ∷ fetched_at 1 0 ∷ looked ∷ opened 4101 ∷ with_next

-- and the bytes that are answered are those of the next one
abbrev pub read_elsewhere : List Event
read_elsewhere = e.Done one 3 (answers.Read world) ∷ part_found

-- the block of a range that is written has too few nodes
abbrev pub part_short : List Event
part_short =
    e.Gave one 2 block true (write.TooFew short_causes) ∷ down_at 2 ∷ down_at 1 ∷ begun ∷ e.Got one 2 block true read.Hole ∷ e.Look one block None
    ∷ opened 0 ∷ e.Stop 2 ∷ e.Stop 1 ∷ with_file

-- and its bytes are counted as written
abbrev pub counted_unwritten : List Event
counted_unwritten = e.Done one 2 (answers.Wrote 5) ∷ part_short

-- Rebuilds.

-- the block that is told is not refilled, and the next one is asked for
abbrev pub skipped : List Event
skipped = e.Done mender 1 (answers.Rebuild (rebuild.Rebuilt 2 0)) ∷ none_left ∷ listed ∷ with_disk

-- the rebuilder writes the block too, and the node passes that record over, and not the one that was told
abbrev pub before_pass : List Event
before_pass = e.Passed mender 1 block 3 3 ∷ e.Did mender 1 (change.Keep block 3 0) ∷ e.Begin mender block 3 1 world ∷ with_sources

abbrev pub passed_other : List Event
passed_other = e.Done mender 1 (answers.Rebuild (rebuild.Rebuilt 2 1)) ∷ none_left ∷ before_pass

-- a rebuilder does what a client does
abbrev pub made_by_rebuilder : List Event
made_by_rebuilder = e.Done mender 1 (answers.Created 1) ∷ e.Meta mender (call.Create path) (reply.MadeFile (file 0)) ∷ []

-- Drops.

-- node 4 has a new disk
abbrev pub with_other_disk : List Event
with_other_disk = e.Replace mender 4 1 2 ∷ e.Enroll mender 4 1 2 ∷ e.Probe mender 4 (Some 1) ∷ e.Lose 4 1 ∷ with_write

-- and refuses a drop as if it were a write below its fence
abbrev pub refused_drop : List Event
refused_drop = e.Refused one 4 why.Fenced 2 ∷ dropped_at 3 ∷ dropped_at 2 ∷ dropped_at 1 ∷ gone ∷ with_other_disk

-- and that node is passed over
abbrev pub fenced_drop : List Event
fenced_drop = e.Done one 3 answers.Plain ∷ refused_drop
