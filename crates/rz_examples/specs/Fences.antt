-- Node 1 gets a new disk, with fence 2, while the block is written.
use Rattle.std.specs.Prelude.{ℕ, false, List, ◌∷◌, Some, None}
use Rattle.rz_events.specs.declared.files.Published.{Published}
use Rattle.rz_events.specs.declared.files.Listed.{Listed}
use Rattle.rz_events.specs.declared.records.Held.{Held}
use Rattle.rz_events.specs.declared.records.Change.TheVariants as change
use Rattle.rz_events.specs.declared.ends.Why.TheVariants as why
use Rattle.rz_events.specs.declared.ends.WriteEnd.TheVariants as write
use Rattle.rz_events.specs.declared.ends.RebuildEnd.TheVariants as rebuild
use Rattle.rz_events.specs.declared.events.Answer.TheVariants as answers
use Rattle.rz_events.specs.declared.events.Event.{Event}
use Rattle.rz_events.specs.declared.events.Event.TheVariants as e
use Rattle.rz_examples.specs.Plain.{one, two, mender, block, file, world}
use Rattle.rz_examples.specs.Ordinary.{kept_at, accepted_on, with_begin, with_keeps}
use Rattle.rz_examples.specs.Mended.{lost, probed, enrolled, replaced, none_left, with_disk}
use Rattle.rz_examples.specs.Rivals.{opened_by_two}

-- the write is acknowledged on nodes 2, 3 and 4
abbrev pub written_beside : Event
written_beside = e.Gave one 2 block false (write.Acked 1 14)

-- The node is enrolled after it kept the record, so the publish is refused for its position.

abbrev pub barred : Event
barred = e.Publish one block 1 7 (Some (0, 2))

abbrev pub with_bar : List Event
with_bar = barred ∷ enrolled ∷ probed ∷ lost ∷ with_keeps

-- the writer sends the record to another node
abbrev pub with_spare : List Event
with_spare = kept_at 4 3 ∷ with_bar

abbrev pub published_beside : List Event
published_beside = written_beside ∷ accepted_on 14 ∷ with_spare

-- The node has its new disk before the record comes, whose stamp is below the fence.

abbrev pub fenced : Event
fenced = e.Refused one 1 why.Fenced 2

abbrev pub with_fenced : List Event
with_fenced = fenced ∷ replaced ∷ enrolled ∷ probed ∷ lost ∷ with_begin

abbrev pub with_others : List Event
with_others = kept_at 4 3 ∷ kept_at 3 2 ∷ kept_at 2 1 ∷ with_fenced

abbrev pub fenced_write : List Event
fenced_write = written_beside ∷ accepted_on 14 ∷ with_others

-- A second write begins after the node has its new disk, so its stamp is above the fence.

abbrev pub begun_above : Event
begun_above = e.Begin two block 3 1 world

abbrev pub kept_above_at : ℕ → ℕ → Event
kept_above_at node position = e.Did two node (change.Keep block 3 position)

abbrev pub accepted_above : Event
accepted_above = e.Publish two block 3 7 None

abbrev pub with_kept_above : List Event
with_kept_above = kept_above_at 3 2 ∷ kept_above_at 2 1 ∷ kept_above_at 1 0 ∷ begun_above ∷ opened_by_two 5 ∷ with_disk

abbrev pub with_above : List Event
with_above = e.Gave two 1 block false (write.Acked 3 7) ∷ accepted_above ∷ with_kept_above

abbrev pub above_published : Published
above_published = record { stamp = 3; mask = 7; length = 5 }

abbrev pub above_listed : Listed
above_listed = record { key = block; info = file 5; published = above_published }

abbrev pub above_record : Held
above_record = record { stamp = 3; length = 5; base = 1 }

abbrev pub listed_above : Event
listed_above = e.Next mender 1 None (Some above_listed)

abbrev pub given_above_at : ℕ → ℕ → Event
given_above_at node position = e.Fetch mender node block position 3 (Some above_record)

-- the node has the record, so it passes the refill over
abbrev pub passed_over : Event
passed_over = e.Passed mender 1 block 3 3

abbrev pub with_copied : List Event
with_copied = given_above_at 2 1 ∷ given_above_at 1 0 ∷ listed_above ∷ with_above

-- the rebuilder counts it
abbrev pub mended_above : List Event
mended_above = e.Done mender 1 (answers.Rebuild (rebuild.Rebuilt 2 1)) ∷ none_left ∷ passed_over ∷ with_copied
