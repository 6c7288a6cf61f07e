-- After the write of the ordinary history node 1 loses its disk, and a rebuilder mends it.
use Rattle.std.specs.Prelude.{ℕ, List, ◌∷◌, Some, None}
use Rattle.rz_events.specs.declared.files.Listed.{Listed}
use Rattle.rz_events.specs.declared.records.Change.TheVariants as change
use Rattle.rz_events.specs.declared.ends.RebuildEnd.TheVariants as rebuild
use Rattle.rz_events.specs.declared.events.Answer.TheVariants as answers
use Rattle.rz_events.specs.declared.events.Event.{Event}
use Rattle.rz_events.specs.declared.events.Event.TheVariants as e
use Rattle.rz_examples.specs.Plain.{mender, block, file}
use Rattle.rz_examples.specs.Ordinary.{hello_published, hello_record, with_write}

abbrev pub lost : Event
lost = e.Lose 1 1

abbrev pub probed : Event
probed = e.Probe mender 1 (Some 1)

-- the loss gets the fence 2
abbrev pub enrolled : Event
enrolled = e.Enroll mender 1 1 2

abbrev pub replaced : Event
replaced = e.Replace mender 1 1 2

abbrev pub hello_listed : Listed
hello_listed = record { key = block; info = file 5; published = hello_published }

abbrev pub listed : Event
listed = e.Next mender 1 None (Some hello_listed)

abbrev pub given_at : ℕ → ℕ → Event
given_at node position = e.Fetch mender node block position 1 (Some hello_record)

abbrev pub refilled : Event
refilled = e.Did mender 1 (change.Refill 2 block 1 0)

abbrev pub none_left : Event
none_left = e.Next mender 1 (Some block) None

-- the node has a new disk
abbrev pub with_disk : List Event
with_disk = replaced ∷ enrolled ∷ probed ∷ lost ∷ with_write

abbrev pub empty_there : Event
empty_there = e.Fetch mender 1 block 0 1 None

-- the node itself has no record yet, and two others give theirs
abbrev pub with_sources : List Event
with_sources = given_at 3 2 ∷ given_at 2 1 ∷ empty_there ∷ listed ∷ with_disk

abbrev pub mended : List Event
mended = none_left ∷ refilled ∷ with_sources

-- the rebuilder says that it refilled one key under fence 2
abbrev pub finished : List Event
finished = e.Done mender 1 (answers.Rebuild (rebuild.Rebuilt 2 1)) ∷ mended
