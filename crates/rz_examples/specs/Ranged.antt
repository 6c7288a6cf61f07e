-- A client writes two bytes over the border of two blocks, and reads them again, with a block before them that was never
-- written.
use Rattle.std.specs.Prelude.{ℕ, true, List, [], ◌∷◌, ◌++◌, Some, None}
use Rattle.rz_events.specs.declared.keys.Key.{Key}
use Rattle.rz_events.specs.declared.files.Published.{Published}
use Rattle.rz_events.specs.declared.records.Held.{Held}
use Rattle.rz_events.specs.declared.records.Change.TheVariants as change
use Rattle.rz_events.specs.declared.ends.ReadEnd.TheVariants as read
use Rattle.rz_events.specs.declared.ends.WriteEnd.TheVariants as write
use Rattle.rz_events.specs.declared.events.Answer.TheVariants as answers
use Rattle.rz_events.specs.declared.events.Event.{Event}
use Rattle.rz_events.specs.declared.events.Event.TheVariants as e
use Rattle.rz_operation_model.specs.Ranges.{cut, patched}
use Rattle.rz_examples.specs.Plain.{one}
use Rattle.rz_examples.specs.Ordinary.{opened, with_file}

-- The write of the bytes 97 and 98 at byte 8191 of the file: the first is the last byte of block 1, and the second the first
-- byte of block 2.

abbrev pub block_at : ℕ → Key
block_at block = record { fid = 1; block = block }

-- zeros before the byte
abbrev pub first_text : List ℕ
first_text = patched 4095 (97 ∷ []) []

abbrev pub second_text : List ℕ
second_text = patched 0 (98 ∷ []) []

-- a block was never written, so what is patched is the empty text
abbrev pub hole_looked : ℕ → Event
hole_looked block = e.Look one (block_at block) None

abbrev pub hole_got : ℕ → ℕ → Event
hole_got number block = e.Got one number (block_at block) true read.Hole

-- the write of a block, whose number is that of its stamp as well
abbrev pub part_begun : ℕ → List ℕ → Event
part_begun block text = e.Begin one (block_at block) block 0 text

abbrev pub part_kept : ℕ → ℕ → ℕ → Event
part_kept block node position = e.Did one node (change.Keep (block_at block) block position)

abbrev pub part_accepted : ℕ → Event
part_accepted block = e.Publish one (block_at block) block 7 None

abbrev pub part_gave : ℕ → Event
part_gave block = e.Gave one 2 (block_at block) true (write.Acked block 7)

abbrev pub part_written : ℕ → List ℕ → List Event
part_written block text =
    part_gave block ∷ part_accepted block ∷ part_kept block 3 2 ∷ part_kept block 2 1 ∷ part_kept block 1 0 ∷ part_begun block text
    ∷ hole_got 2 block ∷ hole_looked block ∷ []

abbrev pub with_first : List Event
with_first = part_written 1 first_text ++ opened 0 ∷ with_file

abbrev pub with_range : List Event
with_range = e.Done one 2 (answers.Wrote 2) ∷ part_written 2 second_text ++ with_first

-- The read of 4,098 bytes at byte 4095 of the file: the last byte of block 0, block 1, and the first byte of block 2.

abbrev pub part_published : ℕ → ℕ → Published
part_published stamp size = record { stamp = stamp; mask = 7; length = size }

abbrev pub part_record : ℕ → ℕ → Held
part_record stamp size = record { stamp = stamp; length = size; base = 0 }

abbrev pub part_fetched : ℕ → ℕ → ℕ → ℕ → Event
part_fetched block size node position = e.Fetch one node (block_at block) position block (Some (part_record block size))

abbrev pub part_got : ℕ → List ℕ → Event
part_got block text = e.Got one 3 (block_at block) true (read.Found block text)

abbrev pub part_read : ℕ → ℕ → List ℕ → List Event
part_read block size text =
    part_got block text ∷ part_fetched block size 2 1 ∷ part_fetched block size 1 0 ∷ e.Look one (block_at block) (Some (part_published block size)) ∷ []

abbrev pub range_read : List ℕ
range_read = cut 4095 1 [] ++ cut 0 4096 first_text ++ cut 0 1 second_text

abbrev pub ranged : List Event
ranged =
    e.Done one 3 (answers.Read range_read) ∷ part_read 2 1 second_text ++ part_read 1 4096 first_text
    ++ hole_got 3 0 ∷ hole_looked 0 ∷ opened 8193 ∷ with_range
