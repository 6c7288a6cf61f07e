-- The write or read of a range: block by block, and a block that is written only in part is read first.
use Rattle.std.specs.Prelude.{ℕ, Bool, ◌==◌, ◌-◌, min, cond, List, [], ◌++◌, length, Option, Some, None}
use Rattle.mj_angles.specs.declared.layout.Layout.{Layout}
use Rattle.rz_events.specs.declared.files.FileInfo.{FileInfo}
use Rattle.rz_events.specs.declared.ends.ReadMark.{ReadMark}
use Rattle.rz_events.specs.declared.ends.ReadMark.TheVariants as mark
use Rattle.rz_events.specs.declared.ends.WriteEnd.{WriteEnd}
use Rattle.rz_events.specs.declared.ends.WriteEnd.TheVariants as write
use Rattle.rz_events.specs.declared.machines.ReaderAsk.{ReaderAsk}
use Rattle.rz_events.specs.declared.machines.WriterAsk.{WriterAsk}
use Rattle.rz_events.specs.declared.machines.FileAsk.{FileAsk}
use Rattle.rz_events.specs.declared.machines.FileAsk.TheVariants as ask
use Rattle.rz_events.specs.declared.machines.FileAnswer.{FileAnswer}
use Rattle.rz_events.specs.declared.machines.FileAnswer.TheVariants as told
use Rattle.rz_events.specs.declared.machines.FileEnd.{FileEnd}
use Rattle.rz_events.specs.declared.machines.FileEnd.TheVariants as end
use Rattle.rz_client_model.specs.declared.reading.ReaderState.{ReaderState}
use Rattle.rz_client_model.specs.declared.writing.WriterState.{WriterState}
use Rattle.rz_client_model.specs.Read.{reader_start, reader_ask, reader_told, reader_end, IsReaderAnswer}
use Rattle.rz_client_model.specs.Write.{writer_start, writer_ask, writer_told, writer_end, IsWriterAnswer}
use Rattle.rz_operation_model.specs.Ranges.{Aim, Taking, Giving, RangeState, key_in, start_in, count_in, is_whole, passed, cut, patched}

pub data FileState : Type 0 where
  -- the block in hand is read
  Reads : RangeState → ReaderState → FileState
  -- it is written with this text
  Writes : RangeState → (text : List ℕ) → WriterState → FileState
  -- the range has come to its end, or as far as it goes
  Ended : RangeState → FileEnd → FileState

-- The next block.

abbrev pub reads_block : Layout → RangeState → FileState
reads_block layout r = Reads r (reader_start layout (key_in layout r) r.info.places)

abbrev pub writes_block : Layout → RangeState → List ℕ → FileState
writes_block layout r text = Writes r text (writer_start layout (key_in layout r) r.info.places (length text))

abbrev pub next_block : Layout → RangeState → Aim → FileState
next_block layout r (Taking bytes) = reads_block layout r
next_block layout r (Giving bytes) = cond (is_whole layout r)
    (writes_block layout r (cut r.done (count_in layout r) bytes)) (reads_block layout r)

abbrev pub go_on : Layout → RangeState → FileState
go_on layout r = cond (r.done == r.size) (Ended r (end.Whole r.done)) (next_block layout r r.aim)

-- The beginning.

abbrev pub write_start : Layout → FileInfo → ℕ → List ℕ → FileState
write_start layout info offset bytes =
    go_on layout (record { info = info; offset = offset; size = length bytes; done = 0; aim = Giving bytes })

-- a read is cut at the size of the file
abbrev pub read_start : Layout → FileInfo → ℕ → ℕ → FileState
read_start layout info offset count =
    go_on layout (record { info = info; offset = offset; size = min count (info.size - offset); done = 0; aim = Taking [] })

-- What it asks.

abbrev pub ask_to_read : ℕ → Option ReadMark → ReaderAsk → FileAsk
ask_to_read block None asks = ask.Read block asks
ask_to_read block (Some mark) asks = ask.Got block mark

abbrev pub ask_to_write : ℕ → Option WriteEnd → WriterAsk → FileAsk
ask_to_write block None asks = ask.Write block asks
ask_to_write block (Some end) asks = ask.Gave block end

abbrev pub file_ask : FileState → FileAsk
file_ask (Reads r s) = ask_to_read s.key.block (reader_end s) (reader_ask s)
file_ask (Writes r text s) = ask_to_write s.key.block (writer_end s) (writer_ask s)
file_ask (Ended r end) = ask.End

-- The state after an answer.

-- the block in hand was found with this text, or is a hole, which is the empty text
abbrev pub with_text : Layout → RangeState → List ℕ → Aim → FileState
with_text layout r text (Taking bytes) =
    go_on layout (passed layout r (Taking (bytes ++ cut (start_in layout r) (count_in layout r) text)))
with_text layout r text (Giving bytes) =
    writes_block layout r (patched (start_in layout r) (cut r.done (count_in layout r) bytes) text)

-- the range goes on where its block was found, here with this text, or is a hole
abbrev pub after_part : Layout → RangeState → List ℕ → ReadMark → FileState
after_part layout r text (mark.Found stamp length) = with_text layout r text r.aim
after_part layout r text mark.Hole = with_text layout r [] r.aim
after_part layout r text mark = Ended r (end.ShortRead r.done mark)

-- it goes on where its block is acknowledged
abbrev pub after_block : Layout → RangeState → WriteEnd → FileState
after_block layout r (write.Acked stamp mask) = go_on layout (passed layout r r.aim)
after_block layout r cause = Ended r (end.ShortWrite r.done cause)

abbrev pub after_read_part : Layout → RangeState → ReaderState → List ℕ → Option ReadMark → FileState
after_read_part layout r s text None = Reads r s
after_read_part layout r s text (Some mark) = after_part layout r text mark

abbrev pub after_written_block : Layout → RangeState → List ℕ → WriterState → Option WriteEnd → FileState
after_written_block layout r text s None = Writes r text s
after_written_block layout r text s (Some cause) = after_block layout r cause

-- `fits` says whether the records that came fit a block, and `found` is the text of the block that was found.
-- What does not belong to what was asked changes nothing.
abbrev pub file_told : Layout → (fits : Bool) → (found : List ℕ) → FileState → FileAnswer → FileState
file_told layout fits found (Reads r s) (told.Read answer) = Reads r (reader_told fits s answer)
file_told layout fits found (Reads r s) told.Noted = after_read_part layout r s found (reader_end s)
file_told layout fits found (Writes r text s) (told.Write answer) = Writes r text (writer_told s answer)
file_told layout fits found (Writes r text s) told.Noted = after_written_block layout r text s (writer_end s)
file_told layout fits found state _ = state

-- How it ends.

abbrev pub file_end : FileState → Option FileEnd
file_end (Reads r s) = None
file_end (Writes r text s) = None
file_end (Ended r end) = Some end

-- Which answers belong to what was asked.

abbrev pub IsFileAnswer : Layout → FileAsk → FileAnswer → Type 0
IsFileAnswer layout (ask.Read block asks) (told.Read answer) = IsReaderAnswer layout asks answer
IsFileAnswer layout (ask.Write block asks) (told.Write answer) = IsWriterAnswer asks answer
IsFileAnswer layout (ask.Got block mark) told.Noted = Unit {0}
IsFileAnswer layout (ask.Gave block end) told.Noted = Unit {0}
IsFileAnswer layout _ _ = ⊥
