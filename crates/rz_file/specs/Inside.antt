-- Where the machine of a range keeps its bytes and the texts of its block.
use Rattle.std.specs.Prelude.{ℕ, ◌≡◌, ◌<◌, ◌≤◌, ◌+◌, ◌*◌, ◌^◌, List, [], length, take, vec_len, vec_capacity, Option, Some, None, IsSome, IsSomeAnd}
use Rattle.mj_angles.specs.declared.layout.Layout.{Layout}
use Rattle.mj_angles.specs.Layout.{safe_of, block_bytes_of}
use Rattle.mj_inverse.specs.Fits.{Pair}
use Rattle.rz_words.specs.Grid.{Grid, bytes_from}
use Rattle.rz_events.specs.declared.ends.ReadMark.{ReadMark}
use Rattle.rz_events.specs.declared.ends.ReadMark.TheVariants as mark
use Rattle.rz_client_model.specs.Read.{reader_end}
use Rattle.rz_client_model.specs.declared.reading.ReaderState.{ReaderState}
use Rattle.rz_client_model.specs.declared.reading.ReadStage.TheVariants.{Looking}
use Rattle.rz_client_model.specs.declared.writing.WriterState.{WriterState}
use Rattle.rz_reader.specs.Machine.{Machine as ReaderMachine}
use Rattle.rz_writer.specs.Machine.{block_of}
use Rattle.rz_batch.specs.Batch.{Projections, batch_of, block_at}
use Rattle.rz_operation_model.specs.Ranges.{Aim as AimOf, Taking, Giving, RangeState}
use Rattle.rz_operation_model.specs.Work.{RangePlan, WriteBytes, ReadBytes}
use Rattle.rz_operation_model.specs.Files.{FileState, Reads, Writes, Ended}
use Rattle.rz_file.specs.declared.span.Span.{Span}
use Rattle.rz_file.specs.declared.span.Aim.{Aim}
use Rattle.rz_file.specs.declared.span.Aim.TheVariants as aim
use Rattle.rz_file.specs.declared.span.RangeStep.{RangeStep}
use Rattle.rz_file.specs.declared.span.RangeStep.TheVariants as step
use Rattle.rz_file.specs.Ranges.{range_of, from_first_block, InRange}
use Rattle.rz_file.specs.Writing.{BlockWrite}
use Rattle.rz_file.specs.Machine.{Machine, IsEnd}

-- What contracts see.

abbrev pub aim_of : Aim → List ℕ → AimOf
aim_of aim.Taking bytes = Taking bytes
aim_of aim.Giving bytes = Giving bytes

abbrev pub range_in : Span → RangeState
range_in s = range_of (aim_of s.aim s.bytes.items) s.range

abbrev pub state_of : Span → ReaderState → WriterState → RangeStep → FileState
state_of s r w step.Reading = Reads (range_in s) r
state_of s r w step.Writing = Writes (range_in s) s.text.items w
state_of s r w (step.Ended end) = Ended (range_in s) end

abbrev pub pairs_of : RangeStep → List Pair → List Pair
pairs_of step.Reading pairs = pairs
pairs_of s pairs = []

abbrev pub block_in : RangeStep → Option Grid → Option Grid
block_in step.Reading block = block
block_in s block = None

abbrev pub machine_of : Layout → Span → ReaderMachine → BlockWrite → RangeStep → Machine
machine_of layout s r w at = record {
  layout = layout;
  state = state_of s r.state w.state at;
  pairs = pairs_of at r.pairs;
  block = block_in at r.block;
}

-- What holds between two answers.

-- there is room for the bytes that are read, or the bytes that are written are as many as the range has
abbrev pub IsAimed : Aim → Span → Type 0
IsAimed aim.Taking s = (vec_len s.bytes ≡ s.range.done) × (s.range.size ≤ vec_capacity s.bytes)
IsAimed aim.Giving s = vec_len s.bytes ≡ s.range.size

-- the batch has the bins of the blocks that the bytes to be written cover whole
abbrev pub IsBatched : Layout → Aim → ℕ → List ℕ → Projections → Type 0
IsBatched layout aim.Taking offset bytes batch = Unit {0}
IsBatched layout aim.Giving offset bytes batch = batch ≡ batch_of layout (from_first_block layout offset bytes)

pub record IsSpan (layout : Layout) (s : Span) : Type 0 where
  pub places : length s.range.info.places ≡ safe_of layout
  pub range : InRange s.range
  pub found : vec_len s.found ≡ block_bytes_of layout
  pub text : 2 * block_bytes_of layout ≤ vec_capacity s.text
  pub aimed : IsAimed s.aim s
  pub batched : IsBatched layout s.aim s.range.offset s.bytes.items s.batch

-- the reader and the writer are of the layout, and a range that is written has a writer with bins
abbrev pub CanWrite : Aim → Option Grid → Type 0
CanWrite aim.Taking block = Unit {0}
CanWrite aim.Giving block = IsSome block

pub record AreHands (layout : Layout) (a : Aim) (r : ReaderMachine) (w : BlockWrite) : Type 0 where
  pub reader : r.state.layout ≡ layout
  pub writer : w.layout ≡ layout
  pub bins : CanWrite a w.own

-- the text is that of this block of the batch
pub record IsBatchText (layout : Layout) (s : Span) (place : ℕ) : Type 0 where
  pub within : place < length s.batch.blocks
  pub same : block_at layout (from_first_block layout s.range.offset s.bytes.items) place ≡ block_of layout s.text.items

-- the bins of the text are those of the batch at this place, or else those of the writer's own block
abbrev pub HasBinsOf : Layout → Span → Option ℕ → Option Grid → Type 0
HasBinsOf layout s None own = own ≡ Some (block_of layout s.text.items)
HasBinsOf layout s (Some place) own = IsBatchText layout s place

-- the writer writes the text
pub record WritesText (layout : Layout) (s : Span) (w : BlockWrite) : Type 0 where
  pub giving : s.aim ≡ aim.Giving
  pub state : w.state.layout ≡ layout
  pub bins : HasBinsOf layout s w.place w.own
  pub length : w.state.length ≡ length s.text.items

-- the first of these bytes are the text that was found
abbrev pub IsFoundText : Option ReadMark → Option Grid → List ℕ → Type 0
IsFoundText (Some (mark.Found stamp size)) block found = IsSomeAnd block (λ g. take size found ≡ take size (bytes_from g.words))
IsFoundText end block found = Unit {0}

abbrev pub IsRangeStep : Layout → Span → ReaderMachine → BlockWrite → RangeStep → Type 0
IsRangeStep layout s r w step.Reading = IsFoundText (reader_end r.state) r.block s.found.items
IsRangeStep layout s r w step.Writing = WritesText layout s w
IsRangeStep layout s r w (step.Ended end) = IsEnd end

pub record IsFile (layout : Layout) (s : Span) (r : ReaderMachine) (w : BlockWrite) (at : RangeStep) : Type 0 where
  pub span : IsSpan layout s
  pub hands : AreHands layout s.aim r w
  pub step : IsRangeStep layout s r w at

-- a read that begins has nothing fetched
abbrev pub HasNoRecords : ReaderMachine → RangeStep → Type 0
HasNoRecords r step.Reading = (r.pairs ≡ []) × (r.block ≡ None) × (r.state.stage ≡ Looking)
HasNoRecords r s = Unit {0}

-- so many bytes were found, which fit a block
abbrev pub size_of : ReadMark → ℕ
size_of (mark.Found stamp size) = size
size_of m = 0

abbrev pub IsShortMark : Layout → ReadMark → Type 0
IsShortMark layout m = size_of m ≤ block_bytes_of layout

abbrev pub size_found : Option ReadMark → ℕ
size_found None = 0
size_found (Some m) = size_of m

-- What waits for its file.

abbrev pub plan_in : Aim → ℕ → List ℕ → ℕ → RangePlan
plan_in aim.Taking offset bytes count = ReadBytes offset count
plan_in aim.Giving offset bytes count = WriteBytes offset bytes

abbrev pub IsPlanned : Aim → ℕ → Span → ℕ → Type 0
IsPlanned aim.Taking offset s count = (s.bytes.items ≡ []) × (count ≤ vec_capacity s.bytes)
IsPlanned aim.Giving offset s count = (vec_len s.bytes ≡ count) × (offset + count < 2 ^ 64)

pub record IsFilePlan (layout : Layout) (offset count : ℕ) (s : Span) (r : ReaderMachine) (w : BlockWrite) : Type 0 where
  pub found : vec_len s.found ≡ block_bytes_of layout
  pub text : 2 * block_bytes_of layout ≤ vec_capacity s.text
  pub planned : IsPlanned s.aim offset s count
  pub batched : IsBatched layout s.aim offset s.bytes.items s.batch
  pub hands : AreHands layout s.aim r w
