-- What contracts see of the machine of a range, and what an answer makes of it.
use Rattle.std.specs.Prelude.{ℕ, Bool, true, false, ◌≡◌, ◌≤◌, List, [], length, take, Option, Some, None}
use Rattle.mj_angles.specs.declared.layout.Layout.{Layout}
use Rattle.mj_angles.specs.Layout.{angle_of, bins_at_of}
use Rattle.mj_forward.specs.Forward.{projection_of}
use Rattle.mj_inverse.specs.Fits.{Pair}
use Rattle.rz_words.specs.Grid.{Grid, bytes_from}
use Rattle.rz_events.specs.declared.ends.ReadMark.{ReadMark}
use Rattle.rz_events.specs.declared.ends.ReadMark.TheVariants as mark
use Rattle.rz_events.specs.declared.files.FileInfo.{FileInfo}
use Rattle.rz_events.specs.declared.nodes.FetchAnswer.{FetchAnswer}
use Rattle.rz_events.specs.declared.nodes.FetchAnswer.TheVariants as fetch
use Rattle.rz_events.specs.declared.machines.ReaderAsk.{ReaderAsk}
use Rattle.rz_events.specs.declared.machines.ReaderAsk.TheVariants as reads
use Rattle.rz_events.specs.declared.machines.WriterAsk.{WriterAsk}
use Rattle.rz_events.specs.declared.machines.WriterAsk.TheVariants as writes
use Rattle.rz_events.specs.declared.machines.ReaderAnswer.TheVariants as read
use Rattle.rz_events.specs.declared.machines.FileAsk.{FileAsk}
use Rattle.rz_events.specs.declared.machines.FileAsk.TheVariants as ask
use Rattle.rz_events.specs.declared.machines.FileAnswer.{FileAnswer}
use Rattle.rz_events.specs.declared.machines.FileAnswer.TheVariants as told
use Rattle.rz_events.specs.declared.machines.FileEnd.{FileEnd}
use Rattle.rz_events.specs.declared.machines.FileEnd.TheVariants as end
use Rattle.rz_client_model.specs.declared.reading.ReaderState.{ReaderState}
use Rattle.rz_client_model.specs.declared.writing.WriterState.{WriterState}
use Rattle.rz_client_model.specs.Read.{reader_end}
use Rattle.rz_client_model.specs.Write.{IsWrite}
use Rattle.rz_reader.specs.Fetched.{record_in}
use Rattle.rz_reader.specs.Machine.{pairs_at, pairs_if, AreFitting, IsBlockOf, IsAskOf as IsReaderAskOf}
use Rattle.rz_writer.specs.Machine.{block_of, IsAskOf as IsWriterAskOf, IsCountOf}
use Rattle.rz_operation_model.specs.Ranges.{Aim, Taking, Giving, RangeState}
use Rattle.rz_operation_model.specs.Work.{RangePlan, WriteBytes, ReadBytes}
use Rattle.rz_operation_model.specs.Files.{FileState, Reads, Writes, Ended, read_start, write_start, file_ask, file_told}

-- how far the range has come; the angles and bins of the records of the block that is read, while they are fetched; the
-- block that fits them, once it is found
pub record Machine : Type 0 where
  pub layout : Layout
  pub state : FileState
  pub pairs : List Pair
  pub block : Option Grid

-- The range, and the text of its block.

abbrev pub range_in : FileState → RangeState
range_in (Reads r s) = r
range_in (Writes r text s) = r
range_in (Ended r end) = r

-- what was read so far, or what is written
abbrev pub bytes_of : Aim → List ℕ
bytes_of (Taking bytes) = bytes
bytes_of (Giving bytes) = bytes

abbrev pub aim_in : FileState → Aim
aim_in state = (range_in state).aim

abbrev pub bytes_in : FileState → List ℕ
bytes_in state = bytes_of (aim_in state)

abbrev pub is_taking : Aim → Bool
is_taking (Taking bytes) = true
is_taking (Giving bytes) = false

abbrev pub text_found : Option ReadMark → Option Grid → List ℕ
text_found (Some (mark.Found stamp size)) (Some g) = take size (bytes_from g.words)
text_found end block = []

-- the text that was found, or that is written
abbrev pub text_in : FileState → Option Grid → List ℕ
text_in (Reads r s) block = text_found (reader_end s) block
text_in (Writes r text s) block = text
text_in (Ended r end) block = []

-- a text that was found has the length that was told
abbrev pub IsFoundLong : Option ReadMark → ℕ → Type 0
IsFoundLong (Some (mark.Found stamp size)) count = count ≡ size
IsFoundLong end count = Unit {0}

abbrev pub IsTextLong : FileState → ℕ → Type 0
IsTextLong (Reads r s) count = IsFoundLong (reader_end s) count
IsTextLong state count = Unit {0}

-- The beginning.

-- what waits for its file
pub record FilePlanView : Type 0 where
  pub layout : Layout
  pub plan : RangePlan

-- nothing is fetched yet
abbrev pub machine_with : Layout → FileState → Machine
machine_with layout state = record { layout = layout; state = state; pairs = []; block = None }

abbrev pub begun : Layout → FileInfo → RangePlan → FileState
begun layout info (WriteBytes offset bytes) = write_start layout info offset bytes
begun layout info (ReadBytes offset count) = read_start layout info offset count

abbrev pub offset_in : RangePlan → ℕ
offset_in (WriteBytes offset bytes) = offset
offset_in (ReadBytes offset count) = offset

abbrev pub count_in : RangePlan → ℕ
count_in (WriteBytes offset bytes) = length bytes
count_in (ReadBytes offset count) = count

abbrev pub is_write : RangePlan → Bool
is_write (WriteBytes offset bytes) = true
is_write (ReadBytes offset count) = false

-- What an answer makes of it.

-- pairs are there while records are fetched
abbrev pub pairs_in : FileState → List Pair → List Pair
pairs_in (Reads r s) pairs = pairs_at s.stage pairs
pairs_in state pairs = []

-- a record of the published stamp adds one
abbrev pub pairs_fetched : Layout → FileState → List Pair → FetchAnswer → List ℕ → List Pair
pairs_fetched layout (Reads r s) pairs a bins = pairs_if layout pairs (record_in s.stage (read.Fetched a)) bins
pairs_fetched layout state pairs a bins = pairs

-- a block is there once it is found, and is the one that fits
abbrev pub IsBlockIn : Layout → List Pair → FileState → Option Grid → Type 0
IsBlockIn layout pairs (Reads r s) block = IsBlockOf layout pairs s.stage block
IsBlockIn layout pairs state block = block ≡ None

-- the range stands so after an answer; these were the pairs before it went on
pub record IsRangeAfter (m : Machine) (had : List Pair) (next : FileState) (new : Machine) : Type 0 where
  pub layout : new.layout ≡ m.layout
  pub state : new.state ≡ next
  pub pairs : new.pairs ≡ pairs_in new.state had
  pub block : IsBlockIn m.layout had new.state new.block

-- where the records are enough, they fit exactly where some block has them
abbrev pub FitsIfEnough : Machine → FileAnswer → List ℕ → Machine → Type 0
FitsIfEnough m (told.Read (read.Fetched a)) bins new =
    (fits : Bool) × AreFitting m.layout (pairs_fetched m.layout m.state m.pairs a bins) fits
    × IsRangeAfter m (pairs_fetched m.layout m.state m.pairs a bins) (file_told m.layout fits [] m.state (told.Read (read.Fetched a))) new
FitsIfEnough m answer bins new = IsRangeAfter m m.pairs (file_told m.layout true (text_in m.state m.block) m.state answer) new

-- a write that is under way is one between two answers, and is that of the text
abbrev pub IsUnderWay : FileState → Type 0
IsUnderWay (Writes r text s) = IsWrite s × (s.length ≡ length text)
IsUnderWay state = Unit {0}

-- the write of the block in hand is one of the layout
abbrev pub IsLaidOut : Layout → FileState → Type 0
IsLaidOut layout (Writes r text s) = s.layout ≡ layout
IsLaidOut layout state = Unit {0}

-- a position that is asked is one of the layout
abbrev pub IsAskOf : Layout → FileAsk → Type 0
IsAskOf layout (ask.Read block question) = IsReaderAskOf layout question
IsAskOf layout (ask.Write block question) = IsWriterAskOf layout question
IsAskOf layout question = Unit {0}

-- a read that stopped short found no text
abbrev pub IsNoText : ReadMark → Type 0
IsNoText (mark.Found stamp size) = ⊥
IsNoText mark.Hole = ⊥
IsNoText m = Unit {0}

abbrev pub IsEnd : FileEnd → Type 0
IsEnd (end.ShortRead bytes m) = IsNoText m
IsEnd e = Unit {0}

abbrev pub IsEndIn : FileState → Type 0
IsEndIn (Ended r e) = IsEnd e
IsEndIn state = Unit {0}

-- the read or the write of the block in hand
abbrev pub IsReaderIn : FileState → ReaderState → Type 0
IsReaderIn (Reads r s) reader = reader ≡ s
IsReaderIn state reader = ⊥

abbrev pub IsWriterIn : FileState → WriterState → Type 0
IsWriterIn (Writes r text s) writer = (writer ≡ s) × IsWrite s × (s.length ≡ length text)
IsWriterIn state writer = ⊥

abbrev pub IsReadAsked : FileAsk → Type 0
IsReadAsked (ask.Read block question) = Unit {0}
IsReadAsked (ask.Got block m) = Unit {0}
IsReadAsked question = ⊥

abbrev pub IsWriteAsked : FileAsk → Type 0
IsWriteAsked (ask.Write block question) = Unit {0}
IsWriteAsked (ask.Gave block e) = Unit {0}
IsWriteAsked question = ⊥

-- What calls need.

-- a record comes with the bins of the position that was asked
abbrev pub HasBinsAt : Layout → ReaderAsk → FetchAnswer → List ℕ → Type 0
HasBinsAt layout (reads.Fetch position node stamp) (fetch.Held r) bins = bins_at_of layout position ≤ length bins
HasBinsAt layout question a bins = Unit {0}

abbrev pub ComeWith : Layout → FileAsk → FileAnswer → List ℕ → Type 0
ComeWith layout (ask.Read block question) (told.Read (read.Fetched a)) bins = HasBinsAt layout question a bins
ComeWith layout question answer bins = Unit {0}

-- it asks a node to keep a record
abbrev pub IsKeepIn : WriterAsk → Type 0
IsKeepIn (writes.Keep position node stamp base) = Unit {0}
IsKeepIn question = ⊥

abbrev pub IsKeepAsked : FileAsk → Type 0
IsKeepAsked (ask.Write block question) = IsKeepIn question
IsKeepAsked question = ⊥

-- the bins are those of the text that is written, at the position that was asked
abbrev pub AreBinsAt : Layout → List ℕ → WriterAsk → List ℕ → Type 0
AreBinsAt layout text (writes.Keep position node stamp base) bins =
    bins ≡ projection_of (block_of layout text) (angle_of layout position)
AreBinsAt layout text question bins = ⊥

abbrev pub AreBinsFor : Layout → List ℕ → FileAsk → List ℕ → Type 0
AreBinsFor layout text (ask.Write block question) bins = AreBinsAt layout text question bins
AreBinsFor layout text question bins = ⊥

abbrev pub AreBins : Machine → List ℕ → Type 0
AreBins m bins = AreBinsFor m.layout (text_in m.state m.block) (file_ask m.state) bins

-- there are as many as the position has
abbrev pub IsCountIn : Layout → FileAsk → List ℕ → Type 0
IsCountIn layout (ask.Write block question) bins = IsCountOf layout question bins
IsCountIn layout question bins = Unit {0}
