-- What an actor asks next.
use Rattle.std.specs.Prelude.{ℕ, Bool, true, false, ◌+◌, ◌-◌, ◌*◌, ◌/◌, ◌==◌, cond, List, length, Option, Some, None}
use Rattle.mj_angles.specs.declared.layout.Layout.{Layout}
use Rattle.mj_angles.specs.Layout.{bsize_of, block_bytes_of}
use Rattle.rz_events.specs.declared.keys.Key.{Key}
use Rattle.rz_events.specs.declared.records.Head.{Head}
use Rattle.rz_events.specs.declared.ends.LeftWhy.{LeftWhy}
use Rattle.rz_events.specs.declared.ends.ReadMark.{ReadMark}
use Rattle.rz_events.specs.declared.ends.WriteEnd.{WriteEnd}
use Rattle.rz_events.specs.declared.export.Call.{Call}
use Rattle.rz_events.specs.declared.export.Call.TheVariants as call
use Rattle.rz_events.specs.declared.tree.TreeCall.TheVariants as tree
use Rattle.rz_events.specs.declared.nodes.NodeAsk.{NodeAsk}
use Rattle.rz_events.specs.declared.nodes.NodeAsk.TheVariants as node
use Rattle.rz_events.specs.declared.events.Answer.{Answer}
use Rattle.rz_events.specs.declared.machines.ReaderAsk.{ReaderAsk}
use Rattle.rz_events.specs.declared.machines.ReaderAsk.TheVariants as reads
use Rattle.rz_events.specs.declared.machines.WriterAsk.{WriterAsk}
use Rattle.rz_events.specs.declared.machines.WriterAsk.TheVariants as writes
use Rattle.rz_events.specs.declared.machines.RebuildAsk.{RebuildAsk}
use Rattle.rz_events.specs.declared.machines.RebuildAsk.TheVariants as rebuild
use Rattle.rz_client_model.specs.declared.writing.WriterState.{WriterState}
use Rattle.rz_client_model.specs.Read.{reader_ask, reader_end}
use Rattle.rz_client_model.specs.Write.{writer_ask, writer_end}
use Rattle.rz_operation_model.specs.Rebuild.{rebuild_ask}
use Rattle.rz_operation_model.specs.Work.{Work, RangePlan, WriteBytes, ReadBytes, Course, Alone, Within, Calling, Dropping, Opening, Locking, Writing, Reading, Rebuilding, Ending, Over}

-- an event of the actor's own word
pub data Saying : Type 0 where
  SayGot : Key → (part : Bool) → ReadMark → Saying
  SayGave : Key → (part : Bool) → WriteEnd → Saying
  SayLeft : Key → LeftWhy → Saying
  SayDone : Answer → Saying

pub data Ask : Type 0 where
  AskExport : Call → Ask
  AskNode : (node : ℕ) → NodeAsk → Ask
  -- the file is opened and its bytes are locked, for this actor alone or shared
  AskLock : (path : List ℕ) → (exclusive : Bool) → (from count : ℕ) → Ask
  Say : Saying → Ask
  -- nothing is left to do
  Rest : Ask

-- a block of a range is a part of its operation
abbrev pub is_part : Course → Bool
is_part Alone = false
is_part (Within r) = true

-- The read of a block.

abbrev pub got : Bool → Key → Option ReadMark → Ask
got part key None = Rest
got part key (Some mark) = Say (SayGot key part mark)

abbrev pub read_asks : Bool → Key → Option ReadMark → ReaderAsk → Ask
read_asks part key end reads.Look = AskExport (call.Look key)
read_asks part key end (reads.Fetch position n stamp) = AskNode n (node.Fetch key position stamp)
read_asks part key end reads.Recheck = AskExport (call.Recheck key)
read_asks part key end reads.End = got part key end

-- The write of a block.

abbrev pub gave : Bool → Key → Option WriteEnd → Ask
gave part key None = Rest
gave part key (Some end) = Say (SayGave key part end)

-- the head of the write's record at a position
abbrev pub head_of : WriterState → ℕ → ℕ → ℕ → Head
head_of s position stamp base = record {
  stamp = stamp;
  key = s.key;
  layout = s.layout;
  bsize = bsize_of s.layout;
  position = position;
  length = s.length;
  base = base;
}

abbrev pub write_asks : Bool → List ℕ → WriterState → WriterAsk → Ask
write_asks part text s (writes.Begin size) = AskExport (call.Begin s.key text)
write_asks part text s (writes.Keep position n stamp base) = AskNode n (node.Keep (head_of s position stamp base))
write_asks part text s (writes.Publish stamp mask) = AskExport (call.Publish s.key stamp mask s.length)
write_asks part text s writes.End = gave part s.key (writer_end s)

-- The rebuild of a node.

abbrev pub refill_head : Layout → ℕ → ℕ → ℕ → ℕ → Key → Head
refill_head layout position stamp length base key = record {
  stamp = stamp;
  key = key;
  layout = layout;
  bsize = bsize_of layout;
  position = position;
  length = length;
  base = base;
}

abbrev pub rebuild_asks : Layout → ℕ → RebuildAsk → Ask
rebuild_asks layout n rebuild.Probe = AskNode n node.Probe
rebuild_asks layout n (rebuild.Enroll loss) = AskExport (call.Enroll n loss)
rebuild_asks layout n (rebuild.Replace loss fence) = AskNode n (node.Replace loss fence)
rebuild_asks layout n (rebuild.Next after) = AskExport (call.Next n after)
rebuild_asks layout n (rebuild.Fetch key position from stamp) = AskNode from (node.Fetch key position stamp)
rebuild_asks layout n (rebuild.Refill fence key stamp length position base) =
    AskNode n (node.Refill fence (refill_head layout position stamp length base key))
rebuild_asks layout n (rebuild.Recheck key) = AskExport (call.Recheck key)
rebuild_asks layout n (rebuild.Left key why) = Say (SayLeft key why)
rebuild_asks layout n rebuild.End = Rest

-- Locks: a range is rounded out to whole blocks, and an empty one stays empty.

abbrev pub first_byte : Layout → ℕ → ℕ
first_byte layout offset = offset / block_bytes_of layout * block_bytes_of layout

abbrev pub whole_bytes : Layout → ℕ → ℕ → ℕ
whole_bytes layout offset count = cond (count == 0) 0
    (first_byte layout (offset + count - 1) + block_bytes_of layout - first_byte layout offset)

abbrev pub lock_asks : Layout → List ℕ → RangePlan → Ask
lock_asks layout path (WriteBytes offset bytes) = AskLock path true (first_byte layout offset) (whole_bytes layout offset (length bytes))
lock_asks layout path (ReadBytes offset count) = AskLock path false (first_byte layout offset) (whole_bytes layout offset count)

-- What an actor with this work asks next.
abbrev pub ask_of : Layout → Work → Ask
ask_of layout (Calling c) = AskExport (call.Tree c)
ask_of layout (Dropping fid n places) = AskNode n (node.Drop fid)
ask_of layout (Opening path plan) = AskExport (call.Tree (tree.OpenFile path))
ask_of layout (Locking path plan) = lock_asks layout path plan
ask_of layout (Writing course text s) = write_asks (is_part course) text s (writer_ask s)
ask_of layout (Reading course s) = read_asks (is_part course) s.key (reader_end s) (reader_ask s)
ask_of layout (Rebuilding n s) = rebuild_asks layout n (rebuild_ask n s)
ask_of layout (Ending answer) = Say (SayDone answer)
ask_of layout Over = Rest
