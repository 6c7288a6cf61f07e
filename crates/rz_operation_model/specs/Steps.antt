-- How an operation begins, and how it goes on after each answer.
use Rattle.std.specs.Prelude.{ℕ, Bool, true, false, List, [], ◌∷◌, length, Option, Some, None}
use Rattle.mj_angles.specs.declared.layout.Layout.{Layout}
use Rattle.rz_events.specs.declared.keys.Key.{Key}
use Rattle.rz_events.specs.declared.operations.Operation.{Operation}
use Rattle.rz_events.specs.declared.operations.Operation.TheVariants as operation
use Rattle.rz_events.specs.declared.files.FileInfo.{FileInfo}
use Rattle.rz_events.specs.declared.ends.ReadMark.{ReadMark}
use Rattle.rz_events.specs.declared.ends.ReadMark.TheVariants as mark
use Rattle.rz_events.specs.declared.ends.ReadEnd.{ReadEnd}
use Rattle.rz_events.specs.declared.ends.ReadEnd.TheVariants as read
use Rattle.rz_events.specs.declared.ends.WriteEnd.{WriteEnd}
use Rattle.rz_events.specs.declared.export.Reply.{Reply}
use Rattle.rz_events.specs.declared.export.Reply.TheVariants as reply
use Rattle.rz_events.specs.declared.tree.TreeReply.{TreeReply}
use Rattle.rz_events.specs.declared.tree.TreeReply.TheVariants as tree
use Rattle.rz_events.specs.declared.nodes.DropAnswer.{DropAnswer}
use Rattle.rz_events.specs.declared.nodes.DropAnswer.TheVariants as drops
use Rattle.rz_events.specs.declared.nodes.NodeAnswer.{NodeAnswer}
use Rattle.rz_events.specs.declared.nodes.NodeAnswer.TheVariants as node
use Rattle.rz_events.specs.declared.events.Answer.{Answer}
use Rattle.rz_events.specs.declared.events.Answer.TheVariants as answers
use Rattle.rz_events.specs.declared.machines.FileEnd.{FileEnd}
use Rattle.rz_events.specs.declared.machines.FileEnd.TheVariants as end
use Rattle.rz_events.specs.declared.machines.ReaderAnswer.TheVariants as reads
use Rattle.rz_events.specs.declared.machines.WriterAnswer.TheVariants as writes
use Rattle.rz_events.specs.declared.machines.RebuildAnswer.TheVariants as rebuild
use Rattle.rz_client_model.specs.declared.reading.ReaderState.{ReaderState}
use Rattle.rz_client_model.specs.declared.writing.WriterState.{WriterState}
use Rattle.rz_client_model.specs.Read.{reader_start, reader_told, reader_end}
use Rattle.rz_client_model.specs.Write.{writer_start, writer_told, writer_end}
use Rattle.rz_operation_model.specs.Ranges.{Aim, Taking, Giving, bytes_of}
use Rattle.rz_operation_model.specs.Files.{FileState, Reads, Writes, Ended as FileEnded, write_start, read_start, after_part, after_block}
use Rattle.rz_operation_model.specs.Rebuild.{RebuildState, Probing, Rebuild, Going, Ended as RebuildEnded, rebuild_told}
use Rattle.rz_operation_model.specs.Work.{Work, BlockPlan, PutBlock, GetBlock, RangePlan, WriteBytes, ReadBytes, Plan, OnBlock, OnRange, Course, Alone, Within, Calling, Dropping, Opening, Locking, Writing, Reading, Rebuilding, Ending, Over}

-- What an actor is told.
pub data Told : Type 0 where
  -- the export's reply
  Replied : Reply → Told
  -- the export's reply to an open with a lock, and whether the lock was granted
  Locked : (granted : Bool) → Reply → Told
  -- a node's answer; `fits` says whether the records that came fit a block
  Answered : (fits : Bool) → NodeAnswer → Told
  -- the message to the node, or its answer, was lost
  Missed : Told
  -- the word was said, and this is the text of the block that was found
  Noted : (text : List ℕ) → Told

-- The beginning.

abbrev pub begun : Operation → Work
begun (operation.Tree c) = Calling c
begun (operation.Put path block datum) = Opening path (OnBlock (PutBlock block (bytes_of datum)))
begun (operation.Get path block) = Opening path (OnBlock (GetBlock block))
begun (operation.Write path offset datum) = Opening path (OnRange (WriteBytes offset (bytes_of datum)))
begun (operation.Read path offset count) = Opening path (OnRange (ReadBytes offset count))
begun (operation.Rebuild n) = Rebuilding n Probing
begun (operation.Update path offset datum) = Locking path (WriteBytes offset (bytes_of datum))
begun (operation.View path offset count) = Locking path (ReadBytes offset count)

-- The end of a block or of a range.

-- how a read ended, with the text that it found
abbrev pub read_end : List ℕ → ReadMark → ReadEnd
read_end text (mark.Found stamp length) = read.Found stamp text
read_end text mark.Hole = read.Hole
read_end text (mark.TooFew seen) = read.TooFew seen
read_end text mark.Inconsistent = read.Inconsistent
read_end text (mark.Denied cause) = read.Denied cause
read_end text (mark.Moved was now) = read.Moved was now

abbrev pub whole_answer : Aim → ℕ → Answer
whole_answer (Taking bytes) done = answers.Read bytes
whole_answer (Giving bytes) done = answers.Wrote done

-- a read that stopped short found no text
abbrev pub range_answer : Aim → FileEnd → Answer
range_answer aim (end.Whole done) = whole_answer aim done
range_answer aim (end.ShortWrite done cause) = answers.ShortWrite done cause
range_answer aim (end.ShortRead done mark) = answers.ShortRead done (read_end [] mark)

abbrev pub in_range : FileState → Work
in_range (Reads r s) = Reading (Within r) s
in_range (Writes r text s) = Writing (Within r) text s
in_range (FileEnded r end) = Ending (range_answer r.aim end)

-- The file is open.

abbrev pub key_of : FileInfo → ℕ → Key
key_of info block = record { fid = info.fid; block = block }

abbrev pub block_planned : Layout → FileInfo → BlockPlan → Work
block_planned layout info (PutBlock block text) =
    Writing Alone text (writer_start layout (key_of info block) info.places (length text))
block_planned layout info (GetBlock block) = Reading Alone (reader_start layout (key_of info block) info.places)

abbrev pub range_planned : Layout → FileInfo → RangePlan → Work
range_planned layout info (WriteBytes offset bytes) = in_range (write_start layout info offset bytes)
range_planned layout info (ReadBytes offset count) = in_range (read_start layout info offset count)

abbrev pub planned : Layout → FileInfo → Plan → Work
planned layout info (OnBlock plan) = block_planned layout info plan
planned layout info (OnRange plan) = range_planned layout info plan

abbrev pub after_open : Layout → Plan → TreeReply → Work
after_open layout plan (tree.File info) = planned layout info plan
after_open layout plan (tree.Refused fault) = Ending (answers.Refused fault)
after_open layout plan _ = Over

-- a file that is locked by another is opened again
abbrev pub after_lock : Layout → List ℕ → RangePlan → Bool → TreeReply → Work
after_lock layout path plan true answer = after_open layout (OnRange plan) answer
after_lock layout path plan false (tree.File info) = Locking path plan
after_lock layout path plan false answer = after_open layout (OnRange plan) answer

-- Calls on names.

-- the nodes that are left are asked to drop what they hold of the file
abbrev pub drop_at : ℕ → List ℕ → Work
drop_at fid [] = Ending answers.Plain
drop_at fid (n ∷ places) = Dropping fid n places

-- a node that has more of the file is asked again
abbrev pub after_drop : ℕ → ℕ → List ℕ → DropAnswer → Work
after_drop fid n places (drops.Dropped block stamp true) = Dropping fid n places
after_drop fid n places _ = drop_at fid places

-- no call on names opens a file
abbrev pub after_call : TreeReply → Work
after_call (tree.Made fid) = Ending (answers.Created fid)
after_call (tree.MadeFile info) = Ending (answers.Created info.fid)
after_call (tree.Found fid kind) = Ending (answers.Found kind fid)
after_call (tree.Attr attr) = Ending (answers.Attr attr)
after_call tree.Plain = Ending answers.Plain
after_call (tree.Gone None) = Ending answers.Plain
after_call (tree.Gone (Some info)) = drop_at info.fid info.places
after_call (tree.Names names) = Ending (answers.Names names)
after_call (tree.Target target) = Ending (answers.Target target)
after_call (tree.File info) = Over
after_call (tree.Refused fault) = Ending (answers.Refused fault)

-- The read of a block.

abbrev pub reader_after : ReaderState → Told → ReaderState
reader_after s (Replied (reply.Looked p)) = reader_told true s (reads.Looked p)
reader_after s (Replied (reply.Denied cause)) = reader_told true s (reads.Denied cause)
reader_after s (Answered fits (node.Fetch answer)) = reader_told fits s (reads.Fetched answer)
reader_after s Missed = reader_told true s reads.Missed
reader_after s _ = s

abbrev pub after_got : Layout → Course → List ℕ → ReadMark → Work
after_got layout Alone text mark = Over
after_got layout (Within r) text mark = in_range (after_part layout r text mark)

abbrev pub said_reading : Layout → Course → ReaderState → List ℕ → Option ReadMark → Work
said_reading layout course s text None = Reading course s
said_reading layout course s text (Some mark) = after_got layout course text mark

-- The write of a block.

abbrev pub writer_after : WriterState → Told → WriterState
writer_after s (Replied (reply.Begun stamp base)) = writer_told s (writes.Begun stamp base)
writer_after s (Replied (reply.Denied cause)) = writer_told s (writes.Denied cause)
writer_after s (Replied reply.Accepted) = writer_told s writes.Accepted
writer_after s (Replied (reply.Enrolled position fence)) = writer_told s (writes.Enrolled position fence)
writer_after s (Replied (reply.Revoked later)) = writer_told s (writes.Revoked later)
writer_after s (Answered fits (node.Keep answer)) = writer_told s (writes.Kept answer)
writer_after s Missed = writer_told s writes.Missed
writer_after s _ = s

abbrev pub after_gave : Layout → Course → WriteEnd → Work
after_gave layout Alone end = Over
after_gave layout (Within r) end = in_range (after_block layout r end)

abbrev pub said_writing : Layout → Course → List ℕ → WriterState → Option WriteEnd → Work
said_writing layout course text s None = Writing course text s
said_writing layout course text s (Some end) = after_gave layout course end

-- The rebuild of a node.

abbrev pub rebuild_after : Layout → RebuildState → Told → Rebuild
rebuild_after layout s (Replied (reply.Fence fence)) = rebuild_told layout true s (rebuild.Enrolled fence)
rebuild_after layout s (Replied (reply.Denied cause)) = rebuild_told layout true s (rebuild.Denied cause)
rebuild_after layout s (Replied (reply.Listed listed)) = rebuild_told layout true s (rebuild.Listed listed)
rebuild_after layout s (Replied (reply.Looked p)) = rebuild_told layout true s (rebuild.Rechecked p)
rebuild_after layout s (Answered fits (node.Probe answer)) = rebuild_told layout fits s (rebuild.Probed answer)
rebuild_after layout s (Answered fits (node.Replace answer)) = rebuild_told layout fits s (rebuild.Replaced answer)
rebuild_after layout s (Answered fits (node.Fetch answer)) = rebuild_told layout fits s (rebuild.Fetched answer)
rebuild_after layout s (Answered fits (node.Refill answer)) = rebuild_told layout fits s (rebuild.Refilled answer)
rebuild_after layout s Missed = rebuild_told layout true s rebuild.Missed
rebuild_after layout s (Noted text) = rebuild_told layout true s rebuild.Noted
rebuild_after layout s _ = Going s

abbrev pub in_rebuild : ℕ → Rebuild → Work
in_rebuild n (Going s) = Rebuilding n s
in_rebuild n (RebuildEnded end) = Ending (answers.Rebuild end)

-- The work after what was told. What does not belong to what was asked changes nothing.
abbrev pub told : Layout → Work → Told → Work
told layout (Calling c) (Replied (reply.Tree answer)) = after_call answer
told layout (Dropping fid n places) (Answered fits (node.Drop answer)) = after_drop fid n places answer
told layout (Dropping fid n places) Missed = drop_at fid places
told layout (Opening path plan) (Replied (reply.Tree answer)) = after_open layout plan answer
told layout (Locking path plan) (Locked granted (reply.Tree answer)) = after_lock layout path plan granted answer
told layout (Writing course text s) (Noted found) = said_writing layout course text s (writer_end s)
told layout (Writing course text s) t = Writing course text (writer_after s t)
told layout (Reading course s) (Noted found) = said_reading layout course s found (reader_end s)
told layout (Reading course s) t = Reading course (reader_after s t)
told layout (Rebuilding n s) t = in_rebuild n (rebuild_after layout s t)
told layout (Ending answer) (Noted text) = Over
told layout work _ = work
