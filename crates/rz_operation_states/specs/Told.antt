-- What the machine of a block, of a range or of a rebuild is told by what its operation is told.
use Rattle.std.specs.Prelude.{Option, Some, None}
use Rattle.rz_events.specs.declared.export.Reply.{Reply}
use Rattle.rz_events.specs.declared.export.Reply.TheVariants as reply
use Rattle.rz_events.specs.declared.nodes.NodeAnswer.{NodeAnswer}
use Rattle.rz_events.specs.declared.nodes.NodeAnswer.TheVariants as answer
use Rattle.rz_events.specs.declared.machines.ReaderAnswer.{ReaderAnswer}
use Rattle.rz_events.specs.declared.machines.ReaderAnswer.TheVariants as reads
use Rattle.rz_events.specs.declared.machines.WriterAnswer.{WriterAnswer}
use Rattle.rz_events.specs.declared.machines.WriterAnswer.TheVariants as writes
use Rattle.rz_events.specs.declared.machines.FileAnswer.{FileAnswer}
use Rattle.rz_events.specs.declared.machines.FileAnswer.TheVariants as files
use Rattle.rz_events.specs.declared.machines.RebuildAnswer.{RebuildAnswer}
use Rattle.rz_events.specs.declared.machines.RebuildAnswer.TheVariants as rebuilds
use Rattle.rz_events.specs.declared.machines.FileAsk.{FileAsk}
use Rattle.rz_events.specs.declared.machines.FileAsk.TheVariants as asks
use Rattle.rz_operation_model.specs.Files.{FileState, file_ask}

-- The write and the read of a block.

-- what the write of a block is told by a reply
abbrev pub write_answer : Reply → Option WriterAnswer
write_answer (reply.Begun stamp base) = Some (writes.Begun stamp base)
write_answer (reply.Denied why) = Some (writes.Denied why)
write_answer reply.Accepted = Some writes.Accepted
write_answer (reply.Enrolled position fence) = Some (writes.Enrolled position fence)
write_answer (reply.Revoked later) = Some (writes.Revoked later)
write_answer r = None

-- what the read of a block is told by a reply
abbrev pub read_answer : Reply → Option ReaderAnswer
read_answer (reply.Looked p) = Some (reads.Looked p)
read_answer (reply.Denied why) = Some (reads.Denied why)
read_answer r = None

-- The range.

abbrev pub as_read : Option ReaderAnswer → Option FileAnswer
as_read None = None
as_read (Some a) = Some (files.Read a)

abbrev pub as_write : Option WriterAnswer → Option FileAnswer
as_write None = None
as_write (Some a) = Some (files.Write a)

abbrev pub reply_to : FileAsk → Reply → Option FileAnswer
reply_to (asks.Read block question) r = as_read (read_answer r)
reply_to (asks.Write block question) r = as_write (write_answer r)
reply_to question r = None

abbrev pub range_reply : FileState → Reply → Option FileAnswer
range_reply state r = reply_to (file_ask state) r

abbrev pub range_told : NodeAnswer → Option FileAnswer
range_told (answer.Fetch a) = Some (files.Read (reads.Fetched a))
range_told (answer.Keep a) = Some (files.Write (writes.Kept a))
range_told a = None

abbrev pub miss_to : FileAsk → FileAnswer
miss_to (asks.Read block question) = files.Read reads.Missed
miss_to question = files.Write writes.Missed

abbrev pub range_miss : FileState → FileAnswer
range_miss state = miss_to (file_ask state)

-- The rebuild.

abbrev pub rebuild_reply : Reply → Option RebuildAnswer
rebuild_reply (reply.Fence fence) = Some (rebuilds.Enrolled fence)
rebuild_reply (reply.Denied why) = Some (rebuilds.Denied why)
rebuild_reply (reply.Listed l) = Some (rebuilds.Listed l)
rebuild_reply (reply.Looked p) = Some (rebuilds.Rechecked p)
rebuild_reply r = None

abbrev pub rebuild_answer : NodeAnswer → Option RebuildAnswer
rebuild_answer (answer.Probe a) = Some (rebuilds.Probed a)
rebuild_answer (answer.Replace a) = Some (rebuilds.Replaced a)
rebuild_answer (answer.Fetch a) = Some (rebuilds.Fetched a)
rebuild_answer (answer.Refill a) = Some (rebuilds.Refilled a)
rebuild_answer a = None
