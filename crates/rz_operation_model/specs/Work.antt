-- What an actor is about to do.
use Rattle.std.specs.Prelude.{ℕ, List}
use Rattle.rz_events.specs.declared.tree.TreeCall.{TreeCall}
use Rattle.rz_events.specs.declared.events.Answer.{Answer}
use Rattle.rz_client_model.specs.declared.reading.ReaderState.{ReaderState}
use Rattle.rz_client_model.specs.declared.writing.WriterState.{WriterState}
use Rattle.rz_operation_model.specs.Ranges.{RangeState}
use Rattle.rz_operation_model.specs.Rebuild.{RebuildState}

-- a block is written or read
pub data BlockPlan : Type 0 where
  PutBlock : (block : ℕ) → (text : List ℕ) → BlockPlan
  GetBlock : (block : ℕ) → BlockPlan

-- bytes from an offset on are written or read
pub data RangePlan : Type 0 where
  WriteBytes : (offset : ℕ) → (bytes : List ℕ) → RangePlan
  ReadBytes : (offset count : ℕ) → RangePlan

-- what is done with a file once it is open
pub data Plan : Type 0 where
  OnBlock : BlockPlan → Plan
  OnRange : RangePlan → Plan

-- the block in hand is the whole operation, or it is one of a range
pub data Course : Type 0 where
  Alone : Course
  Within : RangeState → Course

pub data Work : Type 0 where
  -- one call on names
  Calling : TreeCall → Work
  -- the records of a file that has no name left are dropped at this node, and then at those
  Dropping : (fid node : ℕ) → (places : List ℕ) → Work
  -- the file is opened, without a lock or with one
  Opening : (path : List ℕ) → Plan → Work
  Locking : (path : List ℕ) → RangePlan → Work
  -- a block is written with this text, or read
  Writing : Course → (text : List ℕ) → WriterState → Work
  Reading : Course → ReaderState → Work
  Rebuilding : (node : ℕ) → RebuildState → Work
  -- the answer is said
  Ending : Answer → Work
  Over : Work
