-- Where an operation keeps what contracts see.
use Rattle.std.specs.Prelude.{ℕ, ◌≡◌, ◌≤◌, ◌<◌, ◌+◌, List, [], drop, length, slice_index, Option, Some, None, IsSome}
use Rattle.mj_angles.specs.declared.layout.Layout.{Layout}
use Rattle.mj_angles.specs.Layout.{block_bytes_of}
use Rattle.mj_inverse.specs.Fits.{Pair}
use Rattle.rz_words.specs.Grid.{Grid}
use Rattle.rz_events.specs.declared.tree.TreeCall.TheVariants as tree
use Rattle.rz_events.specs.declared.events.Answer.{Answer}
use Rattle.rz_events.specs.declared.events.Answer.TheVariants as answers
use Rattle.rz_writer.specs.Machine.{block_of, Machine as WriterMachine}
use Rattle.rz_operation_model.specs.Work.{Work, Plan as PlanOf, OnBlock, OnRange, PutBlock, GetBlock, Alone, Calling, Dropping, Opening, Locking, Writing, Reading, Ending, Over}
use Rattle.rz_operation_model.specs.Rebuild.{Rebuild, Going, Ended}
use Rattle.rz_operation_model.specs.Steps.{in_range, in_rebuild, range_answer}
use Rattle.rz_operation_model.specs.Files.{FileState, Ended as FileEnded}
use Rattle.rz_file.specs.Machine.{Machine as FileMachine}
use Rattle.rz_rebuild.specs.Machine.{Machine as Rebuilder}
use Rattle.rz_operation_states.specs.Answers.{IsWithinFile}
use Rattle.rz_operation_states.specs.declared.stage.OperationState.{OperationState}
use Rattle.rz_operation_states.specs.declared.stage.OperationState.TheVariants as stage
use Rattle.rz_operation_states.specs.declared.stage.OpenPlan.{OpenPlan}
use Rattle.rz_operation_states.specs.declared.stage.OpenPlan.TheVariants as plan
use Rattle.rz_operation_states.specs.Meaning.{path_in}
use Rattle.rz_operation_states.specs.Machine.{Machine}

-- What contracts see.

abbrev pub plan_of : OpenPlan → PlanOf
plan_of (plan.Put block writer text) = OnBlock (PutBlock block text)
plan_of (plan.Get block reader) = OnBlock (GetBlock block)
plan_of (plan.Range p) = OnRange p.plan

abbrev pub work_of : OperationState → Work
work_of (stage.Calling c) = Calling c
work_of (stage.Dropping fid places done) = Dropping fid (slice_index places done) (drop (done + 1) places)
work_of (stage.Opening c p) = Opening (path_in c) (plan_of p)
work_of (stage.Locking c p) = Locking (path_in c) p.plan
work_of (stage.Writing writer text) = Writing Alone text writer.state
work_of (stage.Reading reader) = Reading Alone reader.state
work_of (stage.Ranging file) = in_range file.state
work_of (stage.Rebuilding n rebuilder) = in_rebuild n rebuilder.state
work_of (stage.Ending answer) = Ending answer
work_of stage.Over = Over

abbrev pub pairs_of : OperationState → List Pair
pairs_of (stage.Reading reader) = reader.pairs
pairs_of (stage.Ranging file) = file.pairs
pairs_of (stage.Rebuilding n rebuilder) = rebuilder.pairs
pairs_of s = []

abbrev pub block_in : OperationState → Option Grid
block_in (stage.Reading reader) = reader.block
block_in (stage.Ranging file) = file.block
block_in (stage.Rebuilding n rebuilder) = rebuilder.block
block_in s = None

abbrev pub machine_of : Layout → OperationState → Machine
machine_of layout s = record { layout = layout; work = work_of s; pairs = pairs_of s; block = block_in s }

-- What holds between two answers.

-- a machine that waits has the memory of a block
abbrev pub IsOpenPlan : Layout → OpenPlan → Type 0
IsOpenPlan layout (plan.Put block writer text) = (writer.state.layout ≡ layout) × IsSome writer.block × (length text ≤ block_bytes_of layout)
IsOpenPlan layout (plan.Get block reader) = reader.state.layout ≡ layout
IsOpenPlan layout (plan.Range p) = p.layout ≡ layout

-- the writer writes the text
pub record WritesText (y : Layout) (text : List ℕ) (writer : WriterMachine) : Type 0 where
  pub layout : writer.state.layout ≡ y
  pub block : writer.block ≡ Some (block_of y text)
  pub length : writer.state.length ≡ length text

-- a range is under way
abbrev pub IsRangeOpen : FileState → Type 0
IsRangeOpen (FileEnded r end) = ⊥
IsRangeOpen state = Unit {0}

pub record IsRanging (y : Layout) (file : FileMachine) : Type 0 where
  pub layout : file.layout ≡ y
  pub going : IsRangeOpen file.state

-- a rebuild is under way
abbrev pub IsRebuildGoing : Rebuild → Type 0
IsRebuildGoing (Going s) = Unit {0}
IsRebuildGoing (Ended end) = ⊥

pub record IsNodeRebuild (y : Layout) (n : ℕ) (rebuilder : Rebuilder) : Type 0 where
  pub layout : rebuilder.layout ≡ y
  pub node : rebuilder.node ≡ n
  pub going : IsRebuildGoing rebuilder.state

abbrev pub IsOperationState : Layout → OperationState → Type 0
IsOperationState layout (stage.Dropping fid places done) = done < length places
IsOperationState layout (stage.Opening c p) = (c ≡ tree.OpenFile (path_in c)) × IsOpenPlan layout p
IsOperationState layout (stage.Locking c p) = (c ≡ tree.OpenFile (path_in c)) × (p.layout ≡ layout) × IsWithinFile p.plan
IsOperationState layout (stage.Writing writer text) = WritesText layout text writer
IsOperationState layout (stage.Reading reader) = reader.state.layout ≡ layout
IsOperationState layout (stage.Ranging file) = IsRanging layout file
IsOperationState layout (stage.Rebuilding n rebuilder) = IsNodeRebuild layout n rebuilder
IsOperationState layout s = Unit {0}

-- nothing was fetched yet
abbrev pub HasNoRecords : OperationState → Type 0
HasNoRecords (stage.Reading reader) = (reader.pairs ≡ []) × (reader.block ≡ None)
HasNoRecords (stage.Ranging file) = (file.pairs ≡ []) × (file.block ≡ None)
HasNoRecords (stage.Rebuilding n rebuilder) = ⊥
HasNoRecords s = Unit {0}

-- no block is in hand, and no file is about to be opened
abbrev pub HasNoBlock : OperationState → Type 0
HasNoBlock (stage.Dropping fid places done) = done < length places
HasNoBlock (stage.Ending answer) = Unit {0}
HasNoBlock stage.Over = Unit {0}
HasNoBlock _ = ⊥

-- what becomes of a range
abbrev pub IsRangeStage : FileMachine → FileState → OperationState → Type 0
IsRangeStage file (FileEnded r end) new = new ≡ stage.Ending (range_answer r.aim end)
IsRangeStage file state new = new ≡ stage.Ranging file

-- what becomes of a rebuild
abbrev pub IsRebuildState : ℕ → Rebuilder → Rebuild → OperationState → Type 0
IsRebuildState n rebuilder (Going s) new = new ≡ stage.Rebuilding n rebuilder
IsRebuildState n rebuilder (Ended end) new = new ≡ stage.Ending (answers.Rebuild end)

-- the answer is said
abbrev pub IsDoneStage : OperationState → Type 0
IsDoneStage (stage.Ending answer) = Unit {0}
IsDoneStage s = ⊥

abbrev pub IsAnswerIn : OperationState → Answer → Type 0
IsAnswerIn (stage.Ending a) answer = answer ≡ a
IsAnswerIn s answer = ⊥
