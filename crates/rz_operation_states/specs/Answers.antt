-- Which answers belong to what was asked, and what they make of a machine.
use Rattle.std.specs.Prelude.{ℕ, Bool, true, ◌≡◌, ◌<◌, ◌≤◌, ◌+◌, List, [], length, Option, None}
use Rattle.std.specs.Int.{bit_at}
use Rattle.mj_angles.specs.declared.layout.Layout.{Layout}
use Rattle.mj_angles.specs.Layout.{safe_of, block_bytes_of}
use Rattle.mj_inverse.specs.Fits.{Pair}
use Rattle.rz_words.specs.Grid.{Grid}
use Rattle.rz_events.specs.declared.tree.TreeReply.{TreeReply}
use Rattle.rz_events.specs.declared.tree.TreeReply.TheVariants as tree
use Rattle.rz_events.specs.declared.export.Call.{Call}
use Rattle.rz_events.specs.declared.export.Call.TheVariants as call
use Rattle.rz_events.specs.declared.export.Reply.{Reply}
use Rattle.rz_events.specs.declared.export.Reply.TheVariants as reply
use Rattle.rz_events.specs.declared.nodes.NodeAsk.{NodeAsk}
use Rattle.rz_events.specs.declared.nodes.NodeAsk.TheVariants as ask
use Rattle.rz_events.specs.declared.nodes.NodeAnswer.{NodeAnswer}
use Rattle.rz_events.specs.declared.nodes.NodeAnswer.TheVariants as answer
use Rattle.rz_events.specs.declared.nodes.FetchAnswer.{FetchAnswer}
use Rattle.rz_events.specs.declared.machines.ReaderAnswer.TheVariants as reads
use Rattle.rz_events.specs.declared.machines.WriterAsk.{WriterAsk}
use Rattle.rz_events.specs.declared.machines.WriterAsk.TheVariants as keeps
use Rattle.rz_client_model.specs.Read.{IsTold, IsFetched}
use Rattle.rz_reader.specs.Fetched.{record_in}
use Rattle.rz_reader.specs.Machine.{pairs_at, pairs_if, AreFitting, IsBlockOf}
use Rattle.rz_events.specs.declared.operations.Operation.{Operation}
use Rattle.rz_events.specs.declared.operations.Operation.TheVariants as operation
use Rattle.rz_operation_model.specs.Ranges.{bytes_of}
use Rattle.rz_operation_model.specs.Ask.{Ask, AskExport, AskNode, AskLock, Say, Saying, SayDone}
use Rattle.rz_operation_model.specs.Steps.{Told, Answered, told}
use Rattle.rz_operation_model.specs.Turns.{goes_by_link}
use Rattle.rz_operation_model.specs.Rebuild.{IsNextAnswer}
use Rattle.rz_rebuild.specs.Machine.{HasBinsAt, pairs_at_state, pairs_fetched_at, IsBlockAt}
use Rattle.rz_operation_model.specs.Work.{Work, RangePlan, WriteBytes, ReadBytes, Reading, Rebuilding}
use Rattle.rz_operation_states.specs.Machine.{Machine}

-- Operations that a machine takes: a block's datum fits the block, and a range ends where the longest file does.

abbrev pub IsWithinLayout : Layout → Operation → Type 0
IsWithinLayout layout (operation.Tree c) = Unit {0}
IsWithinLayout layout (operation.Put path block datum) = length (bytes_of datum) ≤ block_bytes_of layout
IsWithinLayout layout (operation.Get path block) = Unit {0}
IsWithinLayout layout (operation.Rebuild n) = Unit {0}
IsWithinLayout layout (operation.Write path offset datum) = offset + length (bytes_of datum) ≤ 4294967296
IsWithinLayout layout (operation.Read path offset count) = offset + count ≤ 4294967296
IsWithinLayout layout (operation.Update path offset datum) = offset + length (bytes_of datum) ≤ 4294967296
IsWithinLayout layout (operation.View path offset count) = offset + count ≤ 4294967296

-- the range of an operation ends where the longest file does
abbrev pub IsWithinFile : RangePlan → Type 0
IsWithinFile (WriteBytes offset bytes) = offset + length bytes ≤ 4294967296
IsWithinFile (ReadBytes offset count) = offset + count ≤ 4294967296

-- Answers of the export.

-- a file has a node for each position
abbrev pub HasPlaces : Layout → TreeReply → Type 0
HasPlaces layout (tree.File info) = length info.places ≡ safe_of layout
HasPlaces layout answer = Unit {0}

abbrev pub IsTreeReply : Layout → Reply → Type 0
IsTreeReply layout (reply.Tree answer) = HasPlaces layout answer
IsTreeReply layout r = ⊥

abbrev pub IsBeginReply : Reply → Type 0
IsBeginReply (reply.Begun stamp base) = base < stamp
IsBeginReply (reply.Denied why) = Unit {0}
IsBeginReply r = ⊥

abbrev pub IsPublishReply : ℕ → Reply → Type 0
IsPublishReply mask reply.Accepted = Unit {0}
IsPublishReply mask (reply.Enrolled position fence) = (position < 16) × (bit_at mask position ≡ 1)
IsPublishReply mask (reply.Denied why) = Unit {0}
IsPublishReply mask (reply.Revoked later) = Unit {0}
IsPublishReply mask r = ⊥

abbrev pub IsLookReply : Layout → Reply → Type 0
IsLookReply layout (reply.Looked p) = IsTold layout p
IsLookReply layout (reply.Denied why) = Unit {0}
IsLookReply layout r = ⊥

abbrev pub IsEnrollReply : Reply → Type 0
IsEnrollReply (reply.Fence fence) = Unit {0}
IsEnrollReply (reply.Denied why) = Unit {0}
IsEnrollReply r = ⊥

abbrev pub IsNextReply : Layout → ℕ → Reply → Type 0
IsNextReply layout n (reply.Listed l) = IsNextAnswer layout n l
IsNextReply layout n r = ⊥

abbrev pub IsReplyTo : Layout → Call → Reply → Type 0
IsReplyTo layout (call.Tree c) r = IsTreeReply layout r
IsReplyTo layout (call.Begin key text) r = IsBeginReply r
IsReplyTo layout (call.Publish key stamp mask length) r = IsPublishReply mask r
IsReplyTo layout (call.Look key) r = IsLookReply layout r
IsReplyTo layout (call.Recheck key) r = IsLookReply layout r
IsReplyTo layout (call.Enroll n loss) r = IsEnrollReply r
IsReplyTo layout (call.Next n after) r = IsNextReply layout n r

abbrev pub IsReply : Layout → Ask → Reply → Type 0
IsReply layout (AskExport c) r = IsReplyTo layout c r
IsReply layout ask r = ⊥

abbrev pub IsLockReply : Layout → Ask → Reply → Type 0
IsLockReply layout (AskLock path exclusive from count) r = IsTreeReply layout r
IsLockReply layout ask r = ⊥

-- Answers of nodes. A record comes with the bins of the position that was asked.

abbrev pub IsFetchedAt : Layout → ℕ → NodeAnswer → Type 0
IsFetchedAt layout position (answer.Fetch a) = IsFetched layout a
IsFetchedAt layout position a = ⊥

abbrev pub HasFetched : Layout → ℕ → NodeAnswer → List ℕ → Type 0
HasFetched layout position (answer.Fetch a) bins = HasBinsAt layout position a bins
HasFetched layout position a bins = Unit {0}

abbrev pub IsFetchGiven : NodeAnswer → Type 0
IsFetchGiven (answer.Fetch a) = Unit {0}
IsFetchGiven a = ⊥

abbrev pub IsKeepGiven : NodeAnswer → Type 0
IsKeepGiven (answer.Keep a) = Unit {0}
IsKeepGiven a = ⊥

abbrev pub IsDropGiven : NodeAnswer → Type 0
IsDropGiven (answer.Drop a) = Unit {0}
IsDropGiven a = ⊥

abbrev pub IsProbeGiven : NodeAnswer → Type 0
IsProbeGiven (answer.Probe a) = Unit {0}
IsProbeGiven a = ⊥

abbrev pub IsReplaceGiven : NodeAnswer → Type 0
IsReplaceGiven (answer.Replace a) = Unit {0}
IsReplaceGiven a = ⊥

abbrev pub IsRefillGiven : NodeAnswer → Type 0
IsRefillGiven (answer.Refill a) = Unit {0}
IsRefillGiven a = ⊥

abbrev pub IsAnswerTo : Layout → NodeAsk → NodeAnswer → Type 0
IsAnswerTo layout (ask.Keep head) a = IsKeepGiven a
IsAnswerTo layout (ask.Fetch key position stamp) a = IsFetchedAt layout position a
IsAnswerTo layout (ask.Drop fid) a = IsDropGiven a
IsAnswerTo layout ask.Probe a = IsProbeGiven a
IsAnswerTo layout (ask.Replace loss fence) a = IsReplaceGiven a
IsAnswerTo layout (ask.Refill fence head) a = IsRefillGiven a
IsAnswerTo layout question a = ⊥

abbrev pub HasBinsTo : Layout → NodeAsk → NodeAnswer → List ℕ → Type 0
HasBinsTo layout (ask.Fetch key position stamp) a bins = HasFetched layout position a bins
HasBinsTo layout question a bins = Unit {0}

abbrev pub IsAnswer : Layout → Ask → NodeAnswer → Type 0
IsAnswer layout (AskNode n question) a = IsAnswerTo layout question a
IsAnswer layout ask a = ⊥

abbrev pub ComeWith : Layout → Ask → NodeAnswer → List ℕ → Type 0
ComeWith layout (AskNode n question) a bins = HasBinsTo layout question a bins
ComeWith layout ask a bins = Unit {0}

-- what is fetched lies at a position of the layout
abbrev pub IsPlaced : Layout → NodeAsk → Type 0
IsPlaced layout (ask.Fetch key position stamp) = position < safe_of layout
IsPlaced layout question = Unit {0}

-- a message that the link may lose was asked
abbrev pub MayMiss : Ask → Type 0
MayMiss (AskNode n question) = goes_by_link question ≡ true
MayMiss ask = ⊥

-- the end of a block is said, or that it was left
abbrev pub IsPart : Saying → Type 0
IsPart (SayDone answer) = ⊥
IsPart said = Unit {0}

abbrev pub IsPartSaid : Ask → Type 0
IsPartSaid (Say said) = IsPart said
IsPartSaid ask = ⊥

abbrev pub IsEnd : Saying → Type 0
IsEnd (SayDone answer) = Unit {0}
IsEnd said = ⊥

abbrev pub IsDone : Ask → Type 0
IsDone (Say said) = IsEnd said
IsDone ask = ⊥

-- The records of a block that is read.

-- pairs are there while records are fetched
abbrev pub pairs_in : Work → List Pair → List Pair
pairs_in (Reading course s) pairs = pairs_at s.stage pairs
pairs_in (Rebuilding n s) pairs = pairs_at_state s pairs
pairs_in work pairs = []

-- a record of the published stamp adds one
abbrev pub pairs_fetched : Layout → Work → List Pair → FetchAnswer → List ℕ → List Pair
pairs_fetched layout (Reading course s) pairs a bins = pairs_if layout pairs (record_in s.stage (reads.Fetched a)) bins
pairs_fetched layout (Rebuilding n s) pairs a bins = pairs_fetched_at layout s pairs a bins
pairs_fetched layout work pairs a bins = pairs

-- the block is there once it is found, and is the one that fits
abbrev pub IsBlockIn : Layout → List Pair → Work → Option Grid → Type 0
IsBlockIn layout pairs (Reading course s) block = IsBlockOf layout pairs s.stage block
IsBlockIn layout pairs (Rebuilding n s) block = IsBlockAt layout pairs s block
IsBlockIn layout pairs work block = block ≡ None

-- What an answer makes of a machine.

-- the work goes on by what was told; these were the pairs before the work went on
pub record IsWorkAfter (m : Machine) (had : List Pair) (t : Told) (new : Machine) : Type 0 where
  pub layout : new.layout ≡ m.layout
  pub work : new.work ≡ told m.layout m.work t
  pub pairs : new.pairs ≡ pairs_in new.work had
  pub block : IsBlockIn m.layout had new.work new.block

-- where the records are enough, they fit exactly where some block has them
abbrev pub FitsIfEnough : Machine → NodeAnswer → List ℕ → Machine → Type 0
FitsIfEnough m (answer.Fetch a) bins new = (fits : Bool) × AreFitting m.layout (pairs_fetched m.layout m.work m.pairs a bins) fits
    × IsWorkAfter m (pairs_fetched m.layout m.work m.pairs a bins) (Answered fits (answer.Fetch a)) new
FitsIfEnough m a bins new = IsWorkAfter m m.pairs (Answered true a) new

-- What the parts of a machine are told.

abbrev pub IsKeepAsk : WriterAsk → Type 0
IsKeepAsk (keeps.Keep position n stamp base) = Unit {0}
IsKeepAsk a = ⊥
