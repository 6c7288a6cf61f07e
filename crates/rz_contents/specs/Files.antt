-- Files at their paths, and what one operation beside which nobody acts makes of the store, wherever it stands. A history has the newest
-- event first.
use Rattle.std.specs.Prelude.{ℕ, Bool, true, false, ◌≡◌, List, [], ◌++◌, Some, None}
use Rattle.mj_angles.specs.declared.layout.Layout.{Layout}
use Rattle.rz_events.specs.Volume.{Volume}
use Rattle.rz_events.specs.declared.keys.Key.{Key}
use Rattle.rz_events.specs.declared.keys.Actor.{Actor}
use Rattle.rz_events.specs.declared.tree.TreeCall.{TreeCall}
use Rattle.rz_events.specs.declared.tree.TreeCall.TheVariants as call
use Rattle.rz_events.specs.declared.tree.TreeReply.{TreeReply}
use Rattle.rz_events.specs.declared.tree.TreeReply.TheVariants as reply
use Rattle.rz_events.specs.declared.tree.TreeFault.{TreeFault}
use Rattle.rz_events.specs.declared.events.Answer.{Answer}
use Rattle.rz_events.specs.declared.events.Answer.TheVariants as answer
use Rattle.rz_events.specs.declared.events.Event.{Event}
use Rattle.rz_client_model.specs.declared.writing.WriteStage.{WriteStage}
use Rattle.rz_client_model.specs.declared.writing.WriteStage.TheVariants as writing
use Rattle.rz_export_model.specs.Tree.{Tree, Found, found_at}
use Rattle.rz_export_model.specs.Refusals.{path_in, refusal}
use Rattle.rz_export_model.specs.TreeCalls.{tree_after}
use Rattle.rz_export_model.specs.Export.{new_places}
use Rattle.rz_operation_model.specs.Work.{Work, BlockPlan, OnBlock, PutBlock, GetBlock, Alone, Calling, Dropping, Opening, Writing, Reading, Ending, Over}
use Rattle.rz_operation_model.specs.Ask.{Ask, Say, ask_of}
use Rattle.rz_operation_model.specs.Steps.{Told, told}
use Rattle.rz_operation_model.specs.Turns.{IsStep}
use Rattle.rz_core.specs.ExportRows.{names_reply}
use Rattle.rz_core.specs.Legal.{IsLegalInRuns}
use Rattle.rz_contents.specs.Model.{Model, model_of, export_at, IsSame}
use Rattle.rz_contents.specs.Putting.{model_put}

-- The file at a path: directories lead there, and it is neither a directory nor a link.
pub record IsFileAt (t : Tree) (path : List ℕ) (file : Found) : Type 0 where
  pub there : found_at t (path_in path) ≡ Some file
  pub opens : refusal t (call.OpenFile path) ≡ None

-- the names refuse the call with this fault, the first that applies
abbrev pub Refuses : Tree → TreeCall → TreeFault → Type 0
Refuses t c f = refusal t c ≡ Some f

abbrev pub key_in : Found → ℕ → Key
key_in file block = record { fid = file.fid; block = block }

-- An operation that has said no word yet.

abbrev pub is_word : Ask → Bool
is_word (Say said) = true
is_word asked = false

-- It came from one work to another by turns with these events, and said none of its words.
pub data IsSilentCourse (layout : Layout) (by : Actor) (number : ℕ) (first : Work) : List Event → Work → Type 0 where
  Begins : IsSilentCourse layout by number first [] first
  Turns : (xs : List Event) (work : Work) (t : Told) (ys : List Event) → IsSilentCourse layout by number first xs work
      → is_word (ask_of layout work) ≡ false → IsStep by number (ask_of layout work) t ys → IsSilentCourse layout by number first (ys ++ xs) (told layout work t)

-- Blocks.

-- the block of the file at the path
pub record IsBlockAt (t : Tree) (path : List ℕ) (block : ℕ) (key : Key) : Type 0 where
  pub file : Found
  pub at : IsFileAt t path file
  pub key_is : key ≡ key_in file block

abbrev pub block_in : BlockPlan → ℕ
block_in (PutBlock block text) = block
block_in (GetBlock block) = block

-- the answer is a refusal of the path
abbrev pub IsOpenRefused : Tree → List ℕ → Answer → Type 0
IsOpenRefused t path (answer.Refused f) = Refuses t (call.OpenFile path) f
IsOpenRefused t path a = ⊥

-- An operation on a block has the one in hand to which the path led, or it answers why the path led to none.
abbrev pub IsOnBlock : Tree → List ℕ → ℕ → Work → Type 0
IsOnBlock t path block (Writing course text s) = (course ≡ Alone) × IsBlockAt t path block s.key
IsOnBlock t path block (Reading course s) = (course ≡ Alone) × IsBlockAt t path block s.key
IsOnBlock t path block (Ending a) = IsOpenRefused t path a
IsOnBlock t path block (Opening p plan) = Unit {0}
IsOnBlock t path block work = ⊥

abbrev pub LeadsToBlock : Volume → Type 0
LeadsToBlock v = (old xs : List Event) (by : Actor) (number : ℕ) (path : List ℕ) (plan : BlockPlan) (work : Work) → IsLegalInRuns v (xs ++ old)
    → IsSilentCourse v.layout by number (Opening path (OnBlock plan)) xs work → IsOnBlock (export_at v old).tree path (block_in plan) work

-- What a put has made of what users see.

abbrev pub IsPutStageSeen : Volume → Model → List ℕ → Model → Key → WriteStage → Type 0
IsPutStageSeen v old text now key (writing.Ended end) = IsSame (model_put v.layout end key text old) now
IsPutStageSeen v old text now key stage = IsSame old now

abbrev pub IsPutSeen : Volume → Model → List ℕ → Model → Work → Type 0
IsPutSeen v old text now (Opening path plan) = IsSame old now
IsPutSeen v old text now (Writing course written s) = IsPutStageSeen v old text now s.key s.stage
IsPutSeen v old text now (Ending a) = IsSame old now
IsPutSeen v old text now work = ⊥

abbrev pub IsPutWatched : Volume → Type 0
IsPutWatched v = (old xs : List Event) (by : Actor) (number : ℕ) (path : List ℕ) (block : ℕ) (text : List ℕ) (work : Work) → IsLegalInRuns v (xs ++ old)
    → IsSilentCourse v.layout by number (Opening path (OnBlock (PutBlock block text))) xs work
    → IsPutSeen v (model_of v old) text (model_of v (xs ++ old)) work

-- A get makes nothing of it.

abbrev pub IsGetSeen : Model → Model → Work → Type 0
IsGetSeen old now (Opening path plan) = IsSame old now
IsGetSeen old now (Reading course s) = IsSame old now
IsGetSeen old now (Ending a) = IsSame old now
IsGetSeen old now work = ⊥

abbrev pub IsGetWatched : Volume → Type 0
IsGetWatched v = (old xs : List Event) (by : Actor) (number : ℕ) (path : List ℕ) (block : ℕ) (work : Work) → IsLegalInRuns v (xs ++ old)
    → IsSilentCourse v.layout by number (Opening path (OnBlock (GetBlock block))) xs work → IsGetSeen (model_of v old) (model_of v (xs ++ old)) work

-- Calls on names.

-- The reply is that of the names as they were, the names are those after the call, and no block of any file was changed.
pub record IsCalled (v : Volume) (old : List Event) (c : TreeCall) (told : TreeReply) (now : List Event) : Type 0 where
  pub replied : told ≡ names_reply (export_at v old) c
  pub names : (export_at v now).tree ≡ tree_after (export_at v old).tree (new_places (export_at v old)).cid (new_places (export_at v old)).places c
  pub blocks : (key : Key) → (model_of v now).blocks key ≡ (model_of v old).blocks key

-- how the operation of a call answers that was replied to so
abbrev pub answer_for : TreeReply → Answer
answer_for (reply.Made fid) = answer.Created fid
answer_for (reply.MadeFile info) = answer.Created info.fid
answer_for (reply.Found fid kind) = answer.Found kind fid
answer_for (reply.Attr attr) = answer.Attr attr
answer_for (reply.Names names) = answer.Names names
answer_for (reply.Target target) = answer.Target target
answer_for (reply.Refused fault) = answer.Refused fault
answer_for told = answer.Plain

-- The call was not made yet; or it was, and all that comes then changes nothing more.
abbrev pub IsCallSeen : Volume → List Event → TreeCall → List Event → Work → Type 0
IsCallSeen v old c now (Calling asked) = IsSame (model_of v old) (model_of v now)
IsCallSeen v old c now (Dropping fid n places) = (told : TreeReply) × IsCalled v old c told now × (answer_for told ≡ answer.Plain)
IsCallSeen v old c now (Ending a) = (told : TreeReply) × IsCalled v old c told now × (answer_for told ≡ a)
IsCallSeen v old c now work = ⊥

-- no call on names opens a file
abbrev pub opens_file : TreeCall → Bool
opens_file (call.OpenFile path) = true
opens_file c = false

abbrev pub IsCallWatched : Volume → Type 0
IsCallWatched v = (old xs : List Event) (by : Actor) (number : ℕ) (c : TreeCall) (work : Work) → opens_file c ≡ false → IsLegalInRuns v (xs ++ old)
    → IsSilentCourse v.layout by number (Calling c) xs work → IsCallSeen v old c (xs ++ old) work
