-- The course of a rebuild is a run: what an operation says that it rebuilt, it did.
use Rattle.std.proofs.Common.{ℕ, Bool, true, false, ◌==◌, ◌≡◌, inl, inr, List, [], ◌∷◌, ◌++◌, Option, Some, None, cond, refl, sym, ◌∙◌, ap, subst, arith, nat_lt}
use Rattle.std.specs.Prelude.{slice_index}
use Rattle.std.proofs.lemmas.Bool.{eqb-true, eq-eqb}
use Rattle.mj_angles.specs.declared.layout.Layout.{Layout}
use Rattle.mj_angles.specs.Layout.{inverse_of}
use Rattle.rz_events.specs.Volume.{Volume}
use Rattle.rz_events.specs.Masks.{stamp_told}
use Rattle.rz_events.specs.declared.keys.Key.{Key}
use Rattle.rz_events.specs.declared.keys.Actor.{Actor}
use Rattle.rz_events.specs.declared.files.FileInfo.{FileInfo}
use Rattle.rz_events.specs.declared.files.Listed.{Listed}
use Rattle.rz_events.specs.declared.files.Published.{Published}
use Rattle.rz_events.specs.declared.records.Change.TheVariants as change
use Rattle.rz_events.specs.declared.operations.Operation.{Operation}
use Rattle.rz_events.specs.declared.operations.Operation.TheVariants as operation
use Rattle.rz_events.specs.declared.ends.ReadMark.{ReadMark}
use Rattle.rz_events.specs.declared.ends.ReadMark.TheVariants as mark
use Rattle.rz_events.specs.declared.ends.Seen.TheVariants as seen
use Rattle.rz_events.specs.declared.ends.WriteEnd.{WriteEnd}
use Rattle.rz_events.specs.declared.ends.RebuildEnd.{RebuildEnd}
use Rattle.rz_events.specs.declared.ends.RebuildEnd.TheVariants as ends
use Rattle.rz_events.specs.declared.export.Call.{Call}
use Rattle.rz_events.specs.declared.export.Call.TheVariants as call
use Rattle.rz_events.specs.declared.export.Reply.{Reply}
use Rattle.rz_events.specs.declared.export.Reply.TheVariants as reply
use Rattle.rz_events.specs.declared.tree.TreeCall.{TreeCall}
use Rattle.rz_events.specs.declared.tree.TreeReply.{TreeReply}
use Rattle.rz_events.specs.declared.tree.TreeReply.TheVariants as tree
use Rattle.rz_events.specs.declared.nodes.DropAnswer.{DropAnswer}
use Rattle.rz_events.specs.declared.nodes.DropAnswer.TheVariants as drops
use Rattle.rz_events.specs.declared.nodes.FetchAnswer.{FetchAnswer}
use Rattle.rz_events.specs.declared.nodes.FetchAnswer.TheVariants as fetch
use Rattle.rz_events.specs.declared.nodes.RefillAnswer.{RefillAnswer}
use Rattle.rz_events.specs.declared.nodes.RefillAnswer.TheVariants as refill
use Rattle.rz_events.specs.declared.nodes.ReplaceAnswer.TheVariants as replace
use Rattle.rz_events.specs.declared.nodes.NodeAsk.{NodeAsk}
use Rattle.rz_events.specs.declared.nodes.NodeAsk.TheVariants as ask
use Rattle.rz_events.specs.declared.nodes.NodeAnswer.{NodeAnswer}
use Rattle.rz_events.specs.declared.nodes.NodeAnswer.TheVariants as node
use Rattle.rz_events.specs.declared.machines.FileEnd.{FileEnd}
use Rattle.rz_events.specs.declared.machines.FileEnd.TheVariants as end
use Rattle.rz_events.specs.declared.machines.ReaderAsk.{ReaderAsk}
use Rattle.rz_events.specs.declared.machines.ReaderAsk.TheVariants as readers
use Rattle.rz_events.specs.declared.machines.WriterAsk.{WriterAsk}
use Rattle.rz_events.specs.declared.machines.WriterAsk.TheVariants as writers
use Rattle.rz_events.specs.declared.machines.RebuildAsk.{RebuildAsk}
use Rattle.rz_events.specs.declared.machines.RebuildAsk.TheVariants as rebuilds
use Rattle.rz_events.specs.declared.machines.ReaderAnswer.TheVariants as reads
use Rattle.rz_events.specs.declared.machines.RebuildAnswer.{RebuildAnswer}
use Rattle.rz_events.specs.declared.machines.RebuildAnswer.TheVariants as hears
use Rattle.rz_events.specs.declared.events.Answer.{Answer}
use Rattle.rz_events.specs.declared.events.Answer.TheVariants as answers
use Rattle.rz_events.specs.declared.events.Event.{Event}
use Rattle.rz_events.specs.declared.events.Event.TheVariants as e
use Rattle.rz_node_model.specs.NodeEvents.{node_event, fetch_event, refill_event}
use Rattle.rz_export_model.specs.ExportEvents.{export_event}
use Rattle.rz_client_model.specs.declared.reading.ReaderState.{ReaderState}
use Rattle.rz_client_model.specs.declared.reading.ReadStage.{ReadStage}
use Rattle.rz_client_model.specs.declared.reading.ReadStage.TheVariants as reading
use Rattle.rz_client_model.specs.declared.reading.Fetches.{Fetches}
use Rattle.rz_client_model.specs.declared.writing.WriterState.{WriterState}
use Rattle.rz_client_model.specs.Read.{none_fetched, after_fetch, unless_enough, with_seen, with_record, reader_ask, ask_at, reader_end, end_at, next_position}
use Rattle.rz_client_model.specs.Write.{writer_ask, writer_end}
use Rattle.rz_operation_model.specs.Ranges.{Aim, Taking, Giving}
use Rattle.rz_operation_model.specs.Files.{FileState, Reads, Writes, Ended as FileEnded, write_start, read_start, after_part, after_block}
use Rattle.rz_operation_model.specs.Rebuild.{Tally, RebuildState, Probing, Enrolling, Replacing, Listing, Copying, Refilling, Leaving, Rebuild, Going, Ended as RebuildEnded, end_of, after_read, after_refill, base_told, position_of, ask_to_copy, rebuild_ask, rebuild_told}
use Rattle.rz_operation_model.specs.Work.{Work, PutBlock, GetBlock, RangePlan, WriteBytes, ReadBytes, Plan, OnBlock, OnRange, Course, Alone, Within, Calling, Dropping, Opening, Locking, Writing, Reading, Rebuilding, Ending, Over}
use Rattle.rz_operation_model.specs.Ask.{Say, SayDone, ask_of, is_part, got, read_asks, gave, write_asks, refill_head, rebuild_asks}
use Rattle.rz_operation_model.specs.Steps.{Told as Hears, Replied, Locked, Answered, Missed, Noted, begun, told, in_range, range_answer, planned, after_open, after_lock, drop_at, after_drop, after_call, said_reading, said_writing, after_got, after_gave, rebuild_after, in_rebuild}
use Rattle.rz_operation_model.specs.Turns.{IsStep, IsNodeStep, Through, ReplyLost, RequestLost, IsExportStep}
use Rattle.rz_core.specs.History.{of_actor}
use Rattle.rz_core.specs.Courses.{IsCourse, Begun, Went, DoneRow}
use Rattle.rz_core.specs.Legal.{IsLegalInRuns}
use Rattle.rz_safety.specs.Rebuilt.{Stage, Ready, Told, Ended, IsRun, IsRebuilt, IsRebuildDone, AreRebuilt}
use Rattle.rz_safety.proofs.RebuildLaws.{complete}
use Rattle.rz_safety.proofs.VersionLaws.{fenced}

-- What own events say of the operation in hand.

-- as long as no block was left, the events since the replacement are those of a rebuild that stands here
abbrev IsSoFar : List Event → ℕ → Tally → Stage → Type 0
IsSoFar o n t stage = t.left ≡ 0 → (loss : ℕ) × IsRun o n loss t.fence t.refilled stage

-- the block's records are fetched
record IsCopying (o : List Event) (n : ℕ) (t : Tally) (l : Listed) (s : ReaderState) : Type 0 where
  fetches : Fetches
  stage_is : s.stage ≡ reading.Fetching fetches
  stamp_is : fetches.stamp ≡ l.published.stamp
  so_far : IsSoFar o n t (Told t.after l.key l.published.stamp)

abbrev IsAtStage : List Event → ℕ → RebuildState → Type 0
IsAtStage o n (Listing t) = IsSoFar o n t (Ready t.after)
IsAtStage o n (Copying t l base s) = IsCopying o n t l s
IsAtStage o n (Refilling t l size base) = IsSoFar o n t (Told t.after l.key l.published.stamp)
IsAtStage o n _ = Unit {0}

abbrev IsEnding : List Event → ℕ → RebuildEnd → Type 0
IsEnding o n (ends.Rebuilt fence refilled) = (loss : ℕ) × IsRebuilt o n loss fence refilled
IsEnding o n _ = Unit {0}

abbrev IsRebuild : List Event → ℕ → Rebuild → Type 0
IsRebuild o n (Going s) = IsAtStage o n s
IsRebuild o n (RebuildEnded end) = IsEnding o n end

abbrev IsAnswer : List Event → Answer → Type 0
IsAnswer o (answers.Rebuild end) = (n : ℕ) × IsEnding o n end
IsAnswer o _ = Unit {0}

abbrev IsAt : List Event → Work → Type 0
IsAt o (Rebuilding n s) = IsAtStage o n s
IsAt o (Ending answer) = IsAnswer o answer
IsAt o _ = Unit {0}

-- Operations that rebuild nothing.

range-at : (o : List Event) (aim : Aim) (end : FileEnd) → IsAnswer o (range_answer aim end)
range-at o (Taking bytes) (end.Whole done) = tt
range-at o (Giving bytes) (end.Whole done) = tt
range-at o aim (end.ShortWrite done cause) = tt
range-at o aim (end.ShortRead done mark) = tt

in-range : (o : List Event) (s : FileState) → IsAt o (in_range s)
in-range o (Reads r s) = tt
in-range o (Writes r text s) = tt
in-range o (FileEnded r end) = range-at o r.aim end

plan-at : (layout : Layout) (o : List Event) (info : FileInfo) (plan : Plan) → IsAt o (planned layout info plan)
plan-at layout o info (OnBlock (PutBlock block text)) = tt
plan-at layout o info (OnBlock (GetBlock block)) = tt
plan-at layout o info (OnRange (WriteBytes offset bytes)) = in-range o (write_start layout info offset bytes)
plan-at layout o info (OnRange (ReadBytes offset count)) = in-range o (read_start layout info offset count)

open-at : (layout : Layout) (o : List Event) (plan : Plan) (answer : TreeReply) → IsAt o (after_open layout plan answer)
open-at layout o plan (tree.File info) = plan-at layout o info plan
open-at layout o plan (tree.Refused fault) = tt
open-at layout o plan (_) = tt

lock-at : (layout : Layout) (o : List Event) (path : List ℕ) (plan : RangePlan) (granted : Bool) (answer : TreeReply) → IsAt o (after_lock layout path plan granted answer)
lock-at layout o path plan true answer = open-at layout o (OnRange plan) answer
lock-at layout o path plan false (tree.File info) = tt
lock-at layout o path plan false (tree.Refused fault) = tt
lock-at layout o path plan false (_) = tt

drop-at : (o : List Event) (fid : ℕ) (places : List ℕ) → IsAt o (drop_at fid places)
drop-at o fid [] = tt
drop-at o fid (n ∷ places) = tt

dropped-at : (o : List Event) (fid n : ℕ) (places : List ℕ) (answer : DropAnswer) → IsAt o (after_drop fid n places answer)
dropped-at o fid n places (drops.Dropped block stamp true) = tt
dropped-at o fid n places (drops.Dropped block stamp false) = drop-at o fid places
dropped-at o fid n places (_) = drop-at o fid places

call-at : (o : List Event) (answer : TreeReply) → IsAt o (after_call answer)
call-at o (tree.Gone (Some info)) = drop-at o info.fid info.places
call-at o (tree.Gone None) = tt
call-at o (_) = tt

got-at : (layout : Layout) (o : List Event) (course : Course) (text : List ℕ) (m : ReadMark) → IsAt o (after_got layout course text m)
got-at layout o Alone text m = tt
got-at layout o (Within r) text m = in-range o (after_part layout r text m)

said-read-at : (layout : Layout) (o : List Event) (course : Course) (s : ReaderState) (text : List ℕ) (m : Option ReadMark) → IsAt o (said_reading layout course s text m)
said-read-at layout o course s text None = tt
said-read-at layout o course s text (Some m) = got-at layout o course text m

reading-at : (layout : Layout) (o : List Event) (course : Course) (s : ReaderState) (t : Hears) → IsAt o (told layout (Reading course s) t)
reading-at layout o course s (Noted text) = said-read-at layout o course s text (reader_end s)
reading-at layout o course s (_) = tt

gave-at : (layout : Layout) (o : List Event) (course : Course) (end : WriteEnd) → IsAt o (after_gave layout course end)
gave-at layout o Alone end = tt
gave-at layout o (Within r) end = in-range o (after_block layout r end)

said-written-at : (layout : Layout) (o : List Event) (course : Course) (text : List ℕ) (s : WriterState) (end : Option WriteEnd) → IsAt o (said_writing layout course text s end)
said-written-at layout o course text s None = tt
said-written-at layout o course text s (Some end) = gave-at layout o course end

writing-at : (layout : Layout) (o : List Event) (course : Course) (text : List ℕ) (s : WriterState) (t : Hears) → IsAt o (told layout (Writing course text s) t)
writing-at layout o course text s (Noted found) = said-written-at layout o course text s (writer_end s)
writing-at layout o course text s (_) = tt

calling-at : (layout : Layout) (o : List Event) (t : Hears) → (c : TreeCall) → IsAt o (told layout (Calling c) t)
calling-at layout o (Replied (reply.Tree answer)) c = call-at o answer
calling-at layout o (_) c = tt

dropping-at : (layout : Layout) (o : List Event) (fid n : ℕ) (places : List ℕ) (t : Hears) → IsAt o (told layout (Dropping fid n places) t)
dropping-at layout o fid n places (Answered fits (node.Drop answer)) = dropped-at o fid n places answer
dropping-at layout o fid n places Missed = drop-at o fid places
dropping-at layout o fid n places (_) = tt

opening-at : (layout : Layout) (o : List Event) (path : List ℕ) (plan : Plan) (t : Hears) → IsAt o (told layout (Opening path plan) t)
opening-at layout o path plan (Replied (reply.Tree answer)) = open-at layout o plan answer
opening-at layout o path plan (_) = tt

locking-at : (layout : Layout) (o : List Event) (path : List ℕ) (plan : RangePlan) (t : Hears) → IsAt o (told layout (Locking path plan) t)
locking-at layout o path plan (Locked granted (reply.Tree answer)) = lock-at layout o path plan granted answer
locking-at layout o path plan (_) = tt

-- Turns of a rebuild.

-- what holds of each answer that comes through, and of a lost message, holds of a turn at a node
node-turn : {by : Actor} {n : ℕ} {question : NodeAsk} (P : Hears → List Event → Type 0)
    → ((given : NodeAnswer) (x : Event) → node_event by n question given ≡ Some x → P (Answered true given) (x ∷ []))
    → ((given : NodeAnswer) (x : Event) → node_event by n question given ≡ Some x → P Missed (e.Missed by n true ∷ x ∷ []))
    → P Missed (e.Missed by n false ∷ [])
    → (t : Hears) (xs : List Event) → IsNodeStep by n question t xs → P t xs
node-turn P through lost unasked _ _ (Through given x is) = through given x is
node-turn P through lost unasked _ _ (ReplyLost given x is link) = lost given x is
node-turn P through lost unasked _ _ (RequestLost link) = unasked

-- the same of a call of the export
export-turn : (by : Actor) (c : Call) (P : Hears → List Event → Type 0) → ((r : Reply) (x : Event) → export_event by c r ≡ Some x → P (Replied r) (x ∷ []))
    → (t : Hears) (xs : List Event) → IsExportStep by c t xs → P t xs
export-turn by c P replied t xs (r, x, t_is, is, xs_is) = subst (λ z. P z xs) (sym t_is) (subst (P (Replied r)) (sym xs_is) (replied r x is))

-- what holds after each answer of a rebuild, and of its state as it was, holds after all that it may hear
after-any : (layout : Layout) (s : RebuildState) (P : Rebuild → Type 0) → ((fits : Bool) (answer : RebuildAnswer) → P (rebuild_told layout fits s answer)) → P (Going s)
    → (t : Hears) → P (rebuild_after layout s t)
after-any layout s P all same (Replied (reply.Fence fence)) = all true (hears.Enrolled fence)
after-any layout s P all same (Replied (reply.Denied cause)) = all true (hears.Denied cause)
after-any layout s P all same (Replied (reply.Listed listed)) = all true (hears.Listed listed)
after-any layout s P all same (Replied (reply.Looked p)) = all true (hears.Rechecked p)
after-any layout s P all same (Replied (_)) = same
after-any layout s P all same (Answered fits (node.Probe answer)) = all fits (hears.Probed answer)
after-any layout s P all same (Answered fits (node.Replace answer)) = all fits (hears.Replaced answer)
after-any layout s P all same (Answered fits (node.Fetch answer)) = all fits (hears.Fetched answer)
after-any layout s P all same (Answered fits (node.Refill answer)) = all fits (hears.Refilled answer)
after-any layout s P all same (Answered fits (_)) = same
after-any layout s P all same Missed = all true hears.Missed
after-any layout s P all same (Noted text) = all true hears.Noted
after-any layout s P all same (Locked granted r) = same

pub some_is : (x y : Event) → Some x ≡ Some y → x ≡ y
some_is x y is = cc

module _ (layout : Layout) (by : Actor) (number n : ℕ) (o : List Event) where
  abbrev IsNext : RebuildState → Hears → List Event → Type 0
  IsNext s t xs = IsRebuild (xs ++ o) n (rebuild_after layout s t)

  probed : (fits : Bool) (answer : RebuildAnswer) (p : List Event) → IsRebuild p n (rebuild_told layout fits Probing answer)
  probed fits (hears.Probed None) p = tt
  probed fits (hears.Probed (Some loss)) p = tt
  probed fits (_) p = tt

  enrolled : (loss : ℕ) (fits : Bool) (answer : RebuildAnswer) (p : List Event) → IsRebuild p n (rebuild_told layout fits (Enrolling loss) answer)
  enrolled loss fits (hears.Enrolled fence) p = tt
  enrolled loss fits (hears.Denied cause) p = tt
  enrolled loss fits (_) p = tt

  probing : (t : Hears) (xs : List Event) → IsNext Probing t xs
  probing t xs = after-any layout Probing (IsRebuild (xs ++ o) n) (λ fits answer. probed fits answer (xs ++ o)) tt t

  enrolling : (loss : ℕ) (t : Hears) (xs : List Event) → IsNext (Enrolling loss) t xs
  enrolling loss t xs = after-any layout (Enrolling loss) (IsRebuild (xs ++ o) n) (λ fits answer. enrolled loss fits answer (xs ++ o)) tt t

  replaced : (loss fence : ℕ) (given : NodeAnswer) (x : Event) → node_event by n (ask.Replace loss fence) given ≡ Some x → IsNext (Replacing loss fence) (Answered true given) (x ∷ [])
  replaced loss fence (node.Replace replace.Replaced) x is =
      subst (λ y. IsNext (Replacing loss fence) (Answered true (node.Replace replace.Replaced)) (y ∷ [])) (some_is (e.Replace by n loss fence) x is)
      (λ none. (loss, (refl, refl, refl, refl, refl)))
  replaced loss fence (_) x is = tt

  replacing : (loss fence : ℕ) (t : Hears) (xs : List Event) → IsNodeStep by n (ask.Replace loss fence) t xs → IsNext (Replacing loss fence) t xs
  replacing loss fence = node-turn (IsNext (Replacing loss fence)) (replaced loss fence) (λ given x is. tt) tt

  -- no block is left
  ended : (t : Tally) → IsSoFar o n t (Ready t.after) → IsEnding (e.Next by n t.after None ∷ o) n (end_of t)
  ended t r = go (t.left == 0) refl
    where
      go : (b : Bool) → (t.left == 0) ≡ b → IsEnding (e.Next by n t.after None ∷ o) n (cond b (ends.Rebuilt t.fence t.refilled) (ends.Left t.fence t.refilled t.left))
      go true is = let i = r (eqb-true t.left 0 is) in (i.0, (refl, refl, i.1))
      go false is = tt

  listed : (t : Tally) → IsSoFar o n t (Ready t.after) → (r : Reply) (x : Event) → export_event by (call.Next n t.after) r ≡ Some x → IsNext (Listing t) (Replied r) (x ∷ [])
  listed t r (reply.Listed None) x is =
      subst (λ y. IsNext (Listing t) (Replied (reply.Listed None)) (y ∷ [])) (some_is (e.Next by n t.after None) x is) (ended t r)
  listed t r (reply.Listed (Some l)) x is =
      subst (λ y. IsNext (Listing t) (Replied (reply.Listed (Some l))) (y ∷ [])) (some_is (e.Next by n t.after (Some l)) x is)
      (record {
        fetches = none_fetched layout l.published;
        stage_is = refl;
        stamp_is = refl;
        so_far = λ none. let i = r none in (i.0, (refl, refl, i.1));
      })
  listed t r (_) x is = cc

  listing : (t : Tally) → IsSoFar o n t (Ready t.after) → (hears : Hears) (xs : List Event) → IsExportStep by (call.Next n t.after) hears xs → IsNext (Listing t) hears xs
  listing t r = export-turn by (call.Next n t.after) (IsNext (Listing t)) (listed t r)

  -- A block is read.

  module _ (t : Tally) (l : Listed) where
    abbrev IsFetchEnd : List Event → ℕ → ReadStage → Type 0
    IsFetchEnd p base stage = (layout_ : Layout) (key : Key) (places : List ℕ)
        → IsAtStage p n (after_read t l base (record { layout = layout_; key = key; places = places; stage = stage }) (end_at stage))

    -- records of the stamp that was listed are fetched still, or the block is refilled, or left
    module _ (p : List Event) (r : IsSoFar p n t (Told t.after l.key l.published.stamp)) (base : ℕ) where
      still : (f : Fetches) → f.stamp ≡ l.published.stamp → IsFetchEnd p base (reading.Fetching f)
      still f stamped y key places = record { fetches = f; stage_is = refl; stamp_is = stamped; so_far = r }

      enough : (y : Layout) (fits : Bool) (f : Fetches) → f.stamp ≡ l.published.stamp → IsFetchEnd p base (unless_enough y fits f)
      enough y fits f stamped = go (nat_lt f.given (inverse_of y)) fits
        where
          go : (few fits : Bool) → IsFetchEnd p base (cond few (reading.Fetching f) (reading.Ended (cond fits (mark.Found f.stamp f.length) mark.Inconsistent)))
          go true fits = still f stamped
          go false true = λ y' key places. r
          go false false = λ y' key places. tt

      fetched : (y : Layout) (fits : Bool) (f : Fetches) → f.stamp ≡ l.published.stamp → (answer : FetchAnswer) → IsFetchEnd p base (after_fetch y fits f answer)
      fetched y fits f stamped (fetch.Held rec) = go (rec.stamp == f.stamp)
        where
          go : (b : Bool) → IsFetchEnd p base (cond b (unless_enough y fits (with_record f rec.length)) (reading.Fetching (with_seen f seen.Held)))
          go true = enough y fits (with_record f rec.length) stamped
          go false = still (with_seen f seen.Held) stamped
      fetched y fits f stamped fetch.Nothing = still (with_seen f seen.Nothing) stamped
      fetched y fits f stamped fetch.Lost = still (with_seen f seen.Lost) stamped
      fetched y fits f stamped fetch.Down = still (with_seen f seen.Down) stamped
      fetched y fits f stamped fetch.DiskFault = still (with_seen f seen.DiskFault) stamped

    -- an event of a fetch is none of a run
    passes : (r : IsSoFar o n t (Told t.after l.key l.published.stamp)) (from position stamp : ℕ) (a : FetchAnswer)
        → IsSoFar (fetch_event by from l.key position stamp a ∷ o) n t (Told t.after l.key l.published.stamp)
    passes r from position stamp (fetch.Held rec) = r
    passes r from position stamp fetch.Nothing = r
    passes r from position stamp fetch.Lost = r
    passes r from position stamp fetch.Down = r
    passes r from position stamp fetch.DiskFault = r

    module _ (base : ℕ) (y : Layout) (key : Key) (places : List ℕ) (f : Fetches) (stamped : f.stamp ≡ l.published.stamp)
        (r : IsSoFar o n t (Told t.after l.key l.published.stamp)) where
      abbrev at_read : RebuildState
      at_read = Copying t l base (record { layout = y; key = key; places = places; stage = reading.Fetching f })

      missed : (xs : List Event) → IsSoFar (xs ++ o) n t (Told t.after l.key l.published.stamp) → IsNext at_read Missed xs
      missed xs so_far = still (xs ++ o) so_far base (with_seen f seen.Missed) stamped y key places

      fetch-turn : (from position : ℕ) (hears : Hears) (xs : List Event) → IsNodeStep by from (ask.Fetch l.key position f.stamp) hears xs → IsNext at_read hears xs
      fetch-turn from position = node-turn (IsNext at_read) through lost (missed (e.Missed by from false ∷ []) r)
        where
          through : (given : NodeAnswer) (x : Event) → node_event by from (ask.Fetch l.key position f.stamp) given ≡ Some x → IsNext at_read (Answered true given) (x ∷ [])
          through (node.Fetch a) x is =
              subst (λ z. IsNext at_read (Answered true (node.Fetch a)) (z ∷ [])) (some_is (fetch_event by from l.key position f.stamp a) x is)
              (fetched (fetch_event by from l.key position f.stamp a ∷ o) (passes r from position f.stamp a) (base_told (record { layout = y; key = key; places = places; stage = reading.Fetching f }) base (reads.Fetched a)) y true f stamped a y key places)
          through (_) x is = cc

          lost : (given : NodeAnswer) (x : Event) → node_event by from (ask.Fetch l.key position f.stamp) given ≡ Some x → IsNext at_read Missed (e.Missed by from true ∷ x ∷ [])
          lost (node.Fetch a) x is =
              subst (λ z. IsNext at_read Missed (e.Missed by from true ∷ z ∷ [])) (some_is (fetch_event by from l.key position f.stamp a) x is)
              (missed (e.Missed by from true ∷ fetch_event by from l.key position f.stamp a ∷ []) (passes r from position f.stamp a))
          lost (_) x is = cc

      -- a recheck that told another stamp leaves the key to the next `Next`
      recheck-end : (p : Option Published) (b : Bool) → (stamp_told p == f.stamp) ≡ b
          → IsFetchEnd (e.Recheck by l.key p ∷ o) base (reading.Ended (cond b (mark.TooFew f.seen) (mark.Moved f.stamp (stamp_told p))))
      recheck-end p true is = λ y' at at_places. tt
      recheck-end p false is =
          let apart : ¬ (stamp_told p ≡ l.published.stamp) = λ k. (let z : (stamp_told p == f.stamp) ≡ true = eq-eqb (stamp_told p) f.stamp (k ∙ sym stamped) in cc) in
          λ y' at at_places. λ none. (let i = r none in (i.0, inr (t.after, l.published.stamp, refl, apart, i.1)))

      recheck-turn : (hears : Hears) (xs : List Event) → IsExportStep by (call.Recheck l.key) hears xs → IsNext at_read hears xs
      recheck-turn = export-turn by (call.Recheck l.key) (IsNext at_read) replied
        where
          replied : (given : Reply) (x : Event) → export_event by (call.Recheck l.key) given ≡ Some x → IsNext at_read (Replied given) (x ∷ [])
          replied (reply.Looked p) x is =
              subst (λ z. IsNext at_read (Replied (reply.Looked p)) (z ∷ [])) (some_is (e.Recheck by l.key p) x is)
              (recheck-end p (stamp_told p == f.stamp) refl y key places)
          replied (reply.Denied cause) x is = tt
          replied (_) x is = cc

      copy-step : (b : Bool) (hears : Hears) (xs : List Event)
          → IsStep by number (rebuild_asks layout n (ask_to_copy l.key (cond b readers.Recheck (readers.Fetch (next_position f) (slice_index places (next_position f)) f.stamp)))) hears xs
          → IsNext at_read hears xs
      copy-step true hears xs step = recheck-turn hears xs step
      copy-step false hears xs step = fetch-turn (slice_index places (next_position f)) (next_position f) hears xs step

    copying : (base : ℕ) (s : ReaderState) → IsCopying o n t l s → (hears : Hears) (xs : List Event)
        → IsStep by number (rebuild_asks layout n (rebuild_ask n (Copying t l base s))) hears xs → IsNext (Copying t l base s) hears xs
    copying base s c hears xs step =
        subst
        (λ (z : ReadStage). IsStep by number (rebuild_asks layout n (ask_to_copy l.key (ask_at s z))) hears xs
        → IsNext (Copying t l base (record { layout = s.layout; key = s.key; places = s.places; stage = z })) hears xs)
        (sym c.stage_is) (copy-step base s.layout s.key s.places c.fetches c.stamp_is c.so_far (c.fetches.left == 0) hears xs) step

  -- The refill of a block.

  module _ (t : Tally) (l : Listed) (size base : ℕ) (r : IsSoFar o n t (Told t.after l.key l.published.stamp)) where
    abbrev question : NodeAsk
    question = ask.Refill t.fence (refill_head layout (position_of n l) l.published.stamp size base l.key)

    filled : (a : RefillAnswer) → IsRebuild (refill_event by n t.fence l.key l.published.stamp (position_of n l) a ∷ o) n (after_refill t l a)
    filled refill.Kept = λ none. (let i = r none in (i.0, inr (refl, refl, (t.after, t.refilled, refl, i.1))))
    filled (refill.Passed now) = λ none. (let i = r none in (i.0, inr (refl, refl, (t.after, t.refilled, refl, i.1))))
    filled refill.Lost = tt
    filled (refill.OtherFence fence) = tt
    filled refill.Down = tt
    filled refill.Full = tt
    filled refill.DiskFault = tt

    refilling : (hears : Hears) (xs : List Event) → IsNodeStep by n question hears xs → IsNext (Refilling t l size base) hears xs
    refilling = node-turn (IsNext (Refilling t l size base)) through (λ given x is. tt) tt
      where
        through : (given : NodeAnswer) (x : Event) → node_event by n question given ≡ Some x → IsNext (Refilling t l size base) (Answered true given) (x ∷ [])
        through (node.Refill a) x is =
            subst (λ z. IsNext (Refilling t l size base) (Answered true (node.Refill a)) (z ∷ []))
            (some_is (refill_event by n t.fence l.key l.published.stamp (position_of n l) a) x is) (filled a)
        through (_) x is = cc

  -- Each state.

  rebuild-step : (s : RebuildState) → IsAtStage o n s → (hears : Hears) (xs : List Event) → IsStep by number (rebuild_asks layout n (rebuild_ask n s)) hears xs → IsNext s hears xs
  rebuild-step Probing at hears xs step = probing hears xs
  rebuild-step (Enrolling loss) at hears xs step = enrolling loss hears xs
  rebuild-step (Replacing loss fence) at hears xs step = replacing loss fence hears xs step
  rebuild-step (Listing t) at hears xs step = listing t at hears xs step
  rebuild-step (Copying t l base s) at hears xs step = copying t l base s at hears xs step
  rebuild-step (Refilling t l size base) at hears xs step = refilling t l size base at hears xs step
  rebuild-step (Leaving t key why) at hears xs (text, is, xs_is) =
      subst (λ z. IsNext (Leaving t key why) z xs) (sym is) (λ none. absurd (omega (arith, none)))

-- Each turn of an operation.

in-rebuild : (o : List Event) (n : ℕ) (r : Rebuild) → IsRebuild o n r → IsAt o (in_rebuild n r)
in-rebuild o n (Going s) k = k
in-rebuild o n (RebuildEnded end) k = (n, k)

work-step : (layout : Layout) (by : Actor) (number : ℕ) (o : List Event) (work : Work) → IsAt o work → (t : Hears) (xs : List Event)
    → IsStep by number (ask_of layout work) t xs → IsAt (xs ++ o) (told layout work t)
work-step layout by number o (Calling c) at t xs step = calling-at layout (xs ++ o) t c
work-step layout by number o (Dropping fid n places) at t xs step = dropping-at layout (xs ++ o) fid n places t
work-step layout by number o (Opening path plan) at t xs step = opening-at layout (xs ++ o) path plan t
work-step layout by number o (Locking path plan) at t xs step = locking-at layout (xs ++ o) path plan t
work-step layout by number o (Writing course text s) at t xs step = writing-at layout (xs ++ o) course text s t
work-step layout by number o (Reading course s) at t xs step = reading-at layout (xs ++ o) course s t
work-step layout by number o (Rebuilding n s) at t xs step = in-rebuild (xs ++ o) n (rebuild_after layout s t) (rebuild-step layout by number n o s at t xs step)
work-step layout by number o (Ending answer) at t xs (text, is, xs_is) = subst (λ z. IsAt (xs ++ o) (told layout (Ending answer) z)) (sym is) tt
work-step layout by number o Over at t xs step = absurd step

begun-at : (o : List Event) (op : Operation) → IsAt o (begun op)
begun-at o (operation.Tree c) = tt
begun-at o (operation.Put path block datum) = tt
begun-at o (operation.Get path block) = tt
begun-at o (operation.Write path offset datum) = tt
begun-at o (operation.Read path offset count) = tt
begun-at o (operation.Rebuild n) = tt
begun-at o (operation.Update path offset datum) = tt
begun-at o (operation.View path offset count) = tt

course-at : (layout : Layout) (by : Actor) (number : ℕ) (run : List Event) (work : Work) → IsCourse layout by number run work → IsAt run work
course-at layout by number _ _ (Begun run op does between) = begun-at run op
course-at layout by number _ _ (Went run work t xs course step) = work-step layout by number run work (course-at layout by number run work course) t xs step

-- the answer is said by the work that ends with it
asks-ending : (layout : Layout) (work : Work) (answer : Answer) → ask_of layout work ≡ Say (SayDone answer) → work ≡ Ending answer
asks-ending layout (Calling c) answer is = cc
asks-ending layout (Dropping fid n places) answer is = cc
asks-ending layout (Opening path plan) answer is = cc
asks-ending layout (Locking path (WriteBytes offset bytes)) answer is = cc
asks-ending layout (Locking path (ReadBytes offset count)) answer is = cc
asks-ending layout (Writing course text s) answer is = absurd (writes (writer_ask s) (writer_end s) is)
  where
    ended : (end : Option WriteEnd) → gave (is_part course) s.key end ≡ Say (SayDone answer) → ⊥
    ended None is = cc
    ended (Some end) is = cc

    writes : (asks : WriterAsk) (end : Option WriteEnd) → write_asks (is_part course) text s asks ≡ Say (SayDone answer) → ⊥
    writes (writers.End) end is = ended (writer_end s) is
    writes (writers.Begin size) end is = cc
    writes (writers.Keep position n stamp base) end is = cc
    writes (writers.Publish stamp mask) end is = cc
asks-ending layout (Reading course s) answer is = absurd (asks_read (reader_ask s) (reader_end s) is)
  where
    ended : (end : Option ReadMark) → got (is_part course) s.key end ≡ Say (SayDone answer) → ⊥
    ended None is = cc
    ended (Some end) is = cc

    asks_read : (asks : ReaderAsk) (end : Option ReadMark) → read_asks (is_part course) s.key end asks ≡ Say (SayDone answer) → ⊥
    asks_read readers.End end is = ended end is
    asks_read readers.Look end is = cc
    asks_read readers.Recheck end is = cc
    asks_read (readers.Fetch position n stamp) end is = cc
asks-ending layout (Rebuilding n s) answer is = absurd (go (rebuild_ask n s) is)
  where
    go : (asks : RebuildAsk) → rebuild_asks layout n asks ≡ Say (SayDone answer) → ⊥
    go rebuilds.Probe is = cc
    go (rebuilds.Enroll loss) is = cc
    go (rebuilds.Replace loss fence) is = cc
    go (rebuilds.Next after) is = cc
    go (rebuilds.Fetch key position from stamp) is = cc
    go (rebuilds.Refill fence key stamp size position base) is = cc
    go (rebuilds.Recheck key) is = cc
    go (rebuilds.Left key why) is = cc
    go rebuilds.End is = cc
asks-ending layout (Ending said) answer is = let same : said ≡ answer = cc in ap Ending same
asks-ending layout Over answer is = cc

-- a rebuild that is said to be done, done in this run
said-rebuilt : (layout : Layout) (by : Actor) (number : ℕ) (run : List Event) (fence refilled : ℕ) (work : Work) → IsCourse layout by number run work
    → ask_of layout work ≡ Say (SayDone (answers.Rebuild (ends.Rebuilt fence refilled))) → (n loss : ℕ) × IsRebuilt run n loss fence refilled
said-rebuilt layout by number run fence refilled work course asks =
    let at = subst (IsAt run) (asks-ending layout work (answers.Rebuild (ends.Rebuilt fence refilled)) asks) (course-at layout by number run work course) in
    (at.0, at.1.0, at.1.1)

-- what stands before a run does not matter to it
run-longer : (o older : List Event) (n loss fence count : ℕ) (stage : Stage) → IsRun o n loss fence count stage → IsRun (o ++ older) n loss fence count stage
run-longer [] older n loss fence count stage r = absurd r
run-longer (e.Replace by m l f ∷ o) older n loss fence count stage r = r
run-longer (e.Next by m after None ∷ o) older n loss fence count stage (there, is, r) = (there, is, run-longer o older n loss fence count (Ready after) r)
run-longer (e.Next by m after (Some l) ∷ o) older n loss fence count stage (there, is, r) = (there, is, run-longer o older n loss fence count (Ready after) r)
run-longer (e.Did by m (change.Refill f key s p) ∷ o) older n loss fence count stage (inl (other, r)) = inl (other, run-longer o older n loss fence count stage r)
run-longer (e.Did by m (change.Refill f key s p) ∷ o) older n loss fence count stage (inr (there, is, (a, done, more, r))) =
    inr (there, is, (a, done, more, run-longer o older n loss fence done (Told a key s) r))
run-longer (e.Passed by m key s now ∷ o) older n loss fence count stage (inl r) = inl (run-longer o older n loss fence count stage r)
run-longer (e.Passed by m key s now ∷ o) older n loss fence count stage (inr (there, is, (a, done, more, r))) =
    inr (there, is, (a, done, more, run-longer o older n loss fence done (Told a key s) r))
run-longer (e.Recheck by key answer ∷ o) older n loss fence count stage (inl r) = inl (run-longer o older n loss fence count stage r)
run-longer (e.Recheck by key answer ∷ o) older n loss fence count stage (inr (a, s, is, other, r)) =
    inr (a, s, is, other, run-longer o older n loss fence count (Told a key s) r)
run-longer (x ∷ o) older n loss fence count stage r = run-longer o older n loss fence count stage r

-- each `Done` of a rebuild
done-rebuilt : (v : Volume) (h : List Event) → IsLegalInRuns v h → (by : Actor) (number fence refilled : ℕ) (run older : List Event) → run ++ older ≡ of_actor by h
    → DoneRow v by number run (answers.Rebuild (ends.Rebuilt fence refilled)) → IsRebuildDone h by fence refilled
done-rebuilt v h legal by number fence refilled run older newest row =
    let (n, loss, r) = said-rebuilt v.layout by number run fence refilled row.work row.course row.asks in
    let rebuilt : IsRebuilt (of_actor by h) n loss fence refilled =
    subst (λ (o : List Event). IsRebuilt o n loss fence refilled) newest (run-longer run older n loss fence refilled Ended r) in
    record { node = n; loss = loss; rebuilt = rebuilt; whole = λ now. complete v h legal by n loss fence refilled rebuilt now; fenced = fenced v h legal n }

pub rebuilt : (v : Volume) (h : List Event) → IsLegalInRuns v h → AreRebuilt h
rebuilt v [] legal = tt
rebuilt v (e.Done by number (answers.Rebuild (ends.Rebuilt fence refilled)) ∷ h) legal =
    let (older, newest) = legal.1.newest in
    (rebuilt v h legal.0, done-rebuilt v h legal.0 by number fence refilled legal.1.run older newest legal.1.row)
rebuilt v (e.Done by number (answers.Rebuild (_)) ∷ h) legal = rebuilt v h legal.0
rebuilt v (e.Done by number (_) ∷ h) legal = rebuilt v h legal.0
rebuilt v (x ∷ h) legal = rebuilt v h legal.0
