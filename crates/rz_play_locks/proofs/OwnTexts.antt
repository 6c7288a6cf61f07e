-- After its own turn an update or a view knows again what is published of the block in hand.
use Rattle.std.proofs.Common.{◌≡◌, ◌⊎◌, inl, inr, ◌<◌, ◌≤◌, ◌+◌, ◌-◌, ◌==◌, min, ℕ, Bool, true, false, cond, List, [], ◌∷◌, ◌++◌, length, Option, Some, None, refl, sym, ◌∙◌, ap, subst, arith}
use Rattle.std.specs.Prelude.{nat_lt, slice_index}
use Rattle.std.proofs.lemmas.Bool.{eqb-false}
use Rattle.mj_angles.specs.declared.layout.Layout.{Layout}
use Rattle.mj_angles.specs.Layout.{inverse_of, forward_of}
use Rattle.rz_events.specs.Volume.{Volume}
use Rattle.rz_events.specs.declared.keys.Actor.{Actor}
use Rattle.rz_events.specs.declared.keys.Key.{Key}
use Rattle.rz_events.specs.declared.files.FileInfo.{FileInfo}
use Rattle.rz_events.specs.declared.files.Published.{Published}
use Rattle.rz_events.specs.declared.tree.TreeReply.{TreeReply}
use Rattle.rz_events.specs.declared.tree.TreeReply.TheVariants as answer
use Rattle.rz_events.specs.declared.export.Call.{Call}
use Rattle.rz_events.specs.declared.export.Call.TheVariants as call
use Rattle.rz_events.specs.declared.export.Reply.{Reply}
use Rattle.rz_events.specs.declared.export.Reply.TheVariants as reply
use Rattle.rz_events.specs.declared.nodes.DropAnswer.TheVariants as drops
use Rattle.rz_events.specs.declared.nodes.FetchAnswer.{FetchAnswer}
use Rattle.rz_events.specs.declared.nodes.FetchAnswer.TheVariants as fetch
use Rattle.rz_events.specs.declared.nodes.NodeAsk.TheVariants as ask
use Rattle.rz_events.specs.declared.nodes.NodeAnswer.{NodeAnswer}
use Rattle.rz_events.specs.declared.nodes.NodeAnswer.TheVariants as node
use Rattle.rz_events.specs.declared.ends.Seen.TheVariants as seen
use Rattle.rz_operation_model.specs.Rebuild.{RebuildState, Rebuild, Going, Ended as RebuildEnded}
use Rattle.rz_events.specs.declared.machines.FileEnd.TheVariants as end
use Rattle.rz_operation_model.specs.Files.{Ended as FileEnded, next_block, go_on, with_text, after_part, after_block, reads_block, writes_block}
use Rattle.rz_events.specs.declared.ends.ReadMark.{ReadMark}
use Rattle.rz_events.specs.declared.ends.ReadMark.TheVariants as mark
use Rattle.rz_events.specs.declared.ends.WriteEnd.{WriteEnd}
use Rattle.rz_events.specs.declared.ends.WriteEnd.TheVariants as write
use Rattle.rz_events.specs.declared.events.Word.TheVariants.{Export}
use Rattle.rz_events.specs.declared.events.Event.{Event}
use Rattle.rz_events.specs.declared.events.Event.TheVariants as e
use Rattle.rz_export_model.specs.ExportEvents.{export_event}
use Rattle.rz_core.specs.History.{facts, of_word}
use Rattle.rz_core.specs.Legal.{IsLegalInRuns}
use Rattle.rz_core.specs.ExportWord.{accepted, with_length, published}
use Rattle.rz_core.proofs.NodeSteps.{the_some}
use Rattle.rz_core.proofs.Extends.{some_length}
use Rattle.rz_client_model.specs.declared.reading.ReaderState.{ReaderState}
use Rattle.rz_client_model.specs.declared.reading.ReadStage.{ReadStage}
use Rattle.rz_client_model.specs.declared.reading.ReadStage.TheVariants as reading
use Rattle.rz_client_model.specs.declared.reading.Fetches.{Fetches}
use Rattle.rz_client_model.specs.declared.writing.WriterState.{WriterState}
use Rattle.rz_client_model.specs.declared.writing.WriteStage.{WriteStage}
use Rattle.rz_client_model.specs.declared.writing.WriteStage.TheVariants as writing
use Rattle.rz_client_model.specs.declared.writing.SentRecords.{SentRecords}
use Rattle.rz_client_model.specs.Read.{next_position as next_read, after_fetch, unless_enough, with_record, with_seen, reader_end}
use Rattle.rz_client_model.specs.Write.{mask_of, next_position, writer_end}
use Rattle.rz_events.specs.Masks.{stamp_told}
use Rattle.rz_events.specs.declared.operations.Operation.{Operation}
use Rattle.rz_events.specs.declared.operations.Operation.TheVariants as operation
use Rattle.rz_operation_model.specs.Ranges.{RangeState, Aim, Taking, Giving, key_in, start_in, count_in, passed, cut, patched, is_whole, bytes_of}
use Rattle.rz_operation_model.specs.Work.{Work, Plan, RangePlan, WriteBytes, ReadBytes, Alone, Within, Calling, Dropping, Opening, Locking, Writing, Reading, Rebuilding, Ending, Over}
use Rattle.rz_operation_model.specs.Steps.{Told, Replied, Locked, Answered, Missed, Noted, begun, told, in_range, range_planned, in_rebuild, rebuild_after, drop_at, said_reading, said_writing, after_call, writer_after}
use Rattle.rz_operation_model.specs.Ask.{Ask, Say, SayGot, ask_of, head_of}
use Rattle.rz_operation_model.specs.Turns.{IsStep, IsExportStep, IsNodeStep, said_event}
use Rattle.rz_events.specs.declared.nodes.NodeAsk.{NodeAsk}
use Rattle.rz_events.specs.declared.tree.TreeCall.{TreeCall}
use Rattle.rz_events.specs.declared.events.Answer.{Answer}
use Rattle.rz_play_laws.proofs.Steps.{export-step, node-step}
use Rattle.rz_play_locks.proofs.Turned.{send_asks, fetch_asks}
use Rattle.rz_locks.specs.declared.conflict.Lock.{Lock}
use Rattle.rz_play.specs.Turns.{found_text, text_said}
use Rattle.rz_play_locks.specs.Operations.{IsUpdate, IsGuarded}
use Rattle.rz_play_locks.specs.Promises.{published_text, with_bytes, IsUpdated, text_of}
use Rattle.rz_play_locks.specs.Holding.{lock_for, OfPlan, IsPlanLocked, IsAligned, IsRange, IsHolding}
use Rattle.rz_play_locks.specs.Texts.{IsLocking, IsWritePublished, ReadsPublished, IsUpdateWritten, IsText}
use Rattle.rz_play_locks.proofs.Geometry.{part-text, whole-text, passed-aligned}
use Rattle.rz_play_locks.proofs.Holds.{guarded-back, writer-key}
use Rattle.rz_play_locks.proofs.Published.{AreSilent, node-quiet, accepted-same, text-same, text-short}

pub update-locks : (m : Option Operation) → IsUpdate m → IsLocking m
update-locks (Some (operation.Update p o d)) is = tt
update-locks (Some (_)) is = absurd is
update-locks None is = absurd is

-- The bytes of an update's range are those of the update.
pub record IsOfUpdate (layout : Layout) (op : Operation) (r : RangeState) (bytes : List ℕ) : Type 0 where
  pub size_is : r.size ≡ length bytes
  pub updated : (block : ℕ) (old new : List ℕ) → new ≡ with_bytes layout r.offset block bytes old → IsUpdated layout (Some op) block old new

pub of-update : (layout : Layout) (op : Operation) (lock : Option Lock) (path : List ℕ) (plan : RangePlan) (r : RangeState) (bytes : List ℕ) → IsUpdate (Some op)
    → IsPlanLocked layout op lock path plan r.info.fid → OfPlan plan r → r.aim ≡ Giving bytes → IsOfUpdate layout op r bytes
of-update layout (operation.Update p o d) lock path plan r bytes update (inl held) range aim = cc
of-update layout (operation.Update p o d) lock path plan r bytes update (inr held) range aim =
    let plan_is : plan ≡ WriteBytes o (bytes_of d) = same held.0 in
    let k : OfPlan (WriteBytes o (bytes_of d)) r = subst (λ z. OfPlan z r) plan_is range in
    let bytes_are : bytes ≡ bytes_of d = the_aim bytes (bytes_of d) (sym aim ∙ k.2) in
    record {
      size_is = k.1 ∙ ap (λ (l : List ℕ). length l) (sym bytes_are);
      updated = λ block old new is. is ∙ ap (λ z. with_bytes layout z block bytes old) k.0 ∙ ap (λ (l : List ℕ). with_bytes layout o block l old) bytes_are;
    }
  where
    same : begun (operation.Update p o d) ≡ Locking path plan → plan ≡ WriteBytes o (bytes_of d)
    same is = cc

    the_aim : (a b : List ℕ) → Giving a ≡ Giving b → a ≡ b
    the_aim a b is = cc
of-update layout (_) lock path plan r bytes update held range aim = absurd update

module _ (v : Volume) (ops : Actor → List Operation) (run h : List Event) (op : Operation) where
  abbrev T : List Event → Work → Type 0
  T xs work = IsText v.layout ops (xs ++ run) (xs ++ h) (Some op) work

  abbrev Fine : List Event → Type 0
  Fine xs = IsLegalInRuns v (xs ++ h)

  -- an operation that does not lock
  not-locking : (xs : List Event) → (IsLocking (Some op) → ⊥) → (work : Work) → T xs work
  not-locking xs never (Reading (Within r) s) = λ locking guarded. absurd (never locking)
  not-locking xs never (Writing (Within r) text s) = λ update guarded. absurd (never (update-locks (Some op) update))
  not-locking xs never (Reading Alone s) = tt
  not-locking xs never (Writing Alone text s) = tt
  not-locking xs never (Calling c) = tt
  not-locking xs never (Dropping fid n places) = tt
  not-locking xs never (Opening path plan) = tt
  not-locking xs never (Locking path plan) = tt
  not-locking xs never (Rebuilding n s) = tt
  not-locking xs never (Ending a) = tt
  not-locking xs never Over = tt

  opened-not : (op : Operation) (path : List ℕ) (plan : Plan) → begun op ≡ Opening path plan → IsLocking (Some op) → ⊥
  opened-not (operation.Update p o d) path plan is locking = cc
  opened-not (operation.View p o c) path plan is locking = cc
  opened-not (_) path plan is locking = locking

  -- A range goes on.
  go-text : (xs : List Event) → Fine xs → (lock : Option Lock) (r : RangeState) (path : List ℕ) (plan : RangePlan) → IsPlanLocked v.layout op lock path plan r.info.fid → OfPlan plan r → r.done ≤ r.size
      → (r.done < r.size → IsAligned v.layout r) → T xs (in_range (go_on v.layout r))
  go-text xs legal lock r path plan held range low aligned = go (r.done == r.size) refl
    where
      block : r.done < r.size → (aim : Aim) → r.aim ≡ aim → T xs (in_range (next_block v.layout r aim))
      block left (Taking bytes) aim_is = λ locking guarded. tt
      block left (Giving bytes) aim_is = cases (is_whole v.layout r) refl
        where
          cases : (b : Bool) → is_whole v.layout r ≡ b → T xs (in_range (cond b (writes_block v.layout r (cut r.done (count_in v.layout r) bytes)) (reads_block v.layout r)))
          cases true whole = λ update guarded.
              let k = of-update v.layout op lock path plan r bytes update held range aim_is in
              k.updated (key_in v.layout r).block (published_text (xs ++ h) (key_in v.layout r)) (cut r.done (count_in v.layout r) bytes)
              (whole-text v.layout r bytes k.size_is left (aligned left) (published_text (xs ++ h) (key_in v.layout r)) (text-short v (xs ++ h) (key_in v.layout r) legal) whole)
          cases false whole = λ locking guarded. tt

      go : (b : Bool) → (r.done == r.size) ≡ b → T xs (in_range (cond b (FileEnded r (end.Whole r.done)) (next_block v.layout r r.aim)))
      go true is = tt
      go false is = let apart = eqb-false r.done r.size is in block (omega (arith, low, apart)) r.aim refl

  passed-text : (xs : List Event) → Fine xs → (lock : Option Lock) (r : RangeState) (aim : Aim) (key : Key) → (is : IsRange v.layout op lock r key) → OfPlan is.plan (passed v.layout r aim) → T xs (in_range (go_on v.layout (passed v.layout r aim)))
  passed-text xs legal lock r aim key is range = go-text xs legal lock (passed v.layout r aim) is.path is.plan is.held range (low (count_in v.layout r) (few _ (r.size - r.done)) is.left) (passed-aligned v.layout r aim)
    where
      few : (a b : ℕ) → min a b ≤ b
      few a b = omega arith

      low : (count : ℕ) → count ≤ r.size - r.done → r.done < r.size → r.done + count ≤ r.size
      low count most left = omega (arith, most, left)

  -- the range after the block in hand is of the same plan
  plan-taking : (r : RangeState) (plan : RangePlan) (bytes more : List ℕ) → r.aim ≡ Taking bytes → OfPlan plan r → OfPlan plan (passed v.layout r (Taking more))
  plan-taking r (WriteBytes offset b) bytes more aim is = cc
  plan-taking r (ReadBytes offset count) bytes more aim is = (is.0, is.1, tt)

  plan-same : (r : RangeState) (plan : RangePlan) → OfPlan plan r → OfPlan plan (passed v.layout r r.aim)
  plan-same r (WriteBytes offset b) is = is
  plan-same r (ReadBytes offset count) is = is

  -- the block in hand was found with the text that is published
  found-text : (xs : List Event) → Fine xs → (lock : Option Lock) (r : RangeState) (key : Key) → IsRange v.layout op lock r key → (text : List ℕ)
      → (IsLocking (Some op) → IsGuarded ops key (xs ++ run) → text ≡ published_text (xs ++ h) key) → (aim : Aim) → r.aim ≡ aim → T xs (in_range (with_text v.layout r text aim))
  found-text xs legal lock r key is text published (Taking bytes) aim_is = passed-text xs legal lock r (Taking _) key is (plan-taking r is.plan bytes _ aim_is is.range)
  found-text xs legal lock r key is text published (Giving bytes) aim_is = λ update guarded.
      let k = of-update v.layout op lock is.path is.plan r bytes update is.held is.range aim_is in
      k.updated (key_in v.layout r).block (published_text (xs ++ h) (key_in v.layout r)) _
      (ap (patched (start_in v.layout r) (cut r.done (count_in v.layout r) bytes))
      (subst (λ (z : Key). text ≡ published_text (xs ++ h) z) is.key_is (published (update-locks (Some op) update) (subst (λ (z : Key). IsGuarded ops z (xs ++ run)) (sym is.key_is) guarded)))
      ∙ part-text v.layout r bytes k.size_is is.left is.aligned (published_text (xs ++ h) (key_in v.layout r)))

  -- how a read ended, and the text that its event tells
  part-after : (x : Event) → Fine (x ∷ []) → accepted (of_word Export (x ∷ h)) ≡ accepted (of_word Export h) → (lock : Option Lock) (r : RangeState) (key : Key) → IsRange v.layout op lock r key → (m : ReadMark)
      → (IsLocking (Some op) → IsGuarded ops key run → ReadsPublished h key (reading.Ended m)) → T (x ∷ []) (in_range (after_part v.layout r (found_text (facts h) m) m))
  part-after x legal same lock r key is (mark.Found s size) newest = found-text (x ∷ []) legal lock r key is (found_text (facts h) (mark.Found s size)) (λ locking guarded.
      let n = newest locking (guarded-back ops key (x ∷ []) run guarded) in
      sym (text-same v (x ∷ []) h key legal.0 (ap (λ f. f key) same) ∙ ap (text_of (facts h)) n.1)) r.aim refl
  part-after x legal same lock r key is mark.Hole newest = found-text (x ∷ []) legal lock r key is [] (λ locking guarded.
      let n = newest locking (guarded-back ops key (x ∷ []) run guarded) in
      sym (text-same v (x ∷ []) h key legal.0 (ap (λ f. f key) same) ∙ ap (text_of (facts h)) n)) r.aim refl
  part-after x legal same lock r key is (_) newest = tt

  block-after : (xs : List Event) → Fine xs → (lock : Option Lock) (r : RangeState) (key : Key) → IsRange v.layout op lock r key → (end : WriteEnd) → T xs (in_range (after_block v.layout r end))
  block-after xs legal lock r key is (write.Acked stamp mask) = passed-text xs legal lock r r.aim key is (plan-same r is.plan is.range)
  block-after xs legal lock r key is (_) = tt

  -- the file is open, with a lock
  planned-text : (xs : List Event) → Fine xs → (info : FileInfo) (path : List ℕ) (plan : RangePlan) → begun op ≡ Locking path plan → T xs (range_planned v.layout info plan)
  planned-text xs legal info path (WriteBytes offset bytes) is =
      go-text xs legal (lock_for v.layout path (WriteBytes offset bytes) info.fid) (record { info = info; offset = offset; size = length bytes; done = 0; aim = Giving bytes }) path (WriteBytes offset bytes)
      (inr (is, refl)) (refl, refl, refl) (omega arith) (λ left. inl refl)
  planned-text xs legal info path (ReadBytes offset count) is =
      go-text xs legal (lock_for v.layout path (ReadBytes offset count) info.fid) (record { info = info; offset = offset; size = min count (info.size - offset); done = 0; aim = Taking [] }) path (ReadBytes offset count)
      (inr (is, refl)) (refl, few count (info.size - offset), tt) (omega arith) (λ left. inl refl)
    where
      few : (a b : ℕ) → min a b ≤ a
      few a b = omega arith

  locking-text : (xs : List Event) → Fine xs → (path : List ℕ) (plan : RangePlan) → begun op ≡ Locking path plan → (t : Told) → T xs (told v.layout (Locking path plan) t)
  locking-text xs legal path plan is (Locked true (reply.Tree (answer.File info))) = planned-text xs legal info path plan is
  locking-text xs legal path plan is (Locked true (reply.Tree (answer.Refused fault))) = tt
  locking-text xs legal path plan is (Locked true (reply.Tree (_))) = tt
  locking-text xs legal path plan is (Locked true (_)) = tt
  locking-text xs legal path plan is (Locked false (reply.Tree (answer.File info))) = tt
  locking-text xs legal path plan is (Locked false (reply.Tree (answer.Refused fault))) = tt
  locking-text xs legal path plan is (Locked false (reply.Tree (_))) = tt
  locking-text xs legal path plan is (Locked false (_)) = tt
  locking-text xs legal path plan is (_) = tt

  drop-next : (xs : List Event) (fid : ℕ) (places : List ℕ) → T xs (drop_at fid places)
  drop-next xs fid [] = tt
  drop-next xs fid (n ∷ places) = tt

  call-text : (xs : List Event) (a : TreeReply) → T xs (after_call a)
  call-text xs (answer.Gone None) = tt
  call-text xs (answer.Gone (Some info)) = drop-next xs info.fid info.places
  call-text xs (_) = tt

  drop-text : (xs : List Event) (fid n : ℕ) (places : List ℕ) (t : Told) → T xs (told v.layout (Dropping fid n places) t)
  drop-text xs fid n places (Answered fits (node.Drop (drops.Dropped block stamp true))) = tt
  drop-text xs fid n places (Answered fits (node.Drop (drops.Dropped block stamp false))) = drop-next xs fid places
  drop-text xs fid n places (Answered fits (node.Drop (_))) = drop-next xs fid places
  drop-text xs fid n places (Answered fits (_)) = tt
  drop-text xs fid n places Missed = drop-next xs fid places
  drop-text xs fid n places (_) = tt

  rebuild-next : (xs : List Event) (n : ℕ) (r : Rebuild) → T xs (in_rebuild n r)
  rebuild-next xs n (Going state) = tt
  rebuild-next xs n (RebuildEnded end) = tt

  rebuild-text : (xs : List Event) (n : ℕ) (state : RebuildState) (t : Told) → T xs (told v.layout (Rebuilding n state) t)
  rebuild-text xs n state t = rebuild-next xs n (rebuild_after v.layout state t)

  -- The read of a block of the range.
  module _ (by : Actor) (number : ℕ) (r : RangeState) (layout : Layout) (key : Key) (places : List ℕ) where
    abbrev R : ReadStage → ReaderState
    R stage = record { layout = layout; key = key; places = places; stage = stage }

    abbrev After : List Event → Told → ReadStage → Type 0
    After xs t stage = T xs (told v.layout (Reading (Within r) (R stage)) t)

    looked : (x : Event) (p : Option Published) → e.Look by key p ≡ x → Fine (x ∷ []) → After (x ∷ []) (Replied (reply.Looked p)) reading.Looking
    looked x p is legal = subst (λ z. Fine (z ∷ []) → After (z ∷ []) (Replied (reply.Looked p)) reading.Looking) is (go p) legal
      where
        hole : (a : Option (ℕ × ℕ)) → None ≡ with_length (facts h) a → a ≡ None
        hole None is = refl
        hole (Some a) is = cc

        go : (p : Option Published) → Fine (e.Look by key p ∷ []) → After (e.Look by key p ∷ []) (Replied (reply.Looked p)) reading.Looking
        go None legal = λ locking guarded. hole (accepted (of_word Export h) key) legal.1.row.told
        go (Some q) legal = λ locking guarded.
            let a = some_length (facts h) (accepted (of_word Export h) key) q legal.1.row.told in
            (a.0.1, a.1 ∙ ap (λ z. Some (z, a.0.1)) (sym a.2))

    looking : (c : Reply) (x : Event) → export_event by (call.Look key) c ≡ Some x → Fine (x ∷ []) → After (x ∷ []) (Replied c) reading.Looking
    looking (reply.Looked p) x is legal = looked x p (the_some _ x is) legal
    looking (reply.Denied why) x is legal = λ locking guarded. tt
    looking (_) x is legal = λ locking guarded. tt

    module _ (t0 : Fetches) (old : IsLocking (Some op) → IsGuarded ops key run → IsWritePublished h key t0.stamp) where
      still : (xs : List Event) → AreSilent key xs → IsLocking (Some op) → IsGuarded ops key (xs ++ run) → IsWritePublished (xs ++ h) key t0.stamp
      still xs silent locking guarded =
          let o = old locking (guarded-back ops key xs run guarded) in (o.0, accepted-same xs h key silent ∙ o.1)

      after-fetch : (g : List Event) (fits : Bool) (a : FetchAnswer) → IsWritePublished g key t0.stamp → ReadsPublished g key (after_fetch layout fits t0 a)
      after-fetch g fits (fetch.Held b) is = go (b.stamp == t0.stamp)
        where
          fit : (f : Bool) → ReadsPublished g key (reading.Ended (cond f (mark.Found t0.stamp (with_record t0 b.length).length) mark.Inconsistent))
          fit true = is
          fit false = tt

          enough : (f : Bool) → ReadsPublished g key (cond f (reading.Fetching (with_record t0 b.length)) (reading.Ended (cond fits (mark.Found t0.stamp (with_record t0 b.length).length) mark.Inconsistent)))
          enough true = is
          enough false = fit fits

          go : (f : Bool) → ReadsPublished g key (cond f (unless_enough layout fits (with_record t0 b.length)) (reading.Fetching (with_seen t0 seen.Held)))
          go true = enough (nat_lt (with_record t0 b.length).given (inverse_of layout))
          go false = is
      after-fetch g fits (_) is = is

      fetched : (xs : List Event) (t : Told) → AreSilent key xs → (t ≡ Missed) ⊎ ((given : NodeAnswer) × (t ≡ Answered true given)) → After xs t (reading.Fetching t0)
      fetched xs t silent (inl is) = subst (λ z. After xs z (reading.Fetching t0)) (sym is) (still xs silent)
      fetched xs t silent (inr (given, is)) = subst (λ z. After xs z (reading.Fetching t0)) (sym is) (go given)
        where
          go : (given : NodeAnswer) → After xs (Answered true given) (reading.Fetching t0)
          go (node.Fetch a) = λ locking guarded. after-fetch (xs ++ h) true a (still xs silent locking guarded)
          go (_) = still xs silent

      rechecked : (x : Event) (p : Option Published) → e.Recheck by key p ≡ x → Fine (x ∷ []) → After (x ∷ []) (Replied (reply.Looked p)) (reading.Fetching t0)
      rechecked x p is legal = subst (λ z. Fine (z ∷ []) → After (z ∷ []) (Replied (reply.Looked p)) (reading.Fetching t0)) is go legal
        where
          stamp : (a : Option (ℕ × ℕ)) (mask : ℕ) → a ≡ Some (t0.stamp, mask) → p ≡ with_length (facts h) a → stamp_told p ≡ t0.stamp
          stamp a mask at told = ap stamp_told (told ∙ ap (with_length (facts h)) at)

          go : Fine (e.Recheck by key p ∷ []) → After (e.Recheck by key p ∷ []) (Replied (reply.Looked p)) (reading.Fetching t0)
          go legal = λ locking guarded.
              let o = old locking guarded in
              cases (stamp_told p == t0.stamp) refl (stamp (accepted (of_word Export h) key) o.0 o.1 legal.1.row.told)
            where
              cases : (b : Bool) → (stamp_told p == t0.stamp) ≡ b → stamp_told p ≡ t0.stamp
                  → ReadsPublished (e.Recheck by key p ∷ h) key (reading.Ended (cond b (mark.TooFew t0.seen) (mark.Moved t0.stamp (stamp_told p))))
              cases true is same = tt
              cases false is same = eqb-false (stamp_told p) t0.stamp is same

      recheck : (c : Reply) (x : Event) → export_event by (call.Recheck key) c ≡ Some x → Fine (x ∷ []) → After (x ∷ []) (Replied c) (reading.Fetching t0)
      recheck (reply.Looked p) x is legal = rechecked x p (the_some _ x is) legal
      recheck (reply.Denied why) x is legal = λ locking guarded. tt
      recheck (_) x is legal = cc

  -- The write of a block of the range.
  module _ (by : Actor) (number : ℕ) (r : RangeState) (text : List ℕ) (layout : Layout) (key : Key) (places : List ℕ) (size : ℕ) where
    abbrev S : WriteStage → WriterState
    S stage = record { layout = layout; key = key; places = places; length = size; stage = stage }

    abbrev Afterwards : List Event → Told → WriteStage → Type 0
    Afterwards xs t stage = T xs (Writing (Within r) text (writer_after (S stage) t))

    any-written : (g : List Event) (k : Key) (stage : WriteStage) → IsUpdated v.layout (Some op) k.block (published_text g k) text → IsUpdateWritten v.layout g (Some op) k text stage
    any-written g k writing.Beginning is = is
    any-written g k (writing.Sending t) is = is
    any-written g k (writing.Ended end) is = tt

    module _ (legal : IsLegalInRuns v h) (stage : WriteStage) (old : IsUpdate (Some op) → IsGuarded ops key run → IsUpdated v.layout (Some op) key.block (published_text h key) text) where
      kept : (xs : List Event) (t : Told) → AreSilent key xs → Afterwards xs t stage
      kept xs t silent = λ update guarded.
          let same : (writer_after (S stage) t).key ≡ key = writer-key v.layout op None (S stage) t in
          any-written (xs ++ h) (writer_after (S stage) t).key (writer_after (S stage) t).stage
          (subst (λ (k : Key). IsUpdated v.layout (Some op) k.block (published_text (xs ++ h) k) text) (sym same)
          (subst (λ (z : List ℕ). IsUpdated v.layout (Some op) key.block z text) (sym (text-same v xs h key legal (accepted-same xs h key silent)))
          (old update (guarded-back ops key xs run (subst (λ (k : Key). IsGuarded ops k (xs ++ run)) same guarded)))))

    sent : IsLegalInRuns v h → (t0 : SentRecords) → (IsUpdate (Some op) → IsGuarded ops key run → IsUpdated v.layout (Some op) key.block (published_text h key) text)
        → (xs : List Event) (t : Told) → AreSilent key xs → (t ≡ Missed) ⊎ ((given : NodeAnswer) × (t ≡ Answered true given)) → T xs (told v.layout (Writing (Within r) text (S (writing.Sending t0))) t)
    sent legal t0 old xs t silent (inl is) = subst (λ z. T xs (told v.layout (Writing (Within r) text (S (writing.Sending t0))) z)) (sym is) (kept legal (writing.Sending t0) old xs Missed silent)
    sent legal t0 old xs t silent (inr (given, is)) =
        subst (λ z. T xs (told v.layout (Writing (Within r) text (S (writing.Sending t0))) z)) (sym is) (kept legal (writing.Sending t0) old xs (Answered true given) silent)

    begins : IsLegalInRuns v h → (IsUpdate (Some op) → IsGuarded ops key run → IsUpdated v.layout (Some op) key.block (published_text h key) text)
        → (c : Reply) (x : Event) → export_event by (call.Begin key text) c ≡ Some x → Afterwards (x ∷ []) (Replied c) writing.Beginning
    begins legal old (reply.Begun stamp base) x is =
        subst (λ z. Afterwards (z ∷ []) (Replied (reply.Begun stamp base)) writing.Beginning) (the_some _ x is) (kept legal writing.Beginning old (e.Begin by key stamp base text ∷ []) (Replied (reply.Begun stamp base)) (refl, tt))
    begins legal old (reply.Denied why) x is = λ update guarded. tt
    begins legal old (_) x is = cc

    publishing : IsLegalInRuns v h → (t0 : SentRecords) → (IsUpdate (Some op) → IsGuarded ops key run → IsUpdated v.layout (Some op) key.block (published_text h key) text)
        → (mask : ℕ) (c : Reply) (x : Event) → export_event by (call.Publish key t0.stamp mask size) c ≡ Some x → Afterwards (x ∷ []) (Replied c) (writing.Sending t0)
    publishing legal t0 old mask reply.Accepted x is = λ update guarded. tt
    publishing legal t0 old mask (reply.Enrolled p fence) x is =
        subst (λ z. Afterwards (z ∷ []) (Replied (reply.Enrolled p fence)) (writing.Sending t0)) (the_some _ x is)
        (kept legal (writing.Sending t0) old (e.Publish by key t0.stamp mask (Some (p, fence)) ∷ []) (Replied (reply.Enrolled p fence)) (refl, tt))
    publishing legal t0 old mask (reply.Revoked later) x is = λ update guarded. tt
    publishing legal t0 old mask (reply.Denied why) x is = λ update guarded. tt
    publishing legal t0 old mask (_) x is = cc

  -- Every turn of its own.

  abbrev pub IsSaid : Ask → Told → Type 0
  IsSaid (Say said) t = t ≡ Noted (text_said (facts h) said)
  IsSaid _ t = Unit {0}

  module _ (by : Actor) (number : ℕ) (lock : Option Lock) (t : Told) (xs : List Event) (legal : Fine xs) (before : IsLegalInRuns v h) where
    abbrev Turn : Work → Type 0
    Turn work = IsStep by number (ask_of v.layout work) t xs → IsSaid (ask_of v.layout work) t → T xs (told v.layout work t)

    through : (n : ℕ) (question : NodeAsk) → IsNodeStep by n question t xs → (t ≡ Missed) ⊎ ((given : NodeAnswer) × (t ≡ Answered true given))
    through n question step =
        node-step by n question (λ t xs. (t ≡ Missed) ⊎ ((given : NodeAnswer) × (t ≡ Answered true given)))
        (λ given x is. inr (given, refl)) (λ given x is link. inl refl) (λ link. inl refl) t xs step

    via : (c : Call) (W : Told → Work) → ((r : Reply) (x : Event) → export_event by c r ≡ Some x → Fine (x ∷ []) → T (x ∷ []) (W (Replied r))) → IsExportStep by c t xs → T xs (W t)
    via c W f step = export-step by c (λ t xs. Fine xs → T xs (W t)) f t xs step legal

    reading-within : (r : RangeState) (layout : Layout) (key : Key) (places : List ℕ) → IsRange v.layout op lock r key → (stage : ReadStage)
        → IsText v.layout ops run h (Some op) (Reading (Within r) (record { layout = layout; key = key; places = places; stage = stage }))
        → Turn (Reading (Within r) (record { layout = layout; key = key; places = places; stage = stage }))
    reading-within r layout key places is reading.Looking old step said =
        via (call.Look key) (told v.layout (Reading (Within r) (R by number r layout key places reading.Looking))) (looking by number r layout key places) step
    reading-within r layout key places is (reading.Fetching t0) old step said = go (t0.left == 0) step
      where
        go : (b : Bool) → IsStep by number (fetch_asks true key places t0 b) t xs → T xs (told v.layout (Reading (Within r) (R by number r layout key places (reading.Fetching t0))) t)
        go true step = via (call.Recheck key) (told v.layout (Reading (Within r) (R by number r layout key places (reading.Fetching t0)))) (recheck by number r layout key places t0 old) step
        go false step = fetched by number r layout key places t0 old xs t (node-quiet by (slice_index places (next_read t0)) (ask.Fetch key (next_read t0) t0.stamp) key tt t xs step)
            (through (slice_index places (next_read t0)) (ask.Fetch key (next_read t0) t0.stamp) step)
    reading-within r layout key places is (reading.Ended m) old step said =
        subst (λ z. T xs (told v.layout (Reading (Within r) (R by number r layout key places (reading.Ended m))) z)) (sym said)
        (subst (λ (zs : List Event). Fine zs → T zs (in_range (after_part v.layout r (found_text (facts h) m) m))) (sym step.2)
        (λ fine. part-after (said_event by number step.0 (SayGot key true m)) fine refl lock r key is m old) legal)

    writing-within : (r : RangeState) (text : List ℕ) (layout : Layout) (key : Key) (places : List ℕ) (size : ℕ) → IsRange v.layout op lock r key → (stage : WriteStage)
        → IsText v.layout ops run h (Some op) (Writing (Within r) text (record { layout = layout; key = key; places = places; length = size; stage = stage }))
        → Turn (Writing (Within r) text (record { layout = layout; key = key; places = places; length = size; stage = stage }))
    writing-within r text layout key places size is writing.Beginning old step said =
        via (call.Begin key text) (told v.layout (Writing (Within r) text (S by number r text layout key places size writing.Beginning))) (λ c x at fine. begins by number r text layout key places size before old c x at) step
    writing-within r text layout key places size is (writing.Sending t0) old step said = go (nat_lt t0.kept (forward_of layout)) step
      where
        go : (b : Bool) → IsStep by number (send_asks (Within r) text layout key places size t0 b) t xs
            → T xs (told v.layout (Writing (Within r) text (S by number r text layout key places size (writing.Sending t0))) t)
        go true step =
            let question = ask.Keep (head_of (S by number r text layout key places size (writing.Sending t0)) (next_position t0) t0.stamp t0.base) in
            sent by number r text layout key places size before t0 old xs t (node-quiet by (slice_index places (next_position t0)) question key tt t xs step)
            (through (slice_index places (next_position t0)) question step)
        go false step = via (call.Publish key t0.stamp (mask_of t0.why) size) (told v.layout (Writing (Within r) text (S by number r text layout key places size (writing.Sending t0))))
            (λ c x at fine. publishing by number r text layout key places size before t0 old (mask_of t0.why) c x at) step
    writing-within r text layout key places size is (writing.Ended end) old step said =
        subst (λ z. T xs (told v.layout (Writing (Within r) text (S by number r text layout key places size (writing.Ended end))) z)) (sym said)
        (block-after xs legal lock r key is end)

    reading-alone : (s : ReaderState) (t : Told) → T xs (told v.layout (Reading Alone s) t)
    reading-alone s (Noted text) = go (reader_end s)
      where
        go : (e : Option ReadMark) → T xs (said_reading v.layout Alone s text e)
        go None = tt
        go (Some m) = tt
    reading-alone s (Replied r) = tt
    reading-alone s (Locked granted r) = tt
    reading-alone s (Answered fits given) = tt
    reading-alone s Missed = tt

    writing-alone : (text : List ℕ) (s : WriterState) (t : Told) → T xs (told v.layout (Writing Alone text s) t)
    writing-alone text s (Noted found) = go (writer_end s)
      where
        go : (e : Option WriteEnd) → T xs (said_writing v.layout Alone text s e)
        go None = tt
        go (Some end) = tt
    writing-alone text s (Replied r) = tt
    writing-alone text s (Locked granted r) = tt
    writing-alone text s (Answered fits given) = tt
    writing-alone text s Missed = tt

    calling-text : (c : TreeCall) (t : Told) → T xs (told v.layout (Calling c) t)
    calling-text c (Replied (reply.Tree a)) = call-text xs a
    calling-text c (Replied (_)) = tt
    calling-text c (_) = tt

    ending-text : (a : Answer) (t : Told) → T xs (told v.layout (Ending a) t)
    ending-text a (Noted text) = tt
    ending-text a (_) = tt

    pub text-turn : (work : Work) → IsHolding v.layout op lock work → IsText v.layout ops run h (Some op) work → Turn work
    text-turn (Calling c) holds old step said = calling-text c t
    text-turn (Dropping fid n places) holds old step said = drop-text xs fid n places t
    text-turn (Opening path plan) holds old step said = not-locking xs (opened-not op path plan holds.0) (told v.layout (Opening path plan) t)
    text-turn (Locking path plan) holds old step said = locking-text xs legal path plan holds.0 t
    text-turn (Writing (Within r) text s) holds old step said = writing-within r text s.layout s.key s.places s.length holds.0 s.stage old step said
    text-turn (Reading (Within r) s) holds old step said = reading-within r s.layout s.key s.places holds s.stage old step said
    text-turn (Writing Alone text s) holds old step said = writing-alone text s t
    text-turn (Reading Alone s) holds old step said = reading-alone s t
    text-turn (Rebuilding n state) holds old step said = rebuild-text xs n state t
    text-turn (Ending a) holds old step said = ending-text a t
    text-turn Over holds old step said = absurd step
