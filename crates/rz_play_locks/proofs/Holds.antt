-- What an operation holds after each answer.
use Rattle.std.proofs.Common.{◌≡◌, inl, inr, ◌<◌, ◌≤◌, ◌+◌, ◌-◌, ◌==◌, min, ℕ, Bool, true, false, cond, List, [], ◌∷◌, ◌++◌, length, Option, Some, None, refl, sym, ◌∙◌, subst, arith}
use Rattle.std.proofs.lemmas.Bool.{eqb-false}
use Rattle.mj_angles.specs.declared.layout.Layout.{Layout}
use Rattle.rz_events.specs.declared.keys.Actor.{Actor}
use Rattle.rz_events.specs.declared.keys.Key.{Key}
use Rattle.rz_events.specs.declared.files.FileInfo.{FileInfo}
use Rattle.rz_events.specs.declared.tree.TreeCall.{TreeCall}
use Rattle.rz_events.specs.declared.tree.TreeReply.{TreeReply}
use Rattle.rz_events.specs.declared.tree.TreeReply.TheVariants as answer
use Rattle.rz_events.specs.declared.export.Reply.{Reply}
use Rattle.rz_events.specs.declared.export.Reply.TheVariants as reply
use Rattle.rz_events.specs.declared.nodes.DropAnswer.TheVariants as drops
use Rattle.rz_events.specs.declared.nodes.NodeAnswer.TheVariants as node
use Rattle.rz_events.specs.declared.ends.ReadMark.{ReadMark}
use Rattle.rz_events.specs.declared.ends.ReadMark.TheVariants as mark
use Rattle.rz_events.specs.declared.ends.WriteEnd.{WriteEnd}
use Rattle.rz_events.specs.declared.ends.WriteEnd.TheVariants as write
use Rattle.rz_events.specs.declared.events.Event.{Event}
use Rattle.rz_events.specs.declared.events.Event.TheVariants as e
use Rattle.rz_core.specs.History.{of_actor}
use Rattle.rz_core.proofs.Stamps.{same_key-refl}
use Rattle.rz_client_model.specs.declared.reading.ReaderState.{ReaderState}
use Rattle.rz_client_model.specs.declared.writing.WriterState.{WriterState}
use Rattle.rz_events.specs.declared.operations.Operation.{Operation}
use Rattle.rz_operation_model.specs.Ranges.{RangeState, Aim, Taking, Giving, count_in, passed, cut, is_whole}
use Rattle.rz_operation_model.specs.Work.{Work, Plan, OnBlock, OnRange, BlockPlan, RangePlan, PutBlock, GetBlock, WriteBytes, ReadBytes, Course, Calling, Dropping, Opening, Locking, Writing, Reading, Over}
use Rattle.rz_events.specs.declared.machines.FileEnd.TheVariants as end
use Rattle.rz_operation_model.specs.Files.{Ended as FileEnded, next_block, go_on, with_text, after_part, after_block, reads_block, writes_block}
use Rattle.rz_operation_model.specs.Steps.{Told, Replied, Locked, Answered, Missed, Noted, begun, told, in_range, block_planned, range_planned, planned, after_open, after_call, drop_at, reader_after, writer_after}
use Rattle.rz_locks.specs.declared.conflict.Lock.{Lock}
use Rattle.rz_play.specs.Turns.{kind_of, lock_on}
use Rattle.rz_play_locks.specs.Operations.{in_hand, IsUpdate, IsGuarded}
use Rattle.rz_play_locks.proofs.Geometry.{passed-aligned}
use Rattle.rz_play_locks.specs.Holding.{IsAligned, IsToGive, lock_for, OfPlan, IsTaking, IsPlanLocked, IsRange, IsCourseLock, IsAlone, IsHolding}

-- a key that is guarded in a log is guarded in each beginning of it
pub guarded-before : (ops : Actor → List Operation) (key : Key) (x : Event) (h : List Event) → IsGuarded ops key (x ∷ h) → IsGuarded ops key h
guarded-before ops key (e.Publish by at stamp mask None) h g = g.0
guarded-before ops key (e.Publish by at stamp mask (Some refused)) h g = g
guarded-before ops key (_) h g = g

pub guarded-back : (ops : Actor → List Operation) (key : Key) (xs h : List Event) → IsGuarded ops key (xs ++ h) → IsGuarded ops key h
guarded-back ops key [] h g = g
guarded-back ops key (x ∷ xs) h g = guarded-back ops key xs h (guarded-before ops key x (xs ++ h) g)

-- an accepted publish of a guarded key is that of an update
pub guarded-update : (ops : Actor → List Operation) (by : Actor) (key : Key) (stamp mask : ℕ) (xs h : List Event) → xs ≡ e.Publish by key stamp mask None ∷ []
    → IsGuarded ops key (xs ++ h) → IsUpdate (in_hand (ops by) (of_actor by h))
guarded-update ops by key stamp mask xs h is guarded = (subst (λ (zs : List Event). IsGuarded ops key (zs ++ h)) is guarded).1 (same_key-refl key)

-- what the work after an answer holds, where the operation goes on
abbrev pub Later : Layout → Operation → Option Lock → Work → Type 0
Later layout op lock Over = Unit {0}
Later layout op lock work = IsHolding layout op lock work

module _ (layout : Layout) (op : Operation) (lock : Option Lock) where
  abbrev L : Work → Type 0
  L work = Later layout op lock work

  -- a range goes on
  pub go-later : (r : RangeState) (path : List ℕ) (plan : RangePlan) → IsPlanLocked layout op lock path plan r.info.fid → OfPlan plan r → r.done ≤ r.size → (r.done < r.size → IsAligned layout r) → L (in_range (go_on layout r))
  go-later r path plan held range low aligned = go (r.done == r.size) refl
    where
      block : r.done < r.size → (aim : Aim) → r.aim ≡ aim → L (in_range (next_block layout r aim))
      block left (Taking bytes) at = record { path = path; plan = plan; held = held; range = range; left = left; aligned = aligned left; key_is = refl }
      block left (Giving bytes) at = cases (is_whole layout r)
        where
          cases : (b : Bool) → L (in_range (cond b (writes_block layout r (cut r.done (count_in layout r) bytes)) (reads_block layout r)))
          cases true = (record { path = path; plan = plan; held = held; range = range; left = left; aligned = aligned left; key_is = refl }, subst IsToGive (sym at) tt)
          cases false = record { path = path; plan = plan; held = held; range = range; left = left; aligned = aligned left; key_is = refl }

      go : (b : Bool) → (r.done == r.size) ≡ b → L (in_range (cond b (FileEnded r (end.Whole r.done)) (next_block layout r r.aim)))
      go true is = tt
      go false is = let apart = eqb-false r.done r.size is in block (omega (arith, low, apart)) r.aim refl

  -- the range after the block in hand
  passed-plan : (r : RangeState) (aim : Aim) (plan : RangePlan) → OfPlan plan r → ((bytes : List ℕ) → r.aim ≡ Giving bytes → aim ≡ Giving bytes) → (IsTaking r.aim → IsTaking aim) → OfPlan plan (passed layout r aim)
  passed-plan r aim (WriteBytes offset bytes) is giving taking = (is.0, is.1, giving bytes is.2)
  passed-plan r aim (ReadBytes offset count) is giving taking = (is.0, is.1, taking is.2)

  passed-low : (r : RangeState) (aim : Aim) → r.done < r.size → (passed layout r aim).done ≤ (passed layout r aim).size
  passed-low r aim left = low (count_in layout r) (few _ (r.size - r.done))
    where
      few : (a b : ℕ) → min a b ≤ b
      few a b = omega arith

      low : (count : ℕ) → count ≤ r.size - r.done → r.done + count ≤ r.size
      low count most = omega (arith, most, left)

  passed-later : (r : RangeState) (aim : Aim) (key : Key) → IsRange layout op lock r key → ((bytes : List ℕ) → r.aim ≡ Giving bytes → aim ≡ Giving bytes) → (IsTaking r.aim → IsTaking aim)
      → L (in_range (go_on layout (passed layout r aim)))
  passed-later r aim key is giving taking =
      go-later (passed layout r aim) is.path is.plan is.held (passed-plan r aim is.plan is.range giving taking) (passed-low r aim is.left) (passed-aligned layout r aim)

  -- the block in hand was found, or is a hole
  text-later : (r : RangeState) (text : List ℕ) (key : Key) → IsRange layout op lock r key → (aim : Aim) → r.aim ≡ aim → L (in_range (with_text layout r text aim))
  text-later r text key is (Taking bytes) aim_is = passed-later r (Taking _) key is (λ b given. cc) (λ k. tt)
  text-later r text key is (Giving bytes) aim_is = (record { path = is.path; plan = is.plan; held = is.held; range = is.range; left = is.left; aligned = is.aligned; key_is = refl }, subst IsToGive (sym aim_is) tt)

  pub part-later : (r : RangeState) (text : List ℕ) (key : Key) → IsRange layout op lock r key → (m : ReadMark) → L (in_range (after_part layout r text m))
  part-later r text key is (mark.Found stamp size) = text-later r text key is r.aim refl
  part-later r text key is mark.Hole = text-later r [] key is r.aim refl
  part-later r text key is (_) = tt

  pub block-later : (r : RangeState) (key : Key) → IsRange layout op lock r key → (end : WriteEnd) → L (in_range (after_block layout r end))
  block-later r key is (write.Acked stamp mask) = passed-later r r.aim key is (λ b given. given) (λ k. k)
  block-later r key is (_) = tt

  -- the file is open
  pub range-later : (info : FileInfo) (path : List ℕ) (plan : RangePlan) → IsPlanLocked layout op lock path plan info.fid → L (range_planned layout info plan)
  range-later info path (WriteBytes offset bytes) held =
      go-later (record { info = info; offset = offset; size = length bytes; done = 0; aim = Giving bytes }) path (WriteBytes offset bytes) held (refl, refl, refl) (omega arith) (λ left. inl refl)
  range-later info path (ReadBytes offset count) held =
      go-later (record { info = info; offset = offset; size = min count (info.size - offset); done = 0; aim = Taking [] }) path (ReadBytes offset count) held (refl, few count (info.size - offset), tt) (omega arith) (λ left. inl refl)
    where
      few : (a b : ℕ) → min a b ≤ a
      few a b = omega arith

  block-planned : (info : FileInfo) (path : List ℕ) (plan : BlockPlan) → begun op ≡ Opening path (OnBlock plan) → lock ≡ None → L (block_planned layout info plan)
  block-planned info path (PutBlock block text) is none = (none, (path, block, text, is))
  block-planned info path (GetBlock block) is none = none

  planned-later : (info : FileInfo) (path : List ℕ) (plan : Plan) → begun op ≡ Opening path plan → lock ≡ None → L (planned layout info plan)
  planned-later info path (OnBlock plan) is none = block-planned info path plan is none
  planned-later info path (OnRange plan) is none = range-later info path plan (inl (is, none))

  open-later : (path : List ℕ) (plan : Plan) (a : TreeReply) → begun op ≡ Opening path plan → lock ≡ None → L (after_open layout plan a)
  open-later path plan (answer.File info) is none = planned-later info path plan is none
  open-later path plan (answer.Refused fault) is none = tt
  open-later path plan (_) is none = tt

  pub opening-later : (path : List ℕ) (plan : Plan) (r : Reply) → begun op ≡ Opening path plan → lock ≡ None → L (told layout (Opening path plan) (Replied r))
  opening-later path plan (reply.Tree a) is none = open-later path plan a is none
  opening-later path plan (_) is none = (is, none)

  drop-later : (fid : ℕ) (places : List ℕ) → L (drop_at fid places)
  drop-later fid [] = tt
  drop-later fid (n ∷ places) = tt

  call-later : (a : TreeReply) → L (after_call a)
  call-later (answer.Gone None) = tt
  call-later (answer.Gone (Some info)) = drop-later info.fid info.places
  call-later (_) = tt

  pub calling-later : (c : TreeCall) (r : Reply) → L (told layout (Calling c) (Replied r))
  calling-later c (reply.Tree a) = call-later a
  calling-later c (_) = tt

  pub dropping-later : (fid n : ℕ) (places : List ℕ) (t : Told) → L (told layout (Dropping fid n places) t)
  dropping-later fid n places (Answered fits (node.Drop (drops.Dropped block stamp true))) = tt
  dropping-later fid n places (Answered fits (node.Drop (drops.Dropped block stamp false))) = drop-later fid places
  dropping-later fid n places (Answered fits (node.Drop (_))) = drop-later fid places
  dropping-later fid n places (Answered fits (_)) = tt
  dropping-later fid n places Missed = drop-later fid places
  dropping-later fid n places (_) = tt

  -- The read of a block goes on.

  reader-key : (s : ReaderState) (t : Told) → (reader_after s t).key ≡ s.key
  reader-key s (Replied (reply.Looked p)) = refl
  reader-key s (Replied (reply.Denied cause)) = refl
  reader-key s (Replied (_)) = refl
  reader-key s (Answered fits (node.Fetch given)) = refl
  reader-key s (Answered fits (_)) = refl
  reader-key s Missed = refl
  reader-key s (Locked granted r) = refl
  reader-key s (Noted text) = refl

  pub reading-later : (course : Course) (s : ReaderState) (t : Told) → IsCourseLock layout op lock course s.key → L (Reading course (reader_after s t))
  reading-later course s t is = subst (IsCourseLock layout op lock course) (sym (reader-key s t)) is

  -- The write of a block goes on.

  pub writer-key : (s : WriterState) (t : Told) → (writer_after s t).key ≡ s.key
  writer-key s (Replied (reply.Begun stamp base)) = refl
  writer-key s (Replied (reply.Denied cause)) = refl
  writer-key s (Replied reply.Accepted) = refl
  writer-key s (Replied (reply.Enrolled position fence)) = refl
  writer-key s (Replied (reply.Revoked later)) = refl
  writer-key s (Replied (_)) = refl
  writer-key s (Answered fits (node.Keep given)) = refl
  writer-key s (Answered fits (_)) = refl
  writer-key s Missed = refl
  writer-key s (Locked granted r) = refl
  writer-key s (Noted text) = refl

  pub writing-later : (course : Course) (text : List ℕ) (s : WriterState) (t : Told) → IsCourseLock layout op lock course s.key → IsAlone op course → L (Writing course text (writer_after s t))
  writing-later course text s t is alone = (subst (IsCourseLock layout op lock course) (sym (writer-key s t)) is, alone)

-- The file is opened with a lock.
module _ (layout : Layout) (op : Operation) (lock now : Option Lock) (none : lock ≡ None) where
  abbrev WithLock : List ℕ → RangePlan → Bool → ℕ → ℕ → Bool → Reply → Type 0
  WithLock path plan exclusive from count granted r =
      begun op ≡ Locking path plan
      → ((fid : ℕ) → lock_for layout path plan fid ≡ Some (record { range = record { fid = fid; from = from; length = count }; kind = kind_of exclusive }))
      → now ≡ cond granted (lock_on r exclusive from count) lock
      → Later layout op now (told layout (Locking path plan) (Locked granted r))

  pub locked-later : (path : List ℕ) (plan : RangePlan) (exclusive : Bool) (from count : ℕ) (granted : Bool) (r : Reply) → WithLock path plan exclusive from count granted r
  locked-later path plan exclusive from count true (reply.Tree (answer.File info)) is for now_is = range-later layout op now info path plan (inr (is, now_is ∙ sym (for info.fid)))
  locked-later path plan exclusive from count true (reply.Tree (answer.Refused fault)) is for now_is = tt
  locked-later path plan exclusive from count true (reply.Tree (_)) is for now_is = tt
  locked-later path plan exclusive from count true (_) is for now_is = (is, now_is)
  locked-later path plan exclusive from count false (reply.Tree (answer.File info)) is for now_is = (is, now_is ∙ none)
  locked-later path plan exclusive from count false (reply.Tree (answer.Refused fault)) is for now_is = tt
  locked-later path plan exclusive from count false (reply.Tree (_)) is for now_is = tt
  locked-later path plan exclusive from count false (_) is for now_is = (is, now_is ∙ none)
