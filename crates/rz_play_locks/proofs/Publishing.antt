-- A block that an actor has locked is published by no other actor's update.
use Rattle.std.proofs.Common.{◌≡◌, inl, inr, ◌<◌, ◌≤◌, ◌+◌, ◌-◌, ◌*◌, ◌/◌, ◌==◌, ℕ, Bool, true, false, cond, List, [], ◌∷◌, length, Option, Some, None, refl, sym, ◌∙◌, ap, subst, arith}
use Rattle.std.specs.Prelude.{nat_lt, slice_index}
use Rattle.std.proofs.lemmas.Bool.{eqb-true}
use Rattle.std.proofs.lemmas.Nat.{le-div}
use Rattle.std.proofs.Math.Nat.{div-mul-le_self, mul-le-mul_right}
use Rattle.mj_angles.specs.declared.layout.Layout.{Layout}
use Rattle.mj_angles.specs.Layout.{block_bytes_of, forward_of}
use Rattle.rz_events.specs.Volume.{Volume}
use Rattle.rz_events.specs.declared.keys.Actor.{Actor}
use Rattle.rz_events.specs.declared.keys.Key.{Key}
use Rattle.rz_events.specs.declared.export.Call.{Call}
use Rattle.rz_events.specs.declared.export.Call.TheVariants as call
use Rattle.rz_events.specs.declared.export.Reply.{Reply}
use Rattle.rz_events.specs.declared.export.Reply.TheVariants as reply
use Rattle.rz_events.specs.declared.tree.TreeCall.TheVariants as tree
use Rattle.rz_events.specs.declared.ends.ReadMark.{ReadMark}
use Rattle.rz_events.specs.declared.machines.ReaderAsk.{ReaderAsk}
use Rattle.rz_events.specs.declared.machines.ReaderAsk.TheVariants as reads
use Rattle.rz_events.specs.declared.machines.WriterAsk.TheVariants as writes
use Rattle.rz_events.specs.declared.events.Word.TheVariants.{Node}
use Rattle.rz_events.specs.declared.events.Event.{Event}
use Rattle.rz_events.specs.declared.events.Event.TheVariants as e
use Rattle.rz_events.specs.Events.{word_of, same_actor}
use Rattle.rz_export_model.specs.ExportEvents.{export_event}
use Rattle.rz_core.specs.History.{Facts, facts, of_actor}
use Rattle.rz_client_model.specs.declared.writing.WriterState.{WriterState}
use Rattle.rz_client_model.specs.declared.writing.WriteStage.{WriteStage}
use Rattle.rz_client_model.specs.declared.writing.WriteStage.TheVariants as writing
use Rattle.rz_client_model.specs.declared.writing.SentRecords.{SentRecords}
use Rattle.rz_client_model.specs.Read.{reader_ask, reader_end}
use Rattle.rz_client_model.specs.Write.{next_position, mask_of}
use Rattle.rz_events.specs.declared.operations.Operation.{Operation}
use Rattle.rz_events.specs.declared.operations.Operation.TheVariants as operation
use Rattle.rz_operation_model.specs.Ranges.{RangeState}
use Rattle.rz_operation_model.specs.Rebuild.{ask_to_copy, Probing, Enrolling, Replacing, Listing, Copying, Refilling, Leaving}
use Rattle.rz_operation_model.specs.Work.{Work, Plan, OnBlock, OnRange, RangePlan, PutBlock, WriteBytes, ReadBytes, Course, Alone, Within, Calling, Dropping, Opening, Locking, Writing, Reading, Rebuilding, Ending, Over}
use Rattle.rz_operation_model.specs.Ask.{Ask, AskExport, AskNode, AskLock, Say, Rest, Saying, SayGot, SayGave, SayLeft, SayDone, ask_of, is_part, read_asks, rebuild_asks, write_asks, first_byte, whole_bytes}
use Rattle.rz_operation_model.specs.Steps.{Told, Replied, begun}
use Rattle.rz_operation_model.specs.Turns.{IsStep, Through, ReplyLost, RequestLost, said_event}
use Rattle.rz_play.specs.World.{World, at_work}
use Rattle.rz_locks.specs.declared.conflict.Lock.{Lock}
use Rattle.rz_locks.specs.declared.conflict.LockKind.TheVariants.{Exclusive}
use Rattle.rz_script.specs.Lines.{IsActor}
use Rattle.rz_locks.specs.Conflicts.{HasByte, Conflict}
use Rattle.rz_play_laws.specs.Own.{IsProper}
use Rattle.rz_play_laws.proofs.Blocks.{block-some}
use Rattle.rz_play_laws.proofs.Events.{node-event}
use Rattle.rz_play_locks.specs.Operations.{IsUpdate, in_hand}
use Rattle.rz_play_locks.specs.Holding.{AreLocksApart, HasBlock, OfPlan, IsPlanLocked, IsRange, IsCourseLock, IsAlone, IsHolding}
use Rattle.rz_play_locks.proofs.Barring.{others-apart, lock-at_work}
use Rattle.rz_play_locks.proofs.Kept.{IsGoing}

-- An accepted publish comes of asking for it.
pub record IsPublish (key : Key) (stamp mask : ℕ) (a : Ask) (t : Told) : Type 0 where
  pub size : ℕ
  pub asks : a ≡ AskExport (call.Publish key stamp mask size)
  pub told : t ≡ Replied reply.Accepted

module _ (by b : Actor) (number : ℕ) (key : Key) (stamp mask : ℕ) (ys : List Event) where
  abbrev x0 : Event
  x0 = e.Publish b key stamp mask None

  first-of : (x : Event) (xs : List Event) → x ∷ xs ≡ x0 ∷ ys → x ≡ x0
  first-of x xs is = ap (head x) is
    where
      head : Event → List Event → Event
      head y [] = y
      head y (z ∷ zs) = z

  by-call : (c : Call) (r : Reply) → export_event by c r ≡ Some x0 → IsPublish key stamp mask (AskExport c) (Replied r)
  by-call (call.Tree c) (reply.Tree r) is = cc
  by-call (call.Tree c) (_) is = cc
  by-call (call.Begin k text) (reply.Begun s base) is = cc
  by-call (call.Begin k text) (reply.Denied why) is = cc
  by-call (call.Begin k text) (_) is = cc
  by-call (call.Publish k s m size) reply.Accepted is = record { size = size; asks = same k s m is; told = refl }
    where
      same : (k : Key) (s m : ℕ) → Some (e.Publish by k s m None) ≡ Some x0 → AskExport (call.Publish k s m size) ≡ AskExport (call.Publish key stamp mask size)
      same k s m is = cc
  by-call (call.Publish k s m size) (reply.Enrolled p fence) is = cc
  by-call (call.Publish k s m size) (reply.Revoked later) is = cc
  by-call (call.Publish k s m size) (reply.Denied why) is = cc
  by-call (call.Publish k s m size) (_) is = cc
  by-call (call.Look k) (reply.Looked p) is = cc
  by-call (call.Look k) (reply.Denied why) is = cc
  by-call (call.Look k) (_) is = cc
  by-call (call.Enroll n loss) (reply.Fence fence) is = cc
  by-call (call.Enroll n loss) (reply.Denied why) is = cc
  by-call (call.Enroll n loss) (_) is = cc
  by-call (call.Next n after) (reply.Listed l) is = cc
  by-call (call.Next n after) (_) is = cc
  by-call (call.Recheck k) (reply.Looked p) is = cc
  by-call (call.Recheck k) (reply.Denied why) is = cc
  by-call (call.Recheck k) (_) is = cc

  node-no : (n : ℕ) → word_of x0 ≡ Node n → ⊥
  node-no n is = cc

  said-no : (text : List ℕ) (said : Saying) → said_event by number text said ≡ x0 → ⊥
  said-no text (SayGot k part m) is = cc
  said-no text (SayGave k part end) is = cc
  said-no text (SayLeft k why) is = cc
  said-no text (SayDone answer) is = cc

  missed-no : (n : ℕ) (reply : Bool) → e.Missed by n reply ≡ x0 → ⊥
  missed-no n reply is = cc

  pub publish-step : (v : Volume) (f : Facts) (o run : List Event) (a : Ask) → IsProper v f o run by number a → (t : Told) (xs : List Event) → IsStep by number a t xs → xs ≡ x0 ∷ ys → IsPublish key stamp mask a t
  publish-step v f o run (AskExport c) ok t xs (r, x, t_is, x_is, xs_is) is =
      subst (IsPublish key stamp mask (AskExport c)) (sym t_is) (by-call c r (subst (λ z. export_event by c r ≡ Some z) (first-of x [] (sym xs_is ∙ is)) x_is))
  publish-step v f o run (AskNode n question) ok _ _ (Through given x x_is) is = absurd (node-no n (ap word_of (sym (first-of x [] is)) ∙ (node-event by n question given x ok.2 x_is).word_is))
  publish-step v f o run (AskNode n question) ok _ _ (ReplyLost given x x_is link) is = absurd (missed-no n true (first-of (e.Missed by n true) (x ∷ []) is))
  publish-step v f o run (AskNode n question) ok _ _ (RequestLost link) is = absurd (missed-no n false (first-of (e.Missed by n false) [] is))
  publish-step v f o run (AskLock path exclusive from count) ok t xs (granted, r, x, t_is, x_is, xs_is) is =
      absurd (no r (subst (λ z. export_event by (call.Tree (tree.OpenFile path)) r ≡ Some z) (first-of x [] (sym xs_is ∙ is)) x_is))
    where
      no : (r : Reply) → export_event by (call.Tree (tree.OpenFile path)) r ≡ Some x0 → ⊥
      no (reply.Tree r) is = cc
      no (_) is = cc
  publish-step v f o run (Say said) ok t xs (text, t_is, xs_is) is = absurd (said-no text said (first-of (said_event by number text said) [] (sym xs_is ∙ is)))
  publish-step v f o run Rest ok t xs step is = absurd step

-- And that is asked by a write alone, whose records were sent.
pub record IsSendingOf (work : Work) (key : Key) (stamp : ℕ) : Type 0 where
  pub course : Course
  pub text : List ℕ
  pub state : WriterState
  pub sent : SentRecords
  pub work_is : work ≡ Writing course text state
  pub stage_is : state.stage ≡ writing.Sending sent
  pub key_is : state.key ≡ key
  pub stamp_is : sent.stamp ≡ stamp

module _ (layout : Layout) (key : Key) (stamp mask size : ℕ) where
  abbrev wanted : Ask
  wanted = AskExport (call.Publish key stamp mask size)

  read-no : (part : Bool) (k : Key) (end : Option ReadMark) (a : ReaderAsk) → read_asks part k end a ≡ wanted → ⊥
  read-no part k end reads.Look is = cc
  read-no part k end (reads.Fetch p n s) is = cc
  read-no part k end reads.Recheck is = cc
  read-no part k None reads.End is = cc
  read-no part k (Some m) reads.End is = cc

  copy-no : (n : ℕ) (k : Key) (z : ReaderAsk) → rebuild_asks layout n (ask_to_copy k z) ≡ wanted → ⊥
  copy-no n k reads.Look is = cc
  copy-no n k (reads.Fetch p m s) is = cc
  copy-no n k reads.Recheck is = cc
  copy-no n k reads.End is = cc

  by-write : (course : Course) (text : List ℕ) (lay : Layout) (k : Key) (places : List ℕ) (long : ℕ) (stage : WriteStage)
      → ask_of layout (Writing course text (record { layout = lay; key = k; places = places; length = long; stage = stage })) ≡ wanted
      → IsSendingOf (Writing course text (record { layout = lay; key = k; places = places; length = long; stage = stage })) key stamp
  by-write course text lay k places long writing.Beginning is = cc
  by-write course text lay k places long (writing.Sending t) is = go (nat_lt t.kept (forward_of lay)) is
    where
      go : (b : Bool) → write_asks (is_part course) text (record { layout = lay; key = k; places = places; length = long; stage = writing.Sending t })
          (cond b (writes.Keep (next_position t) (slice_index places (next_position t)) t.stamp t.base) (writes.Publish t.stamp (mask_of t.why))) ≡ wanted
          → IsSendingOf (Writing course text (record { layout = lay; key = k; places = places; length = long; stage = writing.Sending t })) key stamp
      go true is = cc
      go false is = record { course = course; text = text; state = record { layout = lay; key = k; places = places; length = long; stage = writing.Sending t }; sent = t; work_is = refl; stage_is = refl; key_is = first k t.stamp is; stamp_is = second k t.stamp is }
        where
          first : (a : Key) (b : ℕ) → AskExport (call.Publish a b (mask_of t.why) long) ≡ wanted → a ≡ key
          first a b is = cc

          second : (a : Key) (b : ℕ) → AskExport (call.Publish a b (mask_of t.why) long) ≡ wanted → b ≡ stamp
          second a b is = cc
  by-write course text lay k places long (writing.Ended end) is = cc

  pub sending-of : (work : Work) → ask_of layout work ≡ wanted → IsSendingOf work key stamp
  sending-of (Calling c) is = cc
  sending-of (Dropping fid n places) is = cc
  sending-of (Opening path plan) is = cc
  sending-of (Locking path (WriteBytes offset bytes)) is = cc
  sending-of (Locking path (ReadBytes offset count)) is = cc
  sending-of (Writing course text s) is = by-write course text s.layout s.key s.places s.length s.stage is
  sending-of (Reading course s) is = absurd (read-no (is_part course) s.key (reader_end s) (reader_ask s) is)
  sending-of (Rebuilding n Probing) is = cc
  sending-of (Rebuilding n (Enrolling loss)) is = cc
  sending-of (Rebuilding n (Replacing loss fence)) is = cc
  sending-of (Rebuilding n (Listing t)) is = cc
  sending-of (Rebuilding n (Copying t l base s)) is = absurd (copy-no n l.key (reader_ask s) is)
  sending-of (Rebuilding n (Refilling t l long base)) is = cc
  sending-of (Rebuilding n (Leaving t k why)) is = cc
  sending-of (Ending answer) is = cc
  sending-of Over is = cc

-- A range lies within its lock.

module _ (layout : Layout) (offset done count : ℕ) (low : done < count) where
  abbrev B : ℕ
  B = block_bytes_of layout

  pub lock-low : first_byte layout offset ≤ (offset + done) / B * B
  lock-low = mul-le-mul_right B (le-div (offset / B) (offset + done) B (block-some layout) (let m = div-mul-le_self offset B in omega (arith, m)))

  pub lock-high : (offset + done) / B * B < first_byte layout offset + whole_bytes layout offset count
  lock-high = go (count == 0) refl
    where
      last : ℕ
      last = (offset + count - 1) / B * B

      under : (offset + done) / B * B ≤ (offset + count - 1) / B * B
      under = mul-le-mul_right B (le-div ((offset + done) / B) (offset + count - 1) B (block-some layout) (let m = div-mul-le_self (offset + done) B in omega (arith, m, low)))

      go : (b : Bool) → (count == 0) ≡ b
          → (offset + done) / B * B < first_byte layout offset + cond b 0 (first_byte layout (offset + count - 1) + block_bytes_of layout - first_byte layout offset)
      go true is = let z = eqb-true count 0 is in absurd (omega (arith, z, low))
      go false is = add-up ((offset + done) / B * B) (first_byte layout offset) ((offset + count - 1) / B * B) B lock-low under (block-some layout)
        where
          add-up : (k f l b : ℕ) → f ≤ k → k ≤ l → 0 < b → k < f + (l + b - f)
          add-up k f l b a c d = omega (arith, a, c, d)

-- The lock of a range is on the block in hand.
pub record IsLocked (layout : Layout) (lock : Option Lock) (key : Key) : Type 0 where
  pub held : Lock
  pub is : lock ≡ Some held
  pub exclusive : held.kind ≡ Exclusive
  pub block : HasBlock layout held key

not-opened : (op : Operation) (path : List ℕ) (plan : Plan) → IsUpdate (Some op) → begun op ≡ Opening path plan → ⊥
not-opened (operation.Update p o d) path plan update is = cc
not-opened (_) path plan update is = absurd update

not-read : (op : Operation) (path : List ℕ) (offset count : ℕ) → IsUpdate (Some op) → begun op ≡ Locking path (ReadBytes offset count) → ⊥
not-read (operation.Update p o d) path offset count update is = cc
not-read (_) path offset count update is = absurd update

pub update-locked : (layout : Layout) (op : Operation) (lock : Option Lock) (r : RangeState) (key : Key) → IsUpdate (Some op) → IsRange layout op lock r key → IsLocked layout lock key
update-locked layout op lock r key update is = go is.plan is.held is.range
  where
    go : (plan : RangePlan) → IsPlanLocked layout op lock is.path plan r.info.fid → OfPlan plan r → IsLocked layout lock key
    go plan (inl held) range = absurd (not-opened op is.path (OnRange plan) update held.0)
    go (ReadBytes offset count) (inr held) range = absurd (not-read op is.path offset count update held.0)
    go (WriteBytes offset bytes) (inr held) range =
        let left = is.left in
        let size = range.1 in
        let low : r.done < length bytes = omega (arith, left, size) in
        record {
          held = record { range = record { fid = r.info.fid; from = first_byte layout offset; length = whole_bytes layout offset (length bytes) }; kind = Exclusive };
          is = held.1;
          exclusive = refl;
          block = subst (λ (k : Key). HasBlock layout (record { range = record { fid = r.info.fid; from = first_byte layout offset; length = whole_bytes layout offset (length bytes) }; kind = Exclusive }) k) (sym is.key_is) (
            refl,
            subst (λ z. HasByte (record { fid = r.info.fid; from = first_byte layout offset; length = whole_bytes layout offset (length bytes) }) ((z + r.done) / block_bytes_of layout * block_bytes_of layout)) (sym range.0)
                (lock-low layout offset r.done (length bytes) low, lock-high layout offset r.done (length bytes) low),
          );
        }

-- an update that sends a block holds the lock on it
pub sending-locked : (layout : Layout) (op : Operation) (lock : Option Lock) (work : Work) (key : Key) (stamp : ℕ) → IsHolding layout op lock work → IsSendingOf work key stamp → IsUpdate (Some op)
    → IsLocked layout lock key
sending-locked layout op lock work key stamp holds s update = subst (IsLocked layout lock) s.key_is (by-course s.course held.0 held.1)
  where
    held : IsHolding layout op lock (Writing s.course s.text s.state)
    held = subst (IsHolding layout op lock) s.work_is holds

    by-course : (course : Course) → IsCourseLock layout op lock course s.state.key → IsAlone op course → IsLocked layout lock s.state.key
    by-course Alone is put = absurd (not-opened op put.0 (OnBlock (PutBlock put.1 put.2)) update put.3)
    by-course (Within r) is put = update-locked layout op lock r s.state.key update is

-- Two locks on one block conflict where one is exclusive.
pub both-conflict : (layout : Layout) (a b : Lock) (key : Key) → HasBlock layout a key → HasBlock layout b key → a.kind ≡ Exclusive → Conflict a b
both-conflict layout a b key on_a on_b exclusive = ((on_a.0 ∙ sym on_b.0, (key.block * block_bytes_of layout, on_a.1, on_b.1)), inl exclusive)

-- So no other actor has a lock on a block of which an update's publish is accepted.
pub barred : (v : Volume) (ops : Actor → List Operation) (run : List Event) (w next : World) (by : Actor) → IsActor by → AreLocksApart w → (g : IsGoing v ops run w by (at_work (w.agendas by)) next)
    → (b : Actor) (key : Key) (stamp mask : ℕ) (ys : List Event) → g.move.xs ≡ e.Publish b key stamp mask None ∷ ys → IsUpdate (in_hand (ops by) (of_actor by run))
    → (a : Actor) → IsActor a → same_actor a by ≡ false → (lock : Lock) → (w.agendas a).lock ≡ Some lock → ¬ HasBlock v.layout lock key
barred v ops run w next by ok apart g b key stamp mask ys xs_is update a ok_a other lock at on =
    let s = at_work (w.agendas by) in
    let m = g.move in
    let p = publish-step by b s.number key stamp mask ys v (facts w.log) (of_actor by w.log) (of_actor by run) (ask_of v.layout s.work) g.proper m.t m.xs m.step xs_is in
    let k = sending-locked v.layout g.hand.op s.lock s.work key stamp g.hand.holds (sending-of v.layout key stamp mask p.size s.work p.asks) (subst IsUpdate g.hand.at update) in
    apart by a k.held lock ok ok_a (others-apart a by other) (sym (lock-at_work (w.agendas by)) ∙ k.is) at (both-conflict v.layout k.held lock key k.block on k.exclusive)
