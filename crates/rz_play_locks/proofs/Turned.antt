-- After a turn the operation in hand holds again what it has to.
use Rattle.std.proofs.Common.{◌≡◌, ◌+◌, ◌==◌, ℕ, Bool, true, false, cond, not, List, [], ◌∷◌, ◌++◌, length, Option, Some, None, refl, sym, ◌∙◌, ap, subst}
use Rattle.std.specs.Prelude.{nat_lt, slice_index, slice_get}
use Rattle.mj_angles.specs.Layout.{forward_of}
use Rattle.mj_angles.specs.declared.layout.Layout.{Layout}
use Rattle.rz_events.specs.Volume.{Volume}
use Rattle.rz_events.specs.declared.keys.Actor.{Actor}
use Rattle.rz_events.specs.declared.keys.Key.{Key}
use Rattle.rz_events.specs.declared.export.Call.{Call}
use Rattle.rz_events.specs.declared.export.Call.TheVariants as call
use Rattle.rz_events.specs.declared.export.Reply.{Reply}
use Rattle.rz_events.specs.declared.tree.TreeCall.TheVariants as tree
use Rattle.rz_events.specs.declared.nodes.NodeAsk.{NodeAsk}
use Rattle.rz_events.specs.declared.nodes.NodeAsk.TheVariants as ask
use Rattle.rz_events.specs.declared.ends.ReadMark.{ReadMark}
use Rattle.rz_events.specs.declared.files.Listed.{Listed}
use Rattle.rz_events.specs.declared.ends.WriteEnd.{WriteEnd}
use Rattle.rz_events.specs.declared.events.Word.TheVariants.{Export}
use Rattle.rz_events.specs.declared.events.Event.{Event}
use Rattle.rz_events.specs.declared.events.Event.TheVariants as e
use Rattle.rz_events.specs.Events.{word_of}
use Rattle.rz_export_model.specs.Export.{export_reply}
use Rattle.rz_core.specs.History.{Facts, of_actor}
use Rattle.rz_core.specs.Own.{is_end, IsBetween}
use Rattle.rz_client_model.specs.declared.reading.ReaderState.{ReaderState}
use Rattle.rz_client_model.specs.declared.reading.ReadStage.{ReadStage}
use Rattle.rz_client_model.specs.declared.reading.ReadStage.TheVariants as reading
use Rattle.rz_client_model.specs.declared.reading.Fetches.{Fetches}
use Rattle.rz_client_model.specs.declared.writing.WriterState.{WriterState}
use Rattle.rz_client_model.specs.declared.writing.WriteStage.{WriteStage}
use Rattle.rz_client_model.specs.declared.writing.WriteStage.TheVariants as writing
use Rattle.rz_client_model.specs.declared.writing.SentRecords.{SentRecords}
use Rattle.rz_client_model.specs.Read.{next_position as next_read}
use Rattle.rz_client_model.specs.Write.{mask_of, next_position}
use Rattle.rz_events.specs.declared.machines.ReaderAsk.TheVariants as reads
use Rattle.rz_events.specs.declared.machines.WriterAsk.TheVariants as writes
use Rattle.rz_events.specs.declared.operations.Operation.{Operation}
use Rattle.rz_operation_model.specs.Rebuild.{RebuildState, Rebuild, Going, Ended as RebuildEnded, ask_to_copy, Tally, Probing, Enrolling, Replacing, Listing, Copying, Refilling, Leaving}
use Rattle.rz_operation_model.specs.Work.{Work, RangePlan, WriteBytes, ReadBytes, Course, Alone, Within, Calling, Dropping, Opening, Locking, Writing, Reading, Rebuilding, Ending, Over}
use Rattle.rz_operation_model.specs.Ask.{Ask, AskExport, AskNode, AskLock, Say, Saying, SayGot, SayGave, SayLeft, SayDone, ask_of, is_part, read_asks, write_asks, rebuild_asks, first_byte, whole_bytes}
use Rattle.rz_operation_model.specs.Steps.{Told, Replied, Locked, Answered, Missed, Noted, begun, told, in_rebuild, rebuild_after, reader_after, writer_after, after_got, after_gave}
use Rattle.rz_operation_model.specs.Turns.{IsStep, IsExportStep, IsNodeStep, said_event}
use Rattle.rz_play.specs.World.{World, Agenda}
use Rattle.rz_play.specs.Turns.{kind_of}
use Rattle.rz_locks.specs.declared.conflict.Lock.{Lock}
use Rattle.rz_play_laws.specs.Own.{IsOwnOf, IsOfActor}
use Rattle.rz_play_laws.proofs.Steps.{export-step, node-step, say-step}
use Rattle.rz_play_laws.proofs.Events.{export-event, node-event}
use Rattle.rz_play_locks.specs.Operations.{in_hand, ended}
use Rattle.rz_play_locks.specs.Holding.{lock_for, IsCourseLock, IsAlone, IsHolding, InHand}
use Rattle.rz_play_locks.proofs.Moves.{IsLockAfter}
use Rattle.rz_play_locks.proofs.Holds.{Later, calling-later, dropping-later, opening-later, reading-later, writing-later, locked-later, part-later, block-later}

-- an event of the export ends no operation
export-going : (x : Event) → word_of x ≡ Export → is_end x ≡ false
export-going (e.Got by number key part end) is = cc
export-going (e.Gave by number key part end) is = cc
export-going (e.Done by number answer) is = cc
export-going (_) is = refl

-- what a write asks while it sends, and a read while it fetches, where the test is known
abbrev pub send_asks : Course → List ℕ → Layout → Key → List ℕ → ℕ → SentRecords → Bool → Ask
send_asks course text layout key places size t0 b =
    write_asks (is_part course) text (record { layout = layout; key = key; places = places; length = size; stage = writing.Sending t0 })
    (cond b (writes.Keep (next_position t0) (slice_index places (next_position t0)) t0.stamp t0.base) (writes.Publish t0.stamp (mask_of t0.why)))

abbrev pub fetch_asks : Bool → Key → List ℕ → Fetches → Bool → Ask
fetch_asks part key places t0 b = read_asks part key None (cond b reads.Recheck (reads.Fetch (next_read t0) (slice_index places (next_read t0)) t0.stamp))

abbrev pub copy_asks : Layout → ℕ → Key → List ℕ → Fetches → Bool → Ask
copy_asks layout n key places t0 b = rebuild_asks layout n (ask_to_copy key (cond b reads.Recheck (reads.Fetch (next_read t0) (slice_index places (next_read t0)) t0.stamp)))

-- the events end no operation, and are not none
pub record IsQuiet (o xs : List Event) : Type 0 where
  pub same : ended (xs ++ o) ≡ ended o
  pub going : ¬ IsBetween (xs ++ o)

one-quiet : (o : List Event) (x : Event) → is_end x ≡ false → IsQuiet o (x ∷ [])
one-quiet o x is = record { same = ap (λ b. cond b (ended o + 1) (ended o)) is; going = λ between. cc }

more-quiet : (o : List Event) (x y : Event) → is_end x ≡ false → is_end y ≡ false → IsQuiet o (y ∷ x ∷ [])
more-quiet o x y is is_y = record {
  same = ap (λ b. cond b (ended (x ∷ o) + 1) (ended (x ∷ o))) is_y ∙ (one-quiet o x is).same;
  going = λ between. cc;
}

module _ (v : Volume) (ops : Actor → List Operation) (h : List Event) (by : Actor) (number : ℕ) (op : Operation)
    (count : ended (of_actor by h) + 1 ≡ number) (at : in_hand (ops by) (of_actor by h) ≡ Some op) where
  abbrev o : List Event
  o = of_actor by h

  abbrev After : List Event → Option Lock → Work → Type 0
  After xs lock work = InHand v.layout ops (xs ++ o) by number lock work

  abbrev Between : List Event → Work → Type 0
  Between xs work = work ≡ Over → IsBetween (xs ++ o)

  finish : (xs : List Event) (lock : Option Lock) (work : Work) → IsQuiet o xs → Later v.layout op lock work → Between xs work → After xs lock work
  finish xs lock work quiet later between = go work later between
    where
      count' : ended (xs ++ o) + 1 ≡ number
      count' = ap (λ k. k + 1) quiet.same ∙ count

      at' : in_hand (ops by) (xs ++ o) ≡ Some op
      at' = ap (slice_get (ops by)) quiet.same ∙ at

      go : (z : Work) → Later v.layout op lock z → Between xs z → After xs lock z
      go Over later between = absurd (quiet.going (between refl))
      go (Calling c) later between = (count', (op, at', later))
      go (Dropping fid n places) later between = (count', (op, at', later))
      go (Opening path plan) later between = (count', (op, at', later))
      go (Locking path plan) later between = (count', (op, at', later))
      go (Writing c text s) later between = (count', (op, at', later))
      go (Reading c s) later between = (count', (op, at', later))
      go (Rebuilding n s) later between = (count', (op, at', later))
      go (Ending answer) later between = (count', (op, at', later))

  module _ (lock : Option Lock) where
    by-export : (c : Call) (W : Told → Work) → ((r : Reply) → Later v.layout op lock (W (Replied r)))
        → (t : Told) (xs : List Event) → IsExportStep by c t xs → Between xs (W t) → After xs lock (W t)
    by-export c W later t xs step =
        export-step by c (λ t xs. Between xs (W t) → After xs lock (W t))
        (λ r x is between. finish (x ∷ []) lock (W (Replied r)) (one-quiet o x (export-going x (export-event by c r x is).word_is)) (later r) between) t xs step

    by-node : (n : ℕ) (question : NodeAsk) (W : Told → Work) → IsOfActor question → ((t : Told) → Later v.layout op lock (W t))
        → (t : Told) (xs : List Event) → IsNodeStep by n question t xs → Between xs (W t) → After xs lock (W t)
    by-node n question W ok later t xs step =
        node-step by n question (λ t xs. Between xs (W t) → After xs lock (W t))
        (λ given x is between. finish (x ∷ []) lock _ (one-quiet o x (node-event by n question given x ok is).going) (later (Answered true given)) between)
        (λ given x is link between. finish (e.Missed by n true ∷ x ∷ []) lock _ (more-quiet o x (e.Missed by n true) (node-event by n question given x ok is).going refl) (later Missed) between)
        (λ link between. finish (e.Missed by n false ∷ []) lock _ (one-quiet o (e.Missed by n false) refl) (later Missed) between) t xs step

    -- The write of a block.
    module _ (course : Course) (text : List ℕ) (layout : Layout) (key : Key) (places : List ℕ) (size : ℕ) (in_course : IsCourseLock v.layout op lock course key) (alone : IsAlone op course) where
      abbrev S : WriteStage → WriterState
      S stage = record { layout = layout; key = key; places = places; length = size; stage = stage }

      abbrev Sends : SentRecords → Told → Work
      Sends t0 t = told v.layout (Writing course text (S (writing.Sending t0))) t

      writes-on : (stage : WriteStage) (t : Told) → Later v.layout op lock (Writing course text (writer_after (S stage) t))
      writes-on stage t = writing-later v.layout op lock course text (S stage) t in_course alone

      sends : (t0 : SentRecords) (t : Told) → Later v.layout op lock (Sends t0 t)
      sends t0 (Replied r) = writes-on (writing.Sending t0) (Replied r)
      sends t0 (Locked granted r) = writes-on (writing.Sending t0) (Locked granted r)
      sends t0 (Answered fits given) = writes-on (writing.Sending t0) (Answered fits given)
      sends t0 Missed = writes-on (writing.Sending t0) Missed
      sends t0 (Noted found) = writes-on (writing.Sending t0) (Noted found)

      sending : (t0 : SentRecords) (t : Told) (xs : List Event) → (b : Bool)
          → IsStep by number (write_asks (is_part course) text (S (writing.Sending t0)) (cond b (writes.Keep (next_position t0) (slice_index places (next_position t0)) t0.stamp t0.base) (writes.Publish t0.stamp (mask_of t0.why)))) t xs
          → Between xs (Sends t0 t) → After xs lock (Sends t0 t)
      sending t0 t xs true step = by-node (slice_index places (next_position t0)) (ask.Keep _) (Sends t0) tt (sends t0) t xs step
      sending t0 t xs false step = by-export (call.Publish key t0.stamp (mask_of t0.why) size) (Sends t0) (λ r. sends t0 (Replied r)) t xs step

    -- The read of a block.
    module _ (course : Course) (layout : Layout) (key : Key) (places : List ℕ) (in_course : IsCourseLock v.layout op lock course key) where
      abbrev R : ReadStage → ReaderState
      R stage = record { layout = layout; key = key; places = places; stage = stage }

      abbrev Reads : ReadStage → Told → Work
      Reads stage t = told v.layout (Reading course (R stage)) t

      reads-on : (stage : ReadStage) (t : Told) → Later v.layout op lock (Reading course (reader_after (R stage) t))
      reads-on stage t = reading-later v.layout op lock course (R stage) t in_course

      fetches : (t0 : Fetches) (t : Told) → Later v.layout op lock (Reads (reading.Fetching t0) t)
      fetches t0 (Replied r) = reads-on (reading.Fetching t0) (Replied r)
      fetches t0 (Locked granted r) = reads-on (reading.Fetching t0) (Locked granted r)
      fetches t0 (Answered fits given) = reads-on (reading.Fetching t0) (Answered fits given)
      fetches t0 Missed = reads-on (reading.Fetching t0) Missed
      fetches t0 (Noted found) = reads-on (reading.Fetching t0) (Noted found)

      fetching : (t0 : Fetches) (t : Told) (xs : List Event) → (b : Bool)
          → IsStep by number (read_asks (is_part course) key None (cond b reads.Recheck (reads.Fetch (next_read t0) (slice_index places (next_read t0)) t0.stamp))) t xs
          → Between xs (Reads (reading.Fetching t0) t) → After xs lock (Reads (reading.Fetching t0) t)
      fetching t0 t xs true step = by-export (call.Recheck key) (Reads (reading.Fetching t0)) (λ r. fetches t0 (Replied r)) t xs step
      fetching t0 t xs false step = by-node (slice_index places (next_read t0)) (ask.Fetch key (next_read t0) t0.stamp) (Reads (reading.Fetching t0)) tt (fetches t0) t xs step

  -- Words.

  said-end : (o' : List Event) (x : Event) → is_end x ≡ true → ended (x ∷ o') ≡ ended o' + 1
  said-end o' x is = ap (λ b. cond b (ended o' + 1) (ended o')) is

  over : (x : Event) (lock : Option Lock) → is_end x ≡ true → lock ≡ None → After (x ∷ []) lock Over
  over x lock is none = (said-end o x is ∙ count, none)

  gave-turn : (course : Course) (key : Key) (lock : Option Lock) → IsCourseLock v.layout op lock course key → (text : List ℕ) (end : WriteEnd)
      → Between (e.Gave by number key (is_part course) end ∷ []) (after_gave v.layout course end)
      → After (e.Gave by number key (is_part course) end ∷ []) lock (after_gave v.layout course end)
  gave-turn Alone key lock is text end between = over (e.Gave by number key false end) lock refl is
  gave-turn (Within r) key lock is text end between =
      let x = e.Gave by number key true end in
      finish (x ∷ []) lock (after_gave v.layout (Within r) end) (one-quiet o x refl) (block-later v.layout op lock r key is end) between

  got-turn : (course : Course) (key : Key) (lock : Option Lock) → IsCourseLock v.layout op lock course key → (text : List ℕ) (m : ReadMark) (x : Event) → is_end x ≡ not (is_part course)
      → Between (x ∷ []) (after_got v.layout course text m) → After (x ∷ []) lock (after_got v.layout course text m)
  got-turn Alone key lock is text m x end between = over x lock end is
  got-turn (Within r) key lock is text m x end between =
      finish (x ∷ []) lock (after_got v.layout (Within r) text m) (one-quiet o x end) (part-later v.layout op lock r text key is m) between

  by-say : (now : Option Lock) (said : Saying) (W : Told → Work)
      → ((text : List ℕ) → Between (said_event by number text said ∷ []) (W (Noted text)) → After (said_event by number text said ∷ []) now (W (Noted text)))
      → (t : Told) (xs : List Event) → IsStep by number (Say said) t xs → Between xs (W t) → After xs now (W t)
  by-say now said W f t xs step = say-step by number said (λ t xs. Between xs (W t) → After xs now (W t)) f t xs step

  -- Every turn.
  module _ (w : World) (s : Agenda) (f : Facts) (all run : List Event) (t : Told) (xs : List Event) (now : Option Lock) where
    abbrev Turn : Work → Type 0
    Turn work = IsStep by number (ask_of v.layout work) t xs → IsLockAfter w by s (ask_of v.layout work) t now
        → Between xs (told v.layout work t) → After xs now (told v.layout work t)

    same : (work : Work) → now ≡ s.lock → After xs s.lock work → After xs now work
    same work is after = subst (λ z. After xs z work) (sym is) after

    -- the turn of an open with a lock
    lock-turn : (path : List ℕ) (plan : RangePlan) (exclusive : Bool) (from size : ℕ) → begun op ≡ Locking path plan → s.lock ≡ None
        → ((fid : ℕ) → lock_for v.layout path plan fid ≡ Some (record { range = record { fid = fid; from = from; length = size }; kind = kind_of exclusive }))
        → IsStep by number (AskLock path exclusive from size) t xs → IsLockAfter w by s (AskLock path exclusive from size) t now
        → Between xs (told v.layout (Locking path plan) t) → After xs now (told v.layout (Locking path plan) t)
    lock-turn path plan exclusive from size is none for step (granted, (t_is, free, now_is)) between =
        let r = export_reply w.export (call.Tree (tree.OpenFile path)) in
        let quiet : IsQuiet o xs = subst (IsQuiet o) (sym step.5) (one-quiet o step.2 (export-going step.2 (export-event by (call.Tree (tree.OpenFile path)) step.1 step.2 step.4).word_is)) in
        finish xs now (told v.layout (Locking path plan) t) quiet
        (subst (λ z. Later v.layout op now (told v.layout (Locking path plan) z)) (sym t_is)
        (locked-later v.layout op s.lock now none path plan exclusive from size granted r is for now_is)) between

    locking-turn : (path : List ℕ) (plan : RangePlan) → begun op ≡ Locking path plan → s.lock ≡ None → Turn (Locking path plan)
    locking-turn path (WriteBytes offset bytes) is none =
        lock-turn path (WriteBytes offset bytes) true (first_byte v.layout offset) (whole_bytes v.layout offset (length bytes)) is none (λ fid. refl)
    locking-turn path (ReadBytes offset size) is none =
        lock-turn path (ReadBytes offset size) false (first_byte v.layout offset) (whole_bytes v.layout offset size) is none (λ fid. refl)

    writing-turn : (course : Course) (text : List ℕ) (layout : Layout) (key : Key) (places : List ℕ) (size : ℕ) → IsCourseLock v.layout op s.lock course key → IsAlone op course
        → (stage : WriteStage) → Turn (Writing course text (record { layout = layout; key = key; places = places; length = size; stage = stage }))
    writing-turn course text layout key places size is alone writing.Beginning step lk between =
        let W = told v.layout (Writing course text (record { layout = layout; key = key; places = places; length = size; stage = writing.Beginning })) in
        same (W t) lk (by-export s.lock (call.Begin key text) W (λ r. writes-on s.lock course text layout key places size is alone writing.Beginning (Replied r)) t xs step between)
    writing-turn course text layout key places size is alone (writing.Sending t0) step lk between = go (nat_lt t0.kept (forward_of layout)) step lk
      where
        go : (b : Bool) → IsStep by number (send_asks course text layout key places size t0 b) t xs → IsLockAfter w by s (send_asks course text layout key places size t0 b) t now
            → After xs now (told v.layout (Writing course text (record { layout = layout; key = key; places = places; length = size; stage = writing.Sending t0 })) t)
        go true step lk = same (told v.layout (Writing course text (record { layout = layout; key = key; places = places; length = size; stage = writing.Sending t0 })) t) lk (sending s.lock course text layout key places size is alone t0 t xs true step between)
        go false step lk = same (told v.layout (Writing course text (record { layout = layout; key = key; places = places; length = size; stage = writing.Sending t0 })) t) lk (sending s.lock course text layout key places size is alone t0 t xs false step between)
    writing-turn course text layout key places size is alone (writing.Ended end) step lk between =
        by-say now (SayGave key (is_part course) end) (told v.layout (Writing course text (record { layout = layout; key = key; places = places; length = size; stage = writing.Ended end })))
        (λ found. gave-turn course key now (subst (λ z. IsCourseLock v.layout op z course key) (sym lk.1) is) found end) t xs step between

    reading-turn : (course : Course) (layout : Layout) (key : Key) (places : List ℕ) → IsCourseLock v.layout op s.lock course key
        → (stage : ReadStage) → Turn (Reading course (record { layout = layout; key = key; places = places; stage = stage }))
    reading-turn course layout key places is reading.Looking step lk between =
        let W = told v.layout (Reading course (record { layout = layout; key = key; places = places; stage = reading.Looking })) in
        same (W t) lk (by-export s.lock (call.Look key) W (λ r. reads-on s.lock course layout key places is reading.Looking (Replied r)) t xs step between)
    reading-turn course layout key places is (reading.Fetching t0) step lk between = go (t0.left == 0) step lk
      where
        go : (b : Bool) → IsStep by number (fetch_asks (is_part course) key places t0 b) t xs → IsLockAfter w by s (fetch_asks (is_part course) key places t0 b) t now
            → After xs now (told v.layout (Reading course (record { layout = layout; key = key; places = places; stage = reading.Fetching t0 })) t)
        go true step lk = same (told v.layout (Reading course (record { layout = layout; key = key; places = places; stage = reading.Fetching t0 })) t) lk (fetching s.lock course layout key places is t0 t xs true step between)
        go false step lk = same (told v.layout (Reading course (record { layout = layout; key = key; places = places; stage = reading.Fetching t0 })) t) lk (fetching s.lock course layout key places is t0 t xs false step between)
    reading-turn course layout key places is (reading.Ended m) step lk between =
        by-say now (SayGot key (is_part course) m) (told v.layout (Reading course (record { layout = layout; key = key; places = places; stage = reading.Ended m })))
        (λ found. got-turn course key now (subst (λ z. IsCourseLock v.layout op z course key) (sym lk.1) is) found m (said_event by number found (SayGot key (is_part course) m)) refl) t xs step between

    -- The rebuild of a node: a key that is copied is still being fetched.

    node-asks : (n : ℕ) (state : RebuildState) (m : ℕ) (question : NodeAsk) → IsOfActor question → ((z : Told) → Later v.layout op s.lock (told v.layout (Rebuilding n state) z))
        → IsStep by number (AskNode m question) t xs → now ≡ s.lock → Between xs (told v.layout (Rebuilding n state) t) → After xs now (told v.layout (Rebuilding n state) t)
    node-asks n state m question ok later step lk between = same (told v.layout (Rebuilding n state) t) lk (by-node s.lock m question (told v.layout (Rebuilding n state)) ok later t xs step between)

    export-asks : (n : ℕ) (state : RebuildState) (c : Call) → ((z : Told) → Later v.layout op s.lock (told v.layout (Rebuilding n state) z))
        → IsStep by number (AskExport c) t xs → now ≡ s.lock → Between xs (told v.layout (Rebuilding n state) t) → After xs now (told v.layout (Rebuilding n state) t)
    export-asks n state c later step lk between = same (told v.layout (Rebuilding n state) t) lk (by-export s.lock c (told v.layout (Rebuilding n state)) (λ r. later (Replied r)) t xs step between)

    rebuild-later : (n : ℕ) (r : Rebuild) → Later v.layout op s.lock (in_rebuild n r)
    rebuild-later n (Going state) = tt
    rebuild-later n (RebuildEnded end) = tt

    -- what a rebuild does next needs no lock
    later-of : (n : ℕ) (state : RebuildState) (z : Told) → Later v.layout op s.lock (told v.layout (Rebuilding n state) z)
    later-of n state z = rebuild-later n (rebuild_after v.layout state z)

    copying-turn : (n : ℕ) (t0 : Tally) (l : Listed) (base : ℕ) (ft : Fetches) (layout : Layout) → Turn (Rebuilding n (Copying t0 l base (record { layout = layout; key = l.key; places = l.info.places; stage = reading.Fetching ft })))
    copying-turn n t0 l base ft layout step lk between = go (ft.left == 0) step lk
      where
        go : (b : Bool) → IsStep by number (copy_asks v.layout n l.key l.info.places ft b) t xs → IsLockAfter w by s (copy_asks v.layout n l.key l.info.places ft b) t now
            → After xs now (told v.layout (Rebuilding n (Copying t0 l base (record { layout = layout; key = l.key; places = l.info.places; stage = reading.Fetching ft }))) t)
        go true step lk = export-asks n (Copying t0 l base (record { layout = layout; key = l.key; places = l.info.places; stage = reading.Fetching ft })) (call.Recheck l.key) (later-of n (Copying t0 l base (record { layout = layout; key = l.key; places = l.info.places; stage = reading.Fetching ft }))) step lk between
        go false step lk = node-asks n (Copying t0 l base (record { layout = layout; key = l.key; places = l.info.places; stage = reading.Fetching ft })) (slice_index l.info.places (next_read ft)) (ask.Fetch l.key (next_read ft) ft.stamp) tt (later-of n (Copying t0 l base (record { layout = layout; key = l.key; places = l.info.places; stage = reading.Fetching ft }))) step lk between

    rebuilding-turn : (n : ℕ) (state : RebuildState) → IsOwnOf v f all run by (Rebuilding n state) → Turn (Rebuilding n state)
    rebuilding-turn n Probing own step lk between = node-asks n Probing n ask.Probe tt (later-of n Probing) step lk between
    rebuilding-turn n (Enrolling loss) own step lk between = export-asks n (Enrolling loss) (call.Enroll n loss) (later-of n (Enrolling loss)) step lk between
    rebuilding-turn n (Replacing loss fence) own step lk between = node-asks n (Replacing loss fence) n (ask.Replace loss fence) tt (later-of n (Replacing loss fence)) step lk between
    rebuilding-turn n (Listing t0) own step lk between = export-asks n (Listing t0) (call.Next n t0.after) (later-of n (Listing t0)) step lk between
    rebuilding-turn n (Copying t0 l base r) own step lk between =
        subst (λ z. Turn (Rebuilding n (Copying t0 l base z))) (sym own.1.1.1.state_is) (copying-turn n t0 l base own.1.1.0 v.layout) step lk between
    rebuilding-turn n (Refilling t0 l size base) own step lk between = node-asks n (Refilling t0 l size base) n (ask.Refill t0.fence _) tt (later-of n (Refilling t0 l size base)) step lk between
    rebuilding-turn n (Leaving t0 key why) own step lk between =
        by-say now (SayLeft key why) (told v.layout (Rebuilding n (Leaving t0 key why)))
        (λ text between. finish (e.Left by key why ∷ []) now (told v.layout (Rebuilding n (Leaving t0 key why)) (Noted text)) (one-quiet o (e.Left by key why) refl) tt between) t xs step between

    pub hand-turn : (work : Work) → IsOwnOf v f all run by work → IsHolding v.layout op s.lock work → Turn work
    hand-turn (Calling c) own holds step lk between = same (told v.layout (Calling c) t) lk (by-export s.lock (call.Tree c) (told v.layout (Calling c)) (λ r. calling-later v.layout op s.lock c r) t xs step between)
    hand-turn (Dropping fid n places) own holds step lk between =
        same (told v.layout (Dropping fid n places) t) lk (by-node s.lock n (ask.Drop fid) (told v.layout (Dropping fid n places)) tt (λ z. dropping-later v.layout op s.lock fid n places z) t xs step between)
    hand-turn (Opening path plan) own holds step lk between =
        same (told v.layout (Opening path plan) t) lk (by-export s.lock (call.Tree (tree.OpenFile path)) (told v.layout (Opening path plan)) (λ r. opening-later v.layout op s.lock path plan r holds.0 holds.1) t xs step between)
    hand-turn (Locking path plan) own holds step lk between = locking-turn path plan holds.0 holds.1 step lk between
    hand-turn (Writing course text z) own holds step lk between = writing-turn course text z.layout z.key z.places z.length holds.0 holds.1 z.stage step lk between
    hand-turn (Reading course z) own holds step lk between = reading-turn course z.layout z.key z.places holds z.stage step lk between
    hand-turn (Rebuilding n state) own holds step lk between = rebuilding-turn n state own step lk between
    hand-turn (Ending answer) own holds step lk between =
        by-say now (SayDone answer) (told v.layout (Ending answer)) (λ text between. over (e.Done by number answer) now refl lk.1) t xs step between
    hand-turn Over own holds step lk between = absurd step
