-- After its own turn a view has seen what was published at its open.
use Rattle.std.proofs.Common.{◌≡◌, inl, inr, ◌<◌, ◌≤◌, ◌+◌, ◌-◌, ◌/◌, ◌%◌, ◌==◌, min, ℕ, Bool, true, false, cond, List, [], ◌∷◌, ◌++◌, Option, Some, None, refl, sym, ◌∙◌, ap, subst, arith}
use Rattle.std.specs.Prelude.{slice_index}
use Rattle.std.proofs.lemmas.Bool.{eqb-true}
use Rattle.std.proofs.Math.Nat.{mod-lt}
use Rattle.mj_angles.specs.declared.layout.Layout.{Layout}
use Rattle.mj_angles.specs.Layout.{block_bytes_of}
use Rattle.rz_events.specs.Volume.{Volume}
use Rattle.rz_events.specs.declared.keys.Actor.{Actor}
use Rattle.rz_events.specs.declared.keys.Key.{Key}
use Rattle.rz_events.specs.declared.files.FileInfo.{FileInfo}
use Rattle.rz_events.specs.declared.tree.TreeCall.{TreeCall}
use Rattle.rz_events.specs.declared.tree.TreeCall.TheVariants as tree
use Rattle.rz_events.specs.declared.tree.TreeReply.{TreeReply}
use Rattle.rz_events.specs.declared.tree.TreeReply.TheVariants as answer
use Rattle.rz_events.specs.declared.export.Call.TheVariants as call
use Rattle.rz_events.specs.declared.export.Reply.{Reply}
use Rattle.rz_events.specs.declared.export.Reply.TheVariants as reply
use Rattle.rz_events.specs.declared.nodes.NodeAsk.{NodeAsk}
use Rattle.rz_events.specs.declared.nodes.NodeAsk.TheVariants as ask
use Rattle.rz_events.specs.declared.nodes.DropAnswer.TheVariants as drops
use Rattle.rz_events.specs.declared.nodes.NodeAnswer.TheVariants as node
use Rattle.rz_events.specs.declared.ends.ReadMark.{ReadMark}
use Rattle.rz_events.specs.declared.ends.ReadMark.TheVariants as mark
use Rattle.rz_events.specs.declared.events.Answer.{Answer}
use Rattle.rz_events.specs.declared.events.Answer.TheVariants as answers
use Rattle.rz_events.specs.declared.events.Word.TheVariants.{Node}
use Rattle.rz_events.specs.declared.events.Event.{Event}
use Rattle.rz_events.specs.declared.events.Event.TheVariants as e
use Rattle.rz_events.specs.Events.{word_of}
use Rattle.rz_export_model.specs.ExportEvents.{export_event}
use Rattle.rz_core.specs.History.{facts, text_in}
use Rattle.rz_core.specs.Legal.{IsLegalInRuns}
use Rattle.rz_core.proofs.NodeSteps.{the_some}
use Rattle.rz_client_model.specs.declared.reading.ReaderState.{ReaderState}
use Rattle.rz_client_model.specs.declared.reading.ReadStage.{ReadStage}
use Rattle.rz_client_model.specs.declared.reading.ReadStage.TheVariants as reading
use Rattle.rz_client_model.specs.declared.writing.WriterState.{WriterState}
use Rattle.rz_client_model.specs.Read.{next_position as next_read}
use Rattle.rz_events.specs.declared.operations.Operation.{Operation}
use Rattle.rz_events.specs.declared.operations.Operation.TheVariants as operation
use Rattle.rz_operation_model.specs.Ranges.{RangeState, Aim, Taking, Giving, key_in, start_in, count_in, passed, cut}
use Rattle.rz_operation_model.specs.Rebuild.{RebuildState, Rebuild, Going, Ended as RebuildEnded}
use Rattle.rz_events.specs.declared.machines.FileEnd.TheVariants as end
use Rattle.rz_operation_model.specs.Files.{Ended as FileEnded, next_block, go_on, with_text, after_part}
use Rattle.rz_client_model.specs.Read.{reader_end}
use Rattle.rz_client_model.specs.Write.{writer_end}
use Rattle.rz_events.specs.declared.ends.WriteEnd.{WriteEnd}
use Rattle.rz_operation_model.specs.Work.{Work, RangePlan, WriteBytes, ReadBytes, Alone, Within, Calling, Dropping, Opening, Locking, Writing, Reading, Rebuilding, Ending, Over}
use Rattle.rz_operation_model.specs.Ask.{Ask, Say, ask_of}
use Rattle.rz_operation_model.specs.Steps.{Told, Replied, Locked, Answered, Missed, Noted, begun, told, in_range, whole_answer, in_rebuild, rebuild_after, drop_at, said_reading, said_writing, after_call, read_end}
use Rattle.rz_operation_model.specs.Turns.{IsStep, IsExportStep, IsNodeStep}
use Rattle.rz_locks.specs.declared.conflict.Lock.{Lock}
use Rattle.rz_play.specs.Turns.{found_text, text_said}
use Rattle.rz_play_laws.specs.Own.{IsOfActor}
use Rattle.rz_play_laws.proofs.Frames.{same_actor-refl}
use Rattle.rz_play_laws.proofs.Steps.{export-step, node-step, lock-step}
use Rattle.rz_play_laws.proofs.Events.{node-event}
use Rattle.rz_play_laws.proofs.Blocks.{block-some}
use Rattle.rz_play_locks.specs.Operations.{IsGuarded}
use Rattle.rz_play_locks.specs.Promises.{published_text, text_of, last_open, key_at, file_bytes, AllGuarded, IsViewWhole, IsViewedAt}
use Rattle.rz_play_locks.specs.Holding.{OfPlan, IsTaking, IsToGive, IsPlanLocked, IsRange, IsHolding}
use Rattle.rz_play_locks.specs.Texts.{ReadsPublished, IsText}
use Rattle.rz_play_locks.specs.Views.{IsSoFar, IsSeenAt}
use Rattle.rz_play_locks.proofs.Holds.{guarded-back}
use Rattle.rz_play_locks.proofs.Bytes.{more-bytes}
use Rattle.rz_play_locks.proofs.Turned.{fetch_asks}
use Rattle.rz_play_locks.proofs.Published.{AreSilent, accepted-same, text-same, node-quiet}

-- The events open no file for the actor, and publish nothing.
pub record IsStill (a : Actor) (old xs run : List Event) : Type 0 where
  pub opens : last_open a old (xs ++ run) ≡ last_open a old run
  pub silent : (key : Key) → AreSilent key xs

node-open : (a : Actor) (old : List Event) (x : Event) (run : List Event) (n : ℕ) → word_of x ≡ Node n → last_open a old (x ∷ run) ≡ last_open a old run
node-open a old (e.Meta b c r) run n is = cc
node-open a old (_) run n is = refl

still-node : (a by : Actor) (n : ℕ) (question : NodeAsk) (old run : List Event) → IsOfActor question → (t : Told) (xs : List Event) → IsNodeStep by n question t xs → IsStill a old xs run
still-node a by n question old run ok t xs step = record {
  opens = node-step by n question (λ t xs. last_open a old (xs ++ run) ≡ last_open a old run)
      (λ given x is. node-open a old x run n (node-event by n question given x ok is).word_is)
      (λ given x is link. node-open a old x run n (node-event by n question given x ok is).word_is)
      (λ link. refl) t xs step;
  silent = λ key. node-quiet by n question key ok t xs step;
}

still-look : (a by : Actor) (key : Key) (old run : List Event) (t : Told) (xs : List Event) → IsExportStep by (call.Look key) t xs → IsStill a old xs run
still-look a by key old run t xs step = export-step by (call.Look key) (λ t xs. IsStill a old xs run) go t xs step
  where
    go : (r : Reply) (x : Event) → export_event by (call.Look key) r ≡ Some x → IsStill a old (x ∷ []) run
    go (reply.Looked p) x is = subst (λ z. IsStill a old (z ∷ []) run) (the_some _ x is) (record { opens = refl; silent = λ k. (refl, tt) })
    go (reply.Denied why) x is = subst (λ z. IsStill a old (z ∷ []) run) (the_some _ x is) (record { opens = refl; silent = λ k. (refl, tt) })
    go (_) x is = cc

still-recheck : (a by : Actor) (key : Key) (old run : List Event) (t : Told) (xs : List Event) → IsExportStep by (call.Recheck key) t xs → IsStill a old xs run
still-recheck a by key old run t xs step = export-step by (call.Recheck key) (λ t xs. IsStill a old xs run) go t xs step
  where
    go : (r : Reply) (x : Event) → export_event by (call.Recheck key) r ≡ Some x → IsStill a old (x ∷ []) run
    go (reply.Looked p) x is = subst (λ z. IsStill a old (z ∷ []) run) (the_some _ x is) (record { opens = refl; silent = λ k. (refl, tt) })
    go (reply.Denied why) x is = subst (λ z. IsStill a old (z ∷ []) run) (the_some _ x is) (record { opens = refl; silent = λ k. (refl, tt) })
    go (_) x is = cc

pub all-back : (layout : Layout) (ops : Actor → List Operation) (xs run : List Event) (info : FileInfo) (offset size : ℕ) → AllGuarded layout ops (xs ++ run) info offset size → AllGuarded layout ops run info offset size
all-back layout ops xs run info offset size all i low = guarded-back ops (key_at info ((offset + i) / block_bytes_of layout)) xs run (all i low)

-- an answer of which nothing is promised
pub viewed-other : (layout : Layout) (ops : Actor → List Operation) (run : List Event) (offset count : ℕ) (answer : Answer) → ((info : FileInfo) (g : List Event) (size : ℕ) → IsViewWhole layout info g offset size answer)
    → (opened : Option (FileInfo × List Event)) → IsViewedAt layout ops run offset count opened answer
viewed-other layout ops run offset count answer is None = tt
viewed-other layout ops run offset count answer is (Some opened) = λ all. is opened.0 opened.1 (min count (opened.0.size - offset))

-- what was seen stays so where each block's text stays
pub so-far-frame : (layout : Layout) (ops : Actor → List Operation) (old run h xs : List Event) (a : Actor) (offset count : ℕ) (r : RangeState) → last_open a old (xs ++ run) ≡ last_open a old run
    → (AllGuarded layout ops (xs ++ run) r.info offset r.size → (i : ℕ) → i < r.size
    → published_text (xs ++ h) (key_at r.info ((offset + i) / block_bytes_of layout)) ≡ published_text h (key_at r.info ((offset + i) / block_bytes_of layout)))
    → IsSoFar layout ops old run h a offset count r → IsSoFar layout ops old (xs ++ run) (xs ++ h) a offset count r
so-far-frame layout ops old run h xs a offset count r opens same is = record {
  before = is.before;
  opened = opens ∙ is.opened;
  size_is = is.size_is;
  texts = λ all i low. same all i low ∙ is.texts (all-back layout ops xs run r.info offset r.size all) i low;
  bytes = is.bytes;
  aim_is = is.aim_is;
  bytes_are = λ all. is.bytes_are (all-back layout ops xs run r.info offset r.size all);
}

module _ (v : Volume) (ops : Actor → List Operation) (old run h : List Event) (log_is : h ≡ run ++ old) (before : IsLegalInRuns v h) (by : Actor) (path0 : List ℕ) (offset count : ℕ) where
  abbrev op : Operation
  op = operation.View path0 offset count

  abbrev V : List Event → Work → Type 0
  V xs work = IsSeenAt v.layout ops old (xs ++ run) (xs ++ h) by offset count work

  abbrev B : ℕ
  B = block_bytes_of v.layout

  other : (xs : List Event) (answer : Answer) → ((info : FileInfo) (g : List Event) (size : ℕ) → IsViewWhole v.layout info g offset size answer) → V xs (Ending answer)
  other xs answer is = viewed-other v.layout ops (xs ++ run) offset count answer is (last_open by old (xs ++ run))

  still-so-far : (xs : List Event) → IsStill by old xs run → (r : RangeState) → IsSoFar v.layout ops old run h by offset count r → IsSoFar v.layout ops old (xs ++ run) (xs ++ h) by offset count r
  still-so-far xs still r is =
      so-far-frame v.layout ops old run h xs by offset count r still.opens
      (λ all i low. text-same v xs h (key_at r.info ((offset + i) / B)) before (accepted-same xs h (key_at r.info ((offset + i) / B)) (still.silent (key_at r.info ((offset + i) / B))))) is

  -- the range goes on
  go-seen : (xs : List Event) (r : RangeState) → IsSoFar v.layout ops old (xs ++ run) (xs ++ h) by offset count r → V xs (in_range (go_on v.layout r))
  go-seen xs r is = go (r.done == r.size) refl
    where
      all-of : AllGuarded v.layout ops (xs ++ run) r.info offset (min count (r.info.size - offset)) → AllGuarded v.layout ops (xs ++ run) r.info offset r.size
      all-of all = subst (AllGuarded v.layout ops (xs ++ run) r.info offset) (sym is.size_is) all

      whole : r.done ≡ r.size → V xs (Ending (whole_answer (Taking is.bytes) r.done))
      whole done = subst (λ z. IsViewedAt v.layout ops (xs ++ run) offset count z (answers.Read is.bytes)) (sym is.opened)
          (λ all. is.bytes_are (all-of all) ∙ ap (file_bytes v.layout (λ block. published_text is.before (key_at r.info block)) offset) (done ∙ is.size_is))

      go : (b : Bool) → (r.done == r.size) ≡ b → V xs (in_range (cond b (FileEnded r (end.Whole r.done)) (next_block v.layout r r.aim)))
      go true done = subst (λ z. V xs (Ending (whole_answer z r.done))) (sym is.aim_is) (whole (eqb-true r.done r.size done))
      go false left = subst (λ z. V xs (in_range (next_block v.layout r z))) (sym is.aim_is) is

  -- the block in hand was found with the text that is published
  passed-seen : (xs : List Event) → IsStill by old xs run → (r : RangeState) → IsSoFar v.layout ops old run h by offset count r → r.offset ≡ offset → r.done < r.size → (text : List ℕ)
      → (IsGuarded ops (key_in v.layout r) run → text ≡ published_text h (key_in v.layout r)) → V xs (in_range (with_text v.layout r text r.aim))
  passed-seen xs still r is at left text published =
      subst (λ z. V xs (in_range (with_text v.layout r text z))) (sym is.aim_is)
      (go-seen xs (passed v.layout r (Taking (is.bytes ++ cut (start_in v.layout r) (count_in v.layout r) text)))
      (still-so-far xs still (passed v.layout r (Taking (is.bytes ++ cut (start_in v.layout r) (count_in v.layout r) text)))
      (record {
        before = is.before;
        opened = is.opened;
        size_is = is.size_is;
        texts = is.texts;
        bytes = is.bytes ++ cut (start_in v.layout r) (count_in v.layout r) text;
        aim_is = refl;
        bytes_are = λ all.
            ap (λ (l : List ℕ). l ++ cut (start_in v.layout r) (count_in v.layout r) text) (is.bytes_are all)
            ∙ ap (λ (l : List ℕ). file_bytes v.layout texts offset r.done ++ cut (start_in v.layout r) (count_in v.layout r) l) (text-is all)
            ∙ ap (λ o. file_bytes v.layout texts offset r.done ++ cut ((o + r.done) % B) (count_in v.layout r) (texts ((o + r.done) / B))) at
            ∙ sym (more-bytes v.layout texts offset r.done (count_in v.layout r) (subst (λ o. (o + r.done) % B + count_in v.layout r ≤ B) at fits));
      })))
    where
      texts : ℕ → List ℕ
      texts block = published_text is.before (key_at r.info block)

      fits : start_in v.layout r + count_in v.layout r ≤ B
      fits = let m = mod-lt (r.offset + r.done) (block-some v.layout) in omega (arith, m)

      key-is : key_at r.info ((offset + r.done) / B) ≡ key_in v.layout r
      key-is = ap (λ o. key_at r.info ((o + r.done) / B)) (sym at)

      text-is : AllGuarded v.layout ops run r.info offset r.size → text ≡ texts ((r.offset + r.done) / B)
      text-is all = published (subst (λ (k : Key). IsGuarded ops k run) key-is (all r.done left))
          ∙ ap (published_text h) (sym key-is) ∙ is.texts all r.done left ∙ ap (λ o. texts ((o + r.done) / B)) (sym at)

  -- how its read ended
  part-seen : (xs : List Event) → IsStill by old xs run → (lock : Option Lock) (r : RangeState) (key : Key) → IsRange v.layout op lock r key → r.offset ≡ offset → IsSoFar v.layout ops old run h by offset count r
      → (m : ReadMark) → (IsGuarded ops key run → ReadsPublished h key (reading.Ended m)) → V xs (in_range (after_part v.layout r (found_text (facts h) m) m))
  part-seen xs still lock r key range at is (mark.Found s size) newest =
      passed-seen xs still r is at range.left (found_text (facts h) (mark.Found s size)) (λ guarded.
      (let n = newest (subst (λ (k : Key). IsGuarded ops k run) (sym range.key_is) guarded) in
      sym (subst (λ (k : Key). published_text h k ≡ text_in ((facts h).wrote s)) range.key_is (ap (text_of (facts h)) n.1))))
  part-seen xs still lock r key range at is mark.Hole newest =
      passed-seen xs still r is at range.left [] (λ guarded.
      (let n = newest (subst (λ (k : Key). IsGuarded ops k run) (sym range.key_is) guarded) in
      sym (subst (λ (k : Key). published_text h k ≡ []) range.key_is (ap (text_of (facts h)) n))))
  part-seen xs still lock r key range at is (mark.Moved was now) newest =
      subst (λ z. IsViewedAt v.layout ops (xs ++ run) offset count z (answers.ShortRead r.done (read_end [] (mark.Moved was now)))) (sym (still.opens ∙ is.opened))
      (λ all. newest (subst (λ (k : Key). IsGuarded ops k run) (ap (λ o. key_at r.info ((o + r.done) / B)) (sym at) ∙ sym range.key_is)
      (guarded-back ops (key_at r.info ((offset + r.done) / B)) xs run (all r.done (let left = range.left in let size = is.size_is in omega (arith, left, size))))))
  part-seen xs still lock r key range at is (mark.TooFew seen) newest = other xs (answers.ShortRead r.done _) (λ info g size. tt)
  part-seen xs still lock r key range at is mark.Inconsistent newest = other xs (answers.ShortRead r.done _) (λ info g size. tt)
  part-seen xs still lock r key range at is (mark.Denied cause) newest = other xs (answers.ShortRead r.done _) (λ info g size. tt)

  -- The file is open, with a lock.
  open-seen : (xs : List Event) (path : List ℕ) (granted : Bool) (r : Reply) (x : Event) → export_event by (call.Tree (tree.OpenFile path)) r ≡ Some x
      → V (x ∷ []) (told v.layout (Locking path (ReadBytes offset count)) (Locked granted r))
  open-seen xs path true (reply.Tree (answer.File info)) x is =
      subst (λ z. V (z ∷ []) (told v.layout (Locking path (ReadBytes offset count)) (Locked true (reply.Tree (answer.File info))))) (the_some _ x is)
      (go-seen (e.Meta by (tree.OpenFile path) (answer.File info) ∷ []) (record { info = info; offset = offset; size = min count (info.size - offset); done = 0; aim = Taking [] })
      (record {
        before = run ++ old;
        opened = ap (λ b. cond b (Some (info, run ++ old)) (last_open by old run)) (same_actor-refl by);
        size_is = refl;
        texts = λ all i low.
            text-same v (e.Meta by (tree.OpenFile path) (answer.File info) ∷ []) h (key_at info ((offset + i) / B)) before refl
            ∙ ap (λ (z : List Event). published_text z (key_at info ((offset + i) / B))) log_is;
        bytes = [];
        aim_is = refl;
        bytes_are = λ all. refl;
      }))
  open-seen xs path true (reply.Tree (answer.Refused fault)) x is = other (x ∷ []) (answers.Refused fault) (λ info g size. tt)
  open-seen xs path true (reply.Tree (_)) x is = tt
  open-seen xs path true (_) x is = tt
  open-seen xs path false (reply.Tree (answer.File info)) x is = tt
  open-seen xs path false (reply.Tree (answer.Refused fault)) x is = other (x ∷ []) (answers.Refused fault) (λ info g size. tt)
  open-seen xs path false (reply.Tree (_)) x is = tt
  open-seen xs path false (_) x is = tt

  -- Every turn of its own.
  module _ (number : ℕ) (lock : Option Lock) (t : Told) (xs : List Event) where
    abbrev pub IsSaid : Ask → Told → Type 0
    IsSaid (Say said) t = t ≡ Noted (text_said (facts h) said)
    IsSaid _ t = Unit {0}

    abbrev Turn : Work → Type 0
    Turn work = IsStep by number (ask_of v.layout work) t xs → IsSaid (ask_of v.layout work) t → V xs (told v.layout work t)

    drop-next : (fid : ℕ) (places : List ℕ) → V xs (drop_at fid places)
    drop-next fid [] = other xs answers.Plain (λ info g size. tt)
    drop-next fid (n ∷ places) = tt

    call-seen : (a : TreeReply) → V xs (after_call a)
    call-seen (answer.Made fid) = other xs (answers.Created fid) (λ info g size. tt)
    call-seen (answer.MadeFile made) = other xs (answers.Created made.fid) (λ info g size. tt)
    call-seen (answer.Found fid kind) = other xs (answers.Found kind fid) (λ info g size. tt)
    call-seen (answer.Attr attr) = other xs (answers.Attr attr) (λ info g size. tt)
    call-seen answer.Plain = other xs answers.Plain (λ info g size. tt)
    call-seen (answer.Gone None) = other xs answers.Plain (λ info g size. tt)
    call-seen (answer.Gone (Some info)) = drop-next info.fid info.places
    call-seen (answer.Names names) = other xs (answers.Names names) (λ info g size. tt)
    call-seen (answer.Target target) = other xs (answers.Target target) (λ info g size. tt)
    call-seen (answer.File info) = tt
    call-seen (answer.Refused fault) = other xs (answers.Refused fault) (λ info g size. tt)

    calling-seen : (c : TreeCall) (t : Told) → V xs (told v.layout (Calling c) t)
    calling-seen c (Replied (reply.Tree a)) = call-seen a
    calling-seen c (Replied (_)) = tt
    calling-seen c (_) = tt

    drop-seen : (fid n : ℕ) (places : List ℕ) (t : Told) → V xs (told v.layout (Dropping fid n places) t)
    drop-seen fid n places (Answered fits (node.Drop (drops.Dropped block stamp true))) = tt
    drop-seen fid n places (Answered fits (node.Drop (drops.Dropped block stamp false))) = drop-next fid places
    drop-seen fid n places (Answered fits (node.Drop (_))) = drop-next fid places
    drop-seen fid n places (Answered fits (_)) = tt
    drop-seen fid n places Missed = drop-next fid places
    drop-seen fid n places (_) = tt

    rebuild-next : (n : ℕ) (r : Rebuild) → V xs (in_rebuild n r)
    rebuild-next n (Going state) = tt
    rebuild-next n (RebuildEnded end) = other xs (answers.Rebuild end) (λ info g size. tt)

    rebuild-seen : (n : ℕ) (state : RebuildState) (t : Told) → V xs (told v.layout (Rebuilding n state) t)
    rebuild-seen n state t = rebuild-next n (rebuild_after v.layout state t)

    reading-alone : (s : ReaderState) (t : Told) → V xs (told v.layout (Reading Alone s) t)
    reading-alone s (Noted text) = go (reader_end s)
      where
        go : (e : Option ReadMark) → V xs (said_reading v.layout Alone s text e)
        go None = tt
        go (Some m) = tt
    reading-alone s (Replied r) = tt
    reading-alone s (Locked granted r) = tt
    reading-alone s (Answered fits given) = tt
    reading-alone s Missed = tt

    writing-alone : (text : List ℕ) (s : WriterState) (t : Told) → V xs (told v.layout (Writing Alone text s) t)
    writing-alone text s (Noted found) = go (writer_end s)
      where
        go : (e : Option WriteEnd) → V xs (said_writing v.layout Alone text s e)
        go None = tt
        go (Some end) = tt
    writing-alone text s (Replied r) = tt
    writing-alone text s (Locked granted r) = tt
    writing-alone text s (Answered fits given) = tt
    writing-alone text s Missed = tt

    -- a read that has not ended goes on
    reading-on : (r : RangeState) (s : ReaderState) → reader_end s ≡ None → IsSoFar v.layout ops old (xs ++ run) (xs ++ h) by offset count r → (t : Told) → V xs (told v.layout (Reading (Within r) s) t)
    reading-on r s none is (Noted text) = subst (λ z. V xs (said_reading v.layout (Within r) s text z)) (sym none) is
    reading-on r s none is (Replied a) = is
    reading-on r s none is (Locked granted a) = is
    reading-on r s none is (Answered fits given) = is
    reading-on r s none is Missed = is

    -- a view gives nothing
    plan-of : (path : List ℕ) (plan : RangePlan) → begun op ≡ Locking path plan → plan ≡ ReadBytes offset count
    plan-of path plan is = cc

    never : (r : RangeState) (key : Key) → IsRange v.layout op lock r key → IsToGive r.aim → ⊥
    never r key is give = go is.held
      where
        both : (aim : Aim) → IsTaking aim → IsToGive aim → ⊥
        both (Taking bytes) taking give = give
        both (Giving bytes) taking give = taking

        go : IsPlanLocked v.layout op lock is.path is.plan r.info.fid → ⊥
        go (inl held) = (let k = held.0 in cc)
        go (inr held) = both r.aim (subst (λ z. OfPlan z r) (plan-of is.path is.plan held.0) is.range).2 give

    offset-of : (r : RangeState) (key : Key) → IsRange v.layout op lock r key → r.offset ≡ offset
    offset-of r key is = go is.held
      where
        go : IsPlanLocked v.layout op lock is.path is.plan r.info.fid → r.offset ≡ offset
        go (inl held) = absurd (let k = held.0 in cc)
        go (inr held) = (subst (λ z. OfPlan z r) (plan-of is.path is.plan held.0) is.range).0

    reading-within : (r : RangeState) (layout : Layout) (key : Key) (places : List ℕ) → IsRange v.layout op lock r key → IsSoFar v.layout ops old run h by offset count r → (stage : ReadStage)
        → IsText v.layout ops run h (Some op) (Reading (Within r) (record { layout = layout; key = key; places = places; stage = stage }))
        → Turn (Reading (Within r) (record { layout = layout; key = key; places = places; stage = stage }))
    reading-within r layout key places range is reading.Looking text step said =
        reading-on r (record { layout = layout; key = key; places = places; stage = reading.Looking }) refl (still-so-far xs (still-look by by key old run t xs step) r is) t
    reading-within r layout key places range is (reading.Fetching t0) text step said =
        reading-on r (record { layout = layout; key = key; places = places; stage = reading.Fetching t0 }) refl (go (t0.left == 0) step) t
      where
        go : (b : Bool) → IsStep by number (fetch_asks true key places t0 b) t xs → IsSoFar v.layout ops old (xs ++ run) (xs ++ h) by offset count r
        go true step = still-so-far xs (still-recheck by by key old run t xs step) r is
        go false step = still-so-far xs (still-node by by (slice_index places (next_read t0)) (ask.Fetch key (next_read t0) t0.stamp) old run tt t xs step) r is
    reading-within r layout key places range is (reading.Ended m) text step said =
        subst (λ z. V xs (told v.layout (Reading (Within r) (record { layout = layout; key = key; places = places; stage = reading.Ended m })) z)) (sym said)
        (part-seen xs (subst (λ (zs : List Event). IsStill by old zs run) (sym step.2) (record { opens = refl; silent = λ k. (refl, tt) })) lock r key range (offset-of r key range) is m (λ guarded. text tt guarded))

    pub seen-turn : (work : Work) → IsHolding v.layout op lock work → IsText v.layout ops run h (Some op) work → IsSeenAt v.layout ops old run h by offset count work → Turn work
    seen-turn (Calling c) holds text old step said = calling-seen c t
    seen-turn (Dropping fid n places) holds text old step said = drop-seen fid n places t
    seen-turn (Opening path plan) holds text old step said = absurd (let k = holds.0 in cc)
    seen-turn (Locking path plan) holds text old step said = locking plan (plan-of path plan holds.0) step
      where
        locking : (plan : RangePlan) → plan ≡ ReadBytes offset count → IsStep by number (ask_of v.layout (Locking path plan)) t xs → V xs (told v.layout (Locking path plan) t)
        locking (ReadBytes o c) is step =
            let k : V xs (told v.layout (Locking path (ReadBytes offset count)) t) = lock-step by path (λ t xs. V xs (told v.layout (Locking path (ReadBytes offset count)) t)) (λ granted r x at. open-seen [] path granted r x at) t xs step in
            subst (λ z. V xs (told v.layout (Locking path z) t)) (sym is) k
        locking (WriteBytes o bytes) is step = cc
    seen-turn (Writing (Within r) text s) holds known old step said = absurd (never r s.key holds.0 holds.1)
    seen-turn (Reading (Within r) s) holds text old step said = reading-within r s.layout s.key s.places holds old s.stage text step said
    seen-turn (Writing Alone text s) holds known old step said = writing-alone text s t
    seen-turn (Reading Alone s) holds text old step said = reading-alone s t
    seen-turn (Rebuilding n state) holds text old step said = rebuild-seen n state t
    seen-turn (Ending a) holds text old step said = subst (λ z. V xs (told v.layout (Ending a) z)) (sym said) tt
    seen-turn Over holds text old step said = absurd step
