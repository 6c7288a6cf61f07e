-- From turn to turn a read knows the length of the text that it looks for.
use Rattle.std.proofs.Common.{◌≡◌, ◌⊎◌, inl, inr, ℕ, zero, suc, Bool, true, false, cond, ◌==◌, nat_lt, ◌<◌, List, [], ◌∷◌, ◌++◌, length, Option, Some, None, refl, sym, ◌∙◌, ap, subst, arith}
use Rattle.std.specs.Prelude.{slice_index}
use Rattle.mj_angles.specs.declared.layout.Layout.{Layout}
use Rattle.mj_angles.specs.Layout.{inverse_of}
use Rattle.rz_events.specs.Volume.{Volume}
use Rattle.rz_events.specs.Masks.{stamp_told}
use Rattle.rz_events.specs.Events.{same_actor}
use Rattle.rz_events.specs.declared.keys.Key.{Key}
use Rattle.rz_events.specs.declared.keys.Actor.{Actor}
use Rattle.rz_events.specs.declared.records.Held.{Held}
use Rattle.rz_events.specs.declared.ends.ReadMark.TheVariants as mark
use Rattle.rz_events.specs.declared.ends.Seen.TheVariants as seen
use Rattle.rz_events.specs.declared.export.Call.TheVariants as call
use Rattle.rz_events.specs.declared.export.Reply.{Reply}
use Rattle.rz_events.specs.declared.export.Reply.TheVariants as reply
use Rattle.rz_events.specs.declared.tree.TreeCall.TheVariants as tree
use Rattle.rz_events.specs.declared.nodes.NodeAsk.{NodeAsk}
use Rattle.rz_events.specs.declared.nodes.NodeAsk.TheVariants as ask
use Rattle.rz_events.specs.declared.nodes.NodeAnswer.TheVariants as answer
use Rattle.rz_events.specs.declared.nodes.FetchAnswer.{FetchAnswer}
use Rattle.rz_events.specs.declared.nodes.FetchAnswer.TheVariants as fetch
use Rattle.rz_events.specs.declared.machines.ReaderAsk.TheVariants as reads
use Rattle.rz_events.specs.declared.operations.Operation.{Operation}
use Rattle.rz_events.specs.declared.operations.Operation.TheVariants as operation
use Rattle.rz_events.specs.declared.events.Event.{Event}
use Rattle.rz_events.specs.declared.events.Event.TheVariants as e
use Rattle.rz_node_model.specs.NodeEvents.{fetch_event}
use Rattle.rz_export_model.specs.Export.{export_reply}
use Rattle.rz_export_model.specs.ExportEvents.{look_event}
use Rattle.rz_client_model.specs.declared.reading.ReaderState.{ReaderState}
use Rattle.rz_client_model.specs.declared.reading.ReadStage.{ReadStage}
use Rattle.rz_client_model.specs.declared.reading.ReadStage.TheVariants.{Looking, Fetching, Ended}
use Rattle.rz_client_model.specs.declared.reading.Fetches.{Fetches}
use Rattle.rz_client_model.specs.Read.{after_fetch, unless_enough, with_record, with_seen, next_position}
use Rattle.rz_operation_model.specs.Ask.{Ask, AskExport, AskNode, AskLock, Say, Rest, ask_of, is_part, read_asks}
use Rattle.rz_operation_model.specs.Work.{Work, Course, Calling, Dropping, Opening, Locking, Writing, Reading, Rebuilding, Ending, Over}
use Rattle.rz_operation_model.specs.Steps.{Told, Replied, Locked, Answered, Missed, Noted, told}
use Rattle.rz_operation_model.specs.Turns.{IsStep, IsNodeStep, Through, ReplyLost, RequestLost, goes_by_link, said_event}
use Rattle.rz_core.specs.History.{Facts, Begun, facts}
use Rattle.rz_core.specs.Legal.{IsLegalInRuns}
use Rattle.rz_core.specs.NodeRows.{IsRecord}
use Rattle.rz_core.proofs.Extends.{Extends, extends-more}
use Rattle.rz_play.specs.World.{World, Agenda as APlayer, at_work, begin_next}
use Rattle.rz_play.specs.Turns.{IsTurn, IsAskTurn, IsLost, counted, text_said}
use Rattle.rz_play.specs.Turns as turns
use Rattle.rz_play_laws.specs.Own.{IsToldBy}
use Rattle.rz_play_laws.specs.Fine.{IsTelling, IsFine}
use Rattle.rz_play_laws.proofs.Frames.{same_actor-true}
use Rattle.rz_play_laws.proofs.Turning.{agenda-mine, agenda-other, in-runs}
use Rattle.rz_block_laws.proofs.Texts.{same-begun, not-zero}
use Rattle.rz_driver.specs.Coherence.{KnowsLength, KnowsLengths}
use Rattle.rz_driver.proofs.FreshLengths.{got, calling, dropping, opening, locking, writing, rebuilding, ending}

-- ---- the facts grow

module _ (f g : Facts) (grows : Extends f g) where
  stage-grows : (stage : ReadStage) → KnowsLength f stage → KnowsLength g stage
  stage-grows (Fetching t) k = (k.0, grows.wrote t.stamp k.0 k.1, k.2)
  stage-grows (Ended (mark.Found stamp size)) k = (k.0, grows.wrote stamp k.0 k.1, k.2)
  stage-grows _ k = tt

  pub lengths-grow : (work : Work) → KnowsLengths f work → KnowsLengths g work
  lengths-grow (Reading course s) k = stage-grows s.stage k
  lengths-grow _ k = tt

-- ---- a record came, or none

module _ (y : Layout) (g : Facts) (t : Fetches) (b : Begun) (wrote : g.wrote t.stamp ≡ Some b) (long : 0 < t.given → t.length ≡ length b.text) where
  -- the length of the first record
  counts : (size : ℕ) → size ≡ length b.text → cond (t.given == 0) size t.length ≡ length b.text
  counts size is = go t.given refl
    where
      go : (n : ℕ) → t.given ≡ n → cond (t.given == 0) size t.length ≡ length b.text
      go zero none = ap (λ (k : ℕ). cond (k == 0) size t.length) none ∙ is
      go (suc n) some = ap (λ (k : ℕ). cond (k == 0) size t.length) some ∙ ap (λ (z : Bool). cond z size t.length) (not-zero n) ∙ long (subst (λ (k : ℕ). 0 < k) (sym some) (omega arith))

  enough : (size : ℕ) → size ≡ length b.text → KnowsLength g (unless_enough y true (with_record t size))
  enough size is = go (nat_lt (with_record t size).given (inverse_of y))
    where
      go : (z : Bool) → KnowsLength g (cond z (Fetching (with_record t size)) (Ended (mark.Found t.stamp (with_record t size).length)))
      go true = (b, wrote, λ some. counts size is)
      go false = (b, wrote, counts size is)

  came : (a : FetchAnswer) → ((r : Held) → a ≡ fetch.Held r → r.length ≡ length b.text) → KnowsLength g (after_fetch y true t a)
  came (fetch.Held r) is = go (r.stamp == t.stamp)
    where
      go : (z : Bool) → KnowsLength g (cond z (unless_enough y true (with_record t r.length)) (Fetching (with_seen t seen.Held)))
      go true = enough r.length (is r refl)
      go false = (b, wrote, long)
  came fetch.Nothing is = (b, wrote, long)
  came fetch.Lost is = (b, wrote, long)
  came fetch.Down is = (b, wrote, long)
  came fetch.DiskFault is = (b, wrote, long)

-- ---- a turn of a read

-- the newest of these events says what is so for good
abbrev pub IsFirstTold : Volume → Facts → List Event → Type 0
IsFirstTold v g [] = Unit {0}
IsFirstTold v g (x ∷ xs) = IsToldBy v g x

module _ (v : Volume) (by : Actor) (number : ℕ) (g : Facts) (xs : List Event) (y z : Layout) (course : Course) (key : Key) (places : List ℕ) where
  abbrev at : ReadStage → ReaderState
  at stage = record { layout = z; key = key; places = places; stage = stage }

  abbrev Asked : ReadStage → Ask
  Asked stage = ask_of y (Reading course (at stage))

  -- it looked the block up
  looked : (r : Reply) (x : Event) → look_event by (call.Look key) r ≡ Some x → IsToldBy v g x → KnowsLengths g (told y (Reading course (at Looking)) (Replied r))
  looked (reply.Looked None) x is said = tt
  looked (reply.Looked (Some p)) x is said =
      let there : IsToldBy v g (e.Look by key (Some p)) = subst (λ (w : Event). IsToldBy v g w) (sym (same-event (e.Look by key (Some p)) x is)) said in
      (there.0, there.1, λ some. absurd (omega (arith, some)))
    where
      same-event : (a b : Event) → Some a ≡ Some b → a ≡ b
      same-event a b same = cc
  looked (reply.Denied why) x is said = tt
  looked (reply.Tree r) x is said = absurd cc
  looked (reply.Begun stamp base) x is said = absurd cc
  looked reply.Accepted x is said = absurd cc
  looked (reply.Enrolled position fence) x is said = absurd cc
  looked (reply.Fence fence) x is said = absurd cc
  looked (reply.Listed l) x is said = absurd cc
  looked reply.NoMemory x is said = absurd cc
  looked (reply.Revoked later) x is said = absurd cc

  -- it fetches
  module _ (t : Fetches) (b : Begun) (wrote : g.wrote t.stamp ≡ Some b) (long : 0 < t.given → t.length ≡ length b.text) where
    abbrev Now : Told → Type 0
    Now u = KnowsLengths g (told y (Reading course (at (Fetching t))) u)

    recheck : (now : ℕ) (z : Bool) → KnowsLength g (Ended (cond z (mark.TooFew t.seen) (mark.Moved t.stamp now)))
    recheck now true = tt
    recheck now false = tt

    replied : (r : Reply) → Now (Replied r)
    replied (reply.Looked p) = recheck (stamp_told p) (stamp_told p == t.stamp)
    replied (reply.Denied why) = tt
    replied (reply.Tree r) = (b, wrote, long)
    replied (reply.Begun stamp base) = (b, wrote, long)
    replied reply.Accepted = (b, wrote, long)
    replied (reply.Enrolled position fence) = (b, wrote, long)
    replied (reply.Fence fence) = (b, wrote, long)
    replied (reply.Listed l) = (b, wrote, long)
    replied reply.NoMemory = (b, wrote, long)
    replied (reply.Revoked later) = (b, wrote, long)

    record-told : (n position : ℕ) (x : Event) (r : Held) → Some (fetch_event by n key position t.stamp (fetch.Held r)) ≡ Some x → IsToldBy v g x → r.length ≡ length b.text
    record-told n position x r is said =
        let there : IsToldBy v g (e.Fetch by n key position t.stamp (Some r)) = subst (λ (w : Event). IsToldBy v g w) (sym (same-event _ x is)) said in
        let it : IsRecord g t.stamp r there.0 = there.1 in
        it.length ∙ ap (λ (o : Begun). length o.text) (same-begun there.0 b (sym it.found ∙ wrote))
      where
        same-event : (a b : Event) → Some a ≡ Some b → a ≡ b
        same-event a b same = cc

    fetched : (n position : ℕ) (u : Told) (ys : List Event) → IsNodeStep by n (ask.Fetch key position t.stamp) u ys → IsFirstTold v g ys → Now u
    fetched n position _ _ (Through (answer.Fetch a) x is) said = came z g t b wrote long a (λ r same. record-told n position x r (ap (λ (o : FetchAnswer). Some (fetch_event by n key position t.stamp o)) (sym same) ∙ is) said)
    fetched n position _ _ (Through (_) x is) said = absurd cc
    fetched n position _ _ (ReplyLost given x is loses) said = (b, wrote, long)
    fetched n position _ _ (RequestLost loses) said = (b, wrote, long)

    fetching : (u : Told) → (z : Bool) → IsStep by number (read_asks (is_part course) key None (cond z reads.Recheck (reads.Fetch (next_position t) (slice_index places (next_position t)) t.stamp))) u xs → IsFirstTold v g xs → Now u
    fetching u true step said = subst Now (sym step.2) (replied step.0)
    fetching u false step said = fetched (slice_index places (next_position t)) (next_position t) u xs step said

  reading : (stage : ReadStage) (u : Told) → KnowsLength g stage → IsStep by number (Asked stage) u xs → IsFirstTold v g xs → KnowsLengths g (told y (Reading course (at stage)) u)
  reading Looking u k step said =
      subst (λ (w : Told). KnowsLengths g (told y (Reading course (at Looking)) w)) (sym step.2)
      (looked step.0 step.1 step.3 (subst (IsFirstTold v g) step.4 said))
  reading (Fetching t) u k step said = fetching t k.0 k.1 k.2 u (t.left == 0) step said
  reading (Ended m) u k step said = subst (λ (w : Told). KnowsLengths g (told y (Reading course (at (Ended m))) w)) (sym step.1) (got g y course step.0 m)

-- ---- any work

lengths-go : (v : Volume) (by : Actor) (number : ℕ) (f g : Facts) → Extends f g → (y : Layout) (work : Work) (u : Told) (xs : List Event) → KnowsLengths f work → IsStep by number (ask_of y work) u xs → IsFirstTold v g xs
    → KnowsLengths g (told y work u)
lengths-go v by number f g grows y (Calling c) u xs k step said = calling g y c u
lengths-go v by number f g grows y (Dropping fid n places) u xs k step said = dropping g y fid n places u
lengths-go v by number f g grows y (Opening path plan) u xs k step said = opening g y path plan u
lengths-go v by number f g grows y (Locking path plan) u xs k step said = locking g y path plan u
lengths-go v by number f g grows y (Writing course text s) u xs k step said = writing g y course text s u
lengths-go v by number f g grows y (Reading course s) u xs k step said = reading v by number g xs y s.layout course s.key s.places s.stage u (stage-grows f g grows s.stage k) step said
lengths-go v by number f g grows y (Rebuilding n s) u xs k step said = rebuilding g y n s u
lengths-go v by number f g grows y (Ending a) u xs k step said = ending g y a u
lengths-go v by number f g grows y Over u xs k step said = absurd step

-- ---- a turn in the world of a play

begun-knows : (f : Facts) (s : APlayer) (op : Operation) (ops : List Operation) → KnowsLengths f (begin_next s Over (op ∷ ops)).work
begun-knows f s (operation.Tree c) ops = tt
begun-knows f s (operation.Put path block datum) ops = tt
begun-knows f s (operation.Get path block) ops = tt
begun-knows f s (operation.Write path offset datum) ops = tt
begun-knows f s (operation.Read path offset count) ops = tt
begun-knows f s (operation.Rebuild n) ops = tt
begun-knows f s (operation.Update path offset datum) ops = tt
begun-knows f s (operation.View path offset count) ops = tt

-- an operation is taken up
taken-knows : (f : Facts) (s : APlayer) (work : Work) (ops : List Operation) → KnowsLengths f s.work → KnowsLengths f (begin_next s work ops).work
taken-knows f s Over [] k = k
taken-knows f s Over (op ∷ ops) k = begun-knows f s op ops
taken-knows f s (Calling c) ops k = k
taken-knows f s (Dropping fid n places) ops k = k
taken-knows f s (Opening path plan) ops k = k
taken-knows f s (Locking path plan) ops k = k
taken-knows f s (Writing course text w) ops k = k
taken-knows f s (Reading course r) ops k = k
taken-knows f s (Rebuilding n r) ops k = k
taken-knows f s (Ending a) ops k = k

pub at-work-knows : (f : Facts) (s : APlayer) → KnowsLengths f s.work → KnowsLengths f (at_work s).work
at-work-knows f s k = taken-knows f s s.work s.todo k

-- what the actor at work was told, and the events of its turn
record IsWent (v : Volume) (w next : World) (by : Actor) (s : APlayer) (a : Ask) : Type 0 where
  pub t : Told
  pub xs : List Event
  pub step : IsStep by s.number a t xs
  pub log_is : next.log ≡ xs ++ w.log
  pub work_is : (next.agendas by).work ≡ told v.layout s.work t
  pub others : (o : Actor) → same_actor o by ≡ false → next.agendas o ≡ w.agendas o

module _ (v : Volume) (w next : World) (by : Actor) (s : APlayer) where
  -- of a turn that is told by the actor's agenda and events
  went : (a : Ask) (t : Told) (xs : List Event) (z : World) (after : APlayer) → IsStep by s.number a t xs → next ≡ z → z.log ≡ xs ++ w.log → z.agendas ≡ (λ o. cond (same_actor o by) after (w.agendas o)) → after.work ≡ told v.layout s.work t → IsWent v w next by s a
  went a t xs z after step is log agendas work = record {
    t = t;
    xs = xs;
    step = step;
    log_is = ap (λ (x : World). x.log) is ∙ log;
    work_is = ap (λ (x : World). (x.agendas by).work) is ∙ ap (λ (f : Actor → APlayer). (f by).work) agendas ∙ ap (λ (x : APlayer). x.work) (agenda-mine by after (w.agendas by)) ∙ work;
    others = λ o apart. ap (λ (x : World). x.agendas o) is ∙ ap (λ (f : Actor → APlayer). f o) agendas ∙ agenda-other o by (same_actor o by) after (w.agendas o) apart;
  }

  lost-link : (question : NodeAsk) (miss : Option Bool) (reply : Bool) → IsLost miss question reply → goes_by_link question ≡ true
  lost-link question None reply is = is
  lost-link question (Some planned) reply is = is.0

  step-of : (a : Ask) → IsAskTurn v w by s a next → (next ≡ w) ⊎ IsWent v w next by s a
  step-of (AskExport c) (x, is, next_is) = inr (went (AskExport c) (Replied (export_reply w.export c)) (x ∷ []) _ _ (export_reply w.export c, x, refl, is, refl) next_is refl refl refl)
  step-of (AskLock path exclusive from count) (x, is, granted, free, next_is) =
      let reply = export_reply w.export (call.Tree (tree.OpenFile path)) in
      inr (went (AskLock path exclusive from count) (Locked granted reply) (x ∷ []) _ _ (granted, reply, x, refl, is, refl) next_is refl refl refl)
  step-of (AskNode n question) (turns.Through t) = inr (went (AskNode n question) (Answered true t.0) (t.1 ∷ []) _ _ (Through t.0 t.1 t.2.event) t.4 refl refl refl)
  step-of (AskNode n question) (turns.ReplyLost t) =
      inr (went (AskNode n question) Missed (e.Missed by n true ∷ t.1 ∷ []) _ _ (ReplyLost t.0 t.1 t.2.event (lost-link question s.miss true t.3)) t.4 refl refl refl)
  step-of (AskNode n question) (turns.RequestLost t) =
      inr (went (AskNode n question) Missed (e.Missed by n false ∷ []) _ _ (RequestLost (lost-link question s.miss false t.0)) t.1 refl refl refl)
  step-of (Say said) next_is =
      let text = text_said (facts w.log) said in
      inr (went (Say said) (Noted text) (said_event by s.number text said ∷ []) _ _ (text, refl, refl) next_is refl refl refl)
  step-of Rest next_is = inl next_is

module _ (v : Volume) (telling : IsTelling v) where
  first-told : (xs h h' : List Event) → h' ≡ xs ++ h → IsLegalInRuns v h' → IsFirstTold v (facts (xs ++ h)) xs
  first-told [] h h' is legal = tt
  first-told (x ∷ more) h h' is legal = telling (more ++ h) x (subst (IsLegalInRuns v) is legal)

  pub lengths-turn : (old : List Event) (by : Actor) (w next : World) → IsTurn v by w next → IsFine v old next → ((a : Actor) → KnowsLengths (facts w.log) (w.agendas a).work) → (a : Actor) → KnowsLengths (facts next.log) (next.agendas a).work
  lengths-turn old by w next turn fine knows a = elim (step-of v (counted w) next by (at_work (w.agendas by)) (ask_of v.layout (at_work (w.agendas by)).work) turn) [
    | inl same ↦ subst (λ (x : World). KnowsLengths (facts x.log) (x.agendas a).work) (sym same) (knows a)
    | inr g ↦ after g (same_actor a by) refl
  ]
    where
      s : APlayer
      s = at_work (w.agendas by)

      after : IsWent v (counted w) next by (at_work (w.agendas by)) (ask_of v.layout (at_work (w.agendas by)).work) → (z : Bool) → same_actor a by ≡ z → KnowsLengths (facts next.log) (next.agendas a).work
      after g true is =
          let whole = g.xs ++ w.log in
          let grows = extends-more g.xs w.log in
          let now = lengths-go v by (at_work (w.agendas by)).number (facts w.log) (facts whole) grows v.layout (at_work (w.agendas by)).work g.t g.xs (at-work-knows (facts w.log) (w.agendas by) (knows by)) g.step
          (first-told g.xs w.log next.log g.log_is (in-runs v old next fine)) in
          subst (λ (h : List Event). KnowsLengths (facts h) (next.agendas a).work) (sym g.log_is)
          (subst (λ (o : Actor). KnowsLengths (facts whole) (next.agendas o).work) (sym (same_actor-true a by is))
          (subst (KnowsLengths (facts whole)) (sym g.work_is) now))
      after g false apart =
          let whole = g.xs ++ w.log in
          subst (λ (h : List Event). KnowsLengths (facts h) (next.agendas a).work) (sym g.log_is)
          (subst (λ (o : APlayer). KnowsLengths (facts whole) o.work) (sym (g.others a apart))
          (lengths-grow (facts w.log) (facts whole) (extends-more g.xs w.log) (w.agendas a).work (knows a)))
