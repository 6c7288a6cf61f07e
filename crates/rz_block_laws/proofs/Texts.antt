-- What an operation knows of the text that it looks for lasts, and stays known from turn to turn.
use Rattle.std.proofs.Common.{◌≡◌, ℕ, zero, suc, Bool, true, false, cond, ◌==◌, nat_lt, ◌<◌, List, [], ◌∷◌, length, Some, None, refl, sym, ◌∙◌, ap, subst, arith}
use Rattle.std.specs.Prelude.{slice_index}
use Rattle.std.proofs.lemmas.Bool.Decides.{nat_tests}
use Rattle.mj_angles.specs.declared.layout.Layout.{Layout}
use Rattle.mj_angles.specs.Layout.{inverse_of}
use Rattle.rz_events.specs.Volume.{Volume}
use Rattle.rz_events.specs.Masks.{stamp_told}
use Rattle.rz_events.specs.declared.keys.Key.{Key}
use Rattle.rz_events.specs.declared.keys.Actor.{Actor}
use Rattle.rz_events.specs.declared.records.Held.{Held}
use Rattle.rz_events.specs.declared.ends.ReadMark.TheVariants as mark
use Rattle.rz_events.specs.declared.ends.Seen.TheVariants as seen
use Rattle.rz_events.specs.declared.export.Call.TheVariants as call
use Rattle.rz_events.specs.declared.export.Reply.{Reply}
use Rattle.rz_events.specs.declared.export.Reply.TheVariants as reply
use Rattle.rz_events.specs.declared.nodes.NodeAsk.TheVariants as ask
use Rattle.rz_events.specs.declared.nodes.NodeAnswer.TheVariants as answer
use Rattle.rz_events.specs.declared.nodes.FetchAnswer.{FetchAnswer}
use Rattle.rz_events.specs.declared.nodes.FetchAnswer.TheVariants as fetch
use Rattle.rz_events.specs.declared.machines.ReaderAsk.TheVariants as reads
use Rattle.rz_events.specs.declared.events.Event.{Event}
use Rattle.rz_events.specs.declared.events.Event.TheVariants as e
use Rattle.rz_node_model.specs.NodeEvents.{fetch_event}
use Rattle.rz_export_model.specs.ExportEvents.{look_event}
use Rattle.rz_client_model.specs.declared.reading.ReaderState.{ReaderState}
use Rattle.rz_client_model.specs.declared.reading.ReadStage.{ReadStage}
use Rattle.rz_client_model.specs.declared.reading.ReadStage.TheVariants.{Looking, Fetching, Ended}
use Rattle.rz_client_model.specs.declared.reading.Fetches.{Fetches}
use Rattle.rz_client_model.specs.Read.{after_fetch, unless_enough, with_record, with_seen, next_position}
use Rattle.rz_operation_model.specs.Ask.{Ask, ask_of, is_part, read_asks}
use Rattle.rz_operation_model.specs.Work.{Work, Course, Calling, Dropping, Opening, Locking, Writing, Reading, Rebuilding, Ending, Over}
use Rattle.rz_operation_model.specs.Steps.{Told, Replied, told}
use Rattle.rz_operation_model.specs.Turns.{IsStep, IsNodeStep, Through, ReplyLost, RequestLost}
use Rattle.rz_core.specs.History.{Facts, Begun}
use Rattle.rz_core.specs.NodeRows.{IsRecord}
use Rattle.rz_play_laws.specs.Own.{GrowsTo, AreToldBy}
use Rattle.rz_block_laws.specs.Acting.{AreBytes, IsTextKnown, KnowsText, KnowsTexts, TellsBytes}
use Rattle.rz_block_laws.proofs.Fresh.{got, calling, dropping, opening, locking, writing, rebuilding, ending}

-- ---- the facts grow

module _ (f g : Facts) (grows : GrowsTo f g) where
  abbrev known-grows : (stamp : ℕ) → IsTextKnown f stamp → IsTextKnown g stamp
  known-grows stamp known = record { begun = known.begun; wrote = grows.wrote stamp known.begun known.wrote; bytes = known.bytes }

  stage-grows : (stage : ReadStage) → KnowsText f stage → KnowsText g stage
  stage-grows (Fetching t) k = (known-grows t.stamp k.0, k.1)
  stage-grows (Ended (mark.Found stamp size)) k = (known-grows stamp k.0, k.1)
  stage-grows _ k = tt

  pub texts-grow : (work : Work) → KnowsTexts f work → KnowsTexts g work
  texts-grow (Reading course s) k = stage-grows s.stage k
  texts-grow _ k = tt

-- ---- a record came, or none

pub not-zero : (n : ℕ) → (suc n == 0) ≡ false
not-zero n = grind (arith, nat_tests)

pub same-begun : (a b : Begun) → Some a ≡ Some b → a ≡ b
same-begun a b is = cc

module _ (y : Layout) (g : Facts) (t : Fetches) (known : IsTextKnown g t.stamp) (long : 0 < t.given → t.length ≡ length known.begun.text) where
  -- the length of the first record
  counted : (size : ℕ) → size ≡ length known.begun.text → cond (t.given == 0) size t.length ≡ length known.begun.text
  counted size is = go t.given refl
    where
      go : (n : ℕ) → t.given ≡ n → cond (t.given == 0) size t.length ≡ length known.begun.text
      go zero none = ap (λ (k : ℕ). cond (k == 0) size t.length) none ∙ is
      go (suc n) some = ap (λ (k : ℕ). cond (k == 0) size t.length) some ∙ ap (λ (b : Bool). cond b size t.length) (not-zero n) ∙ long (subst (λ (k : ℕ). 0 < k) (sym some) (omega arith))

  enough : (size : ℕ) → size ≡ length known.begun.text → KnowsText g (unless_enough y true (with_record t size))
  enough size is = go (nat_lt (with_record t size).given (inverse_of y))
    where
      go : (b : Bool) → KnowsText g (cond b (Fetching (with_record t size)) (Ended (mark.Found t.stamp (with_record t size).length)))
      go true = (known, λ some. counted size is)
      go false = (known, counted size is)

  came : (a : FetchAnswer) → ((r : Held) → a ≡ fetch.Held r → r.length ≡ length known.begun.text) → KnowsText g (after_fetch y true t a)
  came (fetch.Held r) is = go (r.stamp == t.stamp)
    where
      go : (b : Bool) → KnowsText g (cond b (unless_enough y true (with_record t r.length)) (Fetching (with_seen t seen.Held)))
      go true = enough r.length (is r refl)
      go false = (known, long)
  came fetch.Nothing is = (known, long)
  came fetch.Lost is = (known, long)
  came fetch.Down is = (known, long)
  came fetch.DiskFault is = (known, long)

-- ---- a turn of a read

module _ (v : Volume) (by : Actor) (number : ℕ) (g : Facts) (xs : List Event) (y z : Layout) (course : Course) (key : Key) (places : List ℕ) where
  abbrev at : ReadStage → ReaderState
  at stage = record { layout = z; key = key; places = places; stage = stage }

  abbrev Asked : ReadStage → Ask
  Asked stage = ask_of y (Reading course (at stage))

  -- it looked the block up
  looked : (r : Reply) (x : Event) → look_event by (call.Look key) r ≡ Some x → AreToldBy v g (x ∷ []) → AreBytes g → KnowsTexts g (told y (Reading course (at Looking)) (Replied r))
  looked (reply.Looked None) x is said bytes = tt
  looked (reply.Looked (Some p)) x is said bytes =
      let there : AreToldBy v g (e.Look by key (Some p) ∷ []) = subst (λ (w : Event). AreToldBy v g (w ∷ [])) (sym (same-event (e.Look by key (Some p)) x is)) said in
      let b = there.0.0 in
      let wrote = there.0.1 in
      (record { begun = b; wrote = wrote; bytes = bytes p.stamp b wrote }, λ some. absurd (omega (arith, some)))
    where
      same-event : (a b : Event) → Some a ≡ Some b → a ≡ b
      same-event a b same = cc
  looked (reply.Denied why) x is said bytes = tt
  looked (reply.Tree r) x is said bytes = absurd cc
  looked (reply.Begun stamp base) x is said bytes = absurd cc
  looked reply.Accepted x is said bytes = absurd cc
  looked (reply.Enrolled position fence) x is said bytes = absurd cc
  looked (reply.Fence fence) x is said bytes = absurd cc
  looked (reply.Listed l) x is said bytes = absurd cc
  looked reply.NoMemory x is said bytes = absurd cc
  looked (reply.Revoked later) x is said bytes = absurd cc

  -- it fetches
  module _ (t : Fetches) (known : IsTextKnown g t.stamp) (long : 0 < t.given → t.length ≡ length known.begun.text) where
    abbrev Now : Told → Type 0
    Now u = KnowsTexts g (told y (Reading course (at (Fetching t))) u)

    recheck : (now : ℕ) (b : Bool) → KnowsText g (Ended (cond b (mark.TooFew t.seen) (mark.Moved t.stamp now)))
    recheck now true = tt
    recheck now false = tt

    replied : (r : Reply) → Now (Replied r)
    replied (reply.Looked p) = recheck (stamp_told p) (stamp_told p == t.stamp)
    replied (reply.Denied why) = tt
    replied (reply.Tree r) = (known, long)
    replied (reply.Begun stamp base) = (known, long)
    replied reply.Accepted = (known, long)
    replied (reply.Enrolled position fence) = (known, long)
    replied (reply.Fence fence) = (known, long)
    replied (reply.Listed l) = (known, long)
    replied reply.NoMemory = (known, long)
    replied (reply.Revoked later) = (known, long)

    record-told : (n position : ℕ) (x : Event) (r : Held) → Some (fetch_event by n key position t.stamp (fetch.Held r)) ≡ Some x → AreToldBy v g (x ∷ []) → r.length ≡ length known.begun.text
    record-told n position x r is said =
        let there : AreToldBy v g (e.Fetch by n key position t.stamp (Some r) ∷ []) = subst (λ (w : Event). AreToldBy v g (w ∷ [])) (sym (same-event _ x is)) said in
        let it : IsRecord g t.stamp r there.0.0 = there.0.1 in
        it.length ∙ ap (λ (b : Begun). length b.text) (same-begun there.0.0 known.begun (sym it.found ∙ known.wrote))
      where
        same-event : (a b : Event) → Some a ≡ Some b → a ≡ b
        same-event a b same = cc

    fetched : (n position : ℕ) (u : Told) (ys : List Event) → IsNodeStep by n (ask.Fetch key position t.stamp) u ys → AreToldBy v g ys → Now u
    fetched n position _ _ (Through (answer.Fetch a) x is) said = came z g t known long a (λ r same. record-told n position x r (ap (λ (b : FetchAnswer). Some (fetch_event by n key position t.stamp b)) (sym same) ∙ is) said)
    fetched n position _ _ (Through (_) x is) said = absurd cc
    fetched n position _ _ (ReplyLost given x is loses) said = (known, long)
    fetched n position _ _ (RequestLost loses) said = (known, long)

    fetching : (u : Told) → (b : Bool) → IsStep by number (read_asks (is_part course) key None (cond b reads.Recheck (reads.Fetch (next_position t) (slice_index places (next_position t)) t.stamp))) u xs → AreToldBy v g xs → Now u
    fetching u true step said = subst Now (sym step.2) (replied step.0)
    fetching u false step said = fetched (slice_index places (next_position t)) (next_position t) u xs step said

  pub reading : (stage : ReadStage) (u : Told) → KnowsText g stage → IsStep by number (Asked stage) u xs → AreToldBy v g xs → TellsBytes g u → KnowsTexts g (told y (Reading course (at stage)) u)
  reading Looking u k step said bytes =
      subst (λ (w : Told). KnowsTexts g (told y (Reading course (at Looking)) w)) (sym step.2)
      (looked step.0 step.1 step.3 (subst (AreToldBy v g) step.4 said) (subst (TellsBytes g) step.2 bytes))
  reading (Fetching t) u k step said bytes = fetching t k.0 k.1 u (t.left == 0) step said
  reading (Ended m) u k step said bytes = subst (λ (w : Told). KnowsTexts g (told y (Reading course (at (Ended m))) w)) (sym step.1) (got g y course step.0 m)

-- ---- any work

pub texts-go : (v : Volume) (by : Actor) (number : ℕ) (f g : Facts) → GrowsTo f g → (y : Layout) (work : Work) (u : Told) (xs : List Event) → KnowsTexts f work → IsStep by number (ask_of y work) u xs → AreToldBy v g xs → TellsBytes g u
    → KnowsTexts g (told y work u)
texts-go v by number f g grows y (Calling c) u xs k step said bytes = calling g y c u
texts-go v by number f g grows y (Dropping fid n places) u xs k step said bytes = dropping g y fid n places u
texts-go v by number f g grows y (Opening path plan) u xs k step said bytes = opening g y path plan u
texts-go v by number f g grows y (Locking path plan) u xs k step said bytes = locking g y path plan u
texts-go v by number f g grows y (Writing course text s) u xs k step said bytes = writing g y course text s u
texts-go v by number f g grows y (Reading course s) u xs k step said bytes = reading v by number g xs y s.layout course s.key s.places s.stage u (stage-grows f g grows s.stage k) step said bytes
texts-go v by number f g grows y (Rebuilding n s) u xs k step said bytes = rebuilding g y n s u
texts-go v by number f g grows y (Ending a) u xs k step said bytes = ending g y a u
texts-go v by number f g grows y Over u xs k step said bytes = absurd step
