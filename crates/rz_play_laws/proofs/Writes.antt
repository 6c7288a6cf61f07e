-- The write of a block: what it asks is proper, and its own events say where it stands.
use Rattle.std.proofs.Common.{◌≡◌, inl, inr, ◌≢◌, ℕ, zero, suc, ◌+◌, ◌^◌, ◌<◌, ◌≤◌, nat_lt, Bool, true, false, cond, List, [], ◌∷◌, ◌++◌, length, get_or, refl, sym, ◌∙◌, ap, subst, arith, Some, None}
use Rattle.std.specs.Prelude.{slice_get, slice_index}
use Rattle.std.proofs.lemmas.Bool.{eq-eqb, ltb-true, ltb-false, lt-ltb, and_from}
use Rattle.std.proofs.lemmas.Option.{slice_get-get_or}
use Rattle.mj_angles.specs.declared.layout.Layout.{Layout}
use Rattle.mj_angles.specs.Layout.{forward_of, safe_of, block_bytes_of}
use Rattle.rz_events.specs.Volume.{Volume}
use Rattle.rz_events.specs.declared.keys.Key.{Key}
use Rattle.rz_events.specs.declared.keys.Actor.{Actor}
use Rattle.rz_events.specs.declared.ends.Why.{Why}
use Rattle.rz_events.specs.declared.ends.Why.TheVariants as why
use Rattle.rz_events.specs.declared.ends.WriteEnd.TheVariants as write
use Rattle.rz_events.specs.declared.export.Call.TheVariants as call
use Rattle.rz_events.specs.declared.export.Asked.TheVariants as asked
use Rattle.rz_events.specs.declared.export.Reply.{Reply}
use Rattle.rz_events.specs.declared.export.Reply.TheVariants as reply
use Rattle.rz_events.specs.declared.nodes.KeepAnswer.{KeepAnswer}
use Rattle.rz_events.specs.declared.nodes.NodeAsk.TheVariants as ask
use Rattle.rz_events.specs.declared.nodes.NodeAnswer.{NodeAnswer}
use Rattle.rz_events.specs.declared.nodes.NodeAnswer.TheVariants as answer
use Rattle.rz_events.specs.declared.machines.WriterAsk.TheVariants as asks
use Rattle.rz_events.specs.declared.events.Event.{Event}
use Rattle.rz_events.specs.declared.events.Event.TheVariants as e
use Rattle.rz_node_model.specs.NodeEvents.{node_event, keep_event}
use Rattle.rz_export_model.specs.ExportEvents.{begin_event, publish_event}
use Rattle.std.specs.Int.Count.{ones}
use Rattle.rz_export_model.specs.Export.{is_mask}
use Rattle.rz_core.specs.Tied.{IsProperCall}
use Rattle.rz_core.specs.History.{Facts, length_in, base_in}
use Rattle.rz_events.specs.Masks.{HasBit}
use Rattle.rz_core.specs.Own.{since, is_begin, IsOpen}
use Rattle.rz_core.specs.Outcomes.{why_at}
use Rattle.rz_core.specs.Courses.{IsCourse}
use Rattle.rz_core.proofs.Extends.{Extends}
use Rattle.rz_core.proofs.NodeSteps.{the_some}
use Rattle.rz_core.proofs.Stamps.{same_key-refl}
use Rattle.rz_client_model.specs.declared.writing.WriterState.{WriterState}
use Rattle.rz_client_model.specs.declared.writing.WriteStage.{WriteStage}
use Rattle.rz_client_model.specs.declared.writing.WriteStage.TheVariants as writing
use Rattle.rz_client_model.specs.declared.writing.SentRecords.{SentRecords}
use Rattle.rz_client_model.specs.Write.{is_kept, why_of, mask_of, none_sent, next_position, after_keep, after_enrolled, writer_ask}
use Rattle.rz_operation_model.specs.Work.{Course, Writing}
use Rattle.rz_operation_model.specs.Ask.{AskNode, SayGave, is_part, ask_of, write_asks, head_of}
use Rattle.rz_operation_model.specs.Steps.{Told, Replied, Answered, Missed, told}
use Rattle.rz_play_laws.specs.Own.{IsPlacing, IsToldBy, AreToldBy, IsSending, IsWriteStage, HasWriteEvents, InCourse, IsOwnOf, IsProper}
use Rattle.rz_operation_model.specs.Turns.{IsStep}
use Rattle.rz_play_laws.proofs.Blocks.{placing-more, course-more, after-gave, node-there}
use Rattle.rz_client_model.proofs.Masks.{safe-few, forward-less, bit_at-mask_of, one-if, ones-mask_of}
use Rattle.rz_play_laws.proofs.Tables.{whys-none, none-asked, mask-low}
use Rattle.rz_play_laws.proofs.Words.{same, other, skip-last, skip-since, keep-begins, keep-ends, keep-here, keep-there, keep-has, keep-fails}
use Rattle.rz_play_laws.proofs.Sends.{asked_stage, enrolled_stage}
use Rattle.rz_play_laws.proofs.Steps.{export-step, node-step, say-step}

forward-some : (y : Layout) → 0 < forward_of y
forward-some y = grind arith

module _ (v : Volume) (f g : Facts) (ext : Extends f g) (o run : List Event) (by : Actor) (number : ℕ) (key : Key) (places : List ℕ)
    (size : ℕ) (text : List ℕ) (placing : IsPlacing v f key.fid places) (size_is : size ≡ length text) (short : length text ≤ block_bytes_of v.layout)
    (course : Course) (in_course : InCourse v f course) where
  abbrev state : WriteStage → WriterState
  state stage = record { layout = v.layout; key = key; places = places; length = size; stage = stage }

  -- what is to be shown of a step
  abbrev IsNext : WriteStage → Told → List Event → Type 0
  IsNext stage t xs = AreToldBy v g xs → IsOwnOf v g (xs ++ o) (xs ++ run) by (told v.layout (Writing course text (state stage)) t)

  -- it goes on with this stage
  next : (stage : WriteStage) (xs : List Event) → IsOpen (xs ++ run) → IsWriteStage v g (xs ++ o) by key places text stage
      → IsOwnOf v g (xs ++ o) (xs ++ run) by (Writing course text (state stage))
  next stage xs going is =
      (going, record { layout_is = refl; placing = placing-more v f g ext key.fid places placing; size = size_is; short = short; stage = is }, course-more v f g ext course in_course)

  -- The begin.

  fresh : (stamp base : ℕ) → IsToldBy v g (e.Begin by key stamp base text)
      → IsSending v g (e.Begin by key stamp base text ∷ o) by key places text (none_sent stamp base)
  fresh stamp base told = record {
    begun = refl;
    wrote = told;
    why_is = sym (whys-none key stamp 0 places 16 few refl);
    kept_is = refl;
    failed_is = refl;
    kept_at = λ p is. (let z = none-asked 16 p in (let both : is_kept why.NotAsked ≡ true = sym (ap is_kept z) ∙ is in cc));
    ahead = λ p far. none-asked 16 p;
    few = omega arith;
    spare = (let l = forward-less v.layout in omega (arith, l));
  }
    where
      few : 0 + length places ≤ 16
      few = let m = placing.many in let s = safe-few v.layout in omega (arith, m, s)

  begin-step : (r : Reply) (x : Event) → begin_event by (call.Begin key text) r ≡ Some x → IsNext writing.Beginning (Replied r) (x ∷ [])
  begin-step (reply.Begun stamp base) x is =
      subst (λ y. IsNext writing.Beginning (Replied (reply.Begun stamp base)) (y ∷ [])) (the_some _ x is)
      (λ told. next (writing.Sending (none_sent stamp base)) (e.Begin by key stamp base text ∷ []) refl (fresh stamp base told.0))
  begin-step (reply.Denied why) x is =
      subst (λ y. IsNext writing.Beginning (Replied (reply.Denied why)) (y ∷ [])) (the_some _ x is)
      (λ told. next (writing.Ended (write.Denied why)) (e.Denied by (asked.Begin key) why ∷ []) refl (inl refl))
  begin-step (_) x is = cc

  -- Keeps.

  module _ (t : SentRecords) (h : IsSending v f o by key places text t) where
    abbrev at : ℕ
    at = next_position t

    module _ (more : t.kept < forward_of v.layout) where
      low : at < length places
      low = let m = placing.many in let s = h.spare in omega (arith, m, s, more)

      here_at : slice_get places at ≡ Some (slice_index places at)
      here_at = slice_get-get_or places at 0 low

      same_node : (n : ℕ) → slice_get places at ≡ Some n → slice_index places at ≡ n
      same_node n is = the_some _ n (sym here_at ∙ is)

      apart_node : (q n : ℕ) → q ≢ at → slice_get places q ≡ Some n → n ≢ slice_index places at
      apart_node q n apart is k = apart (placing.apart q at n is (here_at ∙ ap Some (sym k)))

      abbrev sends : KeepAnswer → Event
      sends a = keep_event by (slice_index places at) key t.stamp at a

      answered : (a : KeepAnswer) → IsWriteStage v g (sends a ∷ o) by key places text (after_keep v.layout t (why_of a))
      answered a =
          let begins = keep-begins by (slice_index places at) key t.stamp at a in
          asked_stage v f g ext (sends a ∷ []) o by key places text placing t h
          (skip-last is_begin (sends a) o begins) (skip-since is_begin (sends a) o begins) at (why_of a) low
          (λ n is. subst (λ m. why_at key t.stamp at m (sends a ∷ since is_begin o) ≡ why_of a) (same_node n is)
          (keep-here by (slice_index places at) key t.stamp at at a (since is_begin o)))
          (λ q n apart is. keep-there by (slice_index places at) n key key t.stamp t.stamp at q a (since is_begin o) (apart_node q n apart is))
          (λ kept. (slice_index places at, here_at, keep-has by (slice_index places at) key t.stamp at a o kept))
          refl more (is_kept (why_of a)) refl (keep-fails a (is_kept (why_of a)) refl)

      through : (given : NodeAnswer) (x : Event) → node_event by (slice_index places at) (ask.Keep (head_of (state (writing.Sending t)) at t.stamp t.base)) given ≡ Some x
          → IsNext (writing.Sending t) (Answered true given) (x ∷ [])
      through (answer.Keep a) x is =
          subst (λ y. IsNext (writing.Sending t) (Answered true (answer.Keep a)) (y ∷ [])) (the_some _ x is)
          (λ told. next (after_keep v.layout t (why_of a)) (sends a ∷ []) (keep-ends by (slice_index places at) key t.stamp at a) (answered a))
      through (_) x is = cc

      abbrev missed : Bool → Event
      missed lost = e.Missed by (slice_index places at) lost

      reply-missed : (a : KeepAnswer) → IsWriteStage v g (missed true ∷ sends a ∷ o) by key places text (after_keep v.layout t why.Missed)
      reply-missed a =
          let begins = keep-begins by (slice_index places at) key t.stamp at a in
          asked_stage v f g ext (missed true ∷ sends a ∷ []) o by key places text placing t h
          (skip-last is_begin (sends a) o begins) (ap (λ z. missed true ∷ z) (skip-since is_begin (sends a) o begins)) at why.Missed low
          (λ n is. subst (λ m. why_at key t.stamp at m (missed true ∷ sends a ∷ since is_begin o) ≡ why.Missed) (same_node n is)
          (rw (same (slice_index places at)) refl))
          (λ q n apart is. ap (λ b. cond b why.Missed (why_at key t.stamp q n (sends a ∷ since is_begin o))) (other n (slice_index places at) (apart_node q n apart is))
          ∙ keep-there by (slice_index places at) n key key t.stamp t.stamp at q a (since is_begin o) (apart_node q n apart is))
          (λ kept. cc)
          refl more false refl refl

      replied : (given : NodeAnswer) (x : Event) → node_event by (slice_index places at) (ask.Keep (head_of (state (writing.Sending t)) at t.stamp t.base)) given ≡ Some x
          → IsNext (writing.Sending t) Missed (missed true ∷ x ∷ [])
      replied (answer.Keep a) x is =
          subst (λ y. IsNext (writing.Sending t) Missed (missed true ∷ y ∷ [])) (the_some _ x is)
          (λ told. next (after_keep v.layout t why.Missed) (missed true ∷ sends a ∷ []) refl (reply-missed a))
      replied (_) x is = cc

      request-missed : IsWriteStage v g (missed false ∷ o) by key places text (after_keep v.layout t why.Missed)
      request-missed =
          asked_stage v f g ext (missed false ∷ []) o by key places text placing t h refl refl at why.Missed low
          (λ n is. subst (λ m. why_at key t.stamp at m (missed false ∷ since is_begin o) ≡ why.Missed) (same_node n is)
          (rw (same (slice_index places at)) refl))
          (λ q n apart is. ap (λ b. cond b why.Missed (why_at key t.stamp q n (since is_begin o))) (other n (slice_index places at) (apart_node q n apart is)))
          (λ kept. cc)
          refl more false refl refl

      requested : IsNext (writing.Sending t) Missed (missed false ∷ [])
      requested told = next (after_keep v.layout t why.Missed) (missed false ∷ []) refl request-missed

    -- The publish.

    module _ (enough : forward_of v.layout ≤ t.kept) where
      abbrev mask : ℕ
      mask = mask_of t.why

      enrolled : (p fence : ℕ) → HasBit mask p
          → IsWriteStage v g (e.Publish by key t.stamp mask (Some (p, fence)) ∷ o) by key places text (after_enrolled v.layout t p)
      enrolled p fence bit =
          let was : is_kept (get_or t.why p why.NotAsked) ≡ true = one-if (is_kept (get_or t.why p why.NotAsked)) (sym (bit_at-mask_of t.why p) ∙ bit) in
          let k = h.kept_at p was in
          enrolled_stage v f g ext (e.Publish by key t.stamp mask (Some (p, fence)) ∷ []) o by key places text placing t h refl refl p why.Enrolled
          (get-low places p k.0 k.1)
          (λ n is. rw (same_key-refl key, same t.stamp, same p) refl)
          (λ q n apart is. rw (same_key-refl key, same t.stamp, other q p apart) refl)
          (λ kept. cc)
          was refl some
        where
          get-low : (xs : List ℕ) (i n : ℕ) → slice_get xs i ≡ Some n → i < length xs
          get-low [] i n is = cc
          get-low (y ∷ xs) zero n is = omega arith
          get-low (y ∷ xs) (suc i) n is = let l = get-low xs i n is in omega (arith, l)

          some : 0 < t.kept
          some = let z = forward-some v.layout in omega (arith, z, enough)

      publish-step : (r : Reply) (x : Event) → publish_event by (call.Publish key t.stamp mask size) r ≡ Some x → IsNext (writing.Sending t) (Replied r) (x ∷ [])
      publish-step reply.Accepted x is =
          subst (λ y. IsNext (writing.Sending t) (Replied reply.Accepted) (y ∷ [])) (the_some _ x is)
          (λ told. next (writing.Ended (write.Acked t.stamp mask)) (e.Publish by key t.stamp mask None ∷ []) refl refl)
      publish-step (reply.Enrolled p fence) x is =
          subst (λ y. IsNext (writing.Sending t) (Replied (reply.Enrolled p fence)) (y ∷ [])) (the_some _ x is)
          (λ told. next (after_enrolled v.layout t p) (e.Publish by key t.stamp mask (Some (p, fence)) ∷ []) refl (enrolled p fence told.0))
      publish-step (reply.Revoked later) x is =
          subst (λ y. IsNext (writing.Sending t) (Replied (reply.Revoked later)) (y ∷ [])) (the_some _ x is)
          (λ told. next (writing.Ended (write.Revoked later)) (e.Revoked by key t.stamp later ∷ []) refl (t.stamp, refl))
      publish-step (reply.Denied why) x is =
          subst (λ y. IsNext (writing.Sending t) (Replied (reply.Denied why)) (y ∷ [])) (the_some _ x is)
          (λ told. next (writing.Ended (write.Denied why)) (e.Denied by (asked.Publish key) why ∷ []) refl (inr refl))
      publish-step (_) x is = cc

    sending-step : (b : Bool) → nat_lt t.kept (forward_of v.layout) ≡ b → (told : Told) (xs : List Event)
        → IsStep by number (write_asks (is_part course) text (state (writing.Sending t)) (cond b (asks.Keep at (slice_index places at) t.stamp t.base) (asks.Publish t.stamp (mask_of t.why)))) told xs
        → IsNext (writing.Sending t) told xs
    sending-step true is t' xs step =
        let more = ltb-true t.kept (forward_of v.layout) is in
        node-step by (slice_index places at) (ask.Keep (head_of (state (writing.Sending t)) at t.stamp t.base)) (λ z zs. IsNext (writing.Sending t) z zs)
        (through more) (λ given x event link. replied more given x event) (λ link. requested more) t' xs step
    sending-step false is t' xs step =
        let enough = ltb-false t.kept (forward_of v.layout) is in
        export-step by (call.Publish key t.stamp (mask_of t.why) size) (λ z zs. IsNext (writing.Sending t) z zs) (publish-step enough) t' xs step

  write-step : (stage : WriteStage) → IsWriteStage v f o by key places text stage → (t : Told) (xs : List Event)
      → IsStep by number (ask_of v.layout (Writing course text (state stage))) t xs → IsNext stage t xs
  write-step writing.Beginning is t xs step = export-step by (call.Begin key text) (λ z zs. IsNext writing.Beginning z zs) begin-step t xs step
  write-step (writing.Sending t) h t' xs step = sending-step t h (nat_lt t.kept (forward_of v.layout)) refl t' xs step
  write-step (writing.Ended end) h t' xs step =
      say-step by number (SayGave key (is_part course) end) (λ z zs. IsNext (writing.Ended end) z zs) (λ found told. after-gave v f g ext o run by number key course in_course end) t' xs step

-- What a write asks is proper.

module _ (v : Volume) (f : Facts) (o run : List Event) (by : Actor) (key : Key) (places : List ℕ)
    (size : ℕ) (text : List ℕ) (placing : IsPlacing v f key.fid places) (size_is : size ≡ length text) (short : length text ≤ block_bytes_of v.layout)
    (course : Course) where
  abbrev state_at : WriteStage → WriterState
  state_at stage = record { layout = v.layout; key = key; places = places; length = size; stage = stage }

  module _ (t : SentRecords) (h : IsSending v f o by key places text t) where
    abbrev asked_at : ℕ
    asked_at = next_position t

    long : size ≡ length_in (f.wrote t.stamp)
    long = size_is ∙ ap length_in (sym h.wrote)

    keep-proper : IsOpen run → t.kept < forward_of v.layout → (number : ℕ)
        → IsProper v f o run by number (AskNode (slice_index places asked_at) (ask.Keep (head_of (state_at (writing.Sending t)) asked_at t.stamp t.base)))
    keep-proper going more number =
        let m = placing.many in
        let s = h.spare in (
          (
            (record {
              writer = (_, record { found = h.wrote; by_is = refl; key_is = refl });
              place = (places, placing.placed, slice_get-get_or places asked_at 0 (omega (arith, m, s, more)));
            }),
            (long, sym (ap base_in h.wrote)),
          ),
          node-there v places asked_at placing.nodes (omega (arith, m, s, more)),
          tt,
          λ link. going,
        )

    quorum : forward_of v.layout ≤ t.kept → is_mask v.layout (mask_of t.why) ≡ true
    quorum enough =
        let c = ones-mask_of t.why in
        let k = h.kept_is in
        let few = h.few in
        let m = placing.many in
        let small : mask_of t.why < 2 ^ length places = subst (λ (ws : List Why). mask_of ws < 2 ^ length places) (sym h.why_is) (mask-low key t.stamp (since is_begin o) 0 places) in
        and_from _ _ (eq-eqb (ones (mask_of t.why)) (forward_of v.layout) (omega (arith, c, k, few, enough)))
        (lt-ltb (mask_of t.why) (2 ^ safe_of v.layout) (subst (λ n. mask_of t.why < 2 ^ n) m small))

    publish-proper : forward_of v.layout ≤ t.kept → IsProperCall v f o by (call.Publish key t.stamp (mask_of t.why) size)
    publish-proper enough = (
      (record {
        writer = (_, record { found = h.wrote; by_is = refl; key_is = refl });
        quorum = quorum enough;
        kept = λ p bit.
            let was : is_kept (get_or t.why p why.NotAsked) ≡ true = one-if (is_kept (get_or t.why p why.NotAsked)) (sym (bit_at-mask_of t.why p) ∙ bit) in
            let k = h.kept_at p was in
            (k.0, (places, placing.placed, k.1), k.2);
      }),
      long,
    )

  sending-proper : (number : ℕ) → IsOpen run → (t : SentRecords) → IsSending v f o by key places text t → (b : Bool) → nat_lt t.kept (forward_of v.layout) ≡ b
      → IsProper v f o run by number (write_asks (is_part course) text (state_at (writing.Sending t)) (cond b (asks.Keep (next_position t) (slice_index places (next_position t)) t.stamp t.base) (asks.Publish t.stamp (mask_of t.why))))
  sending-proper number going t h true is = keep-proper t h going (ltb-true t.kept (forward_of v.layout) is) number
  sending-proper number going t h false is = publish-proper t h (ltb-false t.kept (forward_of v.layout) is)

  write-proper : (number : ℕ) → IsOpen run → (stage : WriteStage) → IsWriteStage v f o by key places text stage
      → IsCourse v.layout by number run (Writing course text (state_at stage))
      → IsProper v f o run by number (write_asks (is_part course) text (state_at stage) (writer_ask (state_at stage)))
  write-proper number going writing.Beginning is going_on = short
  write-proper number going (writing.Sending t) h going_on = sending-proper number going t h (nat_lt t.kept (forward_of v.layout)) refl
  write-proper number going (writing.Ended end) h going_on =
      (h, record { work = Writing course text (state_at (writing.Ended end)); course = going_on; asks = refl })

-- The same of a state that has the layout of the volume.

pub own-write : (v : Volume) (f g : Facts) → Extends f g → (o run : List Event) (by : Actor) (number : ℕ) (course : Course) (text : List ℕ) (s : WriterState)
    → HasWriteEvents v f o by text s → InCourse v f course → (t : Told) (xs : List Event) → IsStep by number (ask_of v.layout (Writing course text s)) t xs
    → AreToldBy v g xs → IsOwnOf v g (xs ++ o) (xs ++ run) by (told v.layout (Writing course text s) t)
own-write v f g ext o run by number course text s w in_course t xs =
    subst (λ y. (let z : WriterState = record { layout = y; key = s.key; places = s.places; length = s.length; stage = s.stage } in
    IsStep by number (ask_of v.layout (Writing course text z)) t xs → AreToldBy v g xs → IsOwnOf v g (xs ++ o) (xs ++ run) by (told v.layout (Writing course text z) t))) (sym w.layout_is)
    (λ step. write-step v f g ext o run by number s.key s.places s.length text w.placing w.size w.short course in_course s.stage w.stage t xs step)

pub proper-write : (v : Volume) (f : Facts) (o run : List Event) (by : Actor) (number : ℕ) (course : Course) (text : List ℕ) (s : WriterState)
    → IsOpen run → HasWriteEvents v f o by text s → IsCourse v.layout by number run (Writing course text s) → IsProper v f o run by number (ask_of v.layout (Writing course text s))
proper-write v f o run by number course text s going w =
    subst (λ y. (let z : WriterState = record { layout = y; key = s.key; places = s.places; length = s.length; stage = s.stage } in
    IsCourse v.layout by number run (Writing course text z) → IsProper v f o run by number (ask_of v.layout (Writing course text z)))) (sym w.layout_is)
    (write-proper v f o run by s.key s.places s.length text w.placing w.size w.short course number going s.stage w.stage)
