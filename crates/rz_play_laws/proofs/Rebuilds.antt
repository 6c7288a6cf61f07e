-- The rebuild of a node: what it asks is proper, and its own events say where it stands.
use Rattle.std.proofs.Common.{◌≡◌, inl, inr, ℕ, ◌==◌, ◌&&◌, ◌+◌, ◌<◌, nat_lt, Bool, true, false, cond, List, [], ◌∷◌, ◌++◌, length, refl, sym, ◌∙◌, ap, subst, arith, Option, Some, None}
use Rattle.std.specs.Prelude.{slice_index, count_by, ◌≤◌}
use Rattle.std.proofs.lemmas.Bool.{eqb-true, eq-eqb, ltb-true, ltb-false}
use Rattle.mj_angles.specs.Layout.{inverse_of}
use Rattle.rz_events.specs.Volume.{Volume}
use Rattle.rz_events.specs.declared.keys.Key.{Key}
use Rattle.rz_events.specs.declared.keys.Actor.{Actor}
use Rattle.rz_events.specs.declared.records.Held.{Held}
use Rattle.rz_events.specs.declared.files.Published.{Published}
use Rattle.rz_events.specs.declared.files.Listed.{Listed}
use Rattle.rz_events.specs.declared.ends.Seen.TheVariants as seen
use Rattle.rz_events.specs.declared.ends.ReadMark.TheVariants as mark
use Rattle.rz_events.specs.declared.export.Call.TheVariants as call
use Rattle.rz_events.specs.declared.export.Asked.TheVariants as asked
use Rattle.rz_events.specs.declared.export.Reply.{Reply}
use Rattle.rz_events.specs.declared.export.Reply.TheVariants as reply
use Rattle.rz_events.specs.declared.nodes.FetchAnswer.{FetchAnswer}
use Rattle.rz_events.specs.declared.nodes.FetchAnswer.TheVariants as fetch
use Rattle.rz_events.specs.declared.nodes.RefillAnswer.{RefillAnswer}
use Rattle.rz_events.specs.declared.nodes.RefillAnswer.TheVariants as refill
use Rattle.rz_events.specs.declared.nodes.ReplaceAnswer.TheVariants as replace
use Rattle.rz_events.specs.declared.nodes.NodeAsk.TheVariants as ask
use Rattle.rz_events.specs.declared.nodes.NodeAnswer.{NodeAnswer}
use Rattle.rz_events.specs.declared.nodes.NodeAnswer.TheVariants as answer
use Rattle.rz_events.specs.declared.machines.ReaderAsk.TheVariants as asks
use Rattle.rz_events.specs.declared.events.Event.{Event}
use Rattle.rz_events.specs.declared.events.Event.TheVariants as e
use Rattle.rz_node_model.specs.NodeEvents.{node_event, fetch_event, refill_event}
use Rattle.rz_export_model.specs.ExportEvents.{enroll_event, next_event, recheck_event}
use Rattle.rz_core.specs.History.{Facts, Begun, Has, length_in, base_in}
use Rattle.rz_events.specs.Masks.{stamp_told}
use Rattle.rz_core.specs.Own.{last, since, before, fetched_at, is_next, is_recheck, IsOpen, HasDistinct}
use Rattle.rz_core.specs.Outcomes.{seens, seen_at, is_held, IsShort}
use Rattle.rz_core.specs.ExportRows.{HasLooked}
use Rattle.rz_core.specs.NodeRows.{IsNodeOf}
use Rattle.rz_core.specs.OwnRows.{IsRefilling, IsShortCopy, LeftRow}
use Rattle.rz_events.specs.declared.ends.LeftWhy.{LeftWhy}
use Rattle.rz_events.specs.declared.ends.LeftWhy.TheVariants as left
use Rattle.rz_core.proofs.Extends.{Extends, last-has}
use Rattle.rz_core.proofs.NodeSteps.{the_some}
use Rattle.rz_client_model.specs.declared.reading.ReaderState.{ReaderState}
use Rattle.rz_client_model.specs.declared.reading.ReadStage.{ReadStage}
use Rattle.rz_client_model.specs.declared.reading.ReadStage.TheVariants as reading
use Rattle.rz_client_model.specs.declared.reading.Fetches.{Fetches}
use Rattle.rz_client_model.specs.Read.{none_fetched, next_position, with_seen, with_record, unless_enough, after_fetch, seen_of, reader_end}
use Rattle.rz_operation_model.specs.Rebuild.{RebuildState, Tally, Probing, Enrolling, Replacing, Listing, Copying, Refilling, Leaving, position_of, base_after, ask_to_copy, after_read, after_refill}
use Rattle.rz_operation_model.specs.Work.{Rebuilding}
use Rattle.rz_operation_model.specs.Ask.{SayLeft, ask_of, rebuild_asks, refill_head}
use Rattle.rz_operation_model.specs.Turns.{IsStep}
use Rattle.rz_operation_model.specs.Steps.{Told, Replied, Answered, Missed, told, in_rebuild}
use Rattle.rz_play_laws.specs.Own.{IsPlacing, IsListedAt, IsToldBy, AreToldBy, IsFetching, HasReplaced, IsOfFirst, IsCopying, IsFilling, HasRebuildEvents, IsOwnOf, IsProper}
use Rattle.rz_play_laws.proofs.Words.{same, skip-last, has-more}
use Rattle.rz_play_laws.proofs.Steps.{export-step, node-step, say-step}
use Rattle.rz_play_laws.proofs.Blocks.{placing-more}
use Rattle.rz_play_laws.proofs.Fetches.{fresh-fetches, short-now, positive}
use Rattle.rz_play_laws.proofs.Readings.{fetch-ends, seen-more, record-more, record-enough, record-many, reply-lost, request-lost, fetching-proper}

-- The answers to a rebuild's calls.

quiet-next : (by : Actor) (n : ℕ) (k : Key) (p s : ℕ) (a : FetchAnswer) → is_next (fetch_event by n k p s a) ≡ false
quiet-next by n k p s (fetch.Held r) = refl
quiet-next by n k p s fetch.Nothing = refl
quiet-next by n k p s fetch.Lost = refl
quiet-next by n k p s fetch.Down = refl
quiet-next by n k p s fetch.DiskFault = refl

skip-before : (test : Event → Bool) (x : Event) (o : List Event) → test x ≡ false → before test (x ∷ o) ≡ before test o
skip-before test x o not_it = ap (λ t. cond t o (before test o)) not_it

before-has : (test : Event → Bool) (o : List Event) (x : Event) → Has (before test o) x → Has o x
before-has test [] x has = has
before-has test (y ∷ o) x has = go (test y) has (before-has test o x)
  where
    go : (b : Bool) → Has (cond b o (before test o)) x → (Has (before test o) x → Has o x) → Has (y ∷ o) x
    go true has rest = inr has
    go false has rest = inr (rest has)

pub listed-more : (v : Volume) (f g : Facts) → Extends f g → (n : ℕ) (l : Listed) → IsListedAt v f n l → IsListedAt v g n l
listed-more v f g ext n l is = record {
  placing = placing-more v f g ext l.key.fid l.info.places is.placing;
  known = (is.known.0, ext.wrote l.published.stamp is.known.0 is.known.1);
  at = is.at;
}

pub first-more : (f g : Facts) → Extends f g → (s length base : ℕ) → ((b : Begun) × (f.wrote s ≡ Some b)) → IsOfFirst f s length base → IsOfFirst g s length base
first-more f g ext s length base known is =
    let same : f.wrote s ≡ g.wrote s = known.1 ∙ sym (ext.wrote s known.0 known.1) in
    record { length_is = is.length_is ∙ ap length_in same; base_is = is.base_is ∙ ap base_in same }

module _ (v : Volume) (f g : Facts) (ext : Extends f g) (o run : List Event) (by : Actor) (number n : ℕ) (there : IsNodeOf v n) where
  -- what is to be shown of a step
  abbrev IsNext : RebuildState → Told → List Event → Type 0
  IsNext state t xs = AreToldBy v g xs → IsOwnOf v g (xs ++ o) (xs ++ run) by (told v.layout (Rebuilding n state) t)

  -- The lost disk.

  probed : (given : NodeAnswer) (x : Event) → node_event by n ask.Probe given ≡ Some x → IsNext Probing (Answered true given) (x ∷ [])
  probed (answer.Probe None) x is = λ all. tt
  probed (answer.Probe (Some loss)) x is =
      subst (λ y. IsNext Probing (Answered true (answer.Probe (Some loss))) (y ∷ [])) (the_some _ x is) (λ told. (there, inl refl))
  probed (_) x is = cc

  enrolled : (loss : ℕ) (r : Reply) (x : Event) → enroll_event by (call.Enroll n loss) r ≡ Some x → IsNext (Enrolling loss) (Replied r) (x ∷ [])
  enrolled loss (reply.Fence fence) x is =
      subst (λ y. IsNext (Enrolling loss) (Replied (reply.Fence fence)) (y ∷ [])) (the_some _ x is) (λ told. (there, inl refl))
  enrolled loss (reply.Denied cause) x is = λ all. tt
  enrolled loss (_) x is = cc

  replaced : (loss fence : ℕ) (given : NodeAnswer) (x : Event) → node_event by n (ask.Replace loss fence) given ≡ Some x → IsNext (Replacing loss fence) (Answered true given) (x ∷ [])
  replaced loss fence (answer.Replace replace.Replaced) x is =
      subst (λ y. IsNext (Replacing loss fence) (Answered true (answer.Replace replace.Replaced)) (y ∷ [])) (the_some _ x is) (λ told. (there, (loss, inl refl)))
  replaced loss fence (answer.Replace replace.NotLost) x is = λ all. tt
  replaced loss fence (answer.Replace (replace.OtherLoss now)) x is = λ all. tt
  replaced loss fence (answer.Replace replace.NoMemory) x is = cc
  replaced loss fence (answer.Replace replace.DiskFault) x is = λ all. tt
  replaced loss fence (_) x is = cc

  -- The next block.

  replaced-more : (xs : List Event) (fence : ℕ) → HasReplaced o by n fence → HasReplaced (xs ++ o) by n fence
  replaced-more xs fence h = (h.0, has-more xs o _ h.1)

  listed : (t : Tally) → HasReplaced o by n t.fence → (r : Reply) (x : Event) → next_event by (call.Next n t.after) r ≡ Some x → IsNext (Listing t) (Replied r) (x ∷ [])
  listed t has (reply.Listed None) x is =
      subst (λ y. IsNext (Listing t) (Replied (reply.Listed None)) (y ∷ [])) (the_some _ x is) (λ all. tt)
  listed t has (reply.Listed (Some l)) x is =
      subst (λ y. IsNext (Listing t) (Replied (reply.Listed (Some l))) (y ∷ [])) (the_some _ x is)
      (λ told. (
        there,
        (
          refl,
          (
            none_fetched v.layout l.published,
            record {
              listing = record { after = (t.after, refl); key_is = refl };
              replaced = has;
              listed = told.0;
              stamp_is = refl;
              state_is = refl;
              fetching = fresh-fetches v g (e.Next by n t.after (Some l) ∷ o) is_next l.key l.info.places l.published told.0.placing.many refl told.0.known;
              first = λ some. absurd (omega (arith, some));
            },
          ),
        ),
      ))
  listed t has (_) x is = cc

  -- The read of a block.

  module _ (t : Tally) (l : Listed) (base : ℕ) (s : ReaderState) (ft : Fetches) (c : IsCopying v f o by n t l base s ft) where
    abbrev state : ReadStage → ReaderState
    state stage = record { layout = v.layout; key = l.key; places = l.info.places; stage = stage }

    -- it goes on
    copying : (xs : List Event) (now : ℕ) (nt : Fetches) → IsOpen (xs ++ run) → last is_next (xs ++ o) ≡ last is_next o → before is_next (xs ++ o) ≡ before is_next o
        → nt.stamp ≡ ft.stamp → IsFetching v g (xs ++ o) is_next l.key l.info.places nt → (0 < nt.given → IsOfFirst g nt.stamp nt.length now)
        → HasRebuildEvents v g (xs ++ o) (xs ++ run) by n (Copying t l now (state (reading.Fetching nt)))
    copying xs now nt going none older stamp fetching first = (
      going,
      (
        nt,
        record {
          listing = record { after = (c.listing.after.0, none ∙ c.listing.after.1); key_is = refl };
          replaced = subst (λ (z : List Event). HasReplaced z by n t.fence) (sym older) c.replaced;
          listed = listed-more v f g ext n l c.listed;
          stamp_is = stamp ∙ c.stamp_is;
          state_is = refl;
          fetching = fetching;
          first = first;
        },
      ),
    )

    old-first : 0 < ft.given → IsOfFirst g ft.stamp ft.length base
    old-first some = first-more f g ext ft.stamp ft.length base c.fetching.known (c.first some)

    has-replaced : (xs : List Event) → HasReplaced (xs ++ o) by n t.fence
    has-replaced xs = replaced-more xs t.fence (c.replaced.0, before-has is_next o _ c.replaced.1)

    module _ (some : 0 < ft.left) where
      abbrev node : ℕ
      node = slice_index l.info.places (next_position ft)

      abbrev gets : FetchAnswer → Event
      gets a = fetch_event by node l.key (next_position ft) ft.stamp a

      abbrev loses : Bool → Event
      loses lost = e.Missed by node lost

      unseen : (a : FetchAnswer) → is_held (seen_of a) ≡ false → HasRebuildEvents v g (gets a ∷ o) (gets a ∷ run) by n (Copying t l base (state (reading.Fetching (with_seen ft (seen_of a)))))
      unseen a is =
          let quiet = quiet-next by node l.key (next_position ft) ft.stamp a in
          copying (gets a ∷ []) base (with_seen ft (seen_of a)) (fetch-ends by node l.key (next_position ft) ft.stamp a) (skip-last is_next (gets a) o quiet) (skip-before is_next (gets a) o quiet) refl
          (seen-more v f g ext o by is_next (quiet-next by) (λ m lost. refl) l.key l.info.places c.listed.placing ft c.fetching some a is) old-first

      -- the length and base after a record
      first-now : (r : Held) (b : Begun) → g.wrote ft.stamp ≡ Some b → r.length ≡ length b.text → r.base ≡ b.base → (r.stamp == ft.stamp) ≡ true → (z : Bool) → (ft.given == 0) ≡ z
          → IsOfFirst g ft.stamp (cond z r.length ft.length) (cond (z && (r.stamp == ft.stamp)) r.base base)
      first-now r b found long from same true none =
          subst (λ y. IsOfFirst g ft.stamp r.length (cond y r.base base)) (sym same) (record { length_is = long ∙ sym (ap length_in found); base_is = from ∙ sym (ap base_in found) })
      first-now r b found long from same false given = old-first (positive ft.given given)

      held : (r : Held) (b : Begun) → g.wrote ft.stamp ≡ Some b → r.length ≡ length b.text → r.base ≡ b.base → (r.stamp == ft.stamp) ≡ true → (less : Bool) → nat_lt (ft.given + 1) (inverse_of v.layout) ≡ less
          → (let now = base_after (reading.Fetching ft) base (fetch.Held r) in
          let stage = cond less (reading.Fetching (with_record ft r.length)) (reading.Ended (mark.Found ft.stamp (cond (ft.given == 0) r.length ft.length))) in
          HasRebuildEvents v g (gets (fetch.Held r) ∷ o) (gets (fetch.Held r) ∷ run) by n (after_read t l now (state stage) (reader_end (state stage))))
      held r b found long from same true less =
          copying (gets (fetch.Held r) ∷ []) (base_after (reading.Fetching ft) base (fetch.Held r)) (with_record ft r.length) refl refl refl refl
          (record-more v f g ext o by is_next (quiet-next by) (λ m lost. refl) l.key l.info.places c.listed.placing ft c.fetching some r (ltb-true (ft.given + 1) (inverse_of v.layout) less))
          (λ z. first-now r b found long from same (ft.given == 0) refl)
      held r b found long from same false more = (
        refl,
        record {
          listing = record { after = c.listing.after; key_is = refl };
          replaced = c.replaced;
          listed = listed-more v f g ext n l c.listed;
          enough = subst (λ z. HasDistinct (inverse_of v.layout) (fetched_at l.key z (since is_next (gets (fetch.Held r) ∷ o)))) c.stamp_is
              (record-enough v f g ext o by is_next (quiet-next by) (λ m lost. refl) l.key l.info.places c.listed.placing ft c.fetching some r (ltb-false (ft.given + 1) (inverse_of v.layout) more));
          many = subst (λ z. inverse_of v.layout ≤ count_by is_held (seens l.key z (since is_next (gets (fetch.Held r) ∷ o)) 0 l.info.places)) c.stamp_is
              (record-many v f g ext o by is_next (quiet-next by) (λ m lost. refl) l.key l.info.places c.listed.placing ft c.fetching some r (ltb-false (ft.given + 1) (inverse_of v.layout) more));
          first = subst (λ z. IsOfFirst g z (cond (ft.given == 0) r.length ft.length) (base_after (reading.Fetching ft) base (fetch.Held r))) c.stamp_is
              (first-now r b found long from same (ft.given == 0) refl);
        },
      )

      after : (a : FetchAnswer) → IsToldBy v g (gets a)
          → (let next = state (after_fetch v.layout true ft a) in HasRebuildEvents v g (gets a ∷ o) (gets a ∷ run) by n (after_read t l (base_after (reading.Fetching ft) base a) next (reader_end next)))
      after (fetch.Held r) told =
          let same = eq-eqb r.stamp ft.stamp told.1.stamp in
          subst (λ y. (let next = state (cond y (unless_enough v.layout true (with_record ft r.length)) (reading.Fetching (with_seen ft seen.Held))) in
          HasRebuildEvents v g (gets (fetch.Held r) ∷ o) (gets (fetch.Held r) ∷ run) by n (after_read t l (base_after (reading.Fetching ft) base (fetch.Held r)) next (reader_end next)))) (sym same)
          (held r told.0 told.1.found told.1.length told.1.base same (nat_lt (ft.given + 1) (inverse_of v.layout)) refl)
      after fetch.Nothing told = unseen fetch.Nothing refl
      after fetch.Lost told = unseen fetch.Lost refl
      after fetch.Down told = unseen fetch.Down refl
      after fetch.DiskFault told = unseen fetch.DiskFault refl

      through : (given : NodeAnswer) (x : Event) → node_event by node (ask.Fetch l.key (next_position ft) ft.stamp) given ≡ Some x
          → IsNext (Copying t l base (state (reading.Fetching ft))) (Answered true given) (x ∷ [])
      through (answer.Fetch a) x is =
          subst (λ y. IsNext (Copying t l base (state (reading.Fetching ft))) (Answered true (answer.Fetch a)) (y ∷ [])) (the_some _ x is) (λ told. (there, after a told.0))
      through (_) x is = cc

      replied : (given : NodeAnswer) (x : Event) → node_event by node (ask.Fetch l.key (next_position ft) ft.stamp) given ≡ Some x
          → IsNext (Copying t l base (state (reading.Fetching ft))) Missed (loses true ∷ x ∷ [])
      replied (answer.Fetch a) x is =
          subst (λ y. IsNext (Copying t l base (state (reading.Fetching ft))) Missed (loses true ∷ y ∷ [])) (the_some _ x is)
          (λ told. (
            there,
            let quiet = quiet-next by node l.key (next_position ft) ft.stamp a in
                copying (loses true ∷ gets a ∷ []) base (with_seen ft seen.Missed) refl (skip-last is_next (gets a) o quiet) (skip-before is_next (gets a) o quiet) refl
                (reply-lost v f g ext o by is_next (quiet-next by) (λ m lost. refl) l.key l.info.places c.listed.placing ft c.fetching some a) old-first,
          ))
      replied (_) x is = cc

      requested : IsNext (Copying t l base (state (reading.Fetching ft))) Missed (loses false ∷ [])
      requested told = (
        there,
        copying (loses false ∷ []) base (with_seen ft seen.Missed) refl refl refl refl
            (request-lost v f g ext o by is_next (quiet-next by) (λ m lost. refl) l.key l.info.places c.listed.placing ft c.fetching some) old-first,
      )

    module _ (none : ft.left ≡ 0) where
      -- too few records came, before a recheck
      copy : (x : Event) → is_next x ≡ false → since is_recheck (x ∷ o) ≡ []
          → ((m : ℕ) (os : List Event) → seen_at l.key ft.stamp m (x ∷ os) ≡ seen_at l.key ft.stamp m os) → last is_next (x ∷ o) ≡ last is_next o
          → IsShortCopy v g (x ∷ o) by l.key
      copy x not_it again quiet same_last = record {
        node = n;
        told = l;
        listed = record { after = (c.listing.after.0, same_last ∙ c.listing.after.1); key_is = refl };
        seen = ft.seen;
        short = subst (λ z. IsShort v g is_next (x ∷ o) l.key z ft.seen) c.stamp_is
            (short-now v f g ext o is_next l.key l.info.places c.listed.placing ft c.fetching none x not_it again quiet);
      }

      rechecked : (p : Option Published) (b : Bool) → (stamp_told p == ft.stamp) ≡ b
          → (let next = state (reading.Ended (cond b (mark.TooFew ft.seen) (mark.Moved ft.stamp (stamp_told p)))) in
          let x = e.Recheck by l.key p in
          HasRebuildEvents v g (x ∷ o) (x ∷ run) by n (after_read t l base next (reader_end next)))
      unfolding copy
      rechecked p true is = (
        has-replaced (e.Recheck by l.key p ∷ []),
        record {
          copy = copy (e.Recheck by l.key p) refl refl (λ m os. refl) refl;
          now = p;
          again = refl;
          same = eqb-true (stamp_told p) ft.stamp is ∙ c.stamp_is;
        },
      )
      rechecked p false is = has-replaced (e.Recheck by l.key p ∷ [])

      recheck-step : (r : Reply) (x : Event) → recheck_event by (call.Recheck l.key) r ≡ Some x → IsNext (Copying t l base (state (reading.Fetching ft))) (Replied r) (x ∷ [])
      recheck-step (reply.Looked p) x is =
          subst (λ y. IsNext (Copying t l base (state (reading.Fetching ft))) (Replied (reply.Looked p)) (y ∷ [])) (the_some _ x is)
          (λ told. (there, rechecked p (stamp_told p == ft.stamp) refl))
      recheck-step (reply.Denied cause) x is =
          subst (λ y. IsNext (Copying t l base (state (reading.Fetching ft))) (Replied (reply.Denied cause)) (y ∷ [])) (the_some _ x is)
          (λ told. (
            there,
            (
              has-replaced (e.Denied by (asked.Recheck l.key) cause ∷ []),
              record { copy = copy (e.Denied by (asked.Recheck l.key) cause) refl refl (λ m os. refl) refl; denied = refl },
            ),
          ))
      recheck-step (_) x is = cc

    copy-step : (b : Bool) → (ft.left == 0) ≡ b → (t' : Told) (xs : List Event)
        → IsStep by number (rebuild_asks v.layout n (ask_to_copy l.key (cond b asks.Recheck (asks.Fetch (next_position ft) (slice_index l.info.places (next_position ft)) ft.stamp)))) t' xs
        → IsNext (Copying t l base (state (reading.Fetching ft))) t' xs
    copy-step true is t' xs step =
        export-step by (call.Recheck l.key) (λ z zs. IsNext (Copying t l base (state (reading.Fetching ft))) z zs) (recheck-step (eqb-true ft.left 0 is)) t' xs step
    copy-step false is t' xs step =
        let some = positive ft.left is in
        node-step by (slice_index l.info.places (next_position ft)) (ask.Fetch l.key (next_position ft) ft.stamp) (λ z zs. IsNext (Copying t l base (state (reading.Fetching ft))) z zs)
        (through some) (λ given x event link. replied some given x event) (λ link. requested some) t' xs step

  -- The refill of a block.

  module _ (t : Tally) (l : Listed) (size base : ℕ) (c : IsFilling v f o by n t l size base) where
    abbrev place : ℕ
    place = position_of n l

    abbrev fills : RefillAnswer → Event
    fills a = refill_event by n t.fence l.key l.published.stamp place a

    has-replaced-then : (xs : List Event) → HasReplaced (xs ++ o) by n t.fence
    has-replaced-then xs = replaced-more xs t.fence (c.replaced.0, before-has is_next o _ c.replaced.1)

    -- enough records came, so the refill is the actor's next call of a node
    refilling : IsRefilling v g o by n l.key l
    refilling = record {
      listed = record { after = c.listing.after; key_is = refl };
      enough = record { places = l.info.places; placed = ext.places l.key.fid l.info.places c.listed.placing.placed; many = c.many };
    }

    -- it left the block
    leaves : (xs : List Event) (why : LeftWhy) → LeftRow v g (xs ++ o) by l.key why → IsOwnOf v g (xs ++ o) (xs ++ run) by (Rebuilding n (Leaving t l.key why))
    leaves xs why row = (there, (has-replaced-then xs, row))

    filled : (a : RefillAnswer) → IsOwnOf v g (fills a ∷ o) (fills a ∷ run) by (in_rebuild n (after_refill t l a))
    filled refill.Kept = (there, has-replaced-then (fills refill.Kept ∷ []))
    filled (refill.Passed held) = (there, has-replaced-then (fills (refill.Passed held) ∷ []))
    filled refill.Lost = tt
    filled (refill.OtherFence now) = tt
    filled refill.Down = leaves (fills refill.Down ∷ []) left.Down (record { node = n; told = l; refused = refl; refilling = refilling })
    filled refill.Full = leaves (fills refill.Full ∷ []) left.Full (record { node = n; told = l; refused = refl; refilling = refilling })
    filled refill.DiskFault =
        leaves (fills refill.DiskFault ∷ []) left.DiskFault (record { node = n; told = l; fence = t.fence; position = place; broke = refl; refilling = refilling })

    refill-through : (given : NodeAnswer) (x : Event) → node_event by n (ask.Refill t.fence (refill_head v.layout place l.published.stamp size base l.key)) given ≡ Some x
        → IsNext (Refilling t l size base) (Answered true given) (x ∷ [])
    refill-through (answer.Refill a) x is =
        subst (λ y. IsNext (Refilling t l size base) (Answered true (answer.Refill a)) (y ∷ [])) (the_some _ x is) (λ all. filled a)
    refill-through (_) x is = cc

    refill-replied : (given : NodeAnswer) (x : Event) → node_event by n (ask.Refill t.fence (refill_head v.layout place l.published.stamp size base l.key)) given ≡ Some x
        → IsNext (Refilling t l size base) Missed (e.Missed by n true ∷ x ∷ [])
    refill-replied (answer.Refill a) x is =
        subst (λ y. IsNext (Refilling t l size base) Missed (e.Missed by n true ∷ y ∷ [])) (the_some _ x is)
        (λ all. leaves (e.Missed by n true ∷ fills a ∷ []) left.Missed (record { node = n; told = l; lost = true; missed = refl; refilling = refilling }))
    refill-replied (_) x is = cc

    refill-requested : IsNext (Refilling t l size base) Missed (e.Missed by n false ∷ [])
    refill-requested all = leaves (e.Missed by n false ∷ []) left.Missed (record { node = n; told = l; lost = false; missed = refl; refilling = refilling })

  -- Each state.

  pub own-rebuilding : (state : RebuildState) → HasRebuildEvents v f o run by n state → (t : Told) (xs : List Event)
      → IsStep by number (ask_of v.layout (Rebuilding n state)) t xs → IsNext state t xs
  own-rebuilding Probing own t xs step =
      node-step by n ask.Probe (λ z zs. IsNext Probing z zs) probed (λ given x event link. cc) (λ link. cc) t xs step
  own-rebuilding (Enrolling loss) own t xs step = export-step by (call.Enroll n loss) (λ z zs. IsNext (Enrolling loss) z zs) (enrolled loss) t xs step
  own-rebuilding (Replacing loss fence) own t xs step =
      node-step by n (ask.Replace loss fence) (λ z zs. IsNext (Replacing loss fence) z zs) (replaced loss fence) (λ given x event link. cc) (λ link. cc) t xs step
  own-rebuilding (Listing tally) own t xs step = export-step by (call.Next n tally.after) (λ z zs. IsNext (Listing tally) z zs) (listed tally own) t xs step
  own-rebuilding (Copying tally l base s) own t xs step =
      let ft = own.1.0 in
      let c = own.1.1 in
      subst (λ (z : ReaderState). IsStep by number (ask_of v.layout (Rebuilding n (Copying tally l base z))) t xs → IsNext (Copying tally l base z) t xs) (sym c.state_is)
      (λ step. copy-step tally l base s ft c (ft.left == 0) refl t xs step) step
  own-rebuilding (Refilling tally l size base) own t xs step =
      node-step by n (ask.Refill tally.fence (refill_head v.layout (position_of n l) l.published.stamp size base l.key)) (λ z zs. IsNext (Refilling tally l size base) z zs)
      (refill-through tally l size base own.1) (λ given x event link. refill-replied tally l size base own.1 given x event) (λ link. refill-requested tally l size base own.1) t xs step
  own-rebuilding (Leaving tally key why) own t xs step =
      say-step by number (SayLeft key why) (λ z zs. IsNext (Leaving tally key why) z zs) (λ text all. (there, replaced-more (e.Left by key why ∷ []) tally.fence own.0)) t xs step

-- What a rebuild asks is proper.

copying-proper : (v : Volume) (f : Facts) (o run : List Event) (by : Actor) (number n : ℕ) (key : Key) (places : List ℕ) (placing : IsPlacing v f key.fid places) (t : Fetches)
    → IsFetching v f o is_next key places t → HasLooked o by key → IsOpen run → (b : Bool) → (t.left == 0) ≡ b
    → IsProper v f o run by number (rebuild_asks v.layout n (ask_to_copy key (cond b asks.Recheck (asks.Fetch (next_position t) (slice_index places (next_position t)) t.stamp))))
copying-proper v f o run by number n key places placing t h looked going true is = fetching-proper v f o run by number false is_next key places placing t h looked going true is
copying-proper v f o run by number n key places placing t h looked going false is = fetching-proper v f o run by number false is_next key places placing t h looked going false is

pub proper-rebuilding : (v : Volume) (f : Facts) (o run : List Event) (by : Actor) (number n : ℕ) → IsNodeOf v n → (state : RebuildState) → HasRebuildEvents v f o run by n state
    → IsProper v f o run by number (ask_of v.layout (Rebuilding n state))
proper-rebuilding v f o run by number n there Probing own = (tt, there, tt, λ link. cc)
proper-rebuilding v f o run by number n there (Enrolling loss) own = own
proper-rebuilding v f o run by number n there (Replacing loss fence) own = (own, there, tt, λ link. cc)
proper-rebuilding v f o run by number n there (Listing t) own = tt
proper-rebuilding v f o run by number n there (Copying t l base s) own =
    let ft = own.1.0 in
    let c = own.1.1 in
    subst (λ (z : ReaderState). IsProper v f o run by number (ask_of v.layout (Rebuilding n (Copying t l base z)))) (sym c.state_is)
    (copying-proper v f o run by number n l.key l.info.places c.listed.placing ft c.fetching
    (inr (n, c.listing.after.0, l, last-has is_next o _ c.listing.after.1, refl)) own.0 (ft.left == 0) refl)
proper-rebuilding v f o run by number n there (Refilling t l size base) own =
    let c = own.1 in (
      (
        record {
          replaced = c.replaced;
          next = (n, l, c.listing, refl);
          enough = c.enough;
          place = (l.info.places, c.listed.placing.placed, c.listed.at);
        },
        (c.first.length_is, c.first.base_is),
      ),
      there,
      tt,
      λ link. own.0,
    )
proper-rebuilding v f o run by number n there (Leaving t key why) own = own.1
