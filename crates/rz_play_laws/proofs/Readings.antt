-- The read of a block: what it asks is proper, and its own events say where it stands.
use Rattle.std.proofs.Common.{◌≡◌, inl, inr, ◌≢◌, ℕ, ◌==◌, ◌&&◌, ◌+◌, ◌<◌, ◌≤◌, nat_lt, Bool, true, false, cond, List, [], ◌∷◌, ◌++◌, length, refl, sym, ◌∙◌, ap, subst, arith, Option, Some, None}
use Rattle.std.specs.Prelude.{count_by, slice_get, slice_index}
use Rattle.std.proofs.lemmas.Bool.{eqb-true, eq-eqb, ltb-true, ltb-false}
use Rattle.std.proofs.lemmas.Option.{slice_get-get_or}
use Rattle.mj_angles.specs.Layout.{inverse_of}
use Rattle.rz_events.specs.Volume.{Volume}
use Rattle.rz_events.specs.declared.keys.Key.{Key}
use Rattle.rz_events.specs.declared.keys.Actor.{Actor}
use Rattle.rz_events.specs.declared.records.Held.{Held}
use Rattle.rz_events.specs.declared.files.Published.{Published}
use Rattle.rz_events.specs.declared.ends.Seen.TheVariants as seen
use Rattle.rz_events.specs.declared.ends.ReadMark.TheVariants as mark
use Rattle.rz_events.specs.declared.export.Call.TheVariants as call
use Rattle.rz_events.specs.declared.export.Asked.TheVariants as asked
use Rattle.rz_events.specs.declared.export.Reply.{Reply}
use Rattle.rz_events.specs.declared.export.Reply.TheVariants as reply
use Rattle.rz_events.specs.declared.nodes.FetchAnswer.{FetchAnswer}
use Rattle.rz_events.specs.declared.nodes.FetchAnswer.TheVariants as fetch
use Rattle.rz_events.specs.declared.nodes.NodeAsk.TheVariants as ask
use Rattle.rz_events.specs.declared.nodes.NodeAnswer.{NodeAnswer}
use Rattle.rz_events.specs.declared.nodes.NodeAnswer.TheVariants as answer
use Rattle.rz_events.specs.declared.machines.ReaderAsk.TheVariants as asks
use Rattle.rz_events.specs.declared.events.Event.{Event}
use Rattle.rz_events.specs.declared.events.Event.TheVariants as e
use Rattle.rz_events.specs.Events.{same_key}
use Rattle.rz_node_model.specs.Versions.{Stands}
use Rattle.rz_node_model.specs.NodeEvents.{node_event, fetch_event}
use Rattle.rz_export_model.specs.ExportEvents.{look_event, recheck_event}
use Rattle.rz_core.specs.History.{Facts, Begun, text_in}
use Rattle.rz_events.specs.Masks.{stamp_told}
use Rattle.rz_core.specs.ExportRows.{HasLooked}
use Rattle.rz_core.specs.Own.{since, fetched_at, is_look, is_end, IsOpen, HasDistinct}
use Rattle.rz_core.specs.Outcomes.{seens, seen_at, is_held, is_asked, IsShort}
use Rattle.rz_core.proofs.Extends.{Extends, last-has}
use Rattle.rz_core.proofs.NodeSteps.{the_some}
use Rattle.rz_core.proofs.Stamps.{same_key-refl}
use Rattle.rz_client_model.specs.declared.reading.ReaderState.{ReaderState}
use Rattle.rz_client_model.specs.declared.reading.ReadStage.{ReadStage}
use Rattle.rz_client_model.specs.declared.reading.ReadStage.TheVariants as reading
use Rattle.rz_client_model.specs.declared.reading.Fetches.{Fetches}
use Rattle.rz_client_model.specs.Read.{none_fetched, next_position, with_seen, with_record, unless_enough, after_fetch, after_recheck, seen_of, reader_ask, reader_end}
use Rattle.rz_operation_model.specs.Work.{Course, Reading}
use Rattle.rz_operation_model.specs.Ask.{SayGot, is_part, ask_of, read_asks}
use Rattle.rz_operation_model.specs.Steps.{Told, Replied, Answered, Missed, told}
use Rattle.rz_play.specs.Turns.{found_text}
use Rattle.rz_core.specs.Courses.{IsCourse}
use Rattle.rz_play_laws.specs.Own.{IsPlacing, IsToldBy, AreToldBy, IsFetching, IsLookedUp, IsReadStage, HasReadEvents, InCourse, IsOwnOf, IsProper}
use Rattle.rz_operation_model.specs.Turns.{IsStep}
use Rattle.rz_play_laws.proofs.Words.{same, other, skip-last, skip-since}
use Rattle.rz_play_laws.proofs.Steps.{export-step, node-step, say-step}
use Rattle.rz_play_laws.proofs.Blocks.{placing-more, course-more, after-found, node-there}
use Rattle.rz_play_laws.proofs.Fetches.{within, counted, fetched, held, enough, fresh-fetches, short-now, positive}

-- The answer to a fetch.

fetch-looks : (by : Actor) (n : ℕ) (key : Key) (p s : ℕ) (a : FetchAnswer) → is_look (fetch_event by n key p s a) ≡ false
fetch-looks by n key p s (fetch.Held r) = refl
fetch-looks by n key p s fetch.Nothing = refl
fetch-looks by n key p s fetch.Lost = refl
fetch-looks by n key p s fetch.Down = refl
fetch-looks by n key p s fetch.DiskFault = refl

pub fetch-ends : (by : Actor) (n : ℕ) (key : Key) (p s : ℕ) (a : FetchAnswer) → is_end (fetch_event by n key p s a) ≡ false
fetch-ends by n key p s (fetch.Held r) = refl
fetch-ends by n key p s fetch.Nothing = refl
fetch-ends by n key p s fetch.Lost = refl
fetch-ends by n key p s fetch.Down = refl
fetch-ends by n key p s fetch.DiskFault = refl

fetch-here : (by : Actor) (n : ℕ) (key : Key) (p s : ℕ) (a : FetchAnswer) (o : List Event) → seen_at key s n (fetch_event by n key p s a ∷ o) ≡ seen_of a
fetch-here by n key p s (fetch.Held r) o = rw (same n, same_key-refl key, same s) refl
fetch-here by n key p s fetch.Nothing o = rw (same n, same_key-refl key, same s) refl
fetch-here by n key p s fetch.Lost o = rw (same n) refl
fetch-here by n key p s fetch.Down o = rw (same n) refl
fetch-here by n key p s fetch.DiskFault o = rw (same n) refl

fetch-there : (by : Actor) (n m : ℕ) (key : Key) (p s : ℕ) (a : FetchAnswer) (o : List Event) → m ≢ n → seen_at key s m (fetch_event by n key p s a ∷ o) ≡ seen_at key s m o
fetch-there by n m key p s (fetch.Held r) o apart = rw (other m n apart) refl
fetch-there by n m key p s fetch.Nothing o apart = rw (other m n apart) refl
fetch-there by n m key p s fetch.Lost o apart = rw (other m n apart) refl
fetch-there by n m key p s fetch.Down o apart = rw (other m n apart) refl
fetch-there by n m key p s fetch.DiskFault o apart = rw (other m n apart) refl

stands-cond : (b : Bool) (p : ℕ) (ps : List ℕ) (q : ℕ) → Stands q ps → Stands q (cond b (p ∷ ps) ps)
stands-cond true p ps q s = inr s
stands-cond false p ps q s = s

fetch-gives : (by : Actor) (n : ℕ) (key : Key) (p s : ℕ) (a : FetchAnswer) (o : List Event) (q : ℕ) → Stands q (fetched_at key s o) → Stands q (fetched_at key s (fetch_event by n key p s a ∷ o))
fetch-gives by n key p s (fetch.Held r) o q st = stands-cond (same_key key key && (s == s)) p (fetched_at key s o) q st
fetch-gives by n key p s fetch.Nothing o q st = st
fetch-gives by n key p s fetch.Lost o q st = st
fetch-gives by n key p s fetch.Down o q st = st
fetch-gives by n key p s fetch.DiskFault o q st = st

fetch-gives-it : (by : Actor) (n : ℕ) (key : Key) (p s : ℕ) (a : FetchAnswer) (o : List Event) → is_held (seen_of a) ≡ true → Stands p (fetched_at key s (fetch_event by n key p s a ∷ o))
fetch-gives-it by n key p s (fetch.Held r) o is = rw (same_key-refl key, same s) (inl refl)
fetch-gives-it by n key p s fetch.Nothing o is = cc
fetch-gives-it by n key p s fetch.Lost o is = cc
fetch-gives-it by n key p s fetch.Down o is = cc
fetch-gives-it by n key p s fetch.DiskFault o is = cc

fetch-asked : (a : FetchAnswer) → is_asked (seen_of a) ≡ true
fetch-asked (fetch.Held r) = refl
fetch-asked fetch.Nothing = refl
fetch-asked fetch.Lost = refl
fetch-asked fetch.Down = refl
fetch-asked fetch.DiskFault = refl

text-of : (f : Facts) (s : ℕ) (b : Begun) → f.wrote s ≡ Some b → b.text ≡ text_in (f.wrote s)
text-of f s b is = sym (ap text_in is)

-- Fetches, since the newest event that passes the test `start`: an event that no message is.
module _ (v : Volume) (f g : Facts) (ext : Extends f g) (o : List Event) (by : Actor) (start : Event → Bool)
    (quiet : (n : ℕ) (k : Key) (p s : ℕ) (a : FetchAnswer) → start (fetch_event by n k p s a) ≡ false) (calm : (n : ℕ) (lost : Bool) → start (e.Missed by n lost) ≡ false)
    (key : Key) (places : List ℕ) (placing : IsPlacing v f key.fid places) (t : Fetches) (h : IsFetching v f o start key places t) (some : 0 < t.left) where
  abbrev at : ℕ
  at = next_position t

  abbrev node_at : ℕ
  node_at = slice_index places at

  abbrev fetches : FetchAnswer → Event
  fetches a = fetch_event by node_at key at t.stamp a

  abbrev missed : Bool → Event
  missed lost = e.Missed by node_at lost

  low : at < length places
  low = within v f g ext [] o start key places placing t h refl some seen.Missed

  here_at : slice_get places at ≡ Some node_at
  here_at = slice_get-get_or places at 0 low

  same_node : (n : ℕ) → slice_get places at ≡ Some n → node_at ≡ n
  same_node n is = the_some _ n (sym here_at ∙ is)

  apart_node : (q n : ℕ) → q ≢ at → slice_get places q ≡ Some n → n ≢ node_at
  apart_node q n apart is k = apart (placing.apart q at n is (here_at ∙ ap Some (sym k)))

  -- an answer other than the record
  pub seen-more : (a : FetchAnswer) → is_held (seen_of a) ≡ false → IsFetching v g (fetches a ∷ o) start key places (with_seen t (seen_of a))
  seen-more a not_held =
      let later = skip-since start (fetches a) o (quiet node_at key at t.stamp a) in
      let hr = λ (n : ℕ) (is : slice_get places at ≡ Some n). subst (λ m. seen_at key t.stamp m (fetches a ∷ since start o) ≡ seen_of a) (same_node n is) (fetch-here by node_at key at t.stamp a (since start o)) in
      let th = λ (q n : ℕ) (apart : q ≢ at) (is : slice_get places q ≡ Some n). fetch-there by node_at n key at t.stamp a (since start o) (apart_node q n apart is) in
      let gv = fetch-gives by node_at key at t.stamp a (since start o) in
      let gi = fetch-gives-it by node_at key at t.stamp a (since start o) in
      let c = counted v f g ext (fetches a ∷ []) o start key places placing t h later some (seen_of a) hr th gv gi (fetch-asked a) false not_held in
      let few = h.few in
      fetched v f g ext (fetches a ∷ []) o start key places placing t h later some (seen_of a) hr th gv gi (fetch-asked a) t.given t.length (omega (arith, c)) few

  -- the record
  pub record-more : (r : Held) → t.given + 1 < inverse_of v.layout → IsFetching v g (fetches (fetch.Held r) ∷ o) start key places (with_record t r.length)
  record-more r few =
      let a = fetch.Held r in
      let later = skip-since start (fetches a) o (quiet node_at key at t.stamp a) in
      let hr = λ (n : ℕ) (is : slice_get places at ≡ Some n). subst (λ m. seen_at key t.stamp m (fetches a ∷ since start o) ≡ seen_of a) (same_node n is) (fetch-here by node_at key at t.stamp a (since start o)) in
      let th = λ (q n : ℕ) (apart : q ≢ at) (is : slice_get places q ≡ Some n). fetch-there by node_at n key at t.stamp a (since start o) (apart_node q n apart is) in
      let gv = fetch-gives by node_at key at t.stamp a (since start o) in
      let gi = fetch-gives-it by node_at key at t.stamp a (since start o) in
      let c = counted v f g ext (fetches a ∷ []) o start key places placing t h later some (seen_of a) hr th gv gi (fetch-asked a) true refl in
      fetched v f g ext (fetches a ∷ []) o start key places placing t h later some (seen_of a) hr th gv gi (fetch-asked a) (t.given + 1) (cond (t.given == 0) r.length t.length) (sym c) few

  pub record-enough : (r : Held) → inverse_of v.layout ≤ t.given + 1 → HasDistinct (inverse_of v.layout) (fetched_at key t.stamp (since start (fetches (fetch.Held r) ∷ o)))
  record-enough r many =
      let a = fetch.Held r in
      let later = skip-since start (fetches a) o (quiet node_at key at t.stamp a) in
      let hr = λ (n : ℕ) (is : slice_get places at ≡ Some n). subst (λ m. seen_at key t.stamp m (fetches a ∷ since start o) ≡ seen_of a) (same_node n is) (fetch-here by node_at key at t.stamp a (since start o)) in
      let th = λ (q n : ℕ) (apart : q ≢ at) (is : slice_get places q ≡ Some n). fetch-there by node_at n key at t.stamp a (since start o) (apart_node q n apart is) in
      let gv = fetch-gives by node_at key at t.stamp a (since start o) in
      let gi = fetch-gives-it by node_at key at t.stamp a (since start o) in
      let c = counted v f g ext (fetches a ∷ []) o start key places placing t h later some (seen_of a) hr th gv gi (fetch-asked a) true refl in
      let few = h.few in
      enough v f g ext (fetches a ∷ []) o start key places placing t h later some (seen_of a) hr th gv gi (fetch-asked a) (inverse_of v.layout) (omega (arith, c, few, many))

  pub record-many : (r : Held) → inverse_of v.layout ≤ t.given + 1
      → inverse_of v.layout ≤ count_by is_held (seens key t.stamp (since start (fetches (fetch.Held r) ∷ o)) 0 places)
  record-many r many =
      let a = fetch.Held r in
      let later = skip-since start (fetches a) o (quiet node_at key at t.stamp a) in
      let hr = λ (n : ℕ) (is : slice_get places at ≡ Some n). subst (λ m. seen_at key t.stamp m (fetches a ∷ since start o) ≡ seen_of a) (same_node n is) (fetch-here by node_at key at t.stamp a (since start o)) in
      let th = λ (q n : ℕ) (apart : q ≢ at) (is : slice_get places q ≡ Some n). fetch-there by node_at n key at t.stamp a (since start o) (apart_node q n apart is) in
      let gv = fetch-gives by node_at key at t.stamp a (since start o) in
      let gi = fetch-gives-it by node_at key at t.stamp a (since start o) in
      let c = counted v f g ext (fetches a ∷ []) o start key places placing t h later some (seen_of a) hr th gv gi (fetch-asked a) true refl in
      let k = held v f g ext (fetches a ∷ []) o start key places placing t h later some (seen_of a) hr th gv gi (fetch-asked a) in
      omega (arith, c, k, many)

  pub reply-lost : (a : FetchAnswer) → IsFetching v g (missed true ∷ fetches a ∷ o) start key places (with_seen t seen.Missed)
  reply-lost a =
      let later = skip-since start (missed true) (fetches a ∷ o) (calm node_at true) ∙ ap (λ z. missed true ∷ z) (skip-since start (fetches a) o (quiet node_at key at t.stamp a)) in
      let hr = λ (n : ℕ) (is : slice_get places at ≡ Some n). subst (λ m. seen_at key t.stamp m (missed true ∷ fetches a ∷ since start o) ≡ seen.Missed) (same_node n is)
      (ap (λ b. cond b seen.Missed (seen_at key t.stamp node_at (fetches a ∷ since start o))) (same node_at)) in
      let th = λ (q n : ℕ) (apart : q ≢ at) (is : slice_get places q ≡ Some n).
      ap (λ b. cond b seen.Missed (seen_at key t.stamp n (fetches a ∷ since start o))) (other n node_at (apart_node q n apart is))
      ∙ fetch-there by node_at n key at t.stamp a (since start o) (apart_node q n apart is) in
      let gv = fetch-gives by node_at key at t.stamp a (since start o) in
      let gi = λ (is : is_held seen.Missed ≡ true). (let z : Stands at (fetched_at key t.stamp (missed true ∷ fetches a ∷ since start o)) = cc in z) in
      let c = counted v f g ext (missed true ∷ fetches a ∷ []) o start key places placing t h later some seen.Missed hr th gv gi refl false refl in
      let few = h.few in
      fetched v f g ext (missed true ∷ fetches a ∷ []) o start key places placing t h later some seen.Missed hr th gv gi refl t.given t.length (omega (arith, c)) few

  pub request-lost : IsFetching v g (missed false ∷ o) start key places (with_seen t seen.Missed)
  request-lost =
      let later = skip-since start (missed false) o (calm node_at false) in
      let hr = λ (n : ℕ) (is : slice_get places at ≡ Some n). subst (λ m. seen_at key t.stamp m (missed false ∷ since start o) ≡ seen.Missed) (same_node n is)
      (ap (λ b. cond b seen.Missed (seen_at key t.stamp node_at (since start o))) (same node_at)) in
      let th = λ (q n : ℕ) (apart : q ≢ at) (is : slice_get places q ≡ Some n).
      ap (λ b. cond b seen.Missed (seen_at key t.stamp n (since start o))) (other n node_at (apart_node q n apart is)) in
      let gv = λ (q : ℕ) (st : Stands q (fetched_at key t.stamp (since start o))). st in
      let gi = λ (is : is_held seen.Missed ≡ true). (let z : Stands at (fetched_at key t.stamp (missed false ∷ since start o)) = cc in z) in
      let c = counted v f g ext (missed false ∷ []) o start key places placing t h later some seen.Missed hr th gv gi refl false refl in
      let few = h.few in
      fetched v f g ext (missed false ∷ []) o start key places placing t h later some seen.Missed hr th gv gi refl t.given t.length (omega (arith, c)) few

-- The read of a block by itself.

quiet-look : (by : Actor) (n : ℕ) (k : Key) (p s : ℕ) (a : FetchAnswer) → is_look (fetch_event by n k p s a) ≡ false
quiet-look by n k p s a = fetch-looks by n k p s a

module _ (v : Volume) (f g : Facts) (ext : Extends f g) (o run : List Event) (by : Actor) (number : ℕ) (key : Key) (places : List ℕ) (placing : IsPlacing v f key.fid places)
    (course : Course) (in_course : InCourse v f course) where
  abbrev state : ReadStage → ReaderState
  state stage = record { layout = v.layout; key = key; places = places; stage = stage }

  -- what is to be shown of a step
  abbrev IsNext : ReadStage → Told → List Event → Type 0
  IsNext stage t xs = AreToldBy v g xs → IsOwnOf v g (xs ++ o) (xs ++ run) by (told v.layout (Reading course (state stage)) t)

  -- it goes on with this stage
  goes : (stage : ReadStage) (xs : List Event) → IsOpen (xs ++ run) → IsReadStage v g (xs ++ o) by key places stage
      → IsOwnOf v g (xs ++ o) (xs ++ run) by (Reading course (state stage))
  goes stage xs going is = (going, record { layout_is = refl; placing = placing-more v f g ext key.fid places placing; stage = is }, course-more v f g ext course in_course)

  look-step : (r : Reply) (x : Event) → look_event by (call.Look key) r ≡ Some x → IsNext reading.Looking (Replied r) (x ∷ [])
  look-step (reply.Looked None) x is =
      subst (λ y. IsNext reading.Looking (Replied (reply.Looked None)) (y ∷ [])) (the_some _ x is)
      (λ told. goes (reading.Ended mark.Hole) (e.Look by key None ∷ []) refl refl)
  look-step (reply.Looked (Some p)) x is =
      subst (λ y. IsNext reading.Looking (Replied (reply.Looked (Some p))) (y ∷ [])) (the_some _ x is)
      (λ told. goes (reading.Fetching (none_fetched v.layout p)) (e.Look by key (Some p) ∷ []) refl
      ((p, refl, refl), fresh-fetches v g (e.Look by key (Some p) ∷ o) is_look key places p placing.many refl told.0))
  look-step (reply.Denied why) x is =
      subst (λ y. IsNext reading.Looking (Replied (reply.Denied why)) (y ∷ [])) (the_some _ x is)
      (λ told. goes (reading.Ended (mark.Denied why)) (e.Denied by (asked.Look key) why ∷ []) refl (inl refl))
  look-step (_) x is = cc

  module _ (t : Fetches) (looked : IsLookedUp o by key t.stamp) (h : IsFetching v f o is_look key places t) where
    module _ (some : 0 < t.left) where
      abbrev node : ℕ
      node = slice_index places (next_position t)

      abbrev gets : FetchAnswer → Event
      gets a = fetch_event by node key (next_position t) t.stamp a

      abbrev loses : Bool → Event
      loses lost = e.Missed by node lost

      looked_on : (a : FetchAnswer) → IsLookedUp (gets a ∷ o) by key t.stamp
      looked_on a = (looked.0, skip-last is_look (gets a) o (fetch-looks by node key (next_position t) t.stamp a) ∙ looked.1, looked.2)

      looked_lost : (a : FetchAnswer) → IsLookedUp (loses true ∷ gets a ∷ o) by key t.stamp
      looked_lost a = looked_on a

      other-answer : (a : FetchAnswer) → is_held (seen_of a) ≡ false → IsReadStage v g (gets a ∷ o) by key places (reading.Fetching (with_seen t (seen_of a)))
      other-answer a is = (looked_on a, seen-more v f g ext o by is_look (quiet-look by) (λ n lost. refl) key places placing t h some a is)

      held-answer : (r : Held) (c : Bool) → (r.stamp == t.stamp) ≡ true → nat_lt (t.given + 1) (inverse_of v.layout) ≡ c
          → IsReadStage v g (gets (fetch.Held r) ∷ o) by key places
          (cond c (reading.Fetching (with_record t r.length)) (reading.Ended (mark.Found t.stamp (cond (t.given == 0) r.length t.length))))
      held-answer r true same less =
          (looked_on (fetch.Held r), record-more v f g ext o by is_look (quiet-look by) (λ n lost. refl) key places placing t h some r (ltb-true (t.given + 1) (inverse_of v.layout) less))
      held-answer r false same more = record {
        looked = looked_on (fetch.Held r);
        enough = record-enough v f g ext o by is_look (quiet-look by) (λ n lost. refl) key places placing t h some r (ltb-false (t.given + 1) (inverse_of v.layout) more);
        wrote = (h.known.0, ext.wrote t.stamp h.known.0 h.known.1, text-of g t.stamp h.known.0 (ext.wrote t.stamp h.known.0 h.known.1));
      }

      after : (a : FetchAnswer) → IsToldBy v g (gets a) → IsReadStage v g (gets a ∷ o) by key places (after_fetch v.layout true t a)
      after (fetch.Held r) told =
          let same = eq-eqb r.stamp t.stamp told.1.stamp in
          subst (λ b. IsReadStage v g (gets (fetch.Held r) ∷ o) by key places (cond b (unless_enough v.layout true (with_record t r.length)) (reading.Fetching (with_seen t seen.Held)))) (sym same)
          (held-answer r (nat_lt (t.given + 1) (inverse_of v.layout)) same refl)
      after fetch.Nothing told = other-answer fetch.Nothing refl
      after fetch.Lost told = other-answer fetch.Lost refl
      after fetch.Down told = other-answer fetch.Down refl
      after fetch.DiskFault told = other-answer fetch.DiskFault refl

      through : (given : NodeAnswer) (x : Event) → node_event by node (ask.Fetch key (next_position t) t.stamp) given ≡ Some x → IsNext (reading.Fetching t) (Answered true given) (x ∷ [])
      through (answer.Fetch a) x is =
          subst (λ y. IsNext (reading.Fetching t) (Answered true (answer.Fetch a)) (y ∷ [])) (the_some _ x is)
          (λ told. goes (after_fetch v.layout true t a) (gets a ∷ []) (fetch-ends by node key (next_position t) t.stamp a) (after a told.0))
      through (_) x is = cc

      replied : (given : NodeAnswer) (x : Event) → node_event by node (ask.Fetch key (next_position t) t.stamp) given ≡ Some x → IsNext (reading.Fetching t) Missed (loses true ∷ x ∷ [])
      replied (answer.Fetch a) x is =
          subst (λ y. IsNext (reading.Fetching t) Missed (loses true ∷ y ∷ [])) (the_some _ x is)
          (λ told. goes (reading.Fetching (with_seen t seen.Missed)) (loses true ∷ gets a ∷ []) refl
          (looked_lost a, reply-lost v f g ext o by is_look (quiet-look by) (λ n lost. refl) key places placing t h some a))
      replied (_) x is = cc

      requested : IsNext (reading.Fetching t) Missed (loses false ∷ [])
      requested told =
          goes (reading.Fetching (with_seen t seen.Missed)) (loses false ∷ []) refl
          (looked, request-lost v f g ext o by is_look (quiet-look by) (λ n lost. refl) key places placing t h some)

    module _ (none : t.left ≡ 0) where
      short : (p : Option Published) → IsShort v g is_look (e.Recheck by key p ∷ o) key t.stamp t.seen
      short p = short-now v f g ext o is_look key places placing t h none (e.Recheck by key p) refl refl (λ n os. refl)

      -- too few records came, and the same stamp or another one is published
      rechecked : (p : Option Published) (c : Bool) → (stamp_told p == t.stamp) ≡ c
          → IsReadStage v g (e.Recheck by key p ∷ o) by key places (reading.Ended (cond c (mark.TooFew t.seen) (mark.Moved t.stamp (stamp_told p))))
      rechecked p true same = record {
        published = looked.0;
        looked = looked.1;
        short = subst (λ s. IsShort v g is_look (e.Recheck by key p ∷ o) key s t.seen) (sym looked.2) (short p);
        now = p;
        again = refl;
        same = eqb-true (stamp_told p) t.stamp same ∙ sym looked.2;
      }
      rechecked p false apart = record {
        looked = looked;
        short = (t.seen, short p);
        again = (p, refl, refl);
        moved = λ k. (let z : (stamp_told p == t.stamp) ≡ true = eq-eqb (stamp_told p) t.stamp k in cc);
      }

      recheck-step : (r : Reply) (x : Event) → recheck_event by (call.Recheck key) r ≡ Some x → IsNext (reading.Fetching t) (Replied r) (x ∷ [])
      recheck-step (reply.Looked p) x is =
          subst (λ y. IsNext (reading.Fetching t) (Replied (reply.Looked p)) (y ∷ [])) (the_some _ x is)
          (λ told. goes (after_recheck t p) (e.Recheck by key p ∷ []) refl (rechecked p (stamp_told p == t.stamp) refl))
      recheck-step (reply.Denied why) x is =
          subst (λ y. IsNext (reading.Fetching t) (Replied (reply.Denied why)) (y ∷ [])) (the_some _ x is)
          (λ told. goes (reading.Ended (mark.Denied why)) (e.Denied by (asked.Recheck key) why ∷ []) refl (inr (refl, (Some looked.0, looked.1))))
      recheck-step (_) x is = cc

    fetching-step : (b : Bool) → (t.left == 0) ≡ b → (t' : Told) (xs : List Event)
        → IsStep by number (read_asks (is_part course) key None (cond b asks.Recheck (asks.Fetch (next_position t) (slice_index places (next_position t)) t.stamp))) t' xs
        → IsNext (reading.Fetching t) t' xs
    fetching-step true is t' xs step =
        export-step by (call.Recheck key) (λ z zs. IsNext (reading.Fetching t) z zs) (recheck-step (eqb-true t.left 0 is)) t' xs step
    fetching-step false is t' xs step =
        let some = positive t.left is in
        node-step by (slice_index places (next_position t)) (ask.Fetch key (next_position t) t.stamp) (λ z zs. IsNext (reading.Fetching t) z zs)
        (through some) (λ given x event link. replied some given x event) (λ link. requested some) t' xs step

  read-step : (stage : ReadStage) → IsReadStage v f o by key places stage → (t : Told) (xs : List Event)
      → IsStep by number (ask_of v.layout (Reading course (state stage))) t xs → IsNext stage t xs
  read-step reading.Looking is t xs step = export-step by (call.Look key) (λ z zs. IsNext reading.Looking z zs) look-step t xs step
  read-step (reading.Fetching t) h t' xs step = fetching-step t h.0 h.1 (t.left == 0) refl t' xs step
  read-step (reading.Ended mark) h t' xs step =
      say-step by number (SayGot key (is_part course) mark) (λ z zs. IsNext (reading.Ended mark) z zs) (λ found told. after-found v f g ext o run by number key course in_course mark found told.0) t' xs step

-- What a read asks is proper.

pub fetching-proper : (v : Volume) (f : Facts) (o run : List Event) (by : Actor) (number : ℕ) (part : Bool) (start : Event → Bool) (key : Key) (places : List ℕ) (placing : IsPlacing v f key.fid places) (t : Fetches)
    → IsFetching v f o start key places t → HasLooked o by key → IsOpen run → (b : Bool) → (t.left == 0) ≡ b
    → IsProper v f o run by number (read_asks part key None (cond b asks.Recheck (asks.Fetch (next_position t) (slice_index places (next_position t)) t.stamp)))
fetching-proper v f o run by number part start key places placing t h looked going true is = looked
fetching-proper v f o run by number part start key places placing t h looked going false is =
    let low = within v f f (record { wrote = λ s b k. k; places = λ fid ps k. k }) [] o start key places placing t h refl (positive t.left is) seen.Missed in
    ((places, placing.placed, slice_get-get_or places (next_position t) 0 low), node-there v places (next_position t) placing.nodes low, tt, λ link. going)

read-proper : (v : Volume) (f : Facts) (o run : List Event) (by : Actor) (number : ℕ) (course : Course) (key : Key) (places : List ℕ) (placing : IsPlacing v f key.fid places) (stage : ReadStage)
    → IsOpen run → IsReadStage v f o by key places stage
    → (let s : ReaderState = record { layout = v.layout; key = key; places = places; stage = stage } in
    IsCourse v.layout by number run (Reading course s) → IsProper v f o run by number (read_asks (is_part course) key (reader_end s) (reader_ask s)))
read-proper v f o run by number course key places placing reading.Looking going h going_on = tt
read-proper v f o run by number course key places placing (reading.Fetching t) going h going_on =
    fetching-proper v f o run by number (is_part course) is_look key places placing t h.1 (inl (Some h.0.0, last-has is_look o _ h.0.1)) going (t.left == 0) refl
read-proper v f o run by number course key places placing (reading.Ended mark) going h going_on =
    let s : ReaderState = record { layout = v.layout; key = key; places = places; stage = reading.Ended mark } in (
      h,
      record {
        mark = mark;
        text = found_text f mark;
        end_is = refl;
        saying = record { work = Reading course s; course = going_on; asks = refl };
      },
    )

-- The same of a state that has the layout of the volume.

pub own-read : (v : Volume) (f g : Facts) → Extends f g → (o run : List Event) (by : Actor) (number : ℕ) (course : Course) (s : ReaderState)
    → HasReadEvents v f o by s → InCourse v f course → (t : Told) (xs : List Event) → IsStep by number (ask_of v.layout (Reading course s)) t xs
    → AreToldBy v g xs → IsOwnOf v g (xs ++ o) (xs ++ run) by (told v.layout (Reading course s) t)
own-read v f g ext o run by number course s w in_course t xs =
    subst (λ y. (let z : ReaderState = record { layout = y; key = s.key; places = s.places; stage = s.stage } in
    IsStep by number (ask_of v.layout (Reading course z)) t xs → AreToldBy v g xs → IsOwnOf v g (xs ++ o) (xs ++ run) by (told v.layout (Reading course z) t))) (sym w.layout_is)
    (λ step. read-step v f g ext o run by number s.key s.places w.placing course in_course s.stage w.stage t xs step)

pub proper-read : (v : Volume) (f : Facts) (o run : List Event) (by : Actor) (number : ℕ) (course : Course) (s : ReaderState) → IsOpen run → HasReadEvents v f o by s → IsCourse v.layout by number run (Reading course s) → IsProper v f o run by number (ask_of v.layout (Reading course s))
proper-read v f o run by number course s going w =
    subst (λ y. (let z : ReaderState = record { layout = y; key = s.key; places = s.places; stage = s.stage } in
    IsCourse v.layout by number run (Reading course z) → IsProper v f o run by number (ask_of v.layout (Reading course z)))) (sym w.layout_is)
    (read-proper v f o run by number course s.key s.places w.placing s.stage going w.stage)
