-- An operation that was told of a fetch.
use Rattle.std.proofs.Common.{◌≡◌, inl, inr, ℕ, Bool, true, false, cond, ◌<◌, ◌==◌, List, [], ◌∷◌, ◌++◌, length, Option, Some, None, refl, sym, ◌∙◌, ap, subst, eq-eqb}
use Rattle.std.specs.Prelude.{slice_get, slice_index, IsSomeAnd}
use Rattle.std.specs.List.{AllByRecursion}
use Rattle.mj_angles.specs.declared.layout.Layout.{Layout}
use Rattle.mj_angles.specs.Layout.{inverse_of}
use Rattle.mj_inverse.specs.Fits.{Pair}
use Rattle.rz_words.specs.Grid.{Grid}
use Rattle.rz_events.specs.Volume.{Volume}
use Rattle.rz_events.specs.declared.keys.Key.{Key}
use Rattle.rz_events.specs.declared.keys.Actor.{Actor}
use Rattle.rz_events.specs.declared.files.Listed.{Listed}
use Rattle.rz_events.specs.declared.records.Held.{Held}
use Rattle.rz_events.specs.declared.ends.ReadMark.TheVariants as mark
use Rattle.rz_events.specs.declared.nodes.FetchAnswer.{FetchAnswer}
use Rattle.rz_events.specs.declared.nodes.FetchAnswer.TheVariants as fetch
use Rattle.rz_events.specs.declared.nodes.NodeAsk.TheVariants as ask
use Rattle.rz_events.specs.declared.nodes.NodeAnswer.TheVariants as answer
use Rattle.rz_events.specs.declared.machines.ReaderAsk.TheVariants as reads
use Rattle.rz_events.specs.declared.machines.ReaderAnswer.TheVariants as told_reader
use Rattle.rz_events.specs.declared.events.Event.{Event}
use Rattle.rz_node.specs.Fetched.{IfHeld}
use Rattle.rz_client_model.specs.declared.reading.ReaderState.{ReaderState}
use Rattle.rz_client_model.specs.declared.reading.ReadStage.{ReadStage}
use Rattle.rz_client_model.specs.declared.reading.ReadStage.TheVariants.{Looking, Fetching, Ended}
use Rattle.rz_client_model.specs.declared.reading.Fetches.{Fetches}
use Rattle.rz_client_model.specs.Read.{next_position, with_seen, seen_of, after_fetch, reader_ask, end_at, ask_at}
use Rattle.rz_reader.specs.declared.steps.Record.{Record}
use Rattle.rz_reader.specs.Fetched.{record_in}
use Rattle.rz_reader.specs.Machine.{AreFitting, IsOnly, pair_of, pairs_if, search_of}
use Rattle.rz_operation_model.specs.Rebuild.{Tally, Probing, Enrolling, Replacing, Listing, Copying, Refilling, Leaving, ask_to_copy, after_read, base_told}
use Rattle.rz_operation_model.specs.Work.{Work, Course, Calling, Dropping, Opening, Locking, Writing, Reading, Rebuilding, Ending, Over}
use Rattle.rz_operation_model.specs.Ask.{Ask, AskNode, ask_of, is_part, read_asks, write_asks, rebuild_asks}
use Rattle.rz_client_model.specs.declared.writing.WriterState.{WriterState}
use Rattle.rz_client_model.specs.Write.{writer_ask, writer_end}
use Rattle.rz_events.specs.declared.machines.WriterAsk.{WriterAsk}
use Rattle.rz_events.specs.declared.machines.WriterAsk.TheVariants as writes
use Rattle.rz_operation_model.specs.Steps.{Answered, told}
use Rattle.rz_operation.specs.Answers.{IsWorkAfter, FitsIfEnough, pairs_in, IsBlockIn}
use Rattle.rz_operation.specs.Machine.{Machine}
use Rattle.rz_core.specs.History.{Facts, IsPlace}
use Rattle.rz_play_laws.specs.Own.{IsOwnOf, HasReadEvents, IsPlacing, IsCopying}
use Rattle.rz_node_laws.specs.Laws.{IsWrittenLaw, IsReadBack}
use Rattle.rz_block_laws.specs.InHand.{IsInHand, IsReadInHand, IsPairOf, IsWriteBlock}
use Rattle.rz_block_laws.specs.Laws.{IsFetchedLaw}
use Rattle.rz_block_laws.proofs.Hands.{asks-question, got-no-node, gave-no-node, lock-no-node}
use Rattle.rz_block_laws.proofs.Fetching.{pair-back, one-came, none-came, IsStageAfter}

-- ---- what was asked

same-key : (a b : Key) (p q s t : ℕ) → ask.Fetch a p s ≡ ask.Fetch b q t → a ≡ b
same-key a b p q s t is = cc

same-position : (a b : Key) (p q s t : ℕ) → ask.Fetch a p s ≡ ask.Fetch b q t → p ≡ q
same-position a b p q s t is = cc

same-stamp : (a b : Key) (p q s t : ℕ) → ask.Fetch a p s ≡ ask.Fetch b q t → s ≡ t
same-stamp a b p q s t is = cc

same-places : (a b : List ℕ) → Some a ≡ Some b → a ≡ b
same-places a b is = cc

some-and : (o : Option Grid) (P Q : Grid → Type 0) → ((g : Grid) → P g → Q g) → IsSomeAnd o P → IsSomeAnd o Q
some-and None P Q each is = is
some-and (Some g) P Q each is = each g is

-- ---- the stage of the read

module _ (law : IsWrittenLaw) (v : Volume) (f : Facts) (key : Key) (places : List ℕ) (placing : IsPlacing v f key.fid places) (pairs : List Pair) (t : Fetches)
    (hand : IsReadInHand v.layout f key pairs None (Fetching t)) (few : t.given < inverse_of v.layout) (n : ℕ) (at : IsPlace f key.fid (next_position t) n) (before bins : List ℕ) where
  abbrev y : Layout
  y = v.layout

  abbrev had : FetchAnswer → List Pair
  had a = pairs_if y pairs (record_in (Fetching t) (told_reader.Fetched a)) bins

  here : slice_get places (next_position t) ≡ Some n
  here = subst (λ (ps : List ℕ). slice_get ps (next_position t) ≡ Some n) (same-places at.0 places (sym at.1 ∙ placing.placed)) at.2

  held : (r : Held) → r.stamp ≡ t.stamp → IsReadBack v f n key r before bins → (fits : Bool) → AreFitting y (had (fetch.Held r)) fits → IsStageAfter y f key (had (fetch.Held r)) t fits (fetch.Held r)
  held r same back fits fitting =
      let it : Record = record { fetches = t; length = r.length } in
      let are : had (fetch.Held r) ≡ pairs ++ pair_of y (next_position t) bins ∷ [] =
      ap (λ (b : Bool). pairs_if y pairs (cond b (Some it) None) bins) (eq-eqb r.stamp t.stamp same) in
      let pair : IsPairOf y f key t.stamp (pair_of y (next_position t) bins) =
      subst (λ (stamp : ℕ). IsPairOf y f key stamp (pair_of y (next_position t) bins)) same (pair-back law v f key places placing n (next_position t) here r before bins back) in
      subst (λ (ps : List Pair). IsStageAfter y f key ps t fits (fetch.Held r)) (sym are)
      (one-came y f key pairs t hand few r (pair_of y (next_position t) bins) same pair fits (subst (λ (ps : List Pair). AreFitting y ps fits) are fitting))

  pub stage-after : (a : FetchAnswer) → IfHeld a (λ r. (r.stamp ≡ t.stamp) × IsReadBack v f n key r before bins) → (fits : Bool) → AreFitting y (had a) fits → IsStageAfter y f key (had a) t fits a
  stage-after (fetch.Held r) is fits fitting = held r is.0 is.1 fits fitting
  stage-after fetch.Nothing is fits fitting = none-came y f key pairs t (with_seen t (seen_of fetch.Nothing)) fits fetch.Nothing hand refl refl refl refl
  stage-after fetch.Lost is fits fitting = none-came y f key pairs t (with_seen t (seen_of fetch.Lost)) fits fetch.Lost hand refl refl refl refl
  stage-after fetch.Down is fits fitting = none-came y f key pairs t (with_seen t (seen_of fetch.Down)) fits fetch.Down hand refl refl refl refl
  stage-after fetch.DiskFault is fits fitting = none-came y f key pairs t (with_seen t (seen_of fetch.DiskFault)) fits fetch.DiskFault hand refl refl refl refl

-- ---- the work

-- What the operation has in hand, where the work is one whose stage is such.
module _ (y : Layout) (f : Facts) (key : Key) (had : List Pair) (t : Fetches) (fits : Bool) (a : FetchAnswer) (is : IsStageAfter y f key had t fits a) (old new : Machine) (works : ReadStage → Work) where
  pub went : old.layout ≡ y → IsWorkAfter old had (Answered fits (answer.Fetch a)) new → new.work ≡ works (after_fetch y fits t a)
      → ((u : Fetches) → pairs_in (works (Fetching u)) had ≡ had)
      → ((u : Fetches) (block : Option Grid) → u.stamp ≡ t.stamp → length had ≡ u.given → AllByRecursion (IsPairOf y f key t.stamp) had → IsInHand y f (works (Fetching u)) had block)
      → ((size : ℕ) (block : Option Grid) → IsBlockIn y had (works (Ended (mark.Found t.stamp size))) block → ((g : Grid) → IsOnly (search_of y had) g → IsWriteBlock y f key t.stamp g)
      → IsInHand y f (works (Ended (mark.Found t.stamp size))) new.pairs block)
      → IsInHand y f new.work new.pairs new.block
  went layout goes work pairs on ends = elim is.either [
    | inl k ↦
        (let w : new.work ≡ works (Fetching k.0) = work ∙ ap works (is.fitting ∙ k.1) in
        let p : new.pairs ≡ had = goes.pairs ∙ ap (λ (x : Work). pairs_in x had) w ∙ pairs k.0 in
        subst (λ (x : Work). IsInHand y f x new.pairs new.block) (sym w)
        (subst (λ (ps : List Pair). IsInHand y f (works (Fetching k.0)) ps new.block) (sym p) (on k.0 new.block k.2 k.3 k.4)))
    | inr k ↦
        (let w : new.work ≡ works (Ended (mark.Found t.stamp k.0)) = work ∙ ap works (is.fitting ∙ k.1) in
        let b : IsBlockIn y had (works (Ended (mark.Found t.stamp k.0))) new.block =
        subst (λ (x : Work). IsBlockIn y had x new.block) w (subst (λ (z : Layout). IsBlockIn z had new.work new.block) layout goes.block) in
        subst (λ (x : Work). IsInHand y f x new.pairs new.block) (sym w) (ends k.0 new.block b k.2))
  ]

-- ---- a read

module _ (law : IsWrittenLaw) (v : Volume) (f : Facts) (o run : List Event) (by : Actor) (pairs : List Pair) (block : Option Grid) (new : Machine) (n : ℕ) (key : Key) (position stamp : ℕ) (a : FetchAnswer) (before bins : List ℕ)
    (place : IsPlace f key.fid position n) (back : IfHeld a (λ r. (r.stamp ≡ stamp) × IsReadBack v f n key r before bins)) where
  abbrev Asked : Ask → Type 0
  Asked asked = asked ≡ AskNode n (ask.Fetch key position stamp)

  -- what is so after it was told
  abbrev After : Layout → Work → Type 0
  After z work = FitsIfEnough (record { layout = z; work = work; pairs = pairs; block = block }) (answer.Fetch a) bins new
      → (new.work ≡ told z work (Answered true (answer.Fetch a))) × IsInHand v.layout f new.work new.pairs new.block

  if-held : (k : Key) (s : ℕ) → key ≡ k → stamp ≡ s → (b : FetchAnswer) → IfHeld b (λ r. (r.stamp ≡ stamp) × IsReadBack v f n key r before bins) → IfHeld b (λ r. (r.stamp ≡ s) × IsReadBack v f n k r before bins)
  if-held k s keys stamps (fetch.Held r) p = (p.0 ∙ stamps, subst (λ (q : Key). IsReadBack v f n q r before bins) keys p.1)
  if-held k s keys stamps _ p = tt

  module _ (at : Key) (places : List ℕ) (placing : IsPlacing v f at.fid places) (t : Fetches) (hand : IsReadInHand v.layout f at pairs None (Fetching t)) (few : t.given < inverse_of v.layout)
      (node : ℕ) (asked : AskNode node (ask.Fetch at (next_position t) t.stamp) ≡ AskNode n (ask.Fetch key position stamp)) where
    question : ask.Fetch at (next_position t) t.stamp ≡ ask.Fetch key position stamp
    question = asks-question node n (ask.Fetch at (next_position t) t.stamp) (ask.Fetch key position stamp) asked

    pub after-stage : (fits : Bool) → AreFitting v.layout (pairs_if v.layout pairs (record_in (Fetching t) (told_reader.Fetched a)) bins) fits
        → IsStageAfter v.layout f at (pairs_if v.layout pairs (record_in (Fetching t) (told_reader.Fetched a)) bins) t fits a
    after-stage fits fitting =
        let keys = sym (same-key at key (next_position t) position t.stamp stamp question) in
        let stamps = sym (same-stamp at key (next_position t) position t.stamp stamp question) in
        let positions = sym (same-position at key (next_position t) position t.stamp stamp question) in
        let there : IsPlace f at.fid (next_position t) n = subst (λ (k : Key). IsPlace f k.fid (next_position t) n) keys (subst (λ (p : ℕ). IsPlace f key.fid p n) positions place) in
        stage-after law v f at places placing pairs t hand few n there before bins a (if-held at t.stamp keys stamps a back) fits fitting

  reading : (course : Course) (k : Key) (places : List ℕ) (stage : ReadStage) → HasReadEvents v f o by (record { layout = v.layout; key = k; places = places; stage = stage }) → IsReadInHand v.layout f k pairs block stage
      → Asked (read_asks (is_part course) k (end_at stage) (ask_at (record { layout = v.layout; key = k; places = places; stage = stage }) stage)) → After v.layout (Reading course (record { layout = v.layout; key = k; places = places; stage = stage }))
  reading course k places Looking own hand asked answered = absurd (cc)
  reading course k places (Ended e) own hand asked answered = absurd (got-no-node (is_part course) k (Some e) n (ask.Fetch key position stamp) asked)
  reading course k places (Fetching t) own hand asked answered = go (t.left == 0) refl asked
    where
      go : (b : Bool) → (t.left == 0) ≡ b → Asked (read_asks (is_part course) k None (cond b reads.Recheck (reads.Fetch (next_position t) (slice_index places (next_position t)) t.stamp)))
          → (new.work ≡ told v.layout (Reading course (record { layout = v.layout; key = k; places = places; stage = Fetching t })) (Answered true (answer.Fetch a))) × IsInHand v.layout f new.work new.pairs new.block
      go true is asked = absurd (cc)
      go false is asked =
          let fits = answered.0 in
          let goes = answered.2 in
          let works = λ (st : ReadStage). Reading course (record { layout = v.layout; key = k; places = places; stage = st }) in
          let after = after-stage k places own.placing t hand own.stage.1.few (slice_index places (next_position t)) asked fits answered.1 in
          let had = pairs_if v.layout pairs (record_in (Fetching t) (told_reader.Fetched a)) bins in
          let old : Machine = record { layout = v.layout; work = works (Fetching t); pairs = pairs; block = block } in (
            goes.work ∙ ap works after.fitting,
            went v.layout f k had t fits a after old new works refl goes goes.work
                (λ u. refl)
                (λ u its same count all. (count, subst (λ (s : ℕ). AllByRecursion (IsPairOf v.layout f k s) had) (sym same) all))
                (λ size its found each. some-and its (IsOnly (search_of v.layout had)) (IsWriteBlock v.layout f k t.stamp) each found),
          )

  reading-any : (course : Course) (s : ReaderState) → HasReadEvents v f o by s → IsReadInHand v.layout f s.key pairs block s.stage → Asked (ask_of v.layout (Reading course s)) → After v.layout (Reading course s)
  reading-any course s own = subst (λ (z : Layout). HasReadEvents v f o by (record { layout = z; key = s.key; places = s.places; stage = s.stage }) → IsReadInHand v.layout f s.key pairs block s.stage
      → Asked (read_asks (is_part course) s.key (end_at s.stage) (ask_at (record { layout = z; key = s.key; places = s.places; stage = s.stage }) s.stage))
      → After v.layout (Reading course (record { layout = z; key = s.key; places = s.places; stage = s.stage }))) (sym own.layout_is) (reading course s.key s.places s.stage) own

  -- ---- a rebuild

  module _ (m : ℕ) (t : Tally) (l : Listed) (base : ℕ) (ft : Fetches) where
    abbrev reader : ReadStage → ReaderState
    reader stage = record { layout = v.layout; key = l.key; places = l.info.places; stage = stage }

    abbrev works : ReadStage → Work
    works stage = Rebuilding m (after_read t l (base_told (reader (Fetching ft)) base (told_reader.Fetched a)) (reader stage) (end_at stage))

    copying : IsCopying v f o by m t l base (reader (Fetching ft)) ft → IsReadInHand v.layout f l.key pairs block (Fetching ft)
        → Asked (rebuild_asks v.layout m (ask_to_copy l.key (ask_at (reader (Fetching ft)) (Fetching ft)))) → After v.layout (Rebuilding m (Copying t l base (reader (Fetching ft))))
    copying own hand asked answered = go (ft.left == 0) refl asked
      where
        go : (b : Bool) → (ft.left == 0) ≡ b → Asked (rebuild_asks v.layout m (ask_to_copy l.key (cond b reads.Recheck (reads.Fetch (next_position ft) (slice_index l.info.places (next_position ft)) ft.stamp))))
            → (new.work ≡ told v.layout (Rebuilding m (Copying t l base (reader (Fetching ft)))) (Answered true (answer.Fetch a))) × IsInHand v.layout f new.work new.pairs new.block
        go true is asked = absurd (cc)
        go false is asked =
            let fits = answered.0 in
            let goes = answered.2 in
            let after = after-stage l.key l.info.places own.listed.placing ft hand own.fetching.few (slice_index l.info.places (next_position ft)) asked fits answered.1 in
            let had = pairs_if v.layout pairs (record_in (Fetching ft) (told_reader.Fetched a)) bins in
            let old : Machine = record { layout = v.layout; work = Rebuilding m (Copying t l base (reader (Fetching ft))); pairs = pairs; block = block } in (
              goes.work ∙ ap works after.fitting,
              went v.layout f l.key had ft fits a after old new works refl goes goes.work
                  (λ u. refl)
                  (λ u its same count all. (count, subst (λ (s : ℕ). AllByRecursion (IsPairOf v.layout f l.key s) had) (sym same) all))
                  (λ size its found each. some-and its (IsOnly (search_of v.layout had)) (IsWriteBlock v.layout f l.key l.published.stamp)
                  (λ g only. subst (λ (s : ℕ). IsWriteBlock v.layout f l.key s g) own.stamp_is (each g only)) found),
            )

  copying-any : (m : ℕ) (t : Tally) (l : Listed) (base : ℕ) (s : ReaderState) (ft : Fetches) → IsCopying v f o by m t l base s ft → IsReadInHand v.layout f l.key pairs block s.stage
      → Asked (rebuild_asks v.layout m (ask_to_copy l.key (reader_ask s))) → After v.layout (Rebuilding m (Copying t l base s))
  copying-any m t l base s ft own = subst (λ (r : ReaderState). IsCopying v f o by m t l base r ft → IsReadInHand v.layout f l.key pairs block r.stage
      → Asked (rebuild_asks v.layout m (ask_to_copy l.key (reader_ask r))) → After v.layout (Rebuilding m (Copying t l base r))) (sym own.state_is) (copying m t l base ft) own

  -- ---- any operation

  writes-no-fetch : (part : Bool) (text : List ℕ) (s : WriterState) (w : WriterAsk) → Asked (write_asks part text s w) → ⊥
  writes-no-fetch part text s (writes.Begin size) asked = absurd (cc)
  writes-no-fetch part text s (writes.Keep p node st base) asked = absurd (cc)
  writes-no-fetch part text s (writes.Publish st mask) asked = absurd (cc)
  writes-no-fetch part text s writes.End asked = gave-no-node part s.key (writer_end s) n (ask.Fetch key position stamp) asked

  pub after-any : (work : Work) → IsOwnOf v f o run by work → IsInHand v.layout f work pairs block → Asked (ask_of v.layout work) → After v.layout work
  after-any (Calling c) own hand asked = absurd (cc)
  after-any (Dropping fid m places) own hand asked = absurd (cc)
  after-any (Opening path plan) own hand asked = absurd (cc)
  after-any (Locking path plan) own hand asked = absurd (lock-no-node v.layout path plan n (ask.Fetch key position stamp) asked)
  after-any (Writing course text s) own hand asked = absurd (writes-no-fetch (is_part course) text s (writer_ask s) asked)
  after-any (Reading course s) own hand asked = reading-any course s own.1 hand asked
  after-any (Rebuilding m Probing) own hand asked = absurd (cc)
  after-any (Rebuilding m (Enrolling loss)) own hand asked = absurd (cc)
  after-any (Rebuilding m (Replacing loss fence)) own hand asked = absurd (cc)
  after-any (Rebuilding m (Listing t)) own hand asked = absurd (cc)
  after-any (Rebuilding m (Copying t l base s)) own hand asked = copying-any m t l base s own.1.1.0 own.1.1.1 hand asked
  after-any (Rebuilding m (Refilling t l size base)) own hand asked = absurd (cc)
  after-any (Rebuilding m (Leaving t key why)) own hand asked = absurd (cc)
  after-any (Ending answer) own hand asked = absurd (cc)
  after-any Over own hand asked = absurd (cc)

pub fetched-law : IsWrittenLaw → (v : Volume) → IsFetchedLaw v
fetched-law law v f o run by m new n key position stamp a before bins true_to asked place back answered =
    subst (λ (z : Layout). ask_of z m.work ≡ AskNode n (ask.Fetch key position stamp) → FitsIfEnough (record { layout = z; work = m.work; pairs = m.pairs; block = m.block }) (answer.Fetch a) bins new
    → (new.work ≡ told z m.work (Answered true (answer.Fetch a))) × IsInHand v.layout f new.work new.pairs new.block) (sym true_to.layout_is)
    (after-any law v f o run by m.pairs m.block new n key position stamp a before bins place back m.work true_to.own true_to.hand) asked answered
