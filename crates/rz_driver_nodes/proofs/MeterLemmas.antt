-- Words beside meters, node by node along the row.
use Rattle.std.proofs.Common.{ℕ, zero, suc, Bool, true, false, ◌≡◌, ◌≢◌, ◌+◌, ◌≤◌, nat_eq, map, length, List, [], ◌∷◌, Option, Some, None, IsTrue, if◌then◌else◌, refl, sym, ◌∙◌, ap, subst, arith}
use Rattle.std.specs.Global.{Vec}
use Rattle.std.specs.Vec.{with_items}
use Rattle.std.proofs.lemmas.List.{length-map, with_items_is}
use Rattle.std.specs.Prelude.{slice_get, slice_set, Result, Ok, Err, OnErr}
use Rattle.std.specs.List.{AllByRecursion, IsDistinct}
use Rattle.std.proofs.lemmas.Bool.{eq-eqb}
use Rattle.std.proofs.lemmas.Map.Keys.{IsDistinct-head, IsDistinct-tail}
use Rattle.rz_disk.specs.Meter.{Meter, armed, faults}
use Rattle.rz_events.specs.declared.keys.Actor.{Actor}
use Rattle.rz_events.specs.declared.keys.Actor.TheVariants.{Admin}
use Rattle.rz_events.specs.declared.nodes.Phase.{Phase}
use Rattle.rz_events.specs.declared.nodes.Phase.TheVariants.{Down}
use Rattle.rz_events.specs.declared.nodes.StartAnswer.{StartAnswer}
use Rattle.rz_events.specs.declared.nodes.StartAnswer.TheVariants as start
use Rattle.rz_events.specs.declared.export.Call.{Call}
use Rattle.rz_events.specs.declared.export.Reply.{Reply}
use Rattle.rz_events.specs.declared.nodes.NodeAsk.{NodeAsk}
use Rattle.rz_events.specs.declared.nodes.NodeAsk.TheVariants as ask
use Rattle.rz_events.specs.declared.nodes.NodeAnswer.{NodeAnswer}
use Rattle.rz_events.specs.declared.nodes.NodeAnswer.TheVariants as answer
use Rattle.rz_events.specs.declared.events.Word.TheVariants.{Node}
use Rattle.rz_events.specs.declared.events.Event.{Event}
use Rattle.rz_events.specs.declared.events.Event.TheVariants as e
use Rattle.rz_node_model.specs.States.{NodeState, opened}
use Rattle.rz_node_model.specs.Answers.{IsNodeAnswer, IsStartAnswer}
use Rattle.rz_node_model.specs.Afterwards.{after_answer, after_start}
use Rattle.rz_node_model.specs.NodeEvents.{node_event, start_event}
use Rattle.rz_export_model.specs.ExportEvents.{export_event}
use Rattle.rz_operation_model.specs.Ask.{Saying}
use Rattle.rz_operation_model.specs.Turns.{said_event}
use Rattle.rz_core.specs.History.{of_word}
use Rattle.rz_node.specs.View.{NodeView}
use Rattle.rz_node.specs.Opens.{Opens, IfStarted, UnlessStarted}
use Rattle.rz_node.specs.Calls as calls
use Rattle.rz_node.specs.Calls.{CountsCall, IsNoStart}
use Rattle.rz_play.specs.Faults.{unplanned}
use Rattle.rz_play.specs.Lines.{noted}
use Rattle.rz_node_laws.specs.Metered.{IsMetered, IsFaultLaw, IsArmLaw, IsStartLaw, IsOpening}
use Rattle.rz_disk.specs.UnderFuse.{UnderFuse, fused_meter}
use Rattle.rz_nodes.specs.declared.formatting.Server.{Server}
use Rattle.rz_driver_asks.specs.Parts.{IsNoted}
use Rattle.rz_driver_nodes.specs.Servers.{IsServerAt, numbers_of}
use Rattle.mj_angles.specs.declared.layout.Layout.{Layout}
use Rattle.rz_events.specs.declared.files.NodeSpec.{NodeSpec}
use Rattle.rz_events.specs.Volume.{Volume, IsVolume, nodes_of}
use Rattle.rz_nodes.specs.Formatted.{AreFormatted, disks_of}
use Rattle.rz_driver_nodes.specs.Meters.{IsExact, GoesWith, CountsWith, OfEach, AreMetered, AreCounted, AreDisksCounted, CarriesCounts, OneNodeGoesOn, GoesAsServer, faults_at, faults_in}
use Rattle.rz_node_laws.proofs.NodeWords.{word-grows, noted-own}
use Rattle.rz_node_laws.proofs.MeterRises.{no-start, counts-last, opens-last, armed-there}
use Rattle.rz_driver_nodes.proofs.EventWords.{word-stays, word-apart, node-word, export-quiet, said-quiet, noted-others}

-- Along the row.

differ : (n m : ℕ) → nat_eq n m ≡ false → n ≢ m
differ n m apart same = let yes : nat_eq n m ≡ true = eq-eqb n m same in cc

module _ {D : Type 0} where
  the-one : (x s : Server D) → Some x ≡ Some s → x ≡ s
  the-one x s is = cc

  pub sid-at : (xs : List (Server D)) (n i : ℕ) (s : Server D) → IsServerAt xs n i → slice_get xs i ≡ Some s → s.sid ≡ n
  sid-at [] n i s at is = absurd at
  sid-at (x ∷ xs) n zero s at is = ap (λ (y : Server D). y.sid) (sym (the-one x s is)) ∙ at
  sid-at (x ∷ xs) n (suc i) s at is = sid-at xs n i s at.1 is

  apart-at : (n place : ℕ) (row : List (Server D)) (s : Server D) → slice_get row place ≡ Some s → AllByRecursion (λ m. nat_eq n m ≡ false) (numbers_of row) → n ≢ s.sid
  apart-at n place [] s at apart = absurd (cc)
  apart-at n zero (r ∷ more) s at apart = subst (λ (t : Server D). n ≢ t.sid) (the-one r s at) (differ n r.sid apart.0)
  apart-at n (suc place) (r ∷ more) s at apart = apart-at n place more s at apart.1

  pub numbers-set : (row : List (Server D)) (place : ℕ) (s s' : Server D) → slice_get row place ≡ Some s → s'.sid ≡ s.sid → numbers_of (slice_set row place s') ≡ numbers_of row
  numbers-set [] place s s' at same = absurd (cc)
  numbers-set (r ∷ more) zero s s' at same = ap (λ n. n ∷ numbers_of more) (same ∙ ap (λ (t : Server D). t.sid) (sym (the-one r s at)))
  numbers-set (r ∷ more) (suc place) s s' at same = ap (λ ns. r.sid ∷ ns) (numbers-set more place s s' at same)

  module _ (P : ℕ → List Event → NodeView D → Type 0) (first : ℕ → ℕ) (h h' : List Event) where
    -- where all words stay
    pub all-stay : (i : ℕ) (row : List (Server D)) → ((n : ℕ) → of_word (Node n) h' ≡ of_word (Node n) h) → OfEach P first i row h → OfEach P first i row h'
    all-stay i [] stay o = tt
    all-stay i (s ∷ more) stay o = (subst (λ (w : List Event). P (first i) w s.node) (sym (stay s.sid)) o.0, all-stay (i + 1) more stay o.1)

    -- where those of other nodes stay
    pub others-stay : (i n : ℕ) (row : List (Server D)) → ((m : ℕ) → m ≢ n → of_word (Node m) h' ≡ of_word (Node m) h) → AllByRecursion (λ m. nat_eq n m ≡ false) (numbers_of row)
        → OfEach P first i row h → OfEach P first i row h'
    others-stay i n [] stay apart o = tt
    others-stay i n (s ∷ more) stay apart o =
        let far : s.sid ≢ n = λ same. differ n s.sid apart.0 (sym same) in
        (subst (λ (w : List Event). P (first i) w s.node) (sym (stay s.sid far)) o.0, others-stay (i + 1) n more stay apart.1 o.1)

    -- and the node at a place goes on
    pub one-goes : (i place : ℕ) (row : List (Server D)) (s s' : Server D) → slice_get row place ≡ Some s → s'.sid ≡ s.sid → IsDistinct nat_eq (numbers_of row)
        → ((m : ℕ) → m ≢ s.sid → of_word (Node m) h' ≡ of_word (Node m) h)
        → ((f : ℕ) → P f (of_word (Node s.sid) h) s.node → P f (of_word (Node s.sid) h') s'.node)
        → OfEach P first i row h → OfEach P first i (slice_set row place s') h'
    one-goes i place [] s s' at same apart stay goes o = absurd (cc)
    one-goes i zero (r ∷ more) s s' at same apart stay goes o =
        let here = the-one r s at in
        let now = goes (first i) (subst (λ (t : Server D). P (first i) (of_word (Node t.sid) h) t.node) here o.0) in
        let first_apart = IsDistinct-head nat_eq r.sid (numbers_of more) apart in
        let far = subst (λ (t : Server D). AllByRecursion (λ m. nat_eq t.sid m ≡ false) (numbers_of more)) here first_apart in
        (subst (λ (n : ℕ). P (first i) (of_word (Node n) h') s'.node) (sym same) now, others-stay (i + 1) s.sid more stay far o.1)
    one-goes i (suc place) (r ∷ more) s s' at same apart stay goes o =
        let far = apart-at r.sid place more s at (IsDistinct-head nat_eq r.sid (numbers_of more) apart) in
        (subst (λ (w : List Event). P (first i) w r.node) (sym (stay r.sid far)) o.0, one-goes (i + 1) place more s s' at same (IsDistinct-tail nat_eq r.sid (numbers_of more) apart) stay goes o.1)

  -- another statement of each
  pub each-then : (P Q : ℕ → List Event → NodeView D → Type 0) (first : ℕ → ℕ) (h : List Event) (i : ℕ) (row : List (Server D)) → ((f : ℕ) (w : List Event) (n : NodeView D) → P f w n → Q f w n)
      → OfEach P first i row h → OfEach Q first i row h
  each-then P Q first h i [] turns o = tt
  each-then P Q first h i (s ∷ more) turns o = (turns (first i) (of_word (Node s.sid) h) s.node o.0, each-then P Q first h (i + 1) more turns o.1)

-- One node.

module _ {D : Type 0} (meter : D → Meter) where
  exact-before : (node node' : NodeView D) → (meter node.disk).own ≤ (meter node'.disk).own → IsExact (meter node'.disk) → IsExact (meter node.disk)
  exact-before node node' rose exact = omega (arith, rose, exact)

  -- a node that answered any call but a start goes on
  pub call-goes : IsFaultLaw → (by : Actor) (n k cells : ℕ) (question : NodeAsk) (given : NodeAnswer) (node node' : NodeView D) → calls.IsNoStart question
      → IsNodeAnswer cells node.state question given → node'.state ≡ after_answer question given node.state → CountsCall k given (meter node.disk) (meter node'.disk)
      → (h : List Event) → OneNodeGoesOn meter n node node' h (noted (node_event by n question given) h)
  call-goes law by n k cells question given node node' no_start is after counts h =
      let own = node-word by n question given in
      let rose = counts-last k cells question given node.state (meter node.disk) (meter node'.disk) (no-start question no_start) is counts in
      record {
        others = noted-others n (node_event by n question given) h own;
        goes = λ first was. (
          (let low = was.0 in omega (arith, low, rose)),
          λ exact.
              let w = of_word (Node n) h in
              let met = law first k cells w node.state by n question given (meter node.disk) (meter node'.disk) exact (no-start question no_start) is counts (was.1 (exact-before node node' rose exact)) in
              let now = subst (λ (s : NodeState). IsMetered first (noted (node_event by n question given) w) s.phase (meter node'.disk)) (sym after) met in
              subst (λ (v : List Event). IsMetered first v node'.state.phase (meter node'.disk)) (sym (noted-own n (node_event by n question given) h own)) now,
        );
      }

  -- events of no node after that change nothing
  pub goes-then : (n : ℕ) (node node' : NodeView D) (h h' h2 : List Event) → OneNodeGoesOn meter n node node' h h' → ((m : ℕ) → of_word (Node m) h2 ≡ of_word (Node m) h') → OneNodeGoesOn meter n node node' h h2
  goes-then n node node' h h' h2 goes stay = record {
    others = λ m apart. stay m ∙ goes.others m apart;
    goes = λ first was. subst (λ (w : List Event). GoesWith meter first w node') (sym (stay n)) (goes.goes first was);
  }

  -- where word and meter go together the faults are counted
  counts-one : (f : ℕ) (w : List Event) (node : NodeView D) → GoesWith meter f w node → CountsWith meter f w node
  counts-one f w node met = (
    met.0,
    λ exact.
        let m = met.1 exact in
        let few = m.few in
        record { few = omega (arith, few); effect = λ none. m.effect (omega (arith, none, few)) },
  )

  later-one : (f : ℕ) (w : List Event) (node node' : NodeView D) → (meter node.disk).own ≤ (meter node'.disk).own → CountsWith meter f w node → CountsWith meter f w node'
  later-one f w node node' rose counted = (
    (let low = counted.0 in omega (arith, low, rose)),
    λ exact.
        let c = counted.1 (exact-before node node' rose exact) in
        record {
          few = (let few = c.few in omega (arith, few, rose));
          effect = λ none. c.effect (omega (arith, none, rose));
        },
  )

  module _ (first : ℕ → ℕ) (numbers : List ℕ) where
    -- the row, where one node went on
    pub metered-step : (row : List (Server D)) (place : ℕ) (s s' : Server D) (h h' : List Event) → slice_get row place ≡ Some s → s'.sid ≡ s.sid → OneNodeGoesOn meter s.sid s.node s'.node h h'
        → AreMetered meter numbers row h first → AreMetered meter numbers (slice_set row place s') h' first
    metered-step row place s s' h h' at same goes met = record {
      named = numbers-set row place s s' at same ∙ met.named;
      apart = met.apart;
      each = one-goes (GoesWith meter) first h h' 0 place row s s' at same (subst (IsDistinct nat_eq) (sym met.named) met.apart) goes.others goes.goes met.each;
    }

    -- the row, where an event of no node came
    pub metered-stays : (row : List (Server D)) (h h' : List Event) → ((n : ℕ) → of_word (Node n) h' ≡ of_word (Node n) h) → AreMetered meter numbers row h first → AreMetered meter numbers row h' first
    metered-stays row h h' stay met = record { named = met.named; apart = met.apart; each = all-stay (GoesWith meter) first h h' 0 row stay met.each }

    -- the row, where an event came of a number that none has
    pub metered-apart : (n : ℕ) (row : List (Server D)) (h h' : List Event) → AllByRecursion (λ m. nat_eq n m ≡ false) (numbers_of row) → ((m : ℕ) → m ≢ n → of_word (Node m) h' ≡ of_word (Node m) h)
        → AreMetered meter numbers row h first → AreMetered meter numbers row h' first
    metered-apart n row h h' apart stay met = record { named = met.named; apart = met.apart; each = others-stay (GoesWith meter) first h h' 0 n row stay apart met.each }

    pub metered-counts : (row : List (Server D)) (h : List Event) → AreMetered meter numbers row h first → AreCounted meter numbers row h first
    metered-counts row h met = record { named = met.named; each = each-then (GoesWith meter) (CountsWith meter) first h 0 row (λ f w n. counts-one f w n) met.each }

    -- where a node was called, and that did not come to an event
    lasted-counts : (row : List (Server D)) (place : ℕ) (s s' : Server D) (h : List Event) → slice_get row place ≡ Some s → s'.sid ≡ s.sid → (meter s.node.disk).own ≤ (meter s'.node.disk).own
        → AreMetered meter numbers row h first → AreCounted meter numbers (slice_set row place s') h first
    lasted-counts row place s s' h at same rose met =
        let counted = metered-counts row h met in
        record {
          named = numbers-set row place s s' at same ∙ met.named;
          each = one-goes (CountsWith meter) first h h 0 place row s s' at same (subst (IsDistinct nat_eq) (sym met.named) met.apart) (λ m apart. refl)
              (λ f was. later-one f (of_word (Node s.sid) h) s.node s'.node rose was) counted.each;
        }

    -- A line's order to the node at a place.

    pub order-held : (row : List (Server D)) (place : ℕ) (s s' : Server D) (event : Option Event) (h h' : List Event) → slice_get row place ≡ Some s → s'.sid ≡ s.sid → GoesAsServer meter s s' event
        → h' ≡ noted event h → AreMetered meter numbers row h first → AreMetered meter numbers (slice_set row place s') h' first
    order-held row place s s' event h h' at same goes log_is met =
        subst (λ (k : List Event). AreMetered meter numbers (slice_set row place s') k first) (sym log_is) (metered-step row place s s' h (noted event h) at same (goes h) met)

    pub order-left : (row : List (Server D)) (place : ℕ) (s s' : Server D) (h h' : List Event) → slice_get row place ≡ Some s → s'.sid ≡ s.sid → (meter s.node.disk).own ≤ (meter s'.node.disk).own
        → h' ≡ h → AreMetered meter numbers row h first → AreCounted meter numbers (slice_set row place s') h' first
    order-left row place s s' h h' at same rose log_is met =
        subst (λ (k : List Event). AreCounted meter numbers (slice_set row place s') k first) (sym log_is) (lasted-counts row place s s' h at same rose met)

    pub still-left : (row : List (Server D)) (h h' : List Event) → h' ≡ h → AreMetered meter numbers row h first → AreCounted meter numbers row h' first
    still-left row h h' log_is met = subst (λ (k : List Event). AreCounted meter numbers row k first) (sym log_is) (metered-counts row h met)

-- Arming, and starting.

pub armed-own : (fuse : Bool) (passes : Option ℕ) (old new : Meter) → new ≡ (if fuse then armed passes old else old) → new.own ≡ old.own
armed-own true passes old new is = ap (λ (m : Meter). m.own) is
armed-own false passes old new is = ap (λ (m : Meter). m.own) is

module _ {D : Type 0} (meter : D → Meter) where
  pub arm-goes : IsArmLaw → (fuse : Bool) → IsTrue fuse → (n k pick : ℕ) (node node' : NodeView D) → node'.state.phase ≡ node.state.phase
      → meter node'.disk ≡ (if fuse then armed (Some k) (meter node.disk) else meter node.disk) → (h : List Event) → OneNodeGoesOn meter n node node' h (e.Armed n k pick ∷ h)
  arm-goes law fuse has n k pick node node' phase is h =
      let now = armed-there fuse (Some k) (meter node.disk) (meter node'.disk) has is in
      let own = ap (λ (m : Meter). m.own) now in
      record {
        others = λ m apart. word-stays m (e.Armed n k pick) h (word-apart m n (e.Armed n k pick) refl apart);
        goes = λ first was. (
          (let low = was.0 in omega (arith, low, own)),
          λ exact.
              let w = of_word (Node n) h in
              let met = law first n k pick w node.state.phase (meter node.disk) (was.1 (omega (arith, own, exact))) in
              let kept = subst (λ (m : Meter). IsMetered first (e.Armed n k pick ∷ w) node.state.phase m) (sym now) met in
              let here = subst (λ (p : Phase). IsMetered first (e.Armed n k pick ∷ w) p (meter node'.disk)) (sym phase) kept in
              subst (λ (v : List Event). IsMetered first v node'.state.phase (meter node'.disk)) (sym (word-grows n (e.Armed n k pick) h refl)) here,
        );
      }

  -- a node that is down was disarmed, and started or refused its disk
  down-goes : IsStartLaw → (n k : ℕ) (given : StartAnswer) (node node' : NodeView D) (mid : Meter) → mid ≡ armed None (meter node.disk) → IsOpening given → Opens k given mid (meter node'.disk)
      → (meter node.disk).own ≤ (meter node'.disk).own → node'.state.phase ≡ (after_start given node.state).phase → (h : List Event) → OneNodeGoesOn meter n node node' h (noted (start_event n given) h)
  down-goes law n k given node node' mid disarmed opening opens rose phase h =
      let own = node-word Admin n ask.Start (answer.Start given) in
      record {
        others = noted-others n (start_event n given) h own;
        goes = λ first was. (
          (let low = was.0 in omega (arith, low, rose)),
          λ exact.
              let w = of_word (Node n) h in
              let opened_now = subst (λ (m : Meter). Opens k given m (meter node'.disk)) disarmed opens in
              let met = law first n k w node.state given (meter node.disk) (meter node'.disk) exact opening opened_now (was.1 (omega (arith, rose, exact))) in
              let here = subst (λ (p : Phase). IsMetered first (noted (start_event n given) w) p (meter node'.disk)) (sym phase) met in
              subst (λ (v : List Event). IsMetered first v node'.state.phase (meter node'.disk)) (sym (noted-own n (start_event n given) h own)) here,
        );
      }

  -- one that was not down stays as it was
  still-goes : (n : ℕ) (node node' : NodeView D) → meter node'.disk ≡ meter node.disk → node'.state ≡ node.state → (h : List Event) → OneNodeGoesOn meter n node node' h h
  still-goes n node node' is state h = record {
    others = λ m apart. refl;
    goes = λ first was. (
      subst (λ (m : Meter). first ≤ m.own) (sym is) was.0,
      λ exact.
          let before = subst IsExact is exact in
          let here = subst (λ (m : Meter). IsMetered first (of_word (Node n) h) node.state.phase m) (sym is) (was.1 before) in
          subst (λ (t : NodeState). IsMetered first (of_word (Node n) h) t.phase (meter node'.disk)) (sym state) here,
    );
  }

  pub start-lasts : (k : ℕ) (given : StartAnswer) (node node' : NodeView D) (mid : Meter) → mid.own ≡ (meter node.disk).own → Opens k given mid (meter node'.disk) → (meter node.disk).own ≤ (meter node'.disk).own
  start-lasts k given node node' mid same opens = let rose = opens-last k given mid (meter node'.disk) opens in omega (arith, rose, same)

  pub start-down : IsStartLaw → (n k : ℕ) (given : StartAnswer) (node node' : NodeView D) (mid : Meter) → node.state.phase ≡ Down → IsStartAnswer node.state given → (given ≡ start.NoMemory → ⊥)
      → mid ≡ armed None (meter node.disk) → Opens k given mid (meter node'.disk)
      → IfStarted given (node'.state ≡ opened node.state.losses node'.state.fence node'.state.held) → UnlessStarted given (node'.state ≡ node.state)
      → (h : List Event) → OneNodeGoesOn meter n node node' h (noted (start_event n given) h)
  start-down law n k start.NotDown node node' mid down is other disarmed opens started unstarted h = absurd (is down)
  start-down law n k start.NoMemory node node' mid down is other disarmed opens started unstarted h = absurd (other refl)
  start-down law n k (start.Started true) node node' mid down is other disarmed opens started unstarted h =
      let own = ap (λ (m : Meter). m.own) disarmed in
      down-goes law n k (start.Started true) node node' mid disarmed tt opens (start-lasts k (start.Started true) node node' mid own opens) (ap (λ (t : NodeState). t.phase) started) h
  start-down law n k (start.Started false) node node' mid down is other disarmed opens started unstarted h =
      let own = ap (λ (m : Meter). m.own) disarmed in
      down-goes law n k (start.Started false) node node' mid disarmed tt opens (start-lasts k (start.Started false) node node' mid own opens) (ap (λ (t : NodeState). t.phase) started) h
  start-down law n k (start.Unopened cause) node node' mid down is other disarmed opens started unstarted h =
      let own = ap (λ (m : Meter). m.own) disarmed in
      down-goes law n k (start.Unopened cause) node node' mid disarmed tt opens (start-lasts k (start.Unopened cause) node node' mid own opens) (ap (λ (t : NodeState). t.phase) unstarted) h

  pub start-still : (n k : ℕ) (given : StartAnswer) (node node' : NodeView D) → (node.state.phase ≡ Down → ⊥) → IsStartAnswer node.state given → Opens k given (meter node.disk) (meter node'.disk)
      → UnlessStarted given (node'.state ≡ node.state) → (h : List Event) → OneNodeGoesOn meter n node node' h (noted (start_event n given) h)
  start-still n k start.NotDown node node' other is opens unstarted h = still-goes n node node' opens unstarted h
  start-still n k start.NoMemory node node' other is opens unstarted h = absurd (other is)
  start-still n k (start.Started took) node node' other is opens unstarted h = absurd (other is.0)
  start-still n k (start.Unopened cause) node node' other is opens unstarted h = absurd (other is.0)

-- What is noted of a message.

pub call-lasts : (k cells : ℕ) (question : NodeAsk) (given : NodeAnswer) (s : NodeState) (old new : Meter) → calls.IsNoStart question → IsNodeAnswer cells s question given → CountsCall k given old new → old.own ≤ new.own
call-lasts k cells question given s old new ok is counts = counts-last k cells question given s old new (no-start question ok) is counts

module _ {D : Type 0} (meter : D → Meter) (n : ℕ) (node node' : NodeView D) (h h' : List Event) where
  pub noted-goes : (o model : Option Event) → o ≡ model → IsNoted o h h' → OneNodeGoesOn meter n node node' h (noted model h) → OneNodeGoesOn meter n node node' h h'
  noted-goes o model same (x, is, log_is) goes =
      let at = subst (λ (p : Option Event). OneNodeGoesOn meter n node node' h (noted p h)) (sym same ∙ is) goes in
      subst (λ (k : List Event). OneNodeGoesOn meter n node node' h k) (sym log_is) at

  pub missed-goes : (x : Event) (by : Actor) (model : Option Event) → model ≡ Some x → h' ≡ e.Missed by n true ∷ x ∷ h → OneNodeGoesOn meter n node node' h (noted model h) → OneNodeGoesOn meter n node node' h h'
  missed-goes x by model is log_is goes =
      let at = subst (λ (p : Option Event). OneNodeGoesOn meter n node node' h (noted p h)) is goes in
      let more = goes-then meter n node node' h (x ∷ h) (e.Missed by n true ∷ x ∷ h) at (λ m. word-stays m (e.Missed by n true) (x ∷ h) refl) in
      subst (λ (k : List Event). OneNodeGoesOn meter n node node' h k) (sym log_is) more

-- the node did not hear of it
pub unheard-goes : {D : Type 0} (meter : D → Meter) (n : ℕ) (node : NodeView D) (by : Actor) (to : ℕ) (h h' : List Event) → h' ≡ e.Missed by to false ∷ h → OneNodeGoesOn meter n node node h h'
unheard-goes meter n node by to h h' log_is =
    subst (λ (k : List Event). OneNodeGoesOn meter n node node h k) (sym log_is)
    (goes-then meter n node node h h (e.Missed by to false ∷ h) (record { others = λ m apart. refl; goes = λ first was. was }) (λ m. word-stays m (e.Missed by to false) h refl))

-- what the export replies, and what an actor says, leaves the words of all nodes
pub export-stays : (by : Actor) (c : Call) (r : Reply) (h h' : List Event) → IsNoted (export_event by c r) h h' → (n : ℕ) → of_word (Node n) h' ≡ of_word (Node n) h
export-stays by c r h h' (x, is, log_is) n = ap (of_word (Node n)) log_is ∙ word-stays n x h (export-quiet by c r x is n)

pub said-stays : (by : Actor) (number : ℕ) (text : List ℕ) (said : Saying) (h h' : List Event) → h' ≡ said_event by number text said ∷ h → (n : ℕ) → of_word (Node n) h' ≡ of_word (Node n) h
said-stays by number text said h h' log_is n = ap (of_word (Node n)) log_is ∙ word-stays n (said_event by number text said) h (said-quiet by number text said n)

-- The disks that are handed in, and those that are handed back.

module _ {D : Type 0} (meter : D → Meter) (first : ℕ → ℕ) where
  disks-counted : (i : ℕ) (row : List (Server (UnderFuse D))) (h : List Event) → OfEach (CountsWith (fused_meter meter)) first i row h → AreDisksCounted meter first i (numbers_of row) (disks_of row) h
  disks-counted i [] h o = tt
  disks-counted i (s ∷ more) h o = (o.0.0, o.0.1, disks-counted (i + 1) more h o.1)

  pub counted-disks : (numbers : List ℕ) (row : List (Server (UnderFuse D))) (h : List Event) → AreCounted (fused_meter meter) numbers row h first → AreDisksCounted meter first 0 numbers (disks_of row) h
  counted-disks numbers row h c = subst (λ (ns : List ℕ). AreDisksCounted meter first 0 ns (disks_of row) h) c.named (disks-counted 0 row h c.each)

  -- a disk that is not armed goes with an empty word
  unarmed-goes : (f : ℕ) (n : NodeView (UnderFuse D)) → n.disk.fuse ≡ None → f ≤ faults (meter n.disk.disk) → GoesWith (fused_meter meter) f [] n
  unarmed-goes f n none low = (
    low,
    λ exact. record {
      few = (let nothing : unplanned [] ≡ 0 = refl in omega (arith, low, nothing));
      unarmed = λ is. none;
      least = λ left is. absurd (cc);
      most = λ same left l is at. absurd (cc);
      effect = λ same. refl;
    },
  )

  pub new-each : (tells : Bool) (text : D → List ℕ) (image : D → List ℕ → Type 0) (layout : Layout) (i : ℕ) (nodes : List NodeSpec) (disks : List D) (row : List (Server (UnderFuse D)))
      → ((k : ℕ) (d : D) → slice_get disks k ≡ Some d → first (i + k) ≡ faults (meter d)) → AreFormatted tells meter text image layout nodes disks row → OfEach (GoesWith (fused_meter meter)) first i row []
  new-each tells text image layout i nodes disks [] at new = tt
  new-each tells text image layout i [] disks (s ∷ row) at new = absurd new
  new-each tells text image layout i (n ∷ nodes) [] (s ∷ row) at new = absurd new
  new-each tells text image layout i (n ∷ nodes) (d ∷ disks) (s ∷ row) at new =
      let here = at 0 d refl in
      let plain : i + 0 ≡ i = omega arith in
      let low = new.0.count in
      let first_is : first i ≡ faults (meter d) = ap first (sym plain) ∙ here in (
        unarmed-goes (first i) s.node new.0.unarmed (omega (arith, first_is, low)),
        new-each tells text image layout (i + 1) nodes disks row (λ k e is. let shift : i + 1 + k ≡ i + suc k = omega arith in ap first shift ∙ at (suc k) e is) new.1,
      )

-- a new driver
pub new-holds : {D : Type 0} (tells : Bool) (meter : D → Meter) (text : D → List ℕ) (image : D → List ℕ → Type 0) (v : Volume) → IsVolume v → (disks : List D) (numbers : List ℕ) (row : List (Server (UnderFuse D))) (h : List Event)
    → numbers_of row ≡ numbers → numbers ≡ map (λ (n : NodeSpec). n.sid) (nodes_of v.clusters) → AreFormatted tells meter text image v.layout (nodes_of v.clusters) disks row → h ≡ []
    → AreMetered (fused_meter meter) numbers row h (faults_at meter disks)
new-holds tells meter text image v rules disks numbers row h named same new none = subst (λ (k : List Event). AreMetered (fused_meter meter) numbers row k (faults_at meter disks)) (sym none) (record {
  named = named;
  apart = subst (IsDistinct nat_eq) (sym same) rules.distinct_sids;
  each = new-each meter (faults_at meter disks) tells text image v.layout 0 (nodes_of v.clusters) disks row
      (λ k d is. let plain : 0 + k ≡ k = omega arith in ap (faults_at meter disks) plain ∙ ap (faults_in meter) is) new;
})

-- The vector of nodes, of which a slice was written.

module _ {X : Type 0} (meter : X → Meter) (numbers : List ℕ) (first : ℕ → ℕ) (v : Vec (Server X)) (xs ys : List (Server X)) (same : xs ≡ v.items) where
  pub named-vector : numbers_of ys ≡ numbers_of xs → (with_items v ys).items ≡ ys
  named-vector named = with_items_is v ys (sym (length-map ys (λ (s : Server X). s.sid)) ∙ ap length named ∙ length-map xs (λ (s : Server X). s.sid) ∙ ap length same ∙ sym v.ok.0)

  pub metered-in : (h h' : List Event) → (AreMetered meter numbers xs h first → AreMetered meter numbers ys h' first) → AreMetered meter numbers v.items h first → AreMetered meter numbers (with_items v ys).items h' first
  metered-in h h' held met =
      let before = subst (λ (zs : List (Server X)). AreMetered meter numbers zs h first) (sym same) met in
      let now = held before in
      subst (λ (zs : List (Server X)). AreMetered meter numbers zs h' first) (sym (named-vector (now.named ∙ sym before.named))) now

  pub counted-in : (h h' : List Event) → (AreMetered meter numbers xs h first → AreCounted meter numbers ys h' first) → AreMetered meter numbers v.items h first → AreCounted meter numbers (with_items v ys).items h' first
  counted-in h h' left met =
      let before = subst (λ (zs : List (Server X)). AreMetered meter numbers zs h first) (sym same) met in
      let now = left before in
      subst (λ (zs : List (Server X)). AreCounted meter numbers zs h' first) (sym (named-vector (now.named ∙ sym before.named))) now

-- After an error.

on-err : {T E P : Type 0} (r : Result T E) → P → OnErr r P
on-err (Ok x) p = tt
on-err (Err e) p = p

module _ {T E D : Type 0} (r : Result T E) (meter : D → Meter) (row : List (Server D)) where
  pub still-err : (h h' : List Event) → h' ≡ h → OnErr r ((numbers : List ℕ) → CarriesCounts (AreMetered meter numbers row h) (AreCounted meter numbers row h'))
  still-err h h' same =
      let P : Type 0 = (numbers : List ℕ) → CarriesCounts (AreMetered meter numbers row h) (AreCounted meter numbers row h') in
      on-err {P = P} r (λ numbers first met. still-left meter first numbers row h h' same met)

  pub order-err : (place : ℕ) (s s' : Server D) (h h' : List Event) → slice_get row place ≡ Some s → s'.sid ≡ s.sid → (meter s.node.disk).own ≤ (meter s'.node.disk).own → h' ≡ h
      → OnErr r ((numbers : List ℕ) → CarriesCounts (AreMetered meter numbers row h) (AreCounted meter numbers (slice_set row place s') h'))
  order-err place s s' h h' at named rose same =
      let P : Type 0 = (numbers : List ℕ) → CarriesCounts (AreMetered meter numbers row h) (AreCounted meter numbers (slice_set row place s') h') in
      on-err {P = P} r (λ numbers first met. order-left meter first numbers row place s s' h h' at named rose same met)
