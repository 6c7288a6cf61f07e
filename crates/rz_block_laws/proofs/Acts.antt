-- An operation stays right beside the log.
use Rattle.std.proofs.Common.{◌≡◌, ℕ, true, List, [], ◌∷◌, ◌++◌, Some, refl, sym, ◌∙◌, ap, subst, inl, inr, append_assoc}
use Rattle.std.proofs.lemmas.List.Elements.{filter-append}
use Rattle.mj_angles.specs.declared.layout.Layout.{Layout}
use Rattle.rz_events.specs.Volume.{Volume}
use Rattle.rz_events.specs.declared.keys.Actor.{Actor}
use Rattle.rz_events.specs.declared.keys.Actor.TheVariants as actor
use Rattle.rz_events.specs.declared.keys.Key.{Key}
use Rattle.rz_events.specs.declared.records.Held.{Held}
use Rattle.rz_events.specs.declared.nodes.FetchAnswer.{FetchAnswer}
use Rattle.rz_events.specs.declared.nodes.FetchAnswer.TheVariants as fetch
use Rattle.rz_events.specs.declared.nodes.NodeAsk.{NodeAsk}
use Rattle.rz_events.specs.declared.nodes.NodeAsk.TheVariants as ask
use Rattle.rz_events.specs.declared.nodes.NodeAnswer.{NodeAnswer}
use Rattle.rz_events.specs.declared.nodes.NodeAnswer.TheVariants as answer
use Rattle.rz_events.specs.declared.events.Event.TheVariants as e
use Rattle.rz_node_model.specs.NodeEvents.{fetch_event}
use Rattle.rz_node.specs.Fetched.{IfHeld}
use Rattle.rz_events.specs.declared.events.Event.{Event}
use Rattle.rz_events.specs.Events.{by_of, same_actor}
use Rattle.rz_events.specs.declared.tree.TreeCall.{TreeCall}
use Rattle.rz_events.specs.declared.tree.TreeCall.TheVariants as tree
use Rattle.rz_events.specs.declared.operations.Operation.{Operation}
use Rattle.rz_events.specs.declared.operations.Operation.TheVariants as operation
use Rattle.rz_operation_model.specs.Ask.{Ask, AskNode, ask_of}
use Rattle.rz_operation_model.specs.Steps.{Told, Answered, told, begun}
use Rattle.rz_operation_model.specs.Turns.{IsStep, Through}
use Rattle.rz_operation_model.specs.Work.{Work, Over}
use Rattle.rz_operation.specs.Answers.{IsWorkAfter}
use Rattle.rz_operation.specs.Machine.{Machine, text_asked}
use Rattle.rz_core.specs.History.{Facts, facts, of_actor}
use Rattle.rz_script.specs.Lines as script
use Rattle.rz_core.specs.Courses.{IsCourse, does}
use Rattle.rz_core.specs.Courses as course
use Rattle.rz_core.specs.Longer.{IsNextRun, IsPermanent}
use Rattle.rz_play_laws.specs.Own.{GrowsTo, IsOnNames, IsOwnOf, IsOwnKept, IsOwnTurn, IsOwnProper, IsProper, IsToldBy, AreToldBy, HasOwnEvents}
use Rattle.rz_play_laws.proofs.Scripts.{node-of, does-it}
use Rattle.rz_play_laws.proofs.Telling.{wrote-short}
use Rattle.rz_block_laws.specs.Laws as blocks
use Rattle.rz_block_laws.specs.Laws.{IsTrueTo, IsNoFetch}
use Rattle.rz_block_laws.specs.Turns.{HasInHand, IsTrueActor, IsLastingLaw, IsToldLaw}
use Rattle.rz_node_laws.specs.Laws.{IsReadBack}
use Rattle.rz_block_laws.specs.Acting.{IsActing, KnowsTexts, TellsBytes}
use Rattle.rz_block_laws.specs.ActingLaws.{IsAskingLaw, IsBeginningLaw, IsGoingLaw, IsHearing, IsHearingLaw, IsOfVolume, IsRestingLaw, IsSayingLaw, IsScriptLaw, MayDo}
use Rattle.rz_block_laws.proofs.Sayings.{right}
use Rattle.rz_block_laws.proofs.Starts.{takes}
use Rattle.rz_block_laws.proofs.Texts.{texts-grow, texts-go}

abbrev ArePermanent : Type 0
ArePermanent = (h more : List Event) → IsPermanent h more

-- ---- the earlier log stands behind

-- what is so of the events that came on top of both logs
on-top : (P : List Event → Type 0) (earlier h more : List Event) → P (more ++ (h ++ earlier)) → P (more ++ h ++ earlier)
on-top P earlier h more is = subst P (sym (append_assoc more h earlier)) is

grows : ArePermanent → (earlier h more : List Event) → GrowsTo (facts (h ++ earlier)) (facts (more ++ h ++ earlier))
grows permanent earlier h more =
    let it = permanent (h ++ earlier) more in
    subst (λ (k : List Event). GrowsTo (facts (h ++ earlier)) (facts k)) (sym (append_assoc more h earlier)) (record { wrote = it.wrote; places = it.places })

own-behind : (by : Actor) (h earlier : List Event) → of_actor by (h ++ earlier) ≡ of_actor by h ++ of_actor by earlier
own-behind by h earlier = filter-append (λ x. same_actor by (by_of x)) h earlier

-- new events of the actor in the run are new ones in both logs
own-more : (by : Actor) (earlier h more xs : List Event) → of_actor by (more ++ h) ≡ xs ++ of_actor by h → of_actor by (more ++ h ++ earlier) ≡ xs ++ of_actor by (h ++ earlier)
own-more by earlier h more xs own =
    own-behind by (more ++ h) earlier ∙ ap (λ (o : List Event). o ++ of_actor by earlier) own ∙ append_assoc xs (of_actor by h) (of_actor by earlier)
    ∙ ap (λ (o : List Event). xs ++ o) (sym (own-behind by h earlier))

-- ---- it begins

begun-knows : (f : Facts) (op : Operation) → KnowsTexts f (begun op)
begun-knows f (operation.Tree c) = tt
begun-knows f (operation.Rebuild n) = tt
begun-knows f _ = tt

-- a call on names opens no file
on-names : (by : Actor) (c : TreeCall) → does by (operation.Tree c) ≡ true → IsOnNames c
on-names (actor.Client n) (tree.OpenFile path) is = absurd cc
on-names (actor.Client n) (_) is = tt
on-names (actor.Rebuilder n) c is = absurd cc
on-names actor.Admin c is = absurd cc

own-begins : (v : Volume) (f : Facts) (o run : List Event) (by : Actor) (op : Operation) → MayDo v by op → IsOwnOf v f o run by (begun op)
own-begins v f o run by (operation.Tree c) may = on-names by c may.does_it
own-begins v f o run by (operation.Put path block datum) may = may.takes
own-begins v f o run by (operation.Rebuild n) may = (may.of_volume, tt)
own-begins v f o run by (operation.Get path block) may = tt
own-begins v f o run by (operation.Write path offset datum) may = tt
own-begins v f o run by (operation.Read path offset count) may = tt
own-begins v f o run by (operation.Update path offset datum) may = tt
own-begins v f o run by (operation.View path offset count) may = tt

pub begins-law : (v : Volume) → blocks.IsBeginningLaw v → IsBeginningLaw v
begins-law v hand earlier h by number op m may between layout work =
    let f = facts (h ++ earlier) in
    let own = of_actor by (h ++ earlier) in
    let run = of_actor by h in
    record {
      true_to = record {
        layout_is = layout;
        own = subst (λ (w : Work). IsOwnOf v f own run by w) (sym work) (own-begins v f own run by op may);
        hand = hand f op m work;
      };
      way = inr (subst (λ (w : Work). IsCourse v.layout by number run w) (sym work) (course.Begun run op may.does_it between));
      texts = subst (KnowsTexts f) (sym work) (begun-knows f op);
    }

-- an operation of a script may be done

of-volume : (v : Volume) (by : Actor) (op : Operation) → script.IsOperation v by op → IsOfVolume v op
of-volume v (actor.Rebuilder r) (operation.Rebuild n) is = node-of v n is
of-volume v (actor.Client c) (operation.Rebuild n) is = absurd is
of-volume v actor.Admin (operation.Rebuild n) is = absurd is
of-volume v by (_) is = tt

pub script-law : (v : Volume) → IsScriptLaw v
script-law v by op is = record { does_it = does-it v by op is; takes = takes v by op is; of_volume = of-volume v by op is }

-- ---- others act

pub rests-law : ArePermanent → (v : Volume) → IsOwnKept v → IsLastingLaw v → IsRestingLaw v
rests-law permanent v kept lasting earlier h more by number m same acts =
    let f = facts (h ++ earlier) in
    let g = facts (more ++ h ++ earlier) in
    let grow = grows permanent earlier h more in
    let whole = own-more by earlier h more [] same in
    record {
      true_to = record {
        layout_is = acts.true_to.layout_is;
        own = subst (λ (o : List Event). IsOwnOf v g o (of_actor by (more ++ h)) by m.work) (sym whole)
            (subst (λ (run : List Event). IsOwnOf v g (of_actor by (h ++ earlier)) run by m.work) (sym same) (kept f g grow (of_actor by (h ++ earlier)) (of_actor by h) by m.work acts.true_to.own));
        hand = on-top (λ (k : List Event). HasInHand v (facts k) m) earlier h more (lasting (h ++ earlier) more m acts.true_to.hand);
      };
      way = subst (λ (o : List Event). HasOwnEvents v by number o m.work) (sym same) acts.way;
      texts = texts-grow f g grow m.work acts.texts;
    }

-- ---- a turn

over-rests : (v : Volume) (by : Actor) (number : ℕ) (y : Layout) (work : Work) (t : Told) (xs : List Event) → work ≡ Over → IsStep by number (ask_of y work) t xs → ⊥
over-rests v by number y work t xs over step = subst (λ (w : Work). IsStep by number (ask_of y w) t xs) over step

-- what a machine that goes on is right about
record Turn (v : Volume) (earlier h more : List Event) (by : Actor) (number : ℕ) (m : Machine) (t : Told) (xs : List Event) (new : Machine) : Type 0 where
  pub step : IsStep by number (ask_of m.layout m.work) t xs
  pub own : of_actor by (more ++ h) ≡ xs ++ of_actor by h
  pub said : AreToldBy v (facts (more ++ h ++ earlier)) xs
  pub bytes : TellsBytes (facts (more ++ h ++ earlier)) t
  pub layout : new.layout ≡ m.layout
  pub work : new.work ≡ told m.layout m.work t
  pub hand : HasInHand v (facts (more ++ h ++ earlier)) new

on : ArePermanent → (v : Volume) → IsOwnTurn v → (earlier h more : List Event) (by : Actor) (number : ℕ) (m new : Machine) (t : Told) (xs : List Event)
    → IsActing v earlier h by number m → Turn v earlier h more by number m t xs new → IsActing v earlier (more ++ h) by number new
on permanent v turn earlier h more by number m new t xs acts it =
    let f = facts (h ++ earlier) in
    let g = facts (more ++ h ++ earlier) in
    let own = of_actor by (h ++ earlier) in
    let run = of_actor by h in
    let grow = grows permanent earlier h more in
    let layout = acts.true_to.layout_is in
    let step : IsStep by number (ask_of v.layout m.work) t xs = subst (λ (y : Layout). IsStep by number (ask_of y m.work) t xs) layout it.step in
    let work : new.work ≡ told v.layout m.work t = it.work ∙ ap (λ (y : Layout). told y m.work t) layout in
    let way : IsCourse v.layout by number run m.work = elim acts.way [
      | inl over ↦ absurd (over-rests v by number v.layout m.work t xs over step)
      | inr there ↦ there
    ] in
    record {
      true_to = record {
        layout_is = it.layout ∙ layout;
        own = subst (λ (o : List Event). IsOwnOf v g o (of_actor by (more ++ h)) by new.work) (sym (own-more by earlier h more xs it.own))
            (subst (λ (o : List Event). IsOwnOf v g (xs ++ own) o by new.work) (sym it.own)
            (subst (λ (w : Work). IsOwnOf v g (xs ++ own) (xs ++ run) by w) (sym work) (turn f g grow own run by number m.work acts.true_to.own t xs step it.said)));
        hand = it.hand;
      };
      way = inr (subst (λ (o : List Event). IsCourse v.layout by number o new.work) (sym it.own)
          (subst (λ (w : Work). IsCourse v.layout by number (xs ++ run) w) (sym work) (course.Went run m.work t xs way step)));
      texts = subst (KnowsTexts g) (sym work) (texts-go v by number f g grow v.layout m.work t xs acts.texts step it.said it.bytes);
    }

acting : (v : Volume) (earlier h : List Event) (by : Actor) (number : ℕ) (m : Machine) → IsActing v earlier h by number m → IsTrueActor v (facts (h ++ earlier)) by m
acting v earlier h by number m acts = record { own = of_actor by (h ++ earlier); run = of_actor by h; number = number; true_to = acts.true_to; way = acts.way }

pub goes-law : ArePermanent → (v : Volume) → IsOwnTurn v → IsToldLaw v → IsGoingLaw v
goes-law permanent v turn hand earlier h more by number m new t xs acts it =
    on permanent v turn earlier h more by number m new t xs acts record {
      step = it.step;
      own = it.own;
      said = it.said;
      bytes = it.bytes;
      layout = it.goes.layout;
      work = it.goes.work;
      hand = on-top (λ (k : List Event). HasInHand v (facts k) new) earlier h more (hand (h ++ earlier) more by number m new t xs (acting v earlier h by number m acts) it.step it.other it.goes);
    }

-- what it asks of a node is proper by any facts
asks-at : (v : Volume) → IsOwnProper v → (f : Facts) (o run : List Event) (by : Actor) (number : ℕ) (m : Machine) (n : ℕ) (question : NodeAsk) → m.layout ≡ v.layout → IsOwnOf v f o run by m.work → HasOwnEvents v by number run m.work
    → ask_of m.layout m.work ≡ AskNode n question → IsProper v f o run by number (AskNode n question)
asks-at v proper f o run by number m n question layout own (inl over) asked =
    let never : ask_of m.layout Over ≡ AskNode n question = ap (ask_of m.layout) (sym over) ∙ asked in absurd cc
asks-at v proper f o run by number m n question layout own (inr course) asked =
    subst (IsProper v f o run by number) (ap (λ (y : Layout). ask_of y m.work) (sym layout) ∙ asked) (proper f o run by number m.work own course)

-- ---- an answer of a node

module _ (permanent : ArePermanent) (v : Volume) (turn : IsOwnTurn v) (kept : IsOwnKept v) (proper : IsOwnProper v) (hand : IsToldLaw v) (growing : blocks.IsGrowingLaw v) (fetched : blocks.IsFetchedLaw v)
    (earlier h more : List Event) (by : Actor) (number : ℕ) (m new : Machine) (n : ℕ) (x : Event) (before bins : List ℕ) (acts : IsActing v earlier h by number m) where
  abbrev f : Facts
  f = facts (h ++ earlier)

  abbrev g : Facts
  g = facts (more ++ h ++ earlier)

  abbrev own : List Event
  own = of_actor by (h ++ earlier)

  abbrev run : List Event
  run = of_actor by h

  abbrev Hears : NodeAsk → NodeAnswer → Type 0
  Hears question given = IsHearing v earlier h more by m n question given x before bins new → (new.work ≡ told m.layout m.work (Answered true given)) × IsActing v earlier (more ++ h) by number new

  step-of : (question : NodeAsk) (given : NodeAnswer) → IsHearing v earlier h more by m n question given x before bins new → IsStep by number (ask_of m.layout m.work) (Answered true given) (x ∷ [])
  step-of question given it = subst (λ (a : Ask). IsStep by number a (Answered true given) (x ∷ [])) (sym it.asked) (Through given x it.event)

  -- no record
  other : (question : NodeAsk) (given : NodeAnswer) → IsNoFetch (Answered true given) → (IsHearing v earlier h more by m n question given x before bins new → IsWorkAfter m m.pairs (Answered true given) new) → Hears question given
  other question given none goes it =
      let step = step-of question given it in
      let goes_on = goes it in (
        goes_on.work,
        on permanent v turn earlier h more by number m new (Answered true given) (x ∷ []) acts record {
          step = step;
          own = it.own;
          said = (it.said, tt);
          bytes = tt;
          layout = goes_on.layout;
          work = goes_on.work;
          hand = on-top (λ (k : List Event). HasInHand v (facts k) new) earlier h more (hand (h ++ earlier) more by number m new (Answered true given) (x ∷ []) (acting v earlier h by number m acts) step none goes_on);
        },
      )

  -- a fetch
  true-now : IsTrueTo v g own run by m
  true-now = record {
    layout_is = acts.true_to.layout_is;
    own = kept f g (grows permanent earlier h more) own run by m.work acts.true_to.own;
    hand = growing f g (grows permanent earlier h more) m acts.true_to.hand;
  }

  record-said : (key : Key) (position stamp : ℕ) (r : Held) → Some (fetch_event by n key position stamp (fetch.Held r)) ≡ Some x → IsToldBy v g x → r.stamp ≡ stamp
  record-said key position stamp r is said =
      let there : IsToldBy v g (e.Fetch by n key position stamp (Some r)) = subst (IsToldBy v g) (sym (same-event _ x is)) said in
      there.1.stamp
    where
      same-event : (a b : Event) → Some a ≡ Some b → a ≡ b
      same-event a b same = cc

  back : (key : Key) (position stamp : ℕ) (a : FetchAnswer) → IsHearing v earlier h more by m n (ask.Fetch key position stamp) (answer.Fetch a) x before bins new
      → IfHeld a (λ r. (r.stamp ≡ stamp) × IsReadBack v g n key r before bins)
  back key position stamp (fetch.Held r) it = (record-said key position stamp r it.event it.said, it.read key position stamp r refl refl)
  back key position stamp _ it = tt

  fetching : (key : Key) (position stamp : ℕ) (a : FetchAnswer) → Hears (ask.Fetch key position stamp) (answer.Fetch a)
  fetching key position stamp a it =
      let given = answer.Fetch a in
      let at = asks-at v proper g own run by number m n (ask.Fetch key position stamp) acts.true_to.layout_is true-now.own acts.way it.asked in
      let done = fetched g own run by m new n key position stamp a before bins true-now it.asked at.0 (back key position stamp a it) it.answered in (
        done.0,
        on permanent v turn earlier h more by number m new (Answered true given) (x ∷ []) acts record {
          step = step-of (ask.Fetch key position stamp) given it;
          own = it.own;
          said = (it.said, tt);
          bytes = tt;
          layout = it.answered.2.layout;
          work = done.0;
          hand = done.1;
        },
      )

  pub hears : (question : NodeAsk) (given : NodeAnswer) → Hears question given
  hears (ask.Fetch key position stamp) (answer.Fetch a) = fetching key position stamp a
  hears question (answer.Keep a) = other question (answer.Keep a) tt (λ it. it.answered)
  hears question (answer.Refill a) = other question (answer.Refill a) tt (λ it. it.answered)
  hears question (answer.Drop a) = other question (answer.Drop a) tt (λ it. it.answered)
  hears question (answer.Probe a) = other question (answer.Probe a) tt (λ it. it.answered)
  hears question (answer.Stop a) = other question (answer.Stop a) tt (λ it. it.answered)
  hears question (answer.Start a) = other question (answer.Start a) tt (λ it. it.answered)
  hears question (answer.Lose a) = other question (answer.Lose a) tt (λ it. it.answered)
  hears question (answer.Replace a) = other question (answer.Replace a) tt (λ it. it.answered)
  hears question (answer.Fetch a) = λ it. (let is = it.event in absurd cc)

pub hears-law : ArePermanent → (v : Volume) → IsOwnTurn v → IsOwnKept v → IsOwnProper v → IsToldLaw v → blocks.IsGrowingLaw v → blocks.IsFetchedLaw v → IsHearingLaw v
hears-law permanent v turn kept proper hand growing fetched earlier h more by number m new n question given x before bins acts it =
    hears permanent v turn kept proper hand growing fetched earlier h more by number m new n x before bins acts question given it

-- ---- what it asks

pub asks-law : (v : Volume) → IsOwnProper v → IsAskingLaw v
asks-law v proper earlier h by number m a acts is =
    let f = facts (h ++ earlier) in
    let own = of_actor by (h ++ earlier) in
    let run = of_actor by h in
    elim acts.way [
      | inl over ↦ subst (IsProper v f own run by number) (ap (ask_of m.layout) (sym over) ∙ is) tt
      | inr there ↦ subst (IsProper v f own run by number) (ap (λ (y : Layout). ask_of y m.work) (sym acts.true_to.layout_is) ∙ is)
          (proper f own run by number m.work acts.true_to.own there)
    ]

-- ---- what it says

pub says-law : (v : Volume) → IsNextRun v → IsSayingLaw v
says-law v next earlier h by number m said legal acts is =
    ap (text_asked m.block) is ∙ right v.layout (facts (h ++ earlier)) m.block said m.pairs (λ stamp b wrote. wrote-short v (h ++ earlier) (next earlier h legal) stamp b wrote) m.layout m.work acts.true_to.hand acts.texts is
