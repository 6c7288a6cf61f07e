-- What an act leaves of a pass, of a turn and of an operation.
use Rattle.std.proofs.Common.{◌≡◌, ℕ, Bool, true, false, IsTrue, List, [], ◌∷◌, ◌++◌, Option, Some, None, Result, Ok, Err, refl, sym, ◌∙◌, ap, subst, inl, inr, append_assoc}
use Rattle.std.specs.Prelude.{OnErr, OnOk, IfSome}
use Rattle.mj_angles.specs.declared.layout.Layout.{Layout}
use Rattle.rz_events.specs.Volume.{Volume}
use Rattle.rz_events.specs.declared.keys.Actor.{Actor}
use Rattle.rz_events.specs.declared.keys.Key.{Key}
use Rattle.rz_events.specs.declared.records.Held.{Held}
use Rattle.rz_events.specs.declared.export.Call.{Call}
use Rattle.rz_events.specs.declared.export.Call.TheVariants as call
use Rattle.rz_events.specs.declared.export.Reply.{Reply}
use Rattle.rz_events.specs.declared.export.Reply.TheVariants as reply
use Rattle.rz_events.specs.declared.nodes.FetchAnswer.TheVariants as fetch
use Rattle.rz_events.specs.declared.nodes.NodeAsk.{NodeAsk}
use Rattle.rz_events.specs.declared.nodes.NodeAsk.TheVariants as ask
use Rattle.rz_events.specs.declared.nodes.NodeAnswer.{NodeAnswer}
use Rattle.rz_events.specs.declared.nodes.NodeAnswer.TheVariants as answer
use Rattle.rz_events.specs.declared.events.Event.{Event}
use Rattle.rz_events.specs.declared.events.Event.TheVariants as e
use Rattle.rz_export_model.specs.ExportEvents.{export_event}
use Rattle.rz_node_model.specs.NodeEvents.{node_event}
use Rattle.rz_operation_model.specs.Ask.{Ask, AskExport, AskNode, ask_of}
use Rattle.rz_operation_model.specs.Work.{Work}
use Rattle.rz_operation_model.specs.Steps.{Told, Replied, Locked, Answered, Missed, Noted, told}
use Rattle.rz_operation_model.specs.Turns.{IsStep, Through, ReplyLost, RequestLost, goes_by_link}
use Rattle.rz_operation.specs.Answers.{IsWorkAfter, FitsIfEnough, IsReply, IsReplyTo}
use Rattle.rz_operation.specs.Machine.{Machine}
use Rattle.rz_core.specs.History.{Facts, facts, of_actor}
use Rattle.rz_core.proofs.Extends.{extends-more}
use Rattle.rz_play_laws.specs.Own.{IsToldBy, AreToldBy}
use Rattle.rz_play_laws.proofs.Telling.{told-extends}
use Rattle.rz_block_laws.specs.Laws.{IsNoFetch}
use Rattle.rz_node_laws.specs.Laws.{IsReadBack}
use Rattle.rz_block_laws.specs.Acting.{IsActing, TellsBytes, AreBytes}
use Rattle.rz_block_laws.specs.ActingLaws.{IsGoingLaw, IsHearingLaw}
use Rattle.rz_chronicle.specs.Keys.{IsLater}
use Rattle.rz_chronicle.specs.Kinds.{keeps_legal, volume_in}
use Rattle.rz_chronicle.specs.Rules.{PassView}
use Rattle.rz_chronicle.specs.Holds.{HasAllActors}
use Rattle.rz_shared_locked.specs.LockedNodes.{IsTrueRecord}
use Rattle.rz_show.specs.Shown.{shown_in, shown_of}
use Rattle.rz_threads_steps.specs.Acted.{IsWorkRight, HasActed, IsStopped}
use Rattle.rz_threads_steps.specs.Adding.{PassLasts, AddsOwn, AddsAlone}
use Rattle.rz_threads_steps.specs.Turned.{with_fits, WorkGoesOn}
use Rattle.rz_threads_steps.proofs.ShownEvents.{shown-noted}

-- what is so in any case is so where something went well
pub on-ok : {T E P : Type 0} (r : Result T E) → P → OnOk r P
on-ok (Ok x) p = p
on-ok (Err e) p = tt

-- what is so where something failed
pub on-err : {T E P : Type 0} (r : Result T E) → P → OnErr r P
on-err (Ok x) p = tt
on-err (Err e) p = p

-- ---- nothing was done

pub still-lasts : (p : PassView) → PassLasts p p
still-lasts p = record { actor = refl; keys = refl; later = ([], refl) }

pub still-stopped : (kind : List ℕ) (number : ℕ) (p : PassView) (m : Machine) → IsStopped kind number p p m
still-stopped kind number p m = record {
  cut = record { events = []; own = refl; some = inl refl };
  alone = λ all. refl;
  none = λ keeps. refl;
}

-- ---- one after another

pub lasts-on : (p q r : PassView) → PassLasts p q → PassLasts q r → PassLasts p r
lasts-on p q r first next = record {
  actor = next.actor ∙ first.actor;
  keys = next.keys ∙ first.keys;
  later = (next.later.0 ++ first.later.0, next.later.1 ∙ ap (λ (h : List Event). next.later.0 ++ h) first.later.1 ∙ sym (append_assoc next.later.0 first.later.0 p.log));
}

-- ---- a turn was cut off

pub stopped-by : (kind : List ℕ) (earlier : List Event) (number : ℕ) (p q : PassView) (m : Machine) (event : Option Event) → AddsOwn kind earlier p event q
    → ((x : Event) → event ≡ Some x → (t : Told) × IsStep p.actor number (ask_of m.layout m.work) t (x ∷ [])) → (IsTrue (keeps_legal kind) → event ≡ None) → IsStopped kind number p q m
stopped-by kind earlier number p q m (Some x) adds step none = record {
  cut = record { events = x ∷ []; own = adds.own; some = inr (step x refl) };
  alone = adds.alone;
  none = λ keeps. (let never = none keeps in absurd cc);
}
stopped-by kind earlier number p q m None adds step none = record {
  cut = record { events = []; own = adds.own; some = inl refl };
  alone = adds.alone;
  none = λ keeps. refl;
}

-- a reply that is not taken has no event, in a book that keeps its log legal
pub not-taken : (kind : List ℕ) (earlier : List Event) (p : PassView) (number : ℕ) (m : Machine) (c : Call) (r : Reply) → ask_of m.layout m.work ≡ AskExport c → IsWorkRight kind earlier p number m
    → (IsTrue (keeps_legal kind) → IfSome (export_event p.actor c r) (λ x. IsReplyTo (volume_in kind).layout c r)) → ¬ IsReply m.layout (ask_of m.layout m.work) r → IsTrue (keeps_legal kind) → export_event p.actor c r ≡ None
not-taken kind earlier p number m c r asks right answers never keeps = go (export_event p.actor c r) (answers keeps)
  where
    go : (o : Option Event) → IfSome o (λ x. IsReplyTo (volume_in kind).layout c r) → o ≡ None
    go None is = refl
    go (Some x) is = absurd (never (subst (λ (a : Ask). IsReply m.layout a r) (sym asks) (subst (λ (y : Layout). IsReplyTo y c r) (sym (right keeps).true_to.layout_is) is)))

-- ---- the steps

pub export-step : (by : Actor) (number : ℕ) (m : Machine) (c : Call) (r : Reply) (x : Event) → ask_of m.layout m.work ≡ AskExport c → export_event by c r ≡ Some x
    → IsStep by number (ask_of m.layout m.work) (Replied r) (x ∷ [])
export-step by number m c r x asks is = subst (λ (a : Ask). IsStep by number a (Replied r) (x ∷ [])) (sym asks) (r, x, refl, is, refl)

pub node-step : (by : Actor) (number : ℕ) (m : Machine) (n : ℕ) (question : NodeAsk) (given : NodeAnswer) (x : Event) → ask_of m.layout m.work ≡ AskNode n question → node_event by n question given ≡ Some x
    → IsStep by number (ask_of m.layout m.work) (Answered true given) (x ∷ [])
node-step by number m n question given x asks is = subst (λ (a : Ask). IsStep by number a (Answered true given) (x ∷ [])) (sym asks) (Through given x is)

-- ---- a reply has an event

reply-to : (layout : Layout) (by : Actor) (c : Call) (r : Reply) → IsReplyTo layout c r → (x : Event) × (export_event by c r ≡ Some x)
reply-to layout by (call.Tree c) (reply.Tree a) is = (_, refl)
reply-to layout by (call.Tree c) (_) is = absurd is
reply-to layout by (call.Begin key text) (reply.Begun stamp base) is = (_, refl)
reply-to layout by (call.Begin key text) (reply.Denied why) is = (_, refl)
reply-to layout by (call.Begin key text) (_) is = absurd is
reply-to layout by (call.Publish key stamp mask size) reply.Accepted is = (_, refl)
reply-to layout by (call.Publish key stamp mask size) (reply.Enrolled position fence) is = (_, refl)
reply-to layout by (call.Publish key stamp mask size) (reply.Revoked later) is = (_, refl)
reply-to layout by (call.Publish key stamp mask size) (reply.Denied why) is = (_, refl)
reply-to layout by (call.Publish key stamp mask size) (_) is = absurd is
reply-to layout by (call.Look key) (reply.Looked p) is = (_, refl)
reply-to layout by (call.Look key) (reply.Denied why) is = (_, refl)
reply-to layout by (call.Look key) (_) is = absurd is
reply-to layout by (call.Recheck key) (reply.Looked p) is = (_, refl)
reply-to layout by (call.Recheck key) (reply.Denied why) is = (_, refl)
reply-to layout by (call.Recheck key) (_) is = absurd is
reply-to layout by (call.Enroll n loss) (reply.Fence fence) is = (_, refl)
reply-to layout by (call.Enroll n loss) (reply.Denied why) is = (_, refl)
reply-to layout by (call.Enroll n loss) (_) is = absurd is
reply-to layout by (call.Next n after) (reply.Listed l) is = (_, refl)
reply-to layout by (call.Next n after) (_) is = absurd is

-- ---- the events of an actor that are shown

pub shows-on : (P : List Event → Type 0) (kind : List ℕ) (earlier : List Event) (p q : PassView) (event : Option Event) → P (shown_of (of_actor p.actor p.log) ++ shown_in event) → AddsOwn kind earlier p event q
    → P (shown_of (of_actor p.actor q.log))
shows-on P kind earlier p q event has adds = subst P (sym (shown-noted event (of_actor p.actor p.log)) ∙ ap shown_of (sym adds.own)) has

-- ---- two events of one actor

told-later : (v : Volume) (earlier h g : List Event) (x : Event) → IsLater h g → IsToldBy v (facts (h ++ earlier)) x → IsToldBy v (facts (g ++ earlier)) x
told-later v earlier h g x (more, is) told_so =
    subst (λ (k : List Event). IsToldBy v (facts k) x) (sym (ap (λ (k : List Event). k ++ earlier) is ∙ append_assoc more h earlier))
    (told-extends v (facts (h ++ earlier)) (facts (more ++ (h ++ earlier))) (extends-more more (h ++ earlier)) x told_so)

module _ (kind : List ℕ) (earlier : List Event) (p mid q : PassView) (x y : Event) (first : AddsOwn kind earlier p (Some x) mid) (second : AddsOwn kind earlier mid (Some y) q) where
  both-said : IsTrue (keeps_legal kind) → AreToldBy (volume_in kind) (facts (q.log ++ earlier)) (y ∷ x ∷ [])
  both-said keeps = (second.said keeps, (told-later (volume_in kind) earlier mid.log q.log x second.lasts.later (first.said keeps), tt))

  both-own : of_actor p.actor q.log ≡ y ∷ x ∷ of_actor p.actor p.log
  both-own = subst (λ (a : Actor). of_actor a q.log ≡ y ∷ of_actor a mid.log) first.lasts.actor second.own ∙ ap (λ (o : List Event). y ∷ o) first.own

  both-alone : AddsAlone p (y ∷ x ∷ []) q
  both-alone all = second.alone (subst HasAllActors (sym first.lasts.keys) all) ∙ ap (λ (h : List Event). y ∷ h) (first.alone all)

-- ---- the operation goes on

-- what is told says itself whether records fit
as-told : (t : Told) → (fits : Bool) × (with_fits fits t ≡ t)
as-told (Answered fits given) = (fits, refl)
as-told (Replied r) = (true, refl)
as-told (Locked granted r) = (true, refl)
as-told Missed = (true, refl)
as-told (Noted text) = (true, refl)

pub goes-as-told : (honest : Bool) (layout : Layout) (old : Work) (t : Told) → WorkGoesOn honest layout old t (told layout old t)
goes-as-told honest layout old t = let it = as-told t in record { by_told = (it.0, ap (told layout old) (sym it.1)); fitting = λ honest. refl }

goes-by : (honest : Bool) (m m' : Machine) (t : Told) → m'.work ≡ told m.layout m.work t → WorkGoesOn honest m.layout m.work t m'.work
goes-by honest m m' t is = let it = as-told t in record { by_told = (it.0, is ∙ ap (told m.layout m.work) (sym it.1)); fitting = λ h. is }

-- it was told the answer of a node, with records that fit or not
answered-as : (m : Machine) (given : NodeAnswer) (bins : List ℕ) (new : Machine) → FitsIfEnough m given bins new
    → (new.layout ≡ m.layout) × ((fits : Bool) × (new.work ≡ told m.layout m.work (Answered fits given)))
answered-as m (answer.Fetch a) bins new (fits, fitting, goes) = (goes.layout, (fits, goes.work))
answered-as m a bins new goes = (goes.layout, (true, goes.work))

read-back : (v : Volume) (f : Facts) (n : ℕ) (question : NodeAsk) (given : NodeAnswer) (before bins : List ℕ) → IsTrueRecord v f n question given before bins
    → (key : Key) (position stamp : ℕ) (r : Held) → question ≡ ask.Fetch key position stamp → given ≡ answer.Fetch (fetch.Held r) → IsReadBack v f n key r before bins
read-back v f n question given before bins read key position stamp r asked told_so =
    subst (λ (a : NodeAnswer). IsTrueRecord v f n (ask.Fetch key position stamp) a before bins) told_so (subst (λ (q : NodeAsk). IsTrueRecord v f n q given before bins) asked read)

module _ (kind : List ℕ) (earlier : List Event) (number : ℕ) (p q : PassView) (m m' : Machine) (lasts : PassLasts p q) where
  abbrev v : Volume
  v = volume_in kind

  abbrev keeps : Type 0
  keeps = IsTrue (keeps_legal kind)

  abbrev more : List Event
  more = lasts.later.0

  abbrev Right : Type 0
  Right = IsWorkRight kind earlier p number m

  abbrev Acted : Type 0
  Acted = HasActed kind earlier number p q m m'

  -- what is right beside the log that was seen is right for the pass
  right-now : IsActing v earlier (more ++ p.log) p.actor number m' → IsActing v earlier q.log q.actor number m'
  right-now acts = subst (λ (a : Actor). IsActing v earlier q.log a number m') (sym lasts.actor) (subst (λ (h : List Event). IsActing v earlier h p.actor number m') (sym lasts.later.1) acts)

  -- it was told anything but a record
  pub went : IsGoingLaw v → (t : Told) (xs : List Event) → IsStep p.actor number (ask_of m.layout m.work) t xs → IsNoFetch t → of_actor p.actor q.log ≡ xs ++ of_actor p.actor p.log → AddsAlone p xs q
      → (keeps → AreToldBy v (facts (q.log ++ earlier)) xs) → (keeps → TellsBytes (facts (q.log ++ earlier)) t) → IsWorkAfter m m.pairs t m' → Right → Acted
  went going t xs step other own alone said bytes goes right = record {
    turned = record { answer = t; events = xs; own = own; step = step; layout = goes.layout; goes = goes-by (keeps_legal kind) m m' t goes.work };
    alone = alone;
    right = λ legal. right-now (going earlier p.log more p.actor number m m' t xs (right legal) (record {
      step = step;
      other = other;
      own = subst (λ (h : List Event). of_actor p.actor h ≡ xs ++ of_actor p.actor p.log) lasts.later.1 own;
      said = subst (λ (h : List Event). AreToldBy v (facts (h ++ earlier)) xs) lasts.later.1 (said legal);
      bytes = subst (λ (h : List Event). TellsBytes (facts (h ++ earlier)) t) lasts.later.1 (bytes legal);
      goes = goes;
    }));
  }

  -- the export replied
  pub exported : IsGoingLaw v → (c : Call) (r : Reply) → ask_of m.layout m.work ≡ AskExport c → IsReply m.layout (ask_of m.layout m.work) r → AddsOwn kind earlier p (export_event p.actor c r) q
      → (keeps → AreBytes (facts (q.log ++ earlier))) → IsWorkAfter m m.pairs (Replied r) m' → Right → Acted
  exported going c r asks is added bytes goes right =
      let has : (x : Event) × (export_event p.actor c r ≡ Some x) = reply-to m.layout p.actor c r (subst (λ (a : Ask). IsReply m.layout a r) asks is) in
      let adds : AddsOwn kind earlier p (Some has.0) q = subst (λ (o : Option Event). AddsOwn kind earlier p o q) has.1 added in
      went going (Replied r) (has.0 ∷ []) (export-step p.actor number m c r has.0 asks has.1) tt adds.own adds.alone (λ legal. (adds.said legal, tt)) bytes goes right

  -- a node answered with this event
  heard : IsHearingLaw v → (n : ℕ) (question : NodeAsk) (given : NodeAnswer) (x : Event) (before bins : List ℕ) → ask_of m.layout m.work ≡ AskNode n question → node_event p.actor n question given ≡ Some x
      → AddsOwn kind earlier p (Some x) q → (keeps → IsTrueRecord v (facts (q.log ++ earlier)) n question given before bins) → FitsIfEnough m given bins m' → Right → Acted
  heard hears n question given x before bins asked event adds read answered right = record {
    turned = record {
      answer = Answered true given;
      events = x ∷ [];
      own = adds.own;
      step = node-step p.actor number m n question given x asked event;
      layout = told_as.0;
      goes = record { by_told = told_as.1; fitting = λ legal. (goes_on legal).0 };
    };
    alone = adds.alone;
    right = λ legal. right-now (goes_on legal).1;
  }
    where
      told_as : (m'.layout ≡ m.layout) × ((fits : Bool) × (m'.work ≡ told m.layout m.work (Answered fits given)))
      told_as = answered-as m given bins m' answered

      goes_on : keeps → (m'.work ≡ told m.layout m.work (Answered true given)) × IsActing v earlier (more ++ p.log) p.actor number m'
      goes_on legal = hears earlier p.log more p.actor number m m' n question given x before bins (right legal) (record {
        asked = asked;
        event = event;
        own = subst (λ (h : List Event). of_actor p.actor h ≡ x ∷ of_actor p.actor p.log) lasts.later.1 adds.own;
        said = subst (λ (h : List Event). IsToldBy v (facts (h ++ earlier)) x) lasts.later.1 (adds.said legal);
        read = read-back v (facts (more ++ p.log ++ earlier)) n question given before bins (subst (λ (h : List Event). IsTrueRecord v (facts (h ++ earlier)) n question given before bins) lasts.later.1 (read legal));
        answered = answered;
      })

  -- of an answer that has this event
  pub heard-of : IsHearingLaw v → (n : ℕ) (question : NodeAsk) (given : NodeAnswer) (before bins : List ℕ) → ask_of m.layout m.work ≡ AskNode n question → ((x : Event) × (node_event p.actor n question given ≡ Some x))
      → AddsOwn kind earlier p (node_event p.actor n question given) q → (keeps → IsTrueRecord v (facts (q.log ++ earlier)) n question given before bins) → FitsIfEnough m given bins m' → Right → Acted
  heard-of hears n question given before bins asked (x, event) adds read answered right =
      heard hears n question given x before bins asked event (subst (λ (o : Option Event). AddsOwn kind earlier p o q) event adds) read answered right

  -- its answer was lost
  pub missed-reply : IsGoingLaw v → (n : ℕ) (question : NodeAsk) (given : NodeAnswer) (mid : PassView) → ask_of m.layout m.work ≡ AskNode n question → goes_by_link question ≡ true
      → ((x : Event) × (node_event p.actor n question given ≡ Some x)) → AddsOwn kind earlier p (node_event p.actor n question given) mid
      → AddsOwn kind earlier mid (Some (e.Missed p.actor n true)) q → IsWorkAfter m m.pairs Missed m' → Right → Acted
  missed-reply going n question given mid asked link (x, event) first second goes right =
      let one : AddsOwn kind earlier p (Some x) mid = subst (λ (o : Option Event). AddsOwn kind earlier p o mid) event first in
      let miss = e.Missed p.actor n true in
      went going Missed (miss ∷ x ∷ [])
      (subst (λ (a : Ask). IsStep p.actor number a Missed (miss ∷ x ∷ [])) (sym asked) (ReplyLost given x event link)) tt
      (both-own kind earlier p mid q x miss one second) (both-alone kind earlier p mid q x miss one second) (both-said kind earlier p mid q x miss one second) (λ legal. tt) goes right

  -- it was lost itself
  pub missed-request : IsGoingLaw v → (n : ℕ) (question : NodeAsk) → ask_of m.layout m.work ≡ AskNode n question → goes_by_link question ≡ true
      → AddsOwn kind earlier p (Some (e.Missed p.actor n false)) q → IsWorkAfter m m.pairs Missed m' → Right → Acted
  missed-request going n question asked link adds goes right =
      let miss = e.Missed p.actor n false in
      went going Missed (miss ∷ []) (subst (λ (a : Ask). IsStep p.actor number a Missed (miss ∷ [])) (sym asked) (RequestLost link)) tt adds.own adds.alone (λ legal. (adds.said legal, tt)) (λ legal. tt) goes right
