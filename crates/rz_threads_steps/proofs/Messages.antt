-- Messages to nodes.
use Rattle.std.proofs.Common.{◌≡◌, ◌≢◌, ◌⊎◌, inl, inr, ℕ, Bool, true, IsTrue, List, ◌∷◌, ◌++◌, Option, Some, None, refl, sym, ◌∙◌, ap, subst}
use Rattle.mj_angles.specs.declared.layout.Layout.{Layout}
use Rattle.rz_events.specs.Volume.{Volume}
use Rattle.rz_link.specs.declared.Sent.{Sent}
use Rattle.rz_link.specs.declared.Sent.TheVariants as sent
use Rattle.rz_events.specs.declared.keys.Actor.{Actor}
use Rattle.rz_events.specs.declared.keys.Key.{Key}
use Rattle.rz_events.specs.declared.records.Held.{Held}
use Rattle.rz_events.specs.declared.nodes.NodeAsk.{NodeAsk}
use Rattle.rz_events.specs.declared.nodes.NodeAsk.TheVariants as ask
use Rattle.rz_events.specs.declared.nodes.NodeAnswer.{NodeAnswer}
use Rattle.rz_events.specs.declared.nodes.NodeAnswer.TheVariants as answer
use Rattle.rz_events.specs.declared.nodes.FetchAnswer.TheVariants as fetch
use Rattle.rz_events.specs.declared.nodes.ReplaceAnswer.TheVariants as replace
use Rattle.rz_events.specs.declared.events.Event.{Event}
use Rattle.rz_events.specs.declared.events.Event.TheVariants as e
use Rattle.rz_node_model.specs.States.{NodeState}
use Rattle.rz_node_model.specs.Answers.{IsNodeAnswer}
use Rattle.rz_node_model.specs.NodeEvents.{node_event}
use Rattle.rz_operation.specs.Answers.{IsAnswer, IsAnswerTo}
use Rattle.rz_operation.specs.Machine.{Machine, HasBinsFor, AreBinsFor}
use Rattle.rz_operation.proofs.NodeAsks.{IsBinful}
use Rattle.rz_operation_model.specs.Ask.{Ask, AskNode, ask_of}
use Rattle.rz_operation_model.specs.Steps.{Answered}
use Rattle.rz_operation_model.specs.Turns.{goes_by_link}
use Rattle.rz_core.specs.History.{Facts, facts, of_actor}
use Rattle.rz_core.specs.NodeRows.{cells_of}
use Rattle.rz_core.specs.Own.{IsOpen}
use Rattle.rz_block_laws.specs.Acting.{IsActing}
use Rattle.rz_block_laws.specs.ActingLaws.{IsAskingLaw}
use Rattle.rz_block_laws.specs.Laws.{IsHandingLaw, IsTakenLaw}
use Rattle.rz_node_laws.specs.Laws.{IsReadBack}
use Rattle.rz_chronicle.specs.Kinds.{keeps_legal, volume_in}
use Rattle.rz_chronicle.specs.Rules.{PassView}
use Rattle.rz_shared_locked.specs.LockedNodes.{MayAsk, IsTrueRecord}
use Rattle.rz_play.specs.Lines.{noted}
use Rattle.rz_play_laws.specs.Own.{IsOfActor}
use Rattle.rz_player.specs.Messages.{IsNotedAs}
use Rattle.rz_play_laws.proofs.Events.{node-event}
use Rattle.rz_threads_steps.specs.Acted.{IsCallServed, IsStopped, IsWorkRight}
use Rattle.rz_threads_steps.specs.Adding.{AddsOwn, PassLasts}
use Rattle.rz_threads_steps.proofs.Acts.{node-step, stopped-by}

-- ---- an answer has an event, but for want of memory

event-to : (layout : Layout) (by : Actor) (n : ℕ) (question : NodeAsk) (a : NodeAnswer) → IsAnswerTo layout question a → a ≢ answer.Replace replace.NoMemory → (x : Event) × (node_event by n question a ≡ Some x)
event-to layout by n (ask.Keep head) (answer.Keep a) is some = (_, refl)
event-to layout by n (ask.Fetch key position stamp) (answer.Fetch a) is some = (_, refl)
event-to layout by n (ask.Drop fid) (answer.Drop a) is some = (_, refl)
event-to layout by n ask.Probe (answer.Probe a) is some = (_, refl)
event-to layout by n (ask.Replace loss fence) (answer.Replace replace.Replaced) is some = (_, refl)
event-to layout by n (ask.Replace loss fence) (answer.Replace replace.NotLost) is some = (_, refl)
event-to layout by n (ask.Replace loss fence) (answer.Replace (replace.OtherLoss now)) is some = (_, refl)
event-to layout by n (ask.Replace loss fence) (answer.Replace replace.NoMemory) is some = absurd (some refl)
event-to layout by n (ask.Replace loss fence) (answer.Replace replace.DiskFault) is some = (_, refl)
event-to layout by n (ask.Refill fence head) (answer.Refill a) is some = (_, refl)
event-to layout by n ask.Stop a is some = absurd is
event-to layout by n ask.Start a is some = absurd is
event-to layout by n ask.Lose a is some = absurd is
event-to layout by n question a is some = absurd is

pub event-of : (m : Machine) (by : Actor) (n : ℕ) (question : NodeAsk) (a : NodeAnswer) → ask_of m.layout m.work ≡ AskNode n question → IsAnswer m.layout (ask_of m.layout m.work) a → a ≢ answer.Replace replace.NoMemory
    → (x : Event) × (node_event by n question a ≡ Some x)
event-of m by n question a asked is some = event-to m.layout by n question a (subst (λ (k : Ask). IsAnswer m.layout k a) asked is) some

-- ---- the events of a message

module _ (kind : List ℕ) (earlier : List Event) (n : ℕ) (question : NodeAsk) (given : NodeAnswer) (p mid : PassView) (has : (x : Event) × (node_event p.actor n question given ≡ Some x)) (adds : AddsOwn kind earlier p (node_event p.actor n question given) mid) where
  its-event : of_actor p.actor mid.log ≡ has.0 ∷ of_actor p.actor p.log
  its-event = adds.own ∙ ap (λ (o : Option Event). noted o (of_actor p.actor p.log)) has.1

  pub noted-through : IsNotedAs p.actor n question sent.Through (of_actor p.actor p.log) (of_actor p.actor mid.log)
  noted-through = (has.0, (given, has.1), its-event)

  pub noted-reply : (q : PassView) → of_actor p.actor q.log ≡ e.Missed p.actor n true ∷ of_actor p.actor mid.log → IsNotedAs p.actor n question sent.ReplyLost (of_actor p.actor p.log) (of_actor p.actor q.log)
  noted-reply q own = (has.0, (given, has.1), own ∙ ap (λ (o : List Event). e.Missed p.actor n true ∷ o) its-event)

  -- after the answer of a node the operation is open
  pub open-after : IsOfActor question → IsOpen (of_actor mid.actor mid.log)
  open-after of =
      subst (λ (k : Actor). IsOpen (of_actor k mid.log)) (sym adds.lasts.actor)
      (subst IsOpen (sym its-event) (node-event p.actor n question given has.0 of has.1).going)

-- the pass of one actor says it
pub missed-by : (kind : List ℕ) (earlier : List Event) (p mid q : PassView) (n : ℕ) (reply : Bool) → PassLasts p mid → AddsOwn kind earlier mid (Some (e.Missed mid.actor n reply)) q → AddsOwn kind earlier mid (Some (e.Missed p.actor n reply)) q
missed-by kind earlier p mid q n reply lasts adds = subst (λ (a : Actor). AddsOwn kind earlier mid (Some (e.Missed a n reply)) q) lasts.actor adds

pub missed-own : (kind : List ℕ) (earlier : List Event) (p mid q : PassView) (n : ℕ) (reply : Bool) → PassLasts p mid → AddsOwn kind earlier mid (Some (e.Missed mid.actor n reply)) q → of_actor p.actor q.log ≡ e.Missed p.actor n reply ∷ of_actor p.actor mid.log
missed-own kind earlier p mid q n reply lasts adds = subst (λ (a : Actor). of_actor a q.log ≡ e.Missed a n reply ∷ of_actor a mid.log) lasts.actor adds.own

-- ---- an answer that is not told has no event, in a book that keeps its log legal

pub unmade : (by : Actor) (n : ℕ) (question : NodeAsk) (given : NodeAnswer) → given ≡ answer.Replace replace.NoMemory → node_event by n question given ≡ None
unmade by n question given is = ap (node_event by n question) is ∙ none question
  where
    none : (q : NodeAsk) → node_event by n q (answer.Replace replace.NoMemory) ≡ None
    none (ask.Replace loss fence) = refl
    none (_) = refl

-- a record that came is that of its write
back-of : (v : Volume) (f : Facts) (n cells : ℕ) (s : NodeState) (question : NodeAsk) (given : NodeAnswer) (before bins : List ℕ) → IsNodeAnswer cells s question given → IsTrueRecord v f n question given before bins
    → (r : Held) → given ≡ answer.Fetch (fetch.Held r) → (key : Key) × IsReadBack v f n key r before bins
back-of v f n cells s (ask.Fetch key position stamp) given before bins is read r same =
    (key, subst (λ (a : NodeAnswer). IsTrueRecord v f n (ask.Fetch key position stamp) a before bins) same read)
back-of v f n cells s (ask.Keep head) given before bins is read r same = absurd (subst (IsNodeAnswer cells s (ask.Keep head)) same is)
back-of v f n cells s (ask.Refill fence head) given before bins is read r same = absurd (subst (IsNodeAnswer cells s (ask.Refill fence head)) same is)
back-of v f n cells s (ask.Drop fid) given before bins is read r same = absurd (subst (IsNodeAnswer cells s (ask.Drop fid)) same is)
back-of v f n cells s ask.Probe given before bins is read r same = absurd (subst (IsNodeAnswer cells s ask.Probe) same is)
back-of v f n cells s (ask.Replace loss fence) given before bins is read r same = absurd (subst (IsNodeAnswer cells s (ask.Replace loss fence)) same is)
back-of v f n cells s ask.Stop given before bins is read r same = absurd (subst (IsNodeAnswer cells s ask.Stop) same is)
back-of v f n cells s ask.Start given before bins is read r same = absurd (subst (IsNodeAnswer cells s ask.Start) same is)
back-of v f n cells s ask.Lose given before bins is read r same = absurd (subst (IsNodeAnswer cells s ask.Lose) same is)

-- so each answer but want of memory is told
module _ (kind : List ℕ) (earlier : List Event) (n : ℕ) (question : NodeAsk) (given : NodeAnswer) (p q : PassView) (before bins : List ℕ) (m : Machine) (number : ℕ) (asked : ask_of m.layout m.work ≡ AskNode n question)
    (served : IsCallServed kind earlier n question given p q before bins) where
  not-told : IsTakenLaw (volume_in kind) → IsWorkRight kind earlier p number m → (given ≡ answer.Replace replace.NoMemory) ⊎ (¬ IsAnswer m.layout (ask_of m.layout m.work) given) → IsTrue (keeps_legal kind) → node_event p.actor n question given ≡ None
  not-told taken right (inl wants) keeps = unmade p.actor n question given wants
  not-told taken right (inr never) keeps =
      let f = facts (q.log ++ earlier) in
      let cells = cells_of (volume_in kind) n in
      let back = back-of (volume_in kind) f n cells served.by_node.0 question given before bins served.by_node.1 (served.read keeps) in
      absurd (never (taken f m n cells served.by_node.0 question given before bins (right keeps).true_to.layout_is asked served.for_actor served.by_node.1 back))

  -- the turn was cut off
  pub served-stopped : IsTakenLaw (volume_in kind) → IsWorkRight kind earlier p number m → (given ≡ answer.Replace replace.NoMemory) ⊎ (¬ IsAnswer m.layout (ask_of m.layout m.work) given) → (any : ℕ) → IsStopped kind any p q m
  served-stopped taken right why any =
      stopped-by kind earlier any p q m (node_event p.actor n question given) served.adds (λ x is. (Answered true given, node-step p.actor any m n question given x asked is))
      (not-told taken right why)

-- ---- what a caller must have done

pub may-ask : (v : Volume) → IsAskingLaw v → IsHandingLaw v → (earlier h : List Event) (by : Actor) (number : ℕ) (m : Machine) (n : ℕ) (question : NodeAsk) (bins : List ℕ) → IsActing v earlier h by number m
    → ask_of m.layout m.work ≡ AskNode n question → (HasBinsFor question → AreBinsFor m question bins) → MayAsk v (h ++ earlier) by n question bins
may-ask v asks handing earlier h by number m n question bins acts asked have = record {
  proper = (asks earlier h by number m (AskNode n question) acts asked).0;
  hands = handing (facts (h ++ earlier)) (of_actor by (h ++ earlier)) (of_actor by h) by m n question bins acts.true_to asked have;
}

-- an operation whose message goes through the link is open
pub is-open : (v : Volume) → IsAskingLaw v → (earlier h : List Event) (by : Actor) (number : ℕ) (m : Machine) (n : ℕ) (question : NodeAsk) → IsActing v earlier h by number m → ask_of m.layout m.work ≡ AskNode n question
    → goes_by_link question ≡ true → IsOpen (of_actor by h)
is-open v asks earlier h by number m n question acts asked link = (asks earlier h by number m (AskNode n question) acts asked).3 link

-- ---- bins that are handed to a node

-- what a node is to keep reads no record
pub no-read : (v : Volume) (f : Facts) (n : ℕ) (question : NodeAsk) (given : NodeAnswer) (bins bins' : List ℕ) → IsBinful question → IsTrueRecord v f n question given bins bins'
no-read v f n (ask.Keep head) given bins bins' is = tt
no-read v f n (ask.Refill fence head) given bins bins' is = tt
no-read v f n (_) given bins bins' is = absurd is

-- ---- what is lost does not come through

pub not-through-replylost : (s : Sent) → s ≡ sent.ReplyLost → s ≢ sent.Through
not-through-replylost s is = λ same. (let both : sent.ReplyLost ≡ sent.Through = sym is ∙ same in cc)

pub not-through-requestlost : (s : Sent) → s ≡ sent.RequestLost → s ≢ sent.Through
not-through-requestlost s is = λ same. (let both : sent.RequestLost ≡ sent.Through = sym is ∙ same in cc)
