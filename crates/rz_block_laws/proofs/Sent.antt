-- A message to a node.
use Rattle.std.proofs.Common.{◌≡◌, inl, inr, ℕ, Bool, true, false, cond, ◌==◌, List, [], ◌∷◌, Option, Some, None, refl, sym, ◌∙◌, ap, subst}
use Rattle.std.proofs.lemmas.Bool.{eqb-true}
use Rattle.mj_angles.specs.declared.layout.Layout.{Layout}
use Rattle.rz_events.specs.Volume.{Volume}
use Rattle.rz_events.specs.declared.keys.Key.{Key}
use Rattle.rz_events.specs.declared.keys.Actor.{Actor}
use Rattle.rz_events.specs.declared.records.Held.{Held}
use Rattle.rz_events.specs.declared.nodes.Phase.{Phase}
use Rattle.rz_events.specs.declared.nodes.Phase.TheVariants.{Up, Down, Lost}
use Rattle.rz_events.specs.declared.nodes.FetchAnswer.{FetchAnswer}
use Rattle.rz_events.specs.declared.nodes.FetchAnswer.TheVariants as fetch
use Rattle.rz_events.specs.declared.nodes.NodeAsk.{NodeAsk}
use Rattle.rz_events.specs.declared.nodes.NodeAsk.TheVariants as ask
use Rattle.rz_events.specs.declared.nodes.NodeAnswer.{NodeAnswer}
use Rattle.rz_events.specs.declared.nodes.NodeAnswer.TheVariants as answer
use Rattle.rz_events.specs.declared.events.Event.{Event}
use Rattle.rz_node_model.specs.Records.{found, held_of}
use Rattle.rz_node_model.specs.Answers.{fetch_in, fetch_found, IsNodeAnswer}
use Rattle.rz_node_model.specs.Afterwards.{after_answer}
use Rattle.rz_node_model.specs.NodeEvents.{node_event}
use Rattle.rz_node_model.specs.States.{NodeState}
use Rattle.rz_cells_slots.specs.declared.geometry.Geometry.{Geometry}
use Rattle.rz_node.specs.Fetched.{IfHeld}
use Rattle.rz_node.specs.Leaves.{LeavesDisk}
use Rattle.rz_operation_model.specs.Work.{Work, Over}
use Rattle.rz_operation_model.specs.Ask.{Ask, AskNode, ask_of}
use Rattle.rz_operation_model.specs.Steps.{Answered, told}
use Rattle.rz_operation_model.specs.Turns.{IsStep, Through}
use Rattle.rz_operation.specs.Answers.{IsWorkAfter}
use Rattle.rz_operation.specs.Machine.{Machine}
use Rattle.rz_core.specs.History.{Facts}
use Rattle.rz_play_laws.specs.Own.{IsOwnOf, HasOwnEvents, IsProper, IsOwnProper}
use Rattle.rz_node_laws.specs.Images.{IsImaged}
use Rattle.rz_node_laws.specs.Laws.{IsCallLaw, IsFetchLaw, IsReadBack}
use Rattle.rz_block_laws.specs.InHand.{IsInHand}
use Rattle.rz_block_laws.specs.Laws.{IsTrueTo, IsHandingLaw, IsFetchedLaw, IsGoingLaw, IsNoFetch, IsMessage, IsAnswerTold, IsMessageLaw}

-- the record that is found has the stamp that was asked for
found-stamp : (stamp : ℕ) (rs : List Held) (r : Held) → found stamp rs ≡ Some r → r.stamp ≡ stamp
found-stamp stamp [] r is = absurd (cc)
found-stamp stamp (a ∷ rs) r is = go (found-stamp stamp rs r) (a.stamp == stamp) refl is
  where
    go : (found stamp rs ≡ Some r → r.stamp ≡ stamp) → (b : Bool) → (a.stamp == stamp) ≡ b → cond b (Some a) (found stamp rs) ≡ Some r → r.stamp ≡ stamp
    go rest true same is = (let it : a ≡ r = cc in ap (λ (h : Held). h.stamp) (sym it) ∙ eqb-true a.stamp stamp same)
    go rest false same is = rest is

of-found : (o : Option Held) (r : Held) → fetch_found o ≡ fetch.Held r → o ≡ Some r
of-found None r is = absurd (cc)
of-found (Some a) r is = (let it : a ≡ r = cc in ap Some it)

of-up : (phase : Phase) (o : Option Held) (r : Held) → fetch_in phase (fetch_found o) ≡ fetch.Held r → o ≡ Some r
of-up Up o r is = of-found o r is
of-up Down o r is = absurd (cc)
of-up Lost o r is = absurd (cc)

-- an operation that asks something of a node is under way
pub at-node : (v : Volume) (y : Layout) (f : Facts) (o run : List Event) (by : Actor) (number : ℕ) (work : Work) (n : ℕ) (question : NodeAsk) → IsOwnProper v → y ≡ v.layout → IsOwnOf v f o run by work → HasOwnEvents v by number run work
    → ask_of y work ≡ AskNode n question → IsProper v f o run by number (AskNode n question)
at-node v y f o run by number work n question proper layout own (inl over) asked =
    let never : ask_of y Over ≡ AskNode n question = ap (ask_of y) (sym over) ∙ asked in absurd (cc)
at-node v y f o run by number work n question proper layout own (inr course) asked =
    subst (IsProper v f o run by number) (ap (λ (z : Layout). ask_of z work) (sym layout) ∙ asked) (proper f o run by number work own course)

module _ {D : Type 0} (text : D → List ℕ) (image : D → List ℕ → Type 0) (v : Volume) (called : IsCallLaw text image) (read : IsFetchLaw text image) (proper : IsOwnProper v) (handing : IsHandingLaw v) (fetched : IsFetchedLaw v) (going : IsGoingLaw v)
    (f : Facts) (o run : List Event) (by : Actor) (number : ℕ) (m : Machine) (n cells : ℕ) (g : Geometry) (s : NodeState) (handed bins : List ℕ) (before after : D)
    (true_to : IsTrueTo v f o run by m) (way : HasOwnEvents v by number run m.work) (imaged : IsImaged v f n s g (image before)) where
  abbrev GoesSo : NodeAnswer → Machine → Type 0
  GoesSo given new = (new.work ≡ told m.layout m.work (Answered true given)) × IsInHand v.layout f new.work new.pairs new.block

  -- an answer that is no record
  other : (question : NodeAsk) (given : NodeAnswer) (x : Event) (new : Machine) → ask_of m.layout m.work ≡ AskNode n question → node_event by n question given ≡ Some x → IsNoFetch (Answered true given)
      → IsWorkAfter m m.pairs (Answered true given) new → GoesSo given new
  other question given x new asked event no_fetch goes = (
    goes.work,
    going f o run by number m new (Answered true given) (x ∷ []) true_to (subst (λ (a : Ask). IsStep by number a (Answered true given) (x ∷ [])) (sym asked) (Through given x event)) no_fetch goes,
  )

  gave : (key : Key) (position stamp : ℕ) (a : FetchAnswer) → IsNodeAnswer cells s (ask.Fetch key position stamp) (answer.Fetch a)
      → LeavesDisk g s (ask.Fetch key position stamp) (answer.Fetch a) handed bins (text before) (text after) (image before) (image after)
      → IfHeld a (λ r. (r.stamp ≡ stamp) × IsReadBack v f n key r handed bins)
  gave key position stamp (fetch.Held r) is leaves = (
    found-stamp stamp (held_of s.held key) r (of-up s.phase (found stamp (held_of s.held key)) r (sym is)),
    read v f n cells g s key position stamp r handed bins before after is leaves imaged,
  )
  gave key position stamp _ is leaves = tt

  by-answer : (question : NodeAsk) (given : NodeAnswer) (x : Event) (new : Machine) → IsMessage text image m n cells g s question given handed bins before after → IsAnswerTold by m n question given bins x new → GoesSo given new
  by-answer (ask.Fetch key position stamp) (answer.Fetch a) x new sent t =
      fetched f o run by m new n key position stamp a handed bins true_to sent.asked
      (at-node v m.layout f o run by number m.work n (ask.Fetch key position stamp) proper true_to.layout_is true_to.own way sent.asked).0
      (gave key position stamp a sent.given_is sent.leaves) t.answered
  by-answer question (answer.Keep a) x new sent t = other question (answer.Keep a) x new sent.asked t.event tt t.answered
  by-answer question (answer.Refill a) x new sent t = other question (answer.Refill a) x new sent.asked t.event tt t.answered
  by-answer question (answer.Drop a) x new sent t = other question (answer.Drop a) x new sent.asked t.event tt t.answered
  by-answer question (answer.Probe a) x new sent t = other question (answer.Probe a) x new sent.asked t.event tt t.answered
  by-answer question (answer.Stop a) x new sent t = other question (answer.Stop a) x new sent.asked t.event tt t.answered
  by-answer question (answer.Start a) x new sent t = other question (answer.Start a) x new sent.asked t.event tt t.answered
  by-answer question (answer.Lose a) x new sent t = other question (answer.Lose a) x new sent.asked t.event tt t.answered
  by-answer question (answer.Replace a) x new sent t = other question (answer.Replace a) x new sent.asked t.event tt t.answered
  by-answer question (answer.Fetch a) x new sent t = absurd sent.given_is

  pub after-message : (question : NodeAsk) (given : NodeAnswer) → IsMessage text image m n cells g s question given handed bins before after
      → IsImaged v f n (after_answer question given s) g (image after)
      × ((x : Event) (new : Machine) → IsAnswerTold by m n question given bins x new → GoesSo given new)
  after-message question given sent = (
    called v f n cells g s question given handed bins before after sent.given_is (handing f o run by m n question handed true_to sent.asked sent.handed_are) sent.leaves imaged,
    λ x new t. by-answer question given x new sent t,
  )

pub message-law : {D : Type 0} (text : D → List ℕ) (image : D → List ℕ → Type 0) (v : Volume) → IsCallLaw text image → IsFetchLaw text image → IsOwnProper v → IsHandingLaw v → IsFetchedLaw v → IsGoingLaw v → IsMessageLaw text image v
message-law text image v called read proper handing fetched going f o run by number m n cells g s question given handed bins before after true_to way sent imaged =
    after-message text image v called read proper handing fetched going f o run by number m n cells g s handed bins before after true_to way imaged question given sent
