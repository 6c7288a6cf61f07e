-- A message to a node, beside the log.
use Rattle.std.proofs.Common.{◌≡◌, ◌≢◌, ℕ, Bool, true, false, List, [], ◌∷◌, ◌++◌, Some, None, refl, sym, ◌∙◌, ap, subst}
use Rattle.mj_angles.specs.declared.layout.Layout.{Layout}
use Rattle.rz_events.specs.Volume.{Volume}
use Rattle.rz_events.specs.declared.keys.Actor.{Actor}
use Rattle.rz_events.specs.declared.keys.Key.{Key}
use Rattle.rz_events.specs.declared.ends.ReadMark.TheVariants as mark
use Rattle.rz_events.specs.declared.ends.LeftWhy.TheVariants as left
use Rattle.rz_events.specs.declared.nodes.NodeAsk.{NodeAsk}
use Rattle.rz_events.specs.declared.nodes.NodeAsk.TheVariants as ask
use Rattle.rz_events.specs.declared.nodes.NodeAnswer.{NodeAnswer}
use Rattle.rz_events.specs.declared.nodes.NodeAnswer.TheVariants as answer
use Rattle.rz_events.specs.declared.nodes.ReplaceAnswer.TheVariants as replace
use Rattle.rz_events.specs.declared.events.Event.{Event}
use Rattle.rz_events.specs.declared.events.Event.TheVariants as e
use Rattle.rz_node_model.specs.Answers.{IsNodeAnswer}
use Rattle.rz_node_model.specs.Afterwards.{after_answer}
use Rattle.rz_node_model.specs.NodeEvents.{node_event}
use Rattle.rz_node_model.specs.States.{NodeState}
use Rattle.rz_cells_slots.specs.declared.geometry.Geometry.{Geometry}
use Rattle.rz_node.specs.Fetched.{IsFetchOf}
use Rattle.rz_node.specs.View.{NodeView}
use Rattle.rz_node.specs.Leaves.{LeavesDisk}
use Rattle.rz_core.specs.History.{Facts, facts}
use Rattle.rz_operation.specs.Answers.{IsWorkAfter, IsAnswerTo, FitsIfEnough}
use Rattle.rz_operation.specs.Machine.{Machine}
use Rattle.rz_operation.proofs.NodeAsks.{IsBinful}
use Rattle.rz_operation_model.specs.Ask.{Ask, AskExport, AskNode, AskLock, Say, Rest, SayGot, SayGave, SayLeft, SayDone, ask_of}
use Rattle.rz_operation_model.specs.Steps.{Missed}
use Rattle.rz_operation_model.specs.Turns.{IsStep, ReplyLost, goes_by_link}
use Rattle.rz_play_laws.specs.Own.{IsOfActor}
use Rattle.rz_node_laws.specs.Images.{IsImaged}
use Rattle.rz_block_laws.specs.Laws.{IsMessage, IsFittingLaw}
use Rattle.rz_block_laws.specs.Turns.{HasInHand, IsTrueActor, IsHeard, IsHeardLaw, IsToldLaw}
use Rattle.rz_driver_nodes.specs.Nodes.{IsAsked}
use Rattle.rz_driver_nodes.specs.Images.{HasImages, NodeStaysCoherent, NodeUnchanged}
use Rattle.rz_driver_nodes.proofs.Fits.{is_bad}

-- ---- events of nodes

-- an answer to an actor has no event only where memory was wanting, and leaves the state as it is
no-event : (by : Actor) (n cells : ℕ) (s : NodeState) (question : NodeAsk) (given : NodeAnswer) → IsOfActor question → IsNodeAnswer cells s question given → node_event by n question given ≡ None → after_answer question given s ≡ s
no-event by n cells s (ask.Keep head) (answer.Keep a) actor is none = absurd (cc)
no-event by n cells s (ask.Fetch key position stamp) (answer.Fetch a) actor is none = absurd (cc)
no-event by n cells s (ask.Refill fence head) (answer.Refill a) actor is none = absurd (cc)
no-event by n cells s (ask.Drop fid) (answer.Drop a) actor is none = absurd (cc)
no-event by n cells s ask.Probe (answer.Probe a) actor is none = absurd (cc)
no-event by n cells s (ask.Replace loss fence) (answer.Replace replace.NoMemory) actor is none = refl
no-event by n cells s (ask.Replace loss fence) (answer.Replace replace.Replaced) actor is none = absurd (cc)
no-event by n cells s (ask.Replace loss fence) (answer.Replace replace.NotLost) actor is none = absurd (cc)
no-event by n cells s (ask.Replace loss fence) (answer.Replace (replace.OtherLoss now)) actor is none = absurd (cc)
no-event by n cells s (ask.Replace loss fence) (answer.Replace replace.DiskFault) actor is none = absurd (cc)
no-event by n cells s ask.Stop given actor is none = absurd actor
no-event by n cells s ask.Start given actor is none = absurd actor
no-event by n cells s ask.Lose given actor is none = absurd actor
no-event by n cells s question given actor is none = absurd is

-- ---- answers

-- that a record which was fetched is one of the layout is all that the kinds of ask and answer do not tell
pub answers-to : (y : Layout) (cells : ℕ) (s : NodeState) (question : NodeAsk) (given : NodeAnswer) → IsOfActor question → IsNodeAnswer cells s question given → IsFetchOf y given → IsAnswerTo y question given
answers-to y cells s (ask.Keep head) (answer.Keep a) actor is fits = tt
answers-to y cells s (ask.Fetch key position stamp) (answer.Fetch a) actor is fits = fits
answers-to y cells s (ask.Refill fence head) (answer.Refill a) actor is fits = tt
answers-to y cells s (ask.Drop fid) (answer.Drop a) actor is fits = tt
answers-to y cells s ask.Probe (answer.Probe a) actor is fits = tt
answers-to y cells s (ask.Replace loss fence) (answer.Replace a) actor is fits = tt
answers-to y cells s ask.Stop given actor is fits = absurd actor
answers-to y cells s ask.Start given actor is fits = absurd actor
answers-to y cells s ask.Lose given actor is fits = absurd actor
answers-to y cells s question given actor is fits = absurd is

-- what is bad says that records fit no block
bad-said : (a : Ask) → is_bad a ≡ true → ((key : Key) (part : Bool) → a ≢ Say (SayGot key part mark.Inconsistent)) → ((key : Key) → a ≢ Say (SayLeft key left.Inconsistent)) → ⊥
bad-said (AskExport c) is got leaves = cc
bad-said (AskNode n question) is got leaves = cc
bad-said (AskLock path exclusive from count) is got leaves = cc
bad-said Rest is got leaves = cc
bad-said (Say (SayGave key part end)) is got leaves = cc
bad-said (Say (SayDone a)) is got leaves = cc
bad-said (Say (SayGot key part mark.Inconsistent)) is got leaves = got key part refl
bad-said (Say (SayGot key part (mark.Found stamp size))) is got leaves = cc
bad-said (Say (SayGot key part mark.Hole)) is got leaves = cc
bad-said (Say (SayGot key part (mark.TooFew seen))) is got leaves = cc
bad-said (Say (SayGot key part (mark.Denied why))) is got leaves = cc
bad-said (Say (SayGot key part (mark.Moved was now))) is got leaves = cc
bad-said (Say (SayLeft key left.Inconsistent)) is got leaves = leaves key refl
bad-said (Say (SayLeft key _)) is got leaves = cc

-- what a machine has in hand never makes it say so
pub never-bad : (v : Volume) → IsFittingLaw v → (f : Facts) (m : Machine) → HasInHand v f m → is_bad (ask_of m.layout m.work) ≡ false
never-bad v fitting f m hand = go (is_bad (ask_of m.layout m.work)) refl
  where
    go : (b : Bool) → is_bad (ask_of m.layout m.work) ≡ b → b ≡ false
    go false is = refl
    go true is = absurd (bad-said (ask_of m.layout m.work) is (λ key part. (fitting f m hand key).0 part) (λ key. (fitting f m hand key).1))

-- ---- the bins that are handed to a node

-- what a node leaves of its disk when it is to keep a record does not depend on the bins afterwards
pub any-bins : (g : Geometry) (s : NodeState) (question : NodeAsk) (given : NodeAnswer) → IsBinful question → (own handed after after' text text' : List ℕ) (image image' : List ℕ → Type 0) → own ≡ handed
    → LeavesDisk g s question given own after text text' image image' → LeavesDisk g s question given handed after' text text' image image'
any-bins g s (ask.Keep head) (answer.Keep a) bins own handed after after' text text' image image' same leaves = subst (λ (bs : List ℕ). LeavesDisk g s (ask.Keep head) (answer.Keep a) bs after' text text' image image') same leaves
any-bins g s (ask.Refill fence head) (answer.Refill a) bins own handed after after' text text' image image' same leaves = subst (λ (bs : List ℕ). LeavesDisk g s (ask.Refill fence head) (answer.Refill a) bs after' text text' image image') same leaves
any-bins g s (ask.Keep head) given bins own handed after after' text text' image image' same leaves = leaves
any-bins g s (ask.Refill fence head) given bins own handed after after' text text' image image' same leaves = leaves
any-bins g s question given bins own handed after after' text text' image image' same leaves = absurd bins

-- ---- a node that was called

module _ {D : Type 0} (text : D → List ℕ) (image : D → List ℕ → Type 0) (law : (v : Volume) → IsHeardLaw text image v) (by : Actor) (n : ℕ) (m : Machine) (question : NodeAsk) (given : NodeAnswer) (node node' : NodeView D) (bins : List ℕ) (h : List Event)
    (sent : (handed : List ℕ) × IsMessage text image m n node.geometry.cells node.geometry node.state question given handed bins node.disk node'.disk)
    (geometry : node'.geometry ≡ node.geometry) (after : node'.state ≡ after_answer question given node.state) where
  heard : (v : Volume) (old more : List Event) → IsTrueActor v (facts (h ++ old)) by m → HasImages image v (facts (h ++ old)) n node
      → IsHeard image v (facts (more ++ (h ++ old))) by m n node.geometry node.state question given bins node'.disk
  heard v old more actor has = law v (h ++ old) more by m n node.geometry.cells node.geometry node.state question given sent.0 bins node.disk node'.disk actor sent.1 has.images

  pub now-has : (v : Volume) (old more : List Event) → IsTrueActor v (facts (h ++ old)) by m → HasImages image v (facts (h ++ old)) n node → HasImages image v (facts (more ++ (h ++ old))) n node'
  now-has v old more actor has =
      let f = facts (more ++ (h ++ old)) in
      let images : IsImaged v f n (after_answer question given node.state) node.geometry (image node'.disk) = (heard v old more actor has).images in
      record {
        geometry = geometry ∙ has.geometry;
        images = subst (λ (g : Geometry). IsImaged v f n node'.state g (image node'.disk)) (sym geometry)
            (subst (λ (s : NodeState). IsImaged v f n s node.geometry (image node'.disk)) (sym after) images);
      }

  -- nothing happened that is to be noted
  pub eventless : IsOfActor question → IsNodeAnswer node.geometry.cells node.state question given → node_event by n question given ≡ None → NodeUnchanged image by n m node node' h
  eventless actor_asks is none = λ v old actor has. (now-has v old [] actor has, after ∙ no-event by n node.geometry.cells node.state question given actor_asks is none)

  module _ (x : Event) (is : node_event by n question given ≡ Some x) (new : Machine) (answered : FitsIfEnough m given bins new) where
    hand : (v : Volume) (old more : List Event) → IsTrueActor v (facts (h ++ old)) by m → HasImages image v (facts (h ++ old)) n node → HasInHand v (facts (more ++ (h ++ old))) new
    hand v old more actor has = (heard v old more actor has).hand x new (record { event = is; answered = answered })

    pub keeps-through : (h' : List Event) → h' ≡ x ∷ h → NodeStaysCoherent image by n m new node node' h h'
    keeps-through h' log_is = λ v old actor has. (
      subst (λ (k : List Event). HasInHand v (facts (k ++ old)) new) (sym log_is) (hand v old (x ∷ []) actor has),
      subst (λ (k : List Event). HasImages image v (facts (k ++ old)) n node') (sym log_is) (now-has v old (x ∷ []) actor has),
    )

  -- the answer was lost
  pub keeps-lost : ((v : Volume) → IsToldLaw v) → IsAsked m n question → goes_by_link question ≡ true → (x : Event) → node_event by n question given ≡ Some x → (new : Machine) → IsWorkAfter m m.pairs Missed new
      → (h' : List Event) → h' ≡ e.Missed by n true ∷ x ∷ h → NodeStaysCoherent image by n m new node node' h h'
  keeps-lost told asked by_link x is new goes h' log_is = λ v old actor has.
      let two : List Event = e.Missed by n true ∷ x ∷ [] in
      let step : IsStep by 0 (ask_of m.layout m.work) Missed two = subst (λ (a : Ask). IsStep by 0 a Missed two) (sym asked) (ReplyLost given x is by_link) in (
        subst (λ (k : List Event). HasInHand v (facts (k ++ old)) new) (sym log_is) (told v (h ++ old) two by 0 m new Missed two actor step tt goes),
        subst (λ (k : List Event). HasImages image v (facts (k ++ old)) n node') (sym log_is) (now-has v old two actor has),
      )

-- a node that was not called
pub not-called : {D : Type 0} (image : D → List ℕ → Type 0) (by : Actor) (n : ℕ) (m : Machine) (node node' : NodeView D) (h : List Event) → node' ≡ node → NodeUnchanged image by n m node node' h
not-called image by n m node node' h same = λ v old actor has. (
  subst (λ (x : NodeView _). HasImages image v (facts (h ++ old)) n x) (sym same) has,
  ap (λ (x : NodeView _). x.state) same,
)
