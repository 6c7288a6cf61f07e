-- A turn of an actor, beside a log that grows.
use Rattle.std.proofs.Common.{◌≡◌, ℕ, List, ◌++◌, subst}
use Rattle.mj_angles.specs.declared.layout.Layout.{Layout}
use Rattle.rz_events.specs.Volume.{Volume}
use Rattle.rz_events.specs.declared.keys.Actor.{Actor}
use Rattle.rz_events.specs.declared.keys.Key.{Key}
use Rattle.rz_events.specs.declared.records.Held.{Held}
use Rattle.rz_events.specs.declared.nodes.FetchAnswer.TheVariants as fetch
use Rattle.rz_events.specs.declared.nodes.NodeAsk.{NodeAsk}
use Rattle.rz_events.specs.declared.nodes.NodeAsk.TheVariants as ask
use Rattle.rz_events.specs.declared.nodes.NodeAnswer.{NodeAnswer}
use Rattle.rz_events.specs.declared.nodes.NodeAnswer.TheVariants as answer
use Rattle.rz_events.specs.declared.events.Event.{Event}
use Rattle.rz_node_model.specs.Answers.{IsNodeAnswer}
use Rattle.rz_node_model.specs.States.{NodeState}
use Rattle.rz_node_model.specs.Afterwards.{after_answer}
use Rattle.rz_cells_slots.specs.declared.geometry.Geometry.{Geometry}
use Rattle.rz_node.specs.Leaves.{LeavesDisk}
use Rattle.rz_operation_model.specs.Ask.{Ask}
use Rattle.rz_operation.specs.Answers.{IsAnswer, IsAnswerTo}
use Rattle.rz_operation.specs.Machine.{Machine}
use Rattle.rz_core.specs.History.{Facts, facts}
use Rattle.rz_core.specs.Longer.{IsPermanent}
use Rattle.rz_play_laws.specs.Own.{GrowsTo, IsOwnProper}
use Rattle.rz_node_laws.specs.Images.{IsImaged}
use Rattle.rz_node_laws.specs.Laws.{IsFetchLaw, IsLongerLaw, IsReadBack}
use Rattle.rz_block_laws.specs.Laws.{IsGoingLaw, IsGrowingLaw, IsMessage, IsMessageLaw, IsTakenLaw}
use Rattle.rz_block_laws.specs.Turns.{IsTrueActor, IsLastingLaw, IsToldLaw, IsHeardLaw}
use Rattle.rz_block_laws.proofs.Sent.{at-node}

grows : ((h more : List Event) → IsPermanent h more) → (h more : List Event) → GrowsTo (facts h) (facts (more ++ h))
grows permanent h more = record { wrote = (permanent h more).wrote; places = (permanent h more).places }

pub lasting-law : ((h more : List Event) → IsPermanent h more) → (v : Volume) → IsGrowingLaw v → IsLastingLaw v
lasting-law permanent v growing h more m hand = growing (facts h) (facts (more ++ h)) (grows permanent h more) m hand

pub told-law : ((h more : List Event) → IsPermanent h more) → (v : Volume) → IsGoingLaw v → IsGrowingLaw v → IsToldLaw v
told-law permanent v going growing h more by number m new t xs actor step other goes =
    growing (facts h) (facts (more ++ h)) (grows permanent h more) new
    (going (facts h) actor.own actor.run by number m new t xs actor.true_to step other goes)

module _ {D : Type 0} (text : D → List ℕ) (image : D → List ℕ → Type 0) (v : Volume) (read : IsFetchLaw text image) (proper : IsOwnProper v) (taken : IsTakenLaw v)
    (f : Facts) (by : Actor) (m : Machine) (n cells : ℕ) (g : Geometry) (s : NodeState) (handed bins : List ℕ) (before after : D)
    (actor : IsTrueActor v f by m) (imaged : IsImaged v f n s g (image before)) where
  -- a record came of a fetch
  read-back : (question : NodeAsk) (r : Held) → IsNodeAnswer cells s question (answer.Fetch (fetch.Held r))
      → LeavesDisk g s question (answer.Fetch (fetch.Held r)) handed bins (text before) (text after) (image before) (image after)
      → (key : Key) × IsReadBack v f n key r handed bins
  read-back (ask.Fetch key position stamp) r is leaves = (key, read v f n cells g s key position stamp r handed bins before after is leaves imaged)
  read-back question r is leaves = absurd is

  pub answers : (question : NodeAsk) (given : NodeAnswer) → IsMessage text image m n cells g s question given handed bins before after → IsAnswerTo v.layout question given
  answers question given sent =
      let of_actor = (at-node v m.layout f actor.own actor.run by actor.number m.work n question proper actor.true_to.layout_is actor.true_to.own actor.way sent.asked).2 in
      let back : (r : Held) → given ≡ answer.Fetch (fetch.Held r) → (key : Key) × IsReadBack v f n key r handed bins = λ r same.
      read-back question r (subst (IsNodeAnswer cells s question) same sent.given_is)
      (subst (λ (a : NodeAnswer). LeavesDisk g s question a handed bins (text before) (text after) (image before) (image after)) same sent.leaves)
      in
      let fits = taken f m n cells s question given handed bins actor.true_to.layout_is sent.asked of_actor sent.given_is back in
      subst (λ (y : Layout). IsAnswerTo y question given) actor.true_to.layout_is (subst (λ (a : Ask). IsAnswer m.layout a given) sent.asked fits)

pub heard-law : {D : Type 0} (text : D → List ℕ) (image : D → List ℕ → Type 0) → ((h more : List Event) → IsPermanent h more) → (v : Volume)
    → IsFetchLaw text image → IsLongerLaw image → IsOwnProper v → IsTakenLaw v → IsGrowingLaw v → IsMessageLaw text image v → IsHeardLaw text image v
heard-law text image permanent v read longer proper taken growing message h more by m n cells g s question given handed bins before after actor sent imaged =
    let done = message (facts h) actor.own actor.run by actor.number m n cells g s question given handed bins before after actor.true_to actor.way sent imaged in
    record {
      images = longer v h more n g (after_answer question given s) after done.0;
      answers = answers text image v read proper taken (facts h) by m n cells g s handed bins before after actor imaged question given sent;
      hand = λ x new told. growing (facts h) (facts (more ++ h)) (grows permanent h more) new (done.1 x new told).1;
    }
