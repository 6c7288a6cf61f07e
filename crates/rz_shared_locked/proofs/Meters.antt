-- The word of a node beside the meter of its disk, through calls of the node.
use Rattle.std.proofs.Common.{◌≡◌, ◌-◌, ◌≤◌, ℕ, true, false, List, [], ◌∷◌, Option, Some, None, refl, sym, ◌∙◌, ap, subst, inl, arith}
use Rattle.rz_disk.specs.Meter.{Meter, armed}
use Rattle.rz_events.specs.declared.keys.Actor.{Actor}
use Rattle.rz_events.specs.declared.nodes.Phase.{Phase}
use Rattle.rz_events.specs.declared.nodes.Phase.TheVariants.{Down}
use Rattle.rz_events.specs.declared.nodes.NodeAsk.{NodeAsk}
use Rattle.rz_events.specs.declared.nodes.NodeAsk.TheVariants as ask
use Rattle.rz_events.specs.declared.nodes.NodeAnswer.{NodeAnswer}
use Rattle.rz_events.specs.declared.nodes.NodeAnswer.TheVariants as answer
use Rattle.rz_events.specs.declared.nodes.StartAnswer.{StartAnswer}
use Rattle.rz_events.specs.declared.nodes.StartAnswer.TheVariants as start
use Rattle.rz_events.specs.declared.events.Event.{Event}
use Rattle.rz_events.specs.declared.events.Event.TheVariants as e
use Rattle.rz_node_model.specs.Records.{Records}
use Rattle.rz_node_model.specs.States.{NodeState, opened}
use Rattle.rz_node_model.specs.Answers.{IsNodeAnswer}
use Rattle.rz_node_model.specs.Afterwards.{after_answer, after_start}
use Rattle.rz_node_model.specs.NodeEvents.{node_event, start_event}
use Rattle.rz_node.specs.Opens.{Opens, IfStarted, UnlessStarted}
use Rattle.rz_node.specs.View.{NodeView}
use Rattle.rz_node.specs.Calls.{CountsCall, IsNoStart}
use Rattle.rz_node.specs.Calls as calls
use Rattle.rz_play.specs.Faults.{fuse_of}
use Rattle.rz_play.specs.Lines.{noted}
use Rattle.rz_node_laws.specs.Metered.{IsMetered, IsFaultLaw, IsArmLaw, IsStartLaw, IsOpening, IsCounted}
use Rattle.rz_node_laws.proofs.MeterRises.{no-start, counts-last, opens-last}
pub use Rattle.rz_node_laws.proofs.MeterRises.{armed-there}
pub use Rattle.rz_node_laws.proofs.NodeWords.{noted-own}
use Rattle.rz_shared_locked.specs.Counts.{IsExact, GoesWith, AreCountedSince, rearmed}

pub no-start-of : (question : NodeAsk) → (question ≡ ask.Start → ⊥) → calls.IsNoStart question
no-start-of ask.Start apart = absurd (apart refl)
no-start-of (_) apart = tt

-- One node.

module _ {D : Type 0} (meter : D → Meter) where
  exact-before : (node node' : NodeView D) → (meter node.disk).own ≤ (meter node'.disk).own → IsExact (meter node'.disk).own → IsExact (meter node.disk).own
  exact-before node node' rose exact = omega (arith, rose, exact)

  -- a new node whose disk is not armed
  pub fresh-goes : (first : ℕ) (node : NodeView D) → first ≤ (meter node.disk).own → (meter node.disk).fuse ≡ None → GoesWith meter first [] node
  fresh-goes first node rose unarmed = record {
    rose = rose;
    metered = λ exact. record {
      few = omega (arith, rose);
      unarmed = λ none. unarmed;
      least = λ left is. absurd (cc);
      most = λ is left l at there. absurd (cc);
      effect = λ is. refl;
    };
  }

  -- one that answered any call but a start
  pub call-goes : IsFaultLaw → (first n k cells : ℕ) (w : List Event) (by : Actor) (question : NodeAsk) (given : NodeAnswer) (node node' : NodeView D) → calls.IsNoStart question → IsNodeAnswer cells node.state question given
      → node'.state ≡ after_answer question given node.state → CountsCall k given (meter node.disk) (meter node'.disk) → GoesWith meter first w node → GoesWith meter first (noted (node_event by n question given) w) node'
  call-goes law first n k cells w by question given node node' no_start is after counts was =
      let rose = counts-last k cells question given node.state (meter node.disk) (meter node'.disk) (no-start question no_start) is counts in
      record {
        rose = (let low = was.rose in omega (arith, low, rose));
        metered = λ exact.
            let met = law first k cells w node.state by n question given (meter node.disk) (meter node'.disk) exact (no-start question no_start) is counts (was.metered (exact-before node node' rose exact)) in
            subst (λ (s : NodeState). IsMetered first (noted (node_event by n question given) w) s.phase (meter node'.disk)) (sym after) met;
      }

  -- one that is down, was disarmed, and was opened, or its disk refused
  open-goes : IsStartLaw → (first n k : ℕ) (w : List Event) (given : StartAnswer) (node node' : NodeView D) → IsOpening given → Opens k given (armed None (meter node.disk)) (meter node'.disk)
      → node'.state.phase ≡ (after_start given node.state).phase → GoesWith meter first w node → GoesWith meter first (noted (start_event n given) w) node'
  open-goes law first n k w given node node' opening opens phase was =
      let rose = opens-last k given (armed None (meter node.disk)) (meter node'.disk) opens in
      record {
        rose = (let low = was.rose in omega (arith, low, rose));
        metered = λ exact.
            let met = law first n k w node.state given (meter node.disk) (meter node'.disk) exact opening opens (was.metered (exact-before node node' rose exact)) in
            subst (λ (p : Phase). IsMetered first (noted (start_event n given) w) p (meter node'.disk)) (sym phase) met;
      }

  -- one that wanted memory, and was armed again as its word says
  want-goes : (first : ℕ) (w : List Event) (left : Option ℕ) (node node' : NodeView D) → left ≡ fuse_of w → meter node'.disk ≡ armed left (meter node.disk) → node'.state.phase ≡ node.state.phase
      → GoesWith meter first w node → GoesWith meter first w node'
  want-goes first w left node node' by_word is phase was =
      let own : (meter node'.disk).own ≡ (meter node.disk).own = ap (λ (m : Meter). m.own) is in
      let fuse : (meter node'.disk).fuse ≡ fuse_of w = ap (λ (m : Meter). m.fuse) is ∙ by_word in
      record {
        rose = (let low = was.rose in omega (arith, low, own));
        metered = λ exact.
            let met = was.metered (omega (arith, exact, own)) in
            record {
              few = (let few = met.few in omega (arith, few, own));
              unarmed = λ none. fuse ∙ none;
              least = λ l at. (l, fuse ∙ at, omega arith);
              most = λ first_is l l' at there. inl (let same = the-number l l' (sym at ∙ sym fuse ∙ there) in omega (arith, same));
              effect = λ first_is. met.effect (sym own ∙ first_is);
            };
      }
    where
      the-number : (a b : ℕ) → Some a ≡ Some b → a ≡ b
      the-number a b same = cc

  -- one that is down, and was asked to start
  pub start-goes : IsStartLaw → (first n k cells : ℕ) (w : List Event) (left : Option ℕ) (given : StartAnswer) (node node' : NodeView D) (mid : Meter) → IsNodeAnswer cells node.state ask.Start (answer.Start given) → node.state.phase ≡ Down
      → left ≡ fuse_of w → Opens k given (armed None (meter node.disk)) mid → meter node'.disk ≡ rearmed given left mid → node'.state.phase ≡ (after_start given node.state).phase
      → GoesWith meter first w node → GoesWith meter first (noted (start_event n given) w) node'
  start-goes law first n k cells w left start.NotDown node node' mid is down by_word opens at phase was = absurd (is down)
  start-goes law first n k cells w left start.NoMemory node node' mid is down by_word opens at phase was =
      want-goes first w left node node' by_word (at ∙ ap (armed left) opens) phase was
  start-goes law first n k cells w left (start.Started took) node node' mid is down by_word opens at phase was =
      open-goes law first n k w (start.Started took) node node' tt (subst (Opens k (start.Started took) (armed None (meter node.disk))) (sym at) opens) phase was
  start-goes law first n k cells w left (start.Unopened cause) node node' mid is down by_word opens at phase was =
      open-goes law first n k w (start.Unopened cause) node node' tt (subst (Opens k (start.Unopened cause) (armed None (meter node.disk))) (sym at) opens) phase was

  -- one whose disk was armed
  pub arm-goes : IsArmLaw → (first n k pick : ℕ) (w : List Event) (node node' : NodeView D) → node'.state ≡ node.state → meter node'.disk ≡ armed (Some k) (meter node.disk)
      → GoesWith meter first w node → GoesWith meter first (e.Armed n k pick ∷ w) node'
  arm-goes law first n k pick w node node' state is was =
      let own : (meter node'.disk).own ≡ (meter node.disk).own = ap (λ (m : Meter). m.own) is in
      record {
        rose = (let low = was.rose in omega (arith, low, own));
        metered = λ exact.
            let met = law first n k pick w node.state.phase (meter node.disk) (was.metered (omega (arith, exact, own))) in
            let kept = subst (λ (m : Meter). IsMetered first (e.Armed n k pick ∷ w) node.state.phase m) (sym is) met in
            subst (λ (s : NodeState). IsMetered first (e.Armed n k pick ∷ w) s.phase (meter node'.disk)) (sym state) kept;
      }

  -- in the end the faults of the word are counted
  pub goes-counted : IsCounted → (first : ℕ) (w : List Event) (node : NodeView D) → GoesWith meter first w node → AreCountedSince first (meter node.disk).own w
  goes-counted law first w node was = record { rose = was.rose; counted = λ exact. law first w node.state.phase (meter node.disk) (was.metered exact) }

-- the phase after a start, also where the disk does not tell what it holds
pub phase-after : (given : StartAnswer) (s s' : NodeState) (losses fence : ℕ) (held : Records) → IfStarted given (s' ≡ opened losses fence held) → UnlessStarted given (s' ≡ s) → s'.phase ≡ (after_start given s).phase
phase-after (start.Started true) s s' losses fence held started not_started = ap (λ (t : NodeState). t.phase) started
phase-after (start.Started false) s s' losses fence held started not_started = ap (λ (t : NodeState). t.phase) started
phase-after start.NotDown s s' losses fence held started not_started = ap (λ (t : NodeState). t.phase) not_started
phase-after start.NoMemory s s' losses fence held started not_started = ap (λ (t : NodeState). t.phase) not_started
phase-after (start.Unopened cause) s s' losses fence held started not_started = ap (λ (t : NodeState). t.phase) not_started
