-- What holds of an operation that is right beside the log. `earlier` is the log that the run goes on after, and `h` what the
-- actor has seen of the run.
use Rattle.std.specs.Prelude.{ℕ, true, ◌≡◌, List, ◌∷◌, ◌++◌, Some}
use Rattle.rz_events.specs.Volume.{Volume}
use Rattle.rz_events.specs.declared.keys.Actor.{Actor}
use Rattle.rz_events.specs.declared.keys.Key.{Key}
use Rattle.rz_events.specs.declared.records.Held.{Held}
use Rattle.rz_events.specs.declared.nodes.FetchAnswer.TheVariants as fetch
use Rattle.rz_events.specs.declared.nodes.NodeAsk.{NodeAsk}
use Rattle.rz_events.specs.declared.nodes.NodeAsk.TheVariants as ask
use Rattle.rz_events.specs.declared.nodes.NodeAnswer.{NodeAnswer}
use Rattle.rz_events.specs.declared.nodes.NodeAnswer.TheVariants as answer
use Rattle.rz_events.specs.declared.events.Event.{Event}
use Rattle.rz_events.specs.declared.operations.Operation.{Operation}
use Rattle.rz_events.specs.declared.operations.Operation.TheVariants as operation
use Rattle.rz_script.specs.Lines as script
use Rattle.rz_operation_model.specs.Ask.{Ask, AskNode, Say, Saying, ask_of}
use Rattle.rz_operation_model.specs.Steps.{Told, Answered, begun, told}
use Rattle.rz_operation_model.specs.Turns.{IsStep}
use Rattle.rz_operation.specs.Answers.{IsWithinLayout, IsWorkAfter, FitsIfEnough}
use Rattle.rz_operation.specs.Machine.{Machine, text_of}
use Rattle.rz_core.specs.History.{facts, of_actor}
use Rattle.rz_core.specs.Courses.{does}
use Rattle.rz_core.specs.Legal.{IsLegalAfter}
use Rattle.rz_core.specs.NodeRows.{IsNodeOf}
use Rattle.rz_core.specs.Own.{IsBetween}
use Rattle.rz_play.specs.Turns.{text_said}
use Rattle.rz_node_model.specs.NodeEvents.{node_event}
use Rattle.rz_play_laws.specs.Own.{AreToldBy, IsToldBy, IsProper}
use Rattle.rz_node_laws.specs.Laws.{IsReadBack}
use Rattle.rz_block_laws.specs.Laws.{IsNoFetch}
use Rattle.rz_block_laws.specs.Acting.{IsActing, TellsBytes}

-- A node that is rebuilt is one of the volume.
abbrev pub IsOfVolume : Volume → Operation → Type 0
IsOfVolume v (operation.Rebuild n) = IsNodeOf v n
IsOfVolume v op = Unit {0}

-- The actor may do the operation: it is one of its kind, machines take it, and it is of the volume.
pub record MayDo (v : Volume) (by : Actor) (op : Operation) : Type 0 where
  pub does_it : does by op ≡ true
  pub takes : IsWithinLayout v.layout op
  pub of_volume : IsOfVolume v op

-- so is each operation of a script
abbrev pub IsScriptLaw : Volume → Type 0
IsScriptLaw v = (by : Actor) (op : Operation) → script.IsOperation v by op → MayDo v by op

-- It begins.
abbrev pub IsBeginningLaw : Volume → Type 0
IsBeginningLaw v = (earlier h : List Event) (by : Actor) (number : ℕ) (op : Operation) (m : Machine) → MayDo v by op → IsBetween (of_actor by h)
    → m.layout ≡ v.layout → m.work ≡ begun op → IsActing v earlier h by number m

-- Others act.
abbrev pub IsRestingLaw : Volume → Type 0
IsRestingLaw v = (earlier h more : List Event) (by : Actor) (number : ℕ) (m : Machine) → of_actor by (more ++ h) ≡ of_actor by h
    → IsActing v earlier h by number m → IsActing v earlier (more ++ h) by number m

-- The machine was told what came of its ask, which was no record; others may have acted before and after the events of this turn.
pub record IsGoing (v : Volume) (earlier h more : List Event) (by : Actor) (number : ℕ) (m : Machine) (t : Told) (xs : List Event) (new : Machine) : Type 0 where
  pub step : IsStep by number (ask_of m.layout m.work) t xs
  pub other : IsNoFetch t
  pub own : of_actor by (more ++ h) ≡ xs ++ of_actor by h
  pub said : AreToldBy v (facts (more ++ h ++ earlier)) xs
  pub bytes : TellsBytes (facts (more ++ h ++ earlier)) t
  pub goes : IsWorkAfter m m.pairs t new

abbrev pub IsGoingLaw : Volume → Type 0
IsGoingLaw v = (earlier h more : List Event) (by : Actor) (number : ℕ) (m new : Machine) (t : Told) (xs : List Event)
    → IsActing v earlier h by number m → IsGoing v earlier h more by number m t xs new → IsActing v earlier (more ++ h) by number new

-- A node answered, with this event, and the machine was told: a record that came is that of its write.
pub record IsHearing (v : Volume) (earlier h more : List Event) (by : Actor) (m : Machine) (n : ℕ) (question : NodeAsk) (given : NodeAnswer) (x : Event) (before bins : List ℕ) (new : Machine) : Type 0 where
  pub asked : ask_of m.layout m.work ≡ AskNode n question
  pub event : node_event by n question given ≡ Some x
  pub own : of_actor by (more ++ h) ≡ x ∷ of_actor by h
  pub said : IsToldBy v (facts (more ++ h ++ earlier)) x
  pub read : (key : Key) (position stamp : ℕ) (r : Held) → question ≡ ask.Fetch key position stamp → given ≡ answer.Fetch (fetch.Held r)
      → IsReadBack v (facts (more ++ h ++ earlier)) n key r before bins
  pub answered : FitsIfEnough m given bins new

-- It goes on as where the records fit a block.
abbrev pub IsHearingLaw : Volume → Type 0
IsHearingLaw v = (earlier h more : List Event) (by : Actor) (number : ℕ) (m new : Machine) (n : ℕ) (question : NodeAsk) (given : NodeAnswer) (x : Event) (before bins : List ℕ)
    → IsActing v earlier h by number m → IsHearing v earlier h more by m n question given x before bins new
    → (new.work ≡ told m.layout m.work (Answered true given)) × IsActing v earlier (more ++ h) by number new

-- What it asks is proper, as long as it asks anything.
abbrev pub IsAskingLaw : Volume → Type 0
IsAskingLaw v = (earlier h : List Event) (by : Actor) (number : ℕ) (m : Machine) (a : Ask) → IsActing v earlier h by number m → ask_of m.layout m.work ≡ a
    → IsProper v (facts (h ++ earlier)) (of_actor by (h ++ earlier)) (of_actor by h) by number a

-- A text that was found is that of the write.
abbrev pub IsSayingLaw : Volume → Type 0
IsSayingLaw v = (earlier h : List Event) (by : Actor) (number : ℕ) (m : Machine) (said : Saying) → IsLegalAfter v earlier h
    → IsActing v earlier h by number m → ask_of m.layout m.work ≡ Say said → text_of m ≡ text_said (facts (h ++ earlier)) said
