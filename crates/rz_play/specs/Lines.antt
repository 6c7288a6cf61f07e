-- What a line of a script may be, played to its end.
use Rattle.std.specs.Prelude.{ℕ, zero, suc, Bool, true, false, ◌≡◌, ◌≢◌, List, [], ◌∷◌, ◌++◌, Option, Some, None}
use Rattle.std.specs.List.{AllByRecursion}
use Rattle.rz_events.specs.Volume.{Volume}
use Rattle.rz_events.specs.declared.keys.Actor.{Actor}
use Rattle.rz_events.specs.declared.keys.Actor.TheVariants.{Admin}
use Rattle.rz_events.specs.declared.nodes.NodeAsk.{NodeAsk}
use Rattle.rz_events.specs.declared.nodes.NodeAsk.TheVariants as ask
use Rattle.rz_events.specs.declared.nodes.NodeAnswer.{NodeAnswer}
use Rattle.rz_events.specs.declared.nodes.NodeAnswer.TheVariants as answer
use Rattle.rz_events.specs.declared.nodes.StartAnswer.TheVariants as start
use Rattle.rz_events.specs.declared.events.Event.{Event}
use Rattle.rz_events.specs.declared.events.Event.TheVariants as e
use Rattle.rz_node_model.specs.States.{NodeState, opened}
use Rattle.rz_node_model.specs.Answers.{IsNodeAnswer}
use Rattle.rz_node_model.specs.NodeEvents.{node_event}
use Rattle.rz_core.specs.NodeRows.{cells_of}
use Rattle.rz_core.specs.Tied.{IsOpening}
use Rattle.rz_events.specs.declared.operations.Operation.{Operation}
use Rattle.rz_script.specs.declared.line.Line.{Line}
use Rattle.rz_script.specs.declared.line.Line.TheVariants as line
use Rattle.rz_play.specs.World.{World, Agenda, with_agenda, with_node, has_work, actors}
use Rattle.rz_play.specs.Turns.{answered}
use Rattle.rz_play.specs.Free.{IsTurnOver}

-- Turns and rounds, over disks that tell their texts or that do not.

abbrev pub IsTurnsOver : Volume → Actor → ℕ → (tells : Bool) → World → World → Type 0
IsTurnsOver v by zero tells w next = next ≡ w
IsTurnsOver v by (suc k) tells w next = (mid : World) × IsTurnOver v by tells w mid × IsTurnsOver v by k tells mid next

-- an actor with work takes a turn
abbrev pub IsTurnIf : Bool → Volume → Actor → (tells : Bool) → World → World → Type 0
IsTurnIf true v by tells w next = IsTurnOver v by tells w next
IsTurnIf false v by tells w next = next ≡ w

-- and so do these, one after another
abbrev pub IsRoundOver : Volume → List Actor → (tells : Bool) → World → World → Type 0
IsRoundOver v [] tells w next = next ≡ w
IsRoundOver v (by ∷ more) tells w next = (mid : World) × IsTurnIf (has_work (w.agendas by)) v by tells w mid × IsRoundOver v more tells mid next

abbrev pub IsRoundsOver : Volume → ℕ → (tells : Bool) → World → World → Type 0
IsRoundsOver v zero tells w next = next ≡ w
IsRoundsOver v (suc k) tells w next = (mid : World) × IsRoundOver v actors tells w mid × IsRoundsOver v k tells mid next

-- Over disks that tell them.

abbrev pub IsTurns : Volume → Actor → ℕ → World → World → Type 0
IsTurns v by k w next = IsTurnsOver v by k true w next

abbrev pub IsTurnOr : Bool → Volume → Actor → World → World → Type 0
IsTurnOr busy v by w next = IsTurnIf busy v by true w next

abbrev pub IsRound : Volume → List Actor → World → World → Type 0
IsRound v actors w next = IsRoundOver v actors true w next

abbrev pub IsRounds : Volume → ℕ → World → World → Type 0
IsRounds v k w next = IsRoundsOver v k true w next

-- no actor has work
abbrev pub IsAtRest : World → Type 0
IsAtRest w = AllByRecursion (λ by. has_work (w.agendas by) ≡ false) actors

-- The administrator.

abbrev pub noted : Option Event → List Event → List Event
noted None h = h
noted (Some x) h = x ∷ h

-- want of memory ends a play, and is no answer in one
abbrev pub IsAnswerInPlay : NodeAnswer → Type 0
IsAnswerInPlay (answer.Start start.NoMemory) = ⊥
IsAnswerInPlay given = IsOpening given

-- A node is stopped, started or loses its disk: a line that does not apply has no event and changes nothing.
pub record IsAdminCall (v : Volume) (n : ℕ) (question : NodeAsk) (w next : World) : Type 0 where
  pub given : NodeAnswer
  pub given_is : IsNodeAnswer (cells_of v n) (w.nodes n) question given
  pub told : IsAnswerInPlay given
  pub next_is : next ≡ record (answered w n question given) { log = noted (node_event Admin n question given) w.log }

-- What a start makes of a node whose disk does not tell its text: one that started is up and may hold anything, and any other is
-- as it was.
abbrev pub IsStartedAs : NodeAnswer → NodeState → NodeState → Type 0
IsStartedAs (answer.Start (start.Started took)) state after = after ≡ opened state.losses after.fence after.held
IsStartedAs given state after = after ≡ state

-- a node is started, and what it finds on its disk is not said
pub record IsFreeStart (v : Volume) (n : ℕ) (w next : World) : Type 0 where
  pub given : NodeAnswer
  pub given_is : IsNodeAnswer (cells_of v n) (w.nodes n) ask.Start given
  pub answered : given ≢ answer.Start start.NoMemory
  pub state : NodeState
  pub started : IsStartedAs given (w.nodes n) state
  pub next_is : next ≡ record (with_node w n state) { log = noted (node_event Admin n ask.Start given) w.log }

-- Lines.

abbrev pub with_operation : Agenda → Operation → Agenda
with_operation s op = record s { todo = s.todo ++ op ∷ [] }

-- a line before that was not used is replaced
abbrev pub with_miss : Agenda → Bool → Agenda
with_miss s reply = record s { miss = Some reply }

-- The whole line, over disks that tell their texts or that do not.
abbrev pub PlaysLineOver : Volume → Line → (tells : Bool) → World → World → Type 0
PlaysLineOver v (line.Op by op) tells w next = next ≡ with_agenda w by (with_operation (w.agendas by) op)
PlaysLineOver v (line.Turn by k) tells w next = IsTurnsOver v by k tells w next
PlaysLineOver v (line.Rounds k) tells w next = IsRoundsOver v k tells w next
PlaysLineOver v line.Rest tells w next = (k : ℕ) × IsRoundsOver v k tells w next × IsAtRest next
PlaysLineOver v (line.Stop n) tells w next = IsAdminCall v n ask.Stop w next
PlaysLineOver v (line.Start n) true w next = IsAdminCall v n ask.Start w next
PlaysLineOver v (line.Start n) false w next = IsFreeStart v n w next
PlaysLineOver v (line.Lose n) tells w next = IsAdminCall v n ask.Lose w next
PlaysLineOver v (line.Break n k pick) tells w next = next ≡ record w { log = e.Armed n k pick ∷ w.log }
PlaysLineOver v (line.Miss by reply) tells w next = next ≡ with_agenda w by (with_miss (w.agendas by) reply)

-- over disks that tell them
abbrev pub PlaysLine : Volume → Line → World → World → Type 0
PlaysLine v l w next = PlaysLineOver v l true w next

-- a line that takes no turn
abbrev pub TakesNoTurn : Line → Type 0
TakesNoTurn (line.Turn by k) = ⊥
TakesNoTurn (line.Rounds k) = ⊥
TakesNoTurn line.Rest = ⊥
TakesNoTurn _ = Unit {0}
