-- What is there between two turns of a play.
use Rattle.std.specs.Prelude.{ℕ, Bool, true, false, not, ◌==◌, ◌+◌, ◌≡◌, cond, map, List, [], ◌∷◌, ◌++◌, Option, Some, None}
use Rattle.std.specs.List.{range_with_len, AllByRecursion}
use Rattle.rz_events.specs.Volume.{Volume}
use Rattle.rz_events.specs.declared.keys.Actor.{Actor}
use Rattle.rz_events.specs.declared.keys.Actor.TheVariants.{Client, Rebuilder}
use Rattle.rz_events.specs.declared.operations.Operation.{Operation}
use Rattle.rz_events.specs.declared.events.Event.{Event}
use Rattle.rz_events.specs.Events.{same_actor}
use Rattle.rz_locks.specs.declared.conflict.Lock.{Lock}
use Rattle.rz_locks.specs.Conflicts.{Conflict}
use Rattle.rz_node_model.specs.States.{NodeState, fresh}
use Rattle.rz_export_model.specs.Export.{Export, new_export}
use Rattle.rz_operation_model.specs.Work.{Work, Over}
use Rattle.rz_operation_model.specs.Steps.{begun}

-- An actor: the operations that it has not begun, the number of the last one that it began, what it is about to do, the
-- lock that it holds, and how its next message is to be lost, the answer or the request, where a line of the script says it.
pub record Agenda : Type 0 where
  pub todo : List Operation
  pub number : ℕ
  pub work : Work
  pub lock : Option Lock
  pub miss : Option Bool

-- The nodes by their numbers, the export, the actors, how many turns were taken, how many messages the link lost of
-- itself, and the log, the newest event first.
pub record World : Type 0 where
  pub nodes : ℕ → NodeState
  pub export : Export
  pub agendas : Actor → Agenda
  pub turns : ℕ
  pub lost : ℕ
  pub log : List Event

-- The beginning.

abbrev pub empty_agenda : Agenda
empty_agenda = record { todo = []; number = 0; work = Over; lock = None; miss = None }

-- nodes and export stand so after an earlier log, and no actor has anything in hand
abbrev pub world_after : (ℕ → NodeState) → Export → List Event → World
world_after nodes export log = record {
  nodes = nodes;
  export = export;
  agendas = λ by. empty_agenda;
  turns = 0;
  lost = 0;
  log = log;
}

-- every disk was formatted, and nothing was played
abbrev pub new_world : Volume → World
new_world v = world_after (λ n. fresh) (new_export v 0) []

-- What changes.

abbrev pub with_agenda : World → Actor → Agenda → World
with_agenda w by s = record w { agendas = λ a. cond (same_actor a by) s (w.agendas a) }

abbrev pub with_node : World → ℕ → NodeState → World
with_node w n s = record w { nodes = λ m. cond (m == n) s (w.nodes m) }

abbrev pub with_work : Agenda → Work → Agenda
with_work s work = record s { work = work }

-- Operations are taken up in order.

abbrev pub begin_next : Agenda → Work → List Operation → Agenda
begin_next s Over (op ∷ ops) = record s { todo = ops; number = s.number + 1; work = begun op }
begin_next s work ops = s

-- the actor as it goes to work: with its next operation, where it has none in hand
abbrev pub at_work : Agenda → Agenda
at_work s = begin_next s s.work s.todo

abbrev pub is_over : Work → Bool
is_over Over = true
is_over _ = false

-- an operation is unfinished
abbrev pub has_work : Agenda → Bool
has_work s = not (is_over (at_work s).work)

-- Locks.

-- the actors of a script: the clients and then the rebuilders, ascending
abbrev pub actors : List Actor
actors = map Client (range_with_len 1 64) ++ map Rebuilder (range_with_len 1 16)

-- this actor's lock conflicts with that one
abbrev pub Bars : Option Lock → Lock → Type 0
Bars None lock = ⊥
Bars (Some held) lock = Conflict held lock

-- no other actor holds such a lock
abbrev pub IsFree : World → Actor → Lock → Type 0
IsFree w by lock = AllByRecursion (λ other. same_actor other by ≡ false → ¬ Bars (w.agendas other).lock lock) actors
