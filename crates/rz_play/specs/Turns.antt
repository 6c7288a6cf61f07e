-- What one turn of an actor may be.
use Rattle.std.specs.Prelude.{ℕ, Bool, true, false, ◌≡◌, ◌↔◌, ◌+◌, cond, List, [], ◌∷◌, ◌++◌, Option, Some, None}
use Rattle.rz_events.specs.Volume.{Volume}
use Rattle.rz_events.specs.declared.keys.Actor.{Actor}
use Rattle.rz_events.specs.declared.ends.ReadMark.{ReadMark}
use Rattle.rz_events.specs.declared.ends.ReadMark.TheVariants as mark
use Rattle.rz_events.specs.declared.export.Call.{Call}
use Rattle.rz_events.specs.declared.export.Call.TheVariants as call
use Rattle.rz_events.specs.declared.export.Reply.{Reply}
use Rattle.rz_events.specs.declared.export.Reply.TheVariants as reply
use Rattle.rz_events.specs.declared.tree.TreeCall.TheVariants as tree
use Rattle.rz_events.specs.declared.tree.TreeReply.TheVariants as told
use Rattle.rz_events.specs.declared.nodes.NodeAsk.{NodeAsk}
use Rattle.rz_events.specs.declared.nodes.NodeAnswer.{NodeAnswer}
use Rattle.rz_events.specs.declared.events.Event.{Event}
use Rattle.rz_events.specs.declared.events.Event.TheVariants as e
use Rattle.rz_locks.specs.declared.conflict.Lock.{Lock}
use Rattle.rz_locks.specs.declared.conflict.LockKind.{LockKind}
use Rattle.rz_locks.specs.declared.conflict.LockKind.TheVariants.{Shared, Exclusive}
use Rattle.rz_node_model.specs.Answers.{IsNodeAnswer}
use Rattle.rz_node_model.specs.Afterwards.{after_answer}
use Rattle.rz_node_model.specs.NodeEvents.{node_event}
use Rattle.rz_export_model.specs.Export.{export_reply, export_after}
use Rattle.rz_export_model.specs.ExportEvents.{export_event}
use Rattle.rz_core.specs.History.{Facts, facts, text_in}
use Rattle.rz_core.specs.NodeRows.{cells_of}
use Rattle.rz_operation_model.specs.Ask.{Ask, AskExport, AskNode, AskLock, Say, Rest, Saying, SayGot, SayDone, ask_of}
use Rattle.rz_operation_model.specs.Turns.{said_event, goes_by_link}
use Rattle.rz_operation_model.specs.Steps.{Told, Replied, Locked, Answered, Missed, Noted, told as told_work}
use Rattle.rz_play.specs.World.{World, Agenda, with_agenda, with_node, with_work, at_work, IsFree}

-- Events of the actor's own word.

-- a read finds the text of the write that it names
abbrev pub found_text : Facts → ReadMark → List ℕ
found_text f (mark.Found stamp length) = text_in (f.wrote stamp)
found_text f _ = []

abbrev pub text_said : Facts → Saying → List ℕ
text_said f (SayGot key part mark) = found_text f mark
text_said f _ = []

-- with `Done` the lock of an operation is released
abbrev pub lock_after : Saying → Option Lock → Option Lock
lock_after (SayDone answer) lock = None
lock_after _ lock = lock

-- Messages.

-- a message is lost this way, the answer or the request: as a line of the script says, or else by the link
abbrev pub IsLost : Option Bool → NodeAsk → Bool → Type 0
IsLost None question reply = goes_by_link question ≡ true
IsLost (Some planned) question reply = (goes_by_link question ≡ true) × (reply ≡ planned)

-- and comes through where no line says that it is lost
abbrev pub IsThrough : Option Bool → NodeAsk → Type 0
IsThrough None question = Unit {0}
IsThrough (Some planned) question = goes_by_link question ≡ false

-- the link lost one message more, where no line said it
abbrev pub lost_after : Option Bool → ℕ → ℕ
lost_after None lost = lost + 1
lost_after (Some planned) lost = lost

-- The turn. `s` is the actor at work, and `xs` has the events of the turn, the newest first.

-- after a turn with these events the actor goes on so
abbrev pub moved : World → Actor → Agenda → List Event → World
moved w by s xs = record (with_agenda w by s) { log = xs ++ w.log }

-- the actor is told the answer
abbrev pub advanced : Volume → Agenda → Told → Agenda
advanced v s t = with_work s (told_work v.layout s.work t)

-- the export answers a call
abbrev pub IsExportTurn : Volume → World → Actor → Agenda → Call → World → Type 0
IsExportTurn v w by s c next = (x : Event) × (export_event by c (export_reply w.export c) ≡ Some x)
    × (next ≡ record (moved w by (advanced v s (Replied (export_reply w.export c))) (x ∷ [])) { export = export_after w.export c })

-- The file is opened, and its bytes are locked where no other actor's lock conflicts.

abbrev pub kind_of : (exclusive : Bool) → LockKind
kind_of true = Exclusive
kind_of false = Shared

-- a refused open takes no lock
abbrev pub lock_on : Reply → Bool → ℕ → ℕ → Option Lock
lock_on (reply.Tree (told.File info)) exclusive from count =
    Some (record { range = record { fid = info.fid; from = from; length = count }; kind = kind_of exclusive })
lock_on _ exclusive from count = None

abbrev pub IsGranted : World → Actor → Option Lock → Bool → Type 0
IsGranted w by None granted = granted ≡ false
IsGranted w by (Some lock) granted = (granted ≡ true) ↔ IsFree w by lock

abbrev pub locked : Bool → Option Lock → Agenda → Agenda
locked granted lock s = record s { lock = cond granted lock s.lock }

abbrev pub IsLockTurn : Volume → World → Actor → Agenda → List ℕ → Bool → ℕ → ℕ → World → Type 0
IsLockTurn v w by s path exclusive from count next =
    let c = call.Tree (tree.OpenFile path) in
    let answer = export_reply w.export c in
    let lock = lock_on answer exclusive from count in
    (x : Event) × (export_event by c answer ≡ Some x) × (granted : Bool) × IsGranted w by lock granted
    × (next ≡ record (moved w by (locked granted lock (advanced v s (Locked granted answer))) (x ∷ [])) { export = export_after w.export c })

-- a node answers as its model does: with a disk fault, too, where the call needs the disk
pub record IsGiven (v : Volume) (w : World) (by : Actor) (n : ℕ) (question : NodeAsk) (given : NodeAnswer) (x : Event) : Type 0 where
  pub given_is : IsNodeAnswer (cells_of v n) (w.nodes n) question given
  pub event : node_event by n question given ≡ Some x

abbrev pub answered : World → ℕ → NodeAsk → NodeAnswer → World
answered w n question given = with_node w n (after_answer question given (w.nodes n))

abbrev pub no_miss : Agenda → Agenda
no_miss s = record s { miss = None }

abbrev pub with_lost : Agenda → World → World
with_lost s w = record w { lost = lost_after s.miss w.lost }

-- the request and the answer come through
abbrev pub IsThroughTurn : Volume → World → Actor → Agenda → ℕ → NodeAsk → World → Type 0
IsThroughTurn v w by s n question next = (given : NodeAnswer) × (x : Event) × IsGiven v w by n question given x
    × IsThrough s.miss question × (next ≡ moved (answered w n question given) by (advanced v s (Answered true given)) (x ∷ []))

-- the node acts, and its answer is lost
abbrev pub IsReplyLost : Volume → World → Actor → Agenda → ℕ → NodeAsk → World → Type 0
IsReplyLost v w by s n question next = (given : NodeAnswer) × (x : Event) × IsGiven v w by n question given x
    × IsLost s.miss question true
    × (next ≡ with_lost s (moved (answered w n question given) by (no_miss (advanced v s Missed)) (e.Missed by n true ∷ x ∷ [])))

-- the request is lost
abbrev pub IsRequestLost : Volume → World → Actor → Agenda → ℕ → NodeAsk → World → Type 0
IsRequestLost v w by s n question next = IsLost s.miss question false
    × (next ≡ with_lost s (moved w by (no_miss (advanced v s Missed)) (e.Missed by n false ∷ [])))

pub data IsNodeTurn (v : Volume) (w : World) (by : Actor) (s : Agenda) (n : ℕ) (question : NodeAsk) (next : World) : Type 0 where
  Through : IsThroughTurn v w by s n question next → IsNodeTurn v w by s n question next
  ReplyLost : IsReplyLost v w by s n question next → IsNodeTurn v w by s n question next
  RequestLost : IsRequestLost v w by s n question next → IsNodeTurn v w by s n question next

-- the actor says a word of its own
abbrev pub IsSayTurn : Volume → World → Actor → Agenda → Saying → World → Type 0
IsSayTurn v w by s said next = let text = text_said (facts w.log) said in
    next ≡ moved w by (record (advanced v s (Noted text)) { lock = lock_after said s.lock }) (said_event by s.number text said ∷ [])

abbrev pub IsAskTurn : Volume → World → Actor → Agenda → Ask → World → Type 0
IsAskTurn v w by s (AskExport c) next = IsExportTurn v w by s c next
IsAskTurn v w by s (AskNode n question) next = IsNodeTurn v w by s n question next
IsAskTurn v w by s (AskLock path exclusive from count) next = IsLockTurn v w by s path exclusive from count next
IsAskTurn v w by s (Say said) next = IsSayTurn v w by s said next
IsAskTurn v w by s Rest next = next ≡ w

abbrev pub counted : World → World
counted w = record w { turns = w.turns + 1 }

-- A turn of the actor. One without work changes nothing, and counts.
abbrev pub IsTurn : Volume → Actor → World → World → Type 0
IsTurn v by w next = let s = at_work (w.agendas by) in IsAskTurn v (counted w) by s (ask_of v.layout s.work) next
