-- What one turn makes of the parts that it uses: the machine, the export, the locks and the log.
use Rattle.std.specs.Prelude.{ℕ, Bool, true, false, ◌≡◌, List, ◌∷◌, Option, Some, IsSome}
use Rattle.rz_events.specs.declared.keys.Actor.{Actor}
use Rattle.rz_events.specs.declared.tree.TreeReply.{TreeReply}
use Rattle.rz_events.specs.declared.tree.TreeReply.TheVariants as answers
use Rattle.rz_events.specs.declared.export.Call.{Call}
use Rattle.rz_events.specs.declared.export.Call.TheVariants as call
use Rattle.rz_events.specs.declared.export.Reply.{Reply}
use Rattle.rz_events.specs.declared.export.Reply.TheVariants as reply
use Rattle.rz_events.specs.declared.events.Event.{Event}
use Rattle.rz_export_model.specs.Export.{Export, export_reply, export_after}
use Rattle.rz_export_model.specs.ExportEvents.{export_event}
use Rattle.rz_operation.specs.Answers.{IsWorkAfter}
use Rattle.rz_operation.specs.Machine.{Machine, text_of}
use Rattle.rz_operation_model.specs.Ask.{AskExport, Say, Saying, SayDone, ask_of}
use Rattle.rz_operation_model.specs.Steps.{Told, Replied, Noted, told}
use Rattle.rz_operation_model.specs.Turns.{said_event}
use Rattle.rz_events.specs.declared.export.CallRef.{CallRef}
use Rattle.rz_events.specs.declared.export.CallRef.TheVariants as export
use Rattle.rz_driver_asks.specs.declared.replies.CallTexts.{CallTexts}
use Rattle.rz_driver_asks.specs.declared.replies.CallTexts.TheVariants as words

-- the texts of what is asked, for the log
abbrev pub AreCallTexts : CallRef → CallTexts → Type 0
AreCallTexts (export.Tree c) (words.Call copy) = copy ≡ c.now
AreCallTexts (export.Tree c) given = ⊥
AreCallTexts (export.Begin key text) (words.Text copy) = copy ≡ text.now
AreCallTexts (export.Begin key text) given = ⊥
AreCallTexts ask words.Nothing = Unit {0}
AreCallTexts ask given = ⊥

-- the machine was told this
pub record IsMachineTold (old new : Machine) (t : Told) : Type 0 where
  pub layout : new.layout ≡ old.layout
  pub work : new.work ≡ told old.layout old.work t

-- the event was noted
abbrev pub IsNoted : Option Event → List Event → List Event → Type 0
IsNoted event old new = (x : Event) × (event ≡ Some x) × (new ≡ x ∷ old)

-- nothing of a reply on names is to be copied: only names and a target are
abbrev pub IsUncopied : TreeReply → Type 0
IsUncopied (answers.Names names) = ⊥
IsUncopied (answers.Target target) = ⊥
IsUncopied answer = Unit {0}

-- a reply has an event, and no memory is wanted for it
abbrev pub IsNotable : Actor → Call → Reply → Type 0
IsNotable by (call.Tree c) r = (answer : TreeReply) × (r ≡ reply.Tree answer) × IsUncopied answer
IsNotable by c r = IsSome (export_event by c r)

-- The export answered this call of a machine.
pub record IsReplied (by : Actor) (c : Call) (old new : Machine) (s s' : Export) (log log' : List Event) : Type 0 where
  pub noted : IsNoted (export_event by c (export_reply s c)) log log'
  pub after : s' ≡ export_after s c
  pub goes : IsWorkAfter old old.pairs (Replied (export_reply s c)) new

abbrev pub IsExportPart : Actor → Machine → Machine → Export → Export → List Event → List Event → Type 0
IsExportPart by old new s s' log log' = (c : Call) × (ask_of old.layout old.work ≡ AskExport c) × IsReplied by c old new s s' log log'

-- A word of the actor's own was said.

abbrev pub is_done : Saying → Bool
is_done (SayDone answer) = true
is_done said = false

-- The text that the machine has in hand is noted.
pub record IsSayingNoted (by : Actor) (number : ℕ) (said : Saying) (done : Bool) (old new : Machine) (log log' : List Event) : Type 0 where
  pub done_is : done ≡ is_done said
  pub noted : log' ≡ said_event by number (text_of old) said ∷ log
  pub goes : IsWorkAfter old old.pairs (Noted (text_of old)) new

abbrev pub IsSayPart : Actor → ℕ → Bool → Machine → Machine → List Event → List Event → Type 0
IsSayPart by number done old new log log' = (said : Saying) × (ask_of old.layout old.work ≡ Say said) × IsSayingNoted by number said done old new log log'
