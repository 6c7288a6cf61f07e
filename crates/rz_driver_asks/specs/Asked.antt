-- For which calls the journal's disk stands once a machine has asked the export.
use Rattle.std.specs.Prelude.{Bool, ◌≡◌, List, Option, Some, None, IfSome, ℕ}
use Rattle.rz_disk.specs.Meter.{Meter}
use Rattle.rz_events.specs.declared.tree.TreeCall.TheVariants as tree
use Rattle.rz_events.specs.declared.export.Call.{Call}
use Rattle.rz_events.specs.declared.export.Call.TheVariants as call
use Rattle.rz_operation.specs.Machine.{Machine}
use Rattle.rz_operation_model.specs.Ask.{Ask, AskExport, AskLock, ask_of}
use Rattle.rz_metadata.specs.declared.metadata.Metadata.{Metadata}
use Rattle.rz_metadata.specs.Journals.{EndsOn, IsRefused, KeepsCall}
use Rattle.rz_metadata.specs.Stands.{refusal_of}
use Rattle.rz_play.specs.Stops.{IsChange}

-- the call of the export that is asked for, if one is
abbrev pub call_asked : Ask → Option Call
call_asked (AskExport c) = Some c
call_asked (AskLock path exclusive from count) = Some (call.Tree (tree.OpenFile path))
call_asked ask = None

-- the call that a machine asked for was replied to, and is kept
abbrev pub KeepsAsked : {D : Type 0} → Bool → (D → Meter) → (D → List ℕ → Type 0) → Machine → Metadata D → Metadata D → Type 0
KeepsAsked tells meter image machine m m' = (c : Call) → call_asked (ask_of machine.layout machine.work) ≡ Some c → KeepsCall tells meter image c m m'

-- What was asked came to nothing. The journal stands for the calls from before; or it refused one, which is the call of the export that
-- was asked for, and one that may change it.
pub record LeavesAsked {D : Type 0} (tells : Bool) (meter : D → Meter) (image : D → List ℕ → Type 0) (ask : Ask) (m m' : Metadata D) : Type 0 where
  pub refused : Option Call
  pub is_refused : IsRefused (refusal_of m') refused
  pub change : IfSome refused (IsChange ask)
  pub ends : EndsOn tells meter image m m' refused
