-- What words and an input ask for, where the actors are to have threads of their own.
use Rattle.std.specs.Prelude.{ℕ, Bool, true, false, Option, Some, None, Result}
use Rattle.rz_request.specs.Line.{Meaning}
use Rattle.rz_request.specs.declared.command.Command.{Command}
use Rattle.rz_request.specs.declared.command.Command.TheVariants as commands
use Rattle.rz_script.specs.Scripts.{Script}
use Rattle.rz_script_words.specs.declared.form.Form.TheVariants as forms
use Rattle.rz_request.specs.Requests.{IsUnread, IsUsage, Reading, ReadsScript, nodes_in}
use Rattle.rz_request.specs.declared.refusal.Stop.{Stop}

abbrev pub is_run : Command → Bool
is_run commands.Run = true
is_run _ = false

-- words of this meaning are those of a run
abbrev pub wants_run : Option Meaning → Bool
wants_run None = false
wants_run (Some m) = is_run m.command

abbrev pub AsksIf : Bool → Option Meaning → Reading → ℕ → Result Script Stop → Type 0
AsksIf true m source disks result = ReadsScript forms.Run source nodes_in disks result
AsksIf false m source disks result = IsUsage m result × IsUnread source

-- What words of this meaning ask for: the words of a run, the script of the source, which has a line of no other form than that of
-- runs and one disk for each node; all others are refused as usage, with the source unread.
abbrev pub AsksRun : Option Meaning → Reading → ℕ → Result Script Stop → Type 0
AsksRun m = AsksIf (wants_run m) m
