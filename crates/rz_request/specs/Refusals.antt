-- The statuses and the lines of refusals.
use Rattle.std.specs.Prelude.{ℕ, List, ◌++◌, codes}
use Rattle.std.specs.Fmt.{decimal}
use Rattle.rz_config.specs.declared.fault.VolumeFault.{VolumeFault}
use Rattle.rz_script_words.specs.declared.fault.ScriptCause.{ScriptCause}
use Rattle.rz_request.specs.declared.refusal.Refusal.{Refusal}
use Rattle.rz_request.specs.declared.refusal.Refusal.TheVariants as refusals
use Rattle.rz_request.specs.Causes.{script_cause, volume_cause}

abbrev pub status_of : Refusal → ℕ
status_of refusals.Usage = 2
status_of (refusals.Script line cause) = 3
status_of (refusals.Volume fault) = 6
status_of refusals.Long = 7
status_of refusals.Turns = 8
status_of refusals.Large = 9
status_of (refusals.Disks have need) = 10
status_of (refusals.Disk index) = 11
status_of (refusals.Node sid) = 12
status_of (refusals.Old cause) = 13
status_of refusals.Journal = 14
status_of refusals.Full = 15
status_of (refusals.Open index cause) = 16

unfoldable pub script_line : ℕ → ScriptCause → List ℕ
script_line line cause = codes "refused script " ++ decimal line ++ codes " " ++ script_cause cause ++ codes "\n"

unfoldable pub volume_line : VolumeFault → List ℕ
volume_line fault = codes "refused volume " ++ fault.path ++ codes " " ++ volume_cause fault.cause ++ codes "\n"

unfoldable pub disks_line : ℕ → ℕ → List ℕ
disks_line have need = codes "refused disks " ++ (decimal have ++ (codes " " ++ (decimal need ++ codes "\n")))

unfoldable pub disk_line : ℕ → List ℕ
disk_line index = codes "refused disk " ++ (decimal index ++ codes "\n")

unfoldable pub node_line : ℕ → List ℕ
node_line sid = codes "refused node " ++ (decimal sid ++ codes "\n")

unfoldable pub old_line : ℕ → List ℕ
old_line cause = codes "refused old " ++ (decimal cause ++ codes "\n")

unfoldable pub open_line : ℕ → ℕ → List ℕ
open_line index cause = codes "refused open " ++ (decimal index ++ (codes " " ++ (decimal cause ++ codes "\n")))

-- the line that says what is refused, and how
abbrev pub line_of : Refusal → List ℕ
line_of refusals.Usage = codes "refused usage\n"
line_of (refusals.Script line cause) = script_line line cause
line_of (refusals.Volume fault) = volume_line fault
line_of refusals.Long = codes "refused long\n"
line_of refusals.Turns = codes "refused turns\n"
line_of refusals.Large = codes "refused large\n"
line_of (refusals.Disks have need) = disks_line have need
line_of (refusals.Disk index) = disk_line index
line_of (refusals.Node sid) = node_line sid
line_of (refusals.Old cause) = old_line cause
line_of refusals.Journal = codes "refused journal\n"
line_of refusals.Full = codes "refused full\n"
line_of (refusals.Open index cause) = open_line index cause
