-- What words and an input ask for.
use Rattle.std.specs.Prelude.{ℕ, ◌≡◌, ◌≢◌, ◌≤◌, ◌<◌, ◌||◌, ◌+◌, nat_lt, Bool, true, false, List, [], Option, Some, None, IfSome, IsSome, Result, Ok, Err, length}
use Rattle.rz_ports.specs.Counts.{Rises}
use Rattle.rz_request.specs.Line.{Meaning}
use Rattle.rz_request.specs.declared.command.Command.{Command}
use Rattle.rz_request.specs.declared.command.Command.TheVariants as commands
use Rattle.rz_config.specs.Sizes.{all_disk_bytes}
use Rattle.rz_events.specs.Volume.{nodes_of}
use Rattle.rz_generate.specs.Workload.{workload}
use Rattle.rz_script.specs.Grammar.{script}
use Rattle.rz_script.specs.Scripts.{Script}
use Rattle.rz_script.specs.Weights.{script_weight}
use Rattle.rz_script_words.specs.declared.form.Form.{Form}
use Rattle.rz_script_words.specs.declared.form.Form.TheVariants as forms
use Rattle.rz_script.specs.declared.fault.ScriptError.{ScriptError}
use Rattle.rz_script.specs.declared.fault.ScriptError.TheVariants as errors
use Rattle.rz_request.specs.Input.{limit}
use Rattle.rz_request.specs.declared.refusal.Refusal.TheVariants as refusals
use Rattle.rz_request.specs.declared.refusal.Stop.{Stop}
use Rattle.rz_request.specs.declared.refusal.Stop.TheVariants as stops
use Rattle.rz_request.specs.declared.wishes.Wish.{Wish}
use Rattle.rz_request.specs.declared.wishes.Wish.TheVariants as wishes
use Rattle.rz_request.specs.declared.wishes.Request.{Request}

-- the play that a command wishes for; the other commands are not built here
abbrev pub wish_of : Command → Option Wish
wish_of commands.Replay = Some wishes.Replay
wish_of (commands.Load seed) = Some (wishes.Load seed)
wish_of commands.Scrub = Some wishes.Scrub
wish_of commands.First = Some wishes.First
wish_of commands.Again = Some wishes.Again
wish_of _ = None

-- the play that words of this meaning wish for
abbrev pub wished : Option Meaning → Option Wish
wished None = None
wished (Some m) = wish_of m.command

-- the wish of words of this meaning, or a refusal of words that wish for nothing; memory is wanted only for words that mean something
abbrev pub IsWished : Option Meaning → Result Wish Stop → Type 0
IsWished m (Ok wish) = wished m ≡ Some wish
IsWished m (Err stops.NoMemory) = IsSome m
IsWished m (Err e) = (wished m ≡ None) × (e ≡ stops.Refused refusals.Usage)

-- the disks have more than 512 MiB, or the work more than 128 MiB
abbrev pub is_large : Script → Bool
is_large s = nat_lt 536870912 (all_disk_bytes s.volume) || nat_lt 32768 (script_weight s)

abbrev pub nodes_in : Script → ℕ
nodes_in s = length (nodes_of s.volume.clusters)

-- the disks that a wish needs: one for each node, and one for a journal
abbrev pub disks_for : Wish → Script → ℕ
disks_for wishes.First s = nodes_in s + 1
disks_for wishes.Again s = nodes_in s + 1
disks_for _ s = nodes_in s

-- What a reading of a script comes to over so many disks: the script, which is not too large and has the disks that it needs; or
-- its first fault; or a script that is too large; or one that needs other disks. Want of memory says nothing.
abbrev pub JudgesScript : Result Script ScriptError → (Script → ℕ) → ℕ → Result Script Stop → Type 0
JudgesScript read needs disks (Ok s) = (read ≡ Ok s) × (is_large s ≡ false) × (disks ≡ needs s)
JudgesScript read needs disks (Err stops.NoMemory) = Unit {0}
JudgesScript read needs disks (Err (stops.Refused (refusals.Script line cause))) = read ≡ Err (errors.Script line cause)
JudgesScript read needs disks (Err (stops.Refused (refusals.Volume fault))) = read ≡ Err (errors.Volume fault)
JudgesScript read needs disks (Err (stops.Refused refusals.Large)) = (s : Script) × (read ≡ Ok s) × (is_large s ≡ true)
JudgesScript read needs disks (Err (stops.Refused (refusals.Disks have need))) =
    (s : Script) × (read ≡ Ok s) × (is_large s ≡ false) × (have ≡ disks) × (need ≡ needs s) × (have ≢ need)
JudgesScript read needs disks (Err _) = ⊥

-- the script of a request
abbrev pub script_in : Result Request Stop → Result Script Stop
script_in (Ok r) = Ok r.script
script_in (Err e) = Err e

-- the same of a request for a wish
abbrev pub Judges : Result Script ScriptError → Wish → ℕ → Result Request Stop → Type 0
Judges read wish disks result = JudgesScript read (disks_for wish) disks (script_in result)

-- a request is for this wish
abbrev pub IsRequestFor : Wish → Result Request Stop → Type 0
IsRequestFor wish (Ok r) = r.wish ≡ wish
IsRequestFor wish (Err e) = Unit {0}

-- a source before and after it was read: what it had left, where that is told, and its faults
pub record Reading : Type 0 where
  pub before : Option (List ℕ)
  pub after : Option (List ℕ)
  pub old : ℕ
  pub new : ℕ

-- this text was left, and all of it was read
abbrev pub IsInputRead : Reading → List ℕ → Type 0
IsInputRead source text = IfSome source.before (λ left. (left ≡ text) × (source.after ≡ Some [])) × (length text ≤ limit)

-- What a source comes to over so many disks: more was left than the limit; its faults rose; or all that was left is judged as a
-- script of this form. Want of memory says nothing.
abbrev pub ReadsScript : Form → Reading → (Script → ℕ) → ℕ → Result Script Stop → Type 0
ReadsScript form source needs disks (Err stops.Source) = Rises source.old source.new
ReadsScript form source needs disks (Err stops.NoMemory) = Unit {0}
ReadsScript form source needs disks (Err (stops.Refused refusals.Long)) = IfSome source.before (λ left. limit < length left)
ReadsScript form source needs disks result = (text : List ℕ) × IsInputRead source text × JudgesScript (script form text) needs disks result

-- the same of a request for a wish
abbrev pub ReadsRequest : Reading → Wish → ℕ → Result Request Stop → Type 0
ReadsRequest source wish disks result = ReadsScript forms.Replay source (disks_for wish) disks (script_in result)

-- the script of all that was left of a source; or why there is none, whatever disks there are
abbrev pub HasScript : Form → Reading → Result Script Stop → Type 0
HasScript form source (Ok s) = (text : List ℕ) × IsInputRead source text × (script form text ≡ Ok s)
HasScript form source (Err e) = (needs : Script → ℕ) (disks : ℕ) → ReadsScript form source needs disks (Err e)

-- the source is as it was
abbrev pub IsUnread : Reading → Type 0
IsUnread source = (source.after ≡ source.before) × (source.new ≡ source.old)

-- words of this meaning are refused as usage; memory is wanted only for words that mean something
abbrev pub IsUsage : {A : Type 0} → Option Meaning → Result A Stop → Type 0
IsUsage m (Err stops.NoMemory) = IsSome m
IsUsage m result = result ≡ Err (stops.Refused refusals.Usage)

abbrev pub AsksFor : Option Wish → Option Meaning → Reading → ℕ → Result Request Stop → Type 0
AsksFor None m source disks result = IsUsage m result × IsUnread source
AsksFor (Some (wishes.Load seed)) m source disks result = Judges (Ok (workload seed)) (wishes.Load seed) disks result × IsRequestFor (wishes.Load seed) result × IsUnread source
AsksFor (Some wish) m source disks result = ReadsRequest source wish disks result × IsRequestFor wish result

-- What words of this meaning ask for: words that wish for nothing are refused as usage, with the source unread; a load is of the
-- workload of its seed, with the source unread; and the other plays are of the script of the source.
abbrev pub Asks : Option Meaning → Reading → ℕ → Result Request Stop → Type 0
Asks m = AsksFor (wished m) m
