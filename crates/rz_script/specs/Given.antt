-- What a function that takes memory gives, beside what the grammar of a script says.
use Rattle.std.specs.Prelude.{◌≡◌, ℕ, List, [], ◌++◌, Option, Result, Ok, Err}
use Rattle.std.specs.List.{cons_option}
use Rattle.std.specs.Global.{Vec}
use Rattle.rz_events.specs.Volume.{Volume}
use Rattle.rz_script_words.specs.declared.fault.ScriptCause.{ScriptCause}
use Rattle.rz_script.specs.Scripts.{Script}
use Rattle.rz_script.specs.declared.line.Line.{Line}
use Rattle.rz_script.specs.declared.fault.ScriptError.{ScriptError}
use Rattle.rz_script.specs.declared.fault.ScriptError.TheVariants as errors
use Rattle.rz_script.specs.Grammar.{at_line}

-- want of memory says nothing, and a refusal is the first fault
abbrev pub FailsScript : {A : Type 0} → ScriptError → Result A ScriptError → Type 0
FailsScript errors.NoMemory read = Unit {0}
FailsScript e read = read ≡ Err e

-- the value, as a contract sees it, is what the grammar gives
abbrev pub GivesScript : {A B : Type 0} → (A → B) → Result A ScriptError → Result B ScriptError → Type 0
GivesScript view (Ok x) read = read ≡ Ok (view x)
GivesScript view (Err e) read = FailsScript e read

-- the line was added where the text means one; otherwise its fault came
abbrev pub AddsLine : List Line → List Line → ℕ → Result (Option Line) ScriptCause → Result (Unit {0}) ScriptError → Type 0
AddsLine old new n read (Ok u) = (o : Option Line) × (read ≡ Ok o) × (new ≡ old ++ cons_option o [])
AddsLine old new n read (Err e) = FailsScript e (at_line n read)

-- a volume and lines are a script
abbrev pub script_of : Volume × Vec Line → Script
script_of p = record { volume = p.0; lines = p.1.items }
