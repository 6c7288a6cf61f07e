-- What a function that takes memory gives, beside what the grammar says.
use Rattle.std.specs.Prelude.{◌≡◌, Result, Ok, Err}
use Rattle.rz_script_words.specs.declared.fault.ScriptCause.{ScriptCause}
use Rattle.rz_script_words.specs.declared.fault.LineError.{LineError}
use Rattle.rz_script_words.specs.declared.fault.LineError.TheVariants as line_errors

-- want of memory says nothing, and a refusal is the first cause
abbrev pub Fails : {A : Type 0} → LineError → Result A ScriptCause → Type 0
Fails line_errors.NoMemory read = Unit {0}
Fails (line_errors.Cause cause) read = read ≡ Err cause

-- the value is what the grammar gives
abbrev pub Gives : {A : Type 0} → Result A LineError → Result A ScriptCause → Type 0
Gives (Ok x) read = read ≡ Ok x
Gives (Err e) read = Fails e read
