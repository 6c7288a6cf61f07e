-- What a function that takes memory gives, beside what is to be read.
use Rattle.std.specs.Prelude.{◌≡◌, Result, Ok, Err}
use Rattle.rz_config.specs.declared.fault.VolumeError.{VolumeError}
use Rattle.rz_config.specs.declared.fault.VolumeError.TheVariants as errors
use Rattle.rz_config.specs.Described.{Read}

-- no memory says nothing, and a refusal is the first fault
abbrev pub Fails : {A : Type 0} → VolumeError → Read A → Type 0
Fails errors.NoMemory read = Unit {0}
Fails (errors.Refused fault) read = read ≡ Err fault

-- the value is what is read, as a contract sees it
abbrev pub Gives : {A B : Type 0} → (A → B) → Result A VolumeError → Read B → Type 0
Gives view (Ok x) read = read ≡ Ok (view x)
Gives view (Err e) read = Fails e read
