-- What a function that takes memory gives, beside what is to be read.
use Rattle.std.specs.Prelude.{◌≡◌, Result, Ok, Err}
use Rattle.rz_store_file.specs.declared.fault.StoreFileError.{StoreFileError}
use Rattle.rz_store_file.specs.declared.fault.StoreFileError.TheVariants as errors
use Rattle.rz_store_file.specs.Described.{Read}

-- no memory says nothing, and a refusal is the first fault
abbrev pub Fails : {A : Type 0} → StoreFileError → Read A → Type 0
Fails errors.NoMemory read = Unit {0}
Fails (errors.Refused fault) read = read ≡ Err fault

-- the value is what is read, as a contract sees it
abbrev pub Gives : {A B : Type 0} → (A → B) → Result A StoreFileError → Read B → Type 0
Gives view (Ok x) read = read ≡ Ok (view x)
Gives view (Err e) read = Fails e read
