-- What the readers of several operations share.
use Rattle.std.specs.Prelude.{ℕ, Bool, true, false, List}
use Rattle.rz_events.specs.declared.operations.Datum.{Datum}
use Rattle.rz_events.specs.declared.operations.Operation.{Operation}
use Rattle.rz_events.specs.declared.operations.Operation.TheVariants.{Write, Read, Update, View}

-- an update and a view lock their range
abbrev pub written : Bool → List ℕ → ℕ → Datum → Operation
written true = Update
written false = Write

abbrev pub wanted : Bool → List ℕ → ℕ → ℕ → Operation
wanted true = View
wanted false = Read
