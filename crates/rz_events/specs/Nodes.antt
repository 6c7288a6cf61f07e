-- The numbers of the faults of an opening.
use Rattle.std.specs.Prelude.{ℕ}
use Rattle.rz_events.specs.declared.nodes.OpenFault.{OpenFault}
use Rattle.rz_events.specs.declared.nodes.OpenFault.TheVariants.{NoMemory, WrongSize, DiskFault, Unformatted, BadHeader, Damaged, Twice}

-- the number of a fault; want of memory has none
abbrev pub number_of : OpenFault → ℕ
number_of NoMemory = 0
number_of (WrongSize have need) = 1
number_of DiskFault = 2
number_of Unformatted = 3
number_of (BadHeader field value) = 4
number_of (Damaged cell) = 5
number_of (Twice first second) = 6
