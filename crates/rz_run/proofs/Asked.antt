-- What was asked for fits the disks.
use Rattle.std.proofs.Common.{ℕ, ◌≡◌, Bool, true, false, Option, Ok}
use Rattle.rz_request.specs.Line.{Meaning}
use Rattle.rz_script.specs.Scripts.{Script}
use Rattle.rz_request.specs.Requests.{Reading, nodes_in}
use Rattle.rz_request.specs.Runs.{AsksIf, AsksRun, wants_run}

fits-if : (b : Bool) (m : Option Meaning) (source : Reading) (disks : ℕ) (s : Script) → AsksIf b m source disks (Ok s) → disks ≡ nodes_in s
fits-if true m source disks s asked = asked.2.2
fits-if false m source disks s asked = cc

pub run-fits : (m : Option Meaning) (source : Reading) (disks : ℕ) (s : Script) → AsksRun m source disks (Ok s) → disks ≡ nodes_in s
run-fits m source disks s asked = fits-if (wants_run m) m source disks s asked
