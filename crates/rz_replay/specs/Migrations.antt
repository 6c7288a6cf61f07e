-- What a migration over disks comes to.
use Rattle.std.specs.Prelude.{ℕ, ◌⊎◌, List, Result, Ok, Err}
use Rattle.rz_disk.specs.declared.disk.Disk.{Ghosts}
use Rattle.rz_request.specs.Requests.{Reading}
use Rattle.rz_request.specs.declared.refusal.Stop.{Stop}
use Rattle.rz_request.specs.Carried.{Migrates, migrated_line}
use Rattle.rz_request.specs.declared.outcome.Migrated.{Migrated}
use Rattle.rz_report.specs.Output.{Sunk, Ends, Lacks}
use Rattle.rz_report.specs.Telling.{Stops}

-- The line of what was carried over was to be written, with status 0; or there is nothing to tell but why. Memory may be wanting.
abbrev pub TellsMigration : Result Migrated Stop → Sunk → ℕ → Type 0
TellsMigration (Ok m) sink status = Ends sink 0 (migrated_line m) status ⊎ Lacks sink status
TellsMigration (Err stop) sink status = Stops stop sink status

-- the old disk of node `sid` is carried over, or why it is not; and that is told
abbrev pub IsMigrationTold : {D : Type 0} → Ghosts D → (sid : ℕ) → Reading → List D → List D → Sunk → ℕ → Type 0
IsMigrationTold G sid source old new sink status =
    (r : Result Migrated Stop) × Migrates G sid source old new r × TellsMigration r sink status
