-- What the reading of a text answers.
use Rattle.std.specs.Prelude.{◌≡◌, Option, Some, None, Result, Ok, Err, ⊤}
use Rattle.rz_export_model.specs.Paths.{Path}
use Rattle.rz_names.specs.declared.path.PathError.{PathError}
use Rattle.rz_names.specs.declared.path.PathError.TheVariants.{NoMemory, BadName}

-- the path, or `BadName` exactly where there is none; memory may be wanting
abbrev pub Reads : Option Path → Result Path PathError → Type 0
Reads path (Ok p) = path ≡ Some p
Reads path (Err BadName) = path ≡ None
Reads path (Err NoMemory) = ⊤
