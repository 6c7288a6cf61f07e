-- What stands on a side, by numbers.
use Rattle.std.specs.Prelude.{ℕ, Bool, true, false, Option, Some, None}
use Rattle.rz_versions.specs.declared.versions.Version.{Version}

-- a version, where there is one
abbrev pub side : Bool → ℕ → ℕ → Option Version
side true stamp base = Some record { stamp = stamp; base = base }
side false stamp base = None
