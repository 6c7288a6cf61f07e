-- The path of a call that is not the root's.
use Rattle.std.specs.Prelude.{ℕ, cond, List, Option, Some, None}
use Rattle.std.specs.Option.{option_and_then}
use Rattle.rz_export_model.specs.Paths.{Path, path_of, is_root}

-- the path that a text spells, where this is not the root's
abbrev pub proper_path_of : List ℕ → Option Path
proper_path_of text = option_and_then (λ p. cond (is_root p) None (Some p)) (path_of text)
