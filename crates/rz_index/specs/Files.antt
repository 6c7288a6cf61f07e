-- The first entry of a file.
use Rattle.std.specs.Prelude.{ℕ, ◌==◌, List, Option}
use Rattle.std.specs.List as lists
use Rattle.std.specs.Option.{option_map}
use Rattle.rz_index.specs.declared.index.Entry.{Entry}
use Rattle.rz_index.specs.Indexed.{pairs_of}

abbrev pub first_among : ℕ → List Entry → Option Entry
first_among fid entries = option_map (λ p. p.1) (lists.find (λ p. p.0.fid == fid) (pairs_of entries))
