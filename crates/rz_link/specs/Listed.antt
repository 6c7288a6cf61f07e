-- How a list of lost sends decides.
use Rattle.std.specs.Prelude.{ℕ, ◌==◌, List, find}
use Rattle.std.specs.Option.{option_map_or}
use Rattle.rz_link.specs.declared.Sent.{Sent}
use Rattle.rz_link.specs.declared.Sent.TheVariants.{Through}

-- how a send fares: as the first entry with its number says, and through where there is none
abbrev pub listed : List (ℕ × Sent) → ℕ → Sent
listed entries number = option_map_or (λ entry. entry.1) (find (λ entry. entry.0 == number) entries) Through
