-- The text of a path is a slash before each name, or alone for the root.
use Rattle.std.proofs.Common.{◌≡◌, ℕ, ◌≤◌, List, [], ◌∷◌, ◌++◌, length, refl, ap, arith}
use Rattle.std.proofs.lemmas.List.{append-nil}
use Rattle.std.specs.List.{flat_map, join_with_byte}
use Rattle.rz_journal_text.specs.Spelling.{path_text}

-- a slash before each of some names is one slash, and one between each two
pub slashed : (name : List ℕ) (names : List (List ℕ)) → flat_map (λ n. 47 ∷ n) (name ∷ names) ≡ 47 ∷ join_with_byte 47 (name ∷ names)
slashed name [] = append-nil (47 ∷ name)
slashed name (next ∷ names) = ap (λ (l : List ℕ). 47 ∷ (name ++ l)) (slashed next names)

pub slashed_names : (names : List (List ℕ)) → 1 ≤ length names → flat_map (λ n. 47 ∷ n) names ≡ path_text names
slashed_names [] some = absurd (omega arith)
slashed_names (name ∷ names) some = slashed name names

pub no_names : (names : List (List ℕ)) → length names ≡ 0 → path_text names ≡ 47 ∷ []
no_names [] none = refl
no_names (name ∷ names) none = absurd (omega arith)
