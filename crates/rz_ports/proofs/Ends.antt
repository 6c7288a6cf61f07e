-- Where a read gives nothing.
use Rattle.std.proofs.Common.{arith, ap, ℕ, ◌≡◌, ◌<◌, ◌≤◌, ◌↔◌, ◌++◌, List, [], Option, None, Some, length, take, length-append, IfSome}
use Rattle.std.proofs.lemmas.List.{length-take-le}
use Rattle.std.proofs.lemmas.Grind.{common_steps}
use Rattle.std.specs.Io.KnownBytes.{Consumes, IsAtEnd, Keeps}

-- nothing can be read where nothing is left
none_from_empty : (n : ℕ) (out rest : List ℕ) → n ≤ length out → [] ≡ take n out ++ rest → n ≡ 0
none_from_empty n out rest within all =
    omega (arith, ap length all, length-append (take n out) rest, length-take-le n out within)

-- what was left is what was read and then what is left, so nothing is read exactly where nothing was left
emptied : (n : ℕ) (out xs ys zs : List ℕ) → n ≤ length out → ys ≡ xs → ys ≡ take n out ++ zs
    → (n ≡ 0 → zs ≡ []) → n ≡ 0 ↔ xs ≡ []
emptied n out xs ys zs within kept moved end = grind (arith, common_steps, none_from_empty)

-- a read that comes after reads that moved nothing gives nothing exactly at the end
pub ended : (first old new : Option (List ℕ)) (n room : ℕ) (out : List ℕ) → room ≡ length out → n ≤ room
    → Keeps first old → Consumes old new (take n out) → (n ≡ 0 → 0 < room → IsAtEnd new)
    → IfSome first (λ bytes. 0 < room → n ≡ 0 ↔ bytes ≡ [])
ended None old new n room out sized within kept moved end = tt
ended (Some xs) None new n room out sized within kept moved end = absurd kept
ended (Some xs) (Some ys) None n room out sized within kept moved end = absurd moved
ended (Some xs) (Some ys) (Some zs) n room out sized within kept moved end =
    λ some. emptied n out xs ys zs (omega arith) kept moved (λ none. end none some)
