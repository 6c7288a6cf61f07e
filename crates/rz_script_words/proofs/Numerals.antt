-- `parse` reads a number.
use Rattle.std.proofs.Common.{◌≡◌, ℕ, ◌^◌, ◌<◌, true, List, [], ◌∷◌, length, get_or, Some, None, Result, Ok, Err, MatchResult, refl, arith}
use Rattle.std.specs.Str.{all_ascii_digits}
use Rattle.std.specs.Str.Parse.{digits_value, ParsesUnsigned}
use Rattle.std.specs.Result.{OkIff}
use Rattle.std.proofs.lemmas.Bool.Decides.{nat_tests}
use Rattle.std.proofs.lemmas.Str.Parse.{IsNumeralModel, numerals_by_value, tells_all_ascii_digits, parse_plain}
use Rattle.rz_script_words.specs.Numerals.{numeral}

pub own : IsNumeralModel (λ ds. all_ascii_digits ds ≡ true) (digits_value 10)
own = numerals_by_value _ tells_all_ascii_digits

pub plus : (w : List ℕ) → get_or w 0 0 ≡ 43 → numeral w ≡ None
plus [] e = absurd (omega arith)
plus (c ∷ cs) e = let same : c ≡ 43 = e in rw same refl

parsed : {E : Type 0} (w : List ℕ) (r : Result ℕ E) → OkIff r ((all_ascii_digits w ≡ true) × (0 < length w) × (digits_value 10 w < 2 ^ 64)) (digits_value 10 w) → MatchResult r (λ n. numeral w ≡ Some n) (λ _. numeral w ≡ None)
parsed w (Ok n) (h, is) = grind (arith, nat_tests)
parsed w (Err e) h = grind (arith, nat_tests)

pub parses : {E : Type 0} (w : List ℕ) (r : Result ℕ E) → ParsesUnsigned 64 10 w r → (get_or w 0 0 ≡ 43 → ⊥) → MatchResult r (λ n. numeral w ≡ Some n) (λ _. numeral w ≡ None)
parses w r h plain = parsed w r (parse_plain own 64 w r h plain)
