-- The numbers that words say.
use Rattle.std.specs.Prelude.{ℕ, ◌==◌, ◌&&◌, ◌^◌, nat_lt, not, if◌then◌else◌, Option, Some, None, length}
use Rattle.std.specs.Str.{all_ascii_digits}
use Rattle.std.specs.Str.Parse.{digits_value}
use Rattle.rz_script_words.specs.Words.{Word}

-- decimal digits, whose value is a u64
abbrev pub numeral : Word → Option ℕ
numeral word = if all_ascii_digits word && not (length word == 0) && nat_lt (digits_value 10 word) (2 ^ 64) then Some (digits_value 10 word) else None
