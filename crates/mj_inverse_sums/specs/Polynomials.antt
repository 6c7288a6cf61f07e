-- Words in a row as a polynomial in x: a function from places to words, which are its coefficients.
--
-- Moving it up by a places multiplies it by x to the power a, and exclusive or adds.
use Rattle.std.specs.Prelude.{◌≡◌, ℕ, ◌-◌, ◌≤◌, nat_lt, if◌then◌else◌, bit_xor}

-- no word but zero
abbrev pub nothing : ℕ → ℕ
nothing e = 0

unfoldable pub plus : (ℕ → ℕ) → (ℕ → ℕ) → ℕ → ℕ
plus f g e = bit_xor (f e) (g e)

-- moved up by a places
unfoldable pub raised : ℕ → (ℕ → ℕ) → ℕ → ℕ
raised a f e = if nat_lt e a then 0 else f (e - a)

-- multiplied by x^p + x^q
abbrev pub times : ℕ → ℕ → (ℕ → ℕ) → ℕ → ℕ
times p q f = plus (raised p f) (raised q f)

-- from some place on, all words are zero
abbrev pub IsFinite : (ℕ → ℕ) → Type 0
IsFinite f = (n : ℕ) × ((e : ℕ) → n ≤ e → f e ≡ 0)
