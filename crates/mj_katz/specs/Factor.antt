-- Products of factors, each of which an angle can't see.
use Rattle.std.specs.Prelude.{ℕ, ◌+◌, ◌-◌, ◌==◌, nat_le, if◌then◌else◌, bit_xor, ℤ, pos, negsuc, List}
use Rattle.std.specs.List.{fold}

-- the words moved down by r rows and to the right by c columns
abbrev pub moved : ℕ → ℕ → (ℕ → ℕ → ℕ) → ℕ → ℕ → ℕ
moved r c f l k = if nat_le r l then (if nat_le c k then f (l - r) (k - c) else 0) else 0

-- with x for a step to the next column and y for a step to the next row: f times x ^ p + y for an angle p
-- from 0 on, and f times 1 + x ^ |p| * y for one below 0. Both copies of f fall on the same bins at p.
abbrev pub factor : ℤ → (ℕ → ℕ → ℕ) → ℕ → ℕ → ℕ
factor (pos n) f l k = bit_xor (moved 1 0 f l k) (moved 0 n f l k)
factor (negsuc n) f l k = bit_xor (moved 1 (n + 1) f l k) (moved 0 0 f l k)

-- the word 1 in the first place, and zeros
abbrev pub one_first : ℕ → ℕ → ℕ
one_first l k = if l == 0 then (if k == 0 then 1 else 0) else 0

-- the product of the factors of all angles
abbrev pub product_of : List ℤ → ℕ → ℕ → ℕ
product_of angles = fold (λ f p. factor p f) one_first angles
