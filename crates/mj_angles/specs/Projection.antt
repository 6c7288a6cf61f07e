-- The Dirac Mojette transform of Guédon and Normand, with exclusive or as its sum.
-- A block has `rows` rows and `cols` columns of words; f l k is the word in column k of row l.
-- A projection at the angle p adds up the words along the lines on which k + p * l is the same.
use Rattle.std.specs.Prelude.{◌≡◌, ℕ, ◌+◌, ◌*◌, ◌-◌, ◌==◌, if◌then◌else◌, List, [], ◌∷◌, map, slice_index, refl, ℤ, pos, negsuc, unsigned_abs}
use Rattle.std.specs.List.{range_with_len}
use Rattle.mj_angles.specs.Xor.{xor_below}

-- how many bins a projection at the angle p has
abbrev pub bins : ℤ → ℕ → ℕ → ℕ
bins p rows cols = cols + unsigned_abs p * (rows - 1)

-- how far a projection at the angle p is moved, so that its first bin is number 0
abbrev pub offset : ℤ → ℕ → ℕ
offset (pos n) rows = 0
offset (negsuc n) rows = (n + 1) * (rows - 1)

-- the bin of column 0 of row l, which is p * l + offset p rows; column k of row l is k bins further on
abbrev pub row_start : ℤ → ℕ → ℕ → ℕ
row_start (pos n) rows l = n * l
row_start (negsuc n) rows l = (n + 1) * (rows - 1 - l)

-- the exclusive or of those words in the first n rows that fall on bin b
abbrev pub bin_of_first : ℕ → (ℕ → ℕ → ℕ) → ℕ → ℕ → ℤ → ℕ → ℕ
bin_of_first n f rows cols p b =
    xor_below n (λ l. xor_below cols (λ k. if row_start p rows l + k == b then f l k else 0))

-- the exclusive or of all words that fall on bin b
abbrev pub bin : (ℕ → ℕ → ℕ) → ℕ → ℕ → ℤ → ℕ → ℕ
bin f rows cols p b = bin_of_first rows f rows cols p b

-- all bins, in order
unfoldable pub projection : (ℕ → ℕ → ℕ) → ℕ → ℕ → ℤ → List ℕ
projection f rows cols p = map (bin f rows cols p) (range_with_len 0 (bins p rows cols))

-- the words of a block that are listed row by row
abbrev pub word_at : List ℕ → ℕ → ℕ → ℕ → ℕ
word_at ws cols l k = slice_index ws (l * cols + k)

-- three columns, with the rows 1, 2, 4 and 8, 16, 32
abbrev two_rows : List ℕ
two_rows = 1 ∷ 2 ∷ 4 ∷ 8 ∷ 16 ∷ 32 ∷ []

at_1 : projection (word_at two_rows 3) 2 3 (pos 1) ≡ 1 ∷ 10 ∷ 20 ∷ 32 ∷ []
unfolding projection
at_1 = refl

at_minus_1 : projection (word_at two_rows 3) 2 3 (negsuc 0) ≡ 8 ∷ 17 ∷ 34 ∷ 4 ∷ []
unfolding projection
at_minus_1 = refl

at_0 : projection (word_at two_rows 3) 2 3 (pos 0) ≡ 9 ∷ 18 ∷ 36 ∷ []
unfolding projection
at_0 = refl

at_minus_2 : projection (word_at two_rows 3) 2 3 (negsuc 1) ≡ 8 ∷ 16 ∷ 33 ∷ 2 ∷ 4 ∷ []
unfolding projection
at_minus_2 = refl
