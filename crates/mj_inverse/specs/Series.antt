-- A projection, or what is left of one, in a list of words: `unit` blocks stand side by side, and each place has a word of each.
use Rattle.std.specs.Prelude.{◌≡◌, ℕ, ◌+◌, ◌-◌, ◌*◌, ◌≤◌, ◌<◌, min, max, List, [], ◌∷◌, slice_index, vec_len, vec_capacity}
use Rattle.mj_inverse.specs.declared.series.Series.{Series}

-- the words of block j, from place `origin` on
abbrev pub seq : ℕ → ℕ → Series → ℕ → ℕ
seq unit j s e = slice_index s.words.items (unit * (s.origin + e) + j)

abbrev pub angle : Series → ℕ
angle s = s.angle

-- all angles together
abbrev pub angles : List Series → ℕ
angles [] = 0
angles (s ∷ rest) = s.angle + angles rest

-- only the places from `from` to `to` may hold words other than zero
pub record IsSeries (unit : ℕ) (s : Series) : Type 0 where
  pub some : 0 < unit
  pub angle : s.angle ≤ 32
  pub order : s.from ≤ s.to
  pub within : s.to ≤ s.room
  pub room : vec_len s.words ≡ unit * s.room
  pub below : (t j : ℕ) → t < s.from → j < unit → slice_index s.words.items (unit * t + j) ≡ 0
  pub above : (t j : ℕ) → s.to ≤ t → j < unit → slice_index s.words.items (unit * t + j) ≡ 0

-- angles of n together may yet be divided out of it, and so many places are used
pub record IsAt (unit n high most : ℕ) (s : Series) : Type 0 where
  pub is : IsSeries unit s
  pub low : s.origin ≤ s.from
  pub reach : s.to ≤ s.origin + high
  pub room : s.origin + most + n ≤ s.room

-- the first may have angles of n together divided out of it, and each of the others those of the series before it too
abbrev pub AreAt : ℕ → ℕ → ℕ → ℕ → List Series → Type 0
AreAt unit n high most [] = Unit {0}
AreAt unit n high most (s ∷ rest) = IsAt unit n high most s × AreAt unit (n + s.angle) high most rest

-- the two series can be brought together
pub record Meet (unit : ℕ) (x y : Series) : Type 0 where
  pub first : IsSeries unit x
  pub second : IsSeries unit y
  pub first_low : x.origin ≤ x.from
  pub second_low : y.origin ≤ y.from
  pub own_room : x.origin + 32 ≤ x.room
  pub first_room : x.origin + y.to ≤ y.origin + x.room
  pub second_room : y.origin + x.to ≤ x.origin + y.room

-- a row of the block that comes out
pub record IsWide (unit high most : ℕ) (s : Series) : Type 0 where
  pub is : IsSeries unit s
  pub low : s.origin ≤ s.from
  pub reach : s.to ≤ s.origin + high
  pub room : s.origin + most ≤ s.room

-- y is x after the angle of p was divided out, with or without a remainder
pub record IsNext (unit : ℕ) (p x y : Series) : Type 0 where
  pub is : IsSeries unit y
  pub angle : y.angle ≡ x.angle
  pub room : y.room ≡ x.room
  pub capacity : vec_capacity x.words ≤ vec_capacity y.words
  pub origin : y.origin ≡ x.origin + min x.angle p.angle
  pub low : y.origin ≤ y.from
  pub reach : (high : ℕ) → x.to ≤ x.origin + high → p.to ≤ p.origin + high → y.to ≤ y.origin + (high - max x.angle p.angle)

-- y may have as many words as x
abbrev pub KeepsRoom : Series → Series → Type 0
KeepsRoom x y = vec_capacity x.words ≤ vec_capacity y.words

-- y is x with more places, whose words are zero
pub record IsSpread (unit : ℕ) (x y : Series) : Type 0 where
  pub is : IsSeries unit y
  pub capacity : vec_capacity x.words ≤ vec_capacity y.words
  pub angle : y.angle ≡ x.angle
  pub origin : y.origin ≡ x.origin
  pub from : y.from ≡ x.from
  pub to : y.to ≡ x.to
  pub words : (j : ℕ) → seq unit j y ≡ seq unit j x

-- the first can have n places, and each of the others as many more as the angles before it
abbrev pub MaySpread : ℕ → ℕ → List Series → Type 0
MaySpread unit n [] = Unit {0}
MaySpread unit n (s ∷ rest) = (IsSeries unit s × (s.room ≤ n) × (unit * n ≤ vec_capacity s.words)) × MaySpread unit (n + s.angle) rest

-- they have so many places
abbrev pub HaveRoom : ℕ → List Series → Type 0
HaveRoom n [] = Unit {0}
HaveRoom n (s ∷ rest) = (s.room ≡ n) × HaveRoom (n + s.angle) rest

-- y is x without some places at its ends, whose words are zero
pub record IsTrimmed (unit : ℕ) (x y : Series) : Type 0 where
  pub is : IsSeries unit y
  pub angle : y.angle ≡ x.angle
  pub room : y.room ≡ x.room
  pub origin : y.origin ≡ x.origin
  pub words : y.words ≡ x.words
  pub from : x.from ≤ y.from
  pub to : y.to ≤ x.to

-- blocks that were not marked before are not marked now
abbrev pub IsUnmarked : List ℕ → ℕ → Type 0
IsUnmarked bad j = slice_index bad j ≡ 0

-- there are no words
abbrev pub IsBlank : Series → Type 0
IsBlank s = vec_len s.words ≡ 0
