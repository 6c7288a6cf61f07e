-- Eight blocks side by side, in rows with room for zeros on both sides of the columns.
use Rattle.std.specs.Prelude.{◌≡◌, ℕ, zero, suc, ◌+◌, ◌-◌, ◌*◌, ◌<◌, ◌≤◌, ℤ, pos, negsuc, List, [], ◌∷◌, length, slice_index, slice_range, get_or, unsigned_abs, bit_xor}
use Rattle.rz_words.specs.Grid.{IsShape}
use Rattle.mj_angles.proofs.Order.{lifted}
use Rattle.mj_inverse.specs.Fits.{Pair, Search}
use Rattle.mj_inverse.specs.Store.{Distinct}
use Rattle.mj_angles.specs.Projection.{bin, bins, offset, row_start}
use Rattle.mj_angles.proofs.Peel.{ZeroBefore, turn_of}
use Rattle.mj_inverse.specs.Rows.{Every}
use Rattle.mj_inverse.specs.declared.placed.Placed.{Placed}
use Rattle.mj_inverse.specs.declared.lines.Line.{Line}

-- the places of a row
abbrev pub width_of : ℕ → ℕ → ℕ
width_of cols reach = cols + (reach + reach)

-- all words beside the columns are zero
pub record IsPadded (rows cols reach : ℕ) (g : List ℕ) : Type 0 where
  pub left : (l c i : ℕ) → l < rows → i < 8 → c < reach → slice_index g (8 * (l * width_of cols reach + c) + i) ≡ 0
  pub right : (l c i : ℕ) → l < rows → i < 8 → reach + cols ≤ c → c < width_of cols reach → slice_index g (8 * (l * width_of cols reach + c) + i) ≡ 0

-- the word of block i in column k of row l
abbrev pub inner : List ℕ → ℕ → ℕ → ℕ → ℕ → ℕ → ℕ
inner g w reach i l k = slice_index g (8 * (l * w + (reach + k)) + i)

-- how many places a line at the angle p is further in each row than in the row before it
abbrev pub step_of : ℕ → ℤ → ℕ
step_of w (pos n) = w - n
step_of w (negsuc n) = w + (n + 1)

-- the angle of projection l
abbrev pub direction_at : List Placed → ℕ → ℤ
direction_at [] l = pos 0
direction_at (s ∷ rest) zero = s.direction
direction_at (s ∷ rest) (suc l) = direction_at rest l

-- a projection at an angle from -16 to 16, whose bins stand in a list of n words
pub record IsPlaced (rows cols n : ℕ) (s : Placed) : Type 0 where
  pub small : unsigned_abs s.direction ≤ 16
  pub lifts : s.angle ≡ lifted 16 s.direction
  pub within : 8 * (s.from + bins s.direction rows cols) ≤ n

abbrev pub raised_angle : Placed → ℕ
raised_angle s = s.angle

abbrev pub placed_at : ℤ → ℕ → Placed
placed_at p from = record { direction = p; angle = lifted 16 p; from = from }

-- projections whose bins stand one after the other
abbrev pub placed_from : ℕ → ℕ → ℕ → List ℤ → List Placed
placed_from rows cols from [] = []
placed_from rows cols from (p ∷ rest) = placed_at p from ∷ placed_from rows cols (from + bins p rows cols) rest

-- the angle, and the bins of all blocks
abbrev pub pair_over : ℕ → ℕ → List ℕ → Placed → Pair
pair_over rows cols ws s = (s.direction, slice_range ws (8 * s.from) (8 * (s.from + bins s.direction rows cols)))

abbrev pub pairs_over : ℕ → ℕ → List ℕ → List Placed → List Pair
pairs_over rows cols ws [] = []
pairs_over rows cols ws (s ∷ rest) = pair_over rows cols ws s ∷ pairs_over rows cols ws rest

-- what contracts see of a work of eight blocks
abbrev pub search_over : ℕ → ℕ → List ℕ → List Placed → Search
search_over rows cols ws all = record { rows = rows; cols = cols; pairs = pairs_over rows cols ws all }

-- how a work of eight blocks keeps its pairs, whose bins take so many places
pub record IsKept (rows cols used : ℕ) (ws : List ℕ) (all : List Placed) : Type 0 where
  pub shape : IsShape rows cols
  pub few : length all ≤ rows
  pub full : length ws ≡ 8 * used
  pub most : used ≤ length all * (cols + 16 * rows)
  pub placed : Every (IsPlaced rows cols (length ws)) all
  pub differ : Distinct (pairs_over rows cols ws all)

-- the angles fall
abbrev pub IsFalling : List Placed → Type 0
IsFalling [] = Unit {0}
IsFalling (x ∷ xs) = Every (λ y. y.angle < x.angle) xs × IsFalling xs

-- the lines of a projection at an angle from -16 to 16 meet no place further than `reach` from the columns
pub record IsLined (rows reach : ℕ) (s : Placed) : Type 0 where
  pub small : unsigned_abs s.direction ≤ 16
  pub lifts : s.angle ≡ lifted 16 s.direction
  pub near : unsigned_abs s.direction ≤ reach
  pub reaches : unsigned_abs s.direction * (rows - 1) ≤ reach

abbrev pub no_line : Line
no_line = record { turn = 0; at = 0; step = 0; own = 0 }

-- how the first n rows are read, where row l is read at the angle p l
pub record AreLines (rows cols reach : ℕ) (p : ℕ → ℤ) (lines : List Line) (n : ℕ) : Type 0 where
  pub turns : (l : ℕ) → l < n → (get_or lines l no_line).turn ≡ turn_of p 16 rows l
  pub ats : (l : ℕ) → l < n → (get_or lines l no_line).at ≡ reach - offset (p l) rows + row_start (p l) rows l
  pub steps : (l : ℕ) → l < n → (get_or lines l no_line).step ≡ step_of (width_of cols reach) (p l)
  pub owns : (l : ℕ) → l < n → (get_or lines l no_line).own ≡ l * width_of cols reach + reach
  pub early : (l : ℕ) → l < n → (get_or lines l no_line).turn ≤ 768

-- the words f have the bins of block i, which stand in ws
abbrev pub HasBins : ℕ → ℕ → ℕ → (ℕ → ℕ → ℕ) → List ℕ → Placed → Type 0
HasBins rows cols i f ws s = (b : ℕ) → b < bins s.direction rows cols → slice_index ws (8 * (s.from + b) + i) ≡ bin f rows cols s.direction b

-- bin b of projection l, of block i
abbrev pub bin_at : List ℕ → List Placed → ℕ → ℕ → ℕ → ℕ
bin_at ws [] l i b = 0
bin_at ws (s ∷ rest) zero i b = slice_index ws (8 * (s.from + b) + i)
bin_at ws (s ∷ rest) (suc l) i b = bin_at ws rest l i b

-- the bin that gives the word in column k of row l, of block i
abbrev pub giver : ℕ → List ℕ → List Placed → ℕ → ℕ → ℕ → ℕ
giver rows ws all i l k = bin_at ws all l i (row_start (direction_at all l) rows l + k)

-- the words on its line
abbrev pub giver_line : ℕ → ℕ → (ℕ → ℤ) → (ℕ → ℕ → ℕ) → ℕ → ℕ → ℕ
giver_line rows cols p f l k = bin f rows cols (p l) (row_start (p l) rows l + k)

-- what h has beyond f
abbrev pub beyond : (ℕ → ℕ → ℕ) → (ℕ → ℕ → ℕ) → ℕ → ℕ → ℕ
beyond h f l k = bit_xor (h l k) (f l k)

-- all words before row n of turn t were read, of each block: they have the bins that gave them. In place of the others stand the bins that give them
pub record IsSwept (rows cols reach : ℕ) (ws : List ℕ) (all : List Placed) (grid : List ℕ) (t n : ℕ) : Type 0 where
  pub told : (i : ℕ) → i < 8 → ZeroBefore (beyond (giver rows ws all i) (giver_line rows cols (direction_at all) (inner grid (width_of cols reach) reach i))) (direction_at all) 16 rows cols t n
  pub later : (i l k : ℕ) → i < 8 → l < rows → k < cols → t < k + turn_of (direction_at all) 16 rows l →
      inner grid (width_of cols reach) reach i l k ≡ giver rows ws all i l k
  pub next : (i l k : ℕ) → i < 8 → l < rows → k < cols → k + turn_of (direction_at all) 16 rows l ≡ t → n ≤ l →
      inner grid (width_of cols reach) reach i l k ≡ giver rows ws all i l k

-- each word of the first n rows is the bin that gives it
abbrev pub AreBins : ℕ → ℕ → ℕ → List ℕ → List Placed → List ℕ → ℕ → Type 0
AreBins rows cols reach ws all grid n =
    (i l k : ℕ) → i < 8 → l < n → k < cols → inner grid (width_of cols reach) reach i l k ≡ giver rows ws all i l k

-- the words have the bins that gave them
abbrev pub AreGiven : ℕ → ℕ → ℕ → List ℕ → List Placed → List ℕ → Type 0
AreGiven rows cols reach ws all grid =
    (i l k : ℕ) → i < 8 → l < rows → k < cols → giver rows ws all i l k ≡ giver_line rows cols (direction_at all) (inner grid (width_of cols reach) reach i) l k

-- the words have the bins that gave row n
abbrev pub IsTold : ℕ → ℕ → ℕ → List ℕ → List ℕ → ℕ → Placed → Type 0
IsTold rows cols reach ws grid n s =
    (i k : ℕ) → i < 8 → k < cols →
    slice_index ws (8 * (s.from + (row_start s.direction rows n + k)) + i)
    ≡ bin (inner grid (width_of cols reach) reach i) rows cols s.direction (row_start s.direction rows n + k)

-- the first gave row n, and each of the others the next row
abbrev pub AreTold : ℕ → ℕ → ℕ → List ℕ → List ℕ → ℕ → List Placed → Type 0
AreTold rows cols reach ws grid n [] = Unit {0}
AreTold rows cols reach ws grid n (s ∷ rest) = IsTold rows cols reach ws grid n s × AreTold rows cols reach ws grid (n + 1) rest

-- these are the words of block i
pub record IsTaken (rows cols reach : ℕ) (grid : List ℕ) (i : ℕ) (ws : List ℕ) : Type 0 where
  pub full : length ws ≡ rows * cols
  pub words : (l k : ℕ) → l < rows → k < cols → slice_index ws (l * cols + k) ≡ inner grid (width_of cols reach) reach i l k
