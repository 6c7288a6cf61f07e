-- Four blocks side by side, in rows with zeros before and behind each.
use Rattle.std.specs.Prelude.{◌≡◌, ℕ, ◌+◌, ◌-◌, ◌*◌, ◌<◌, ◌≤◌, ℤ, pos, negsuc, List, [], ◌∷◌, length, slice_index, get_or, bit_xor}
use Rattle.mj_angles.specs.Xor.{xor_below}
use Rattle.mj_angles.specs.Projection.{bin, bins, offset, row_start}
use Rattle.mj_angles.proofs.Peel.{ZeroBefore, turn_of}
use Rattle.mj_inverse_four.specs.declared.lines.Line.{Line}

-- P of each
abbrev pub Every : {A : Type 0} → (A → Type 0) → List A → Type 0
Every P [] = Unit {0}
Every P (x ∷ xs) = P x × Every P xs

-- the places of a row, with those before it
abbrev pub width_of : ℕ → ℕ → ℕ
width_of cols reach = cols + reach

-- the words that four blocks take
abbrev pub room_of : ℕ → ℕ → ℕ → ℕ
room_of rows cols reach = 4 * (rows * width_of cols reach + reach)

-- the words before each of the first `gaps` rows are zero, where one more row counts that would come behind the last
abbrev pub IsPadded : ℕ → ℕ → ℕ → List ℕ → Type 0
IsPadded gaps cols reach g = (l c i : ℕ) → l < gaps → c < reach → i < 4 → slice_index g (4 * (l * width_of cols reach + c) + i) ≡ 0

-- the word of block i in column k of row l
abbrev pub inner : List ℕ → ℕ → ℕ → ℕ → ℕ → ℕ → ℕ
inner g w reach i l k = slice_index g (4 * (l * w + (reach + k)) + i)

-- these are the words of block i
pub record IsTaken (rows cols reach : ℕ) (grid : List ℕ) (i : ℕ) (ws : List ℕ) : Type 0 where
  pub full : length ws ≡ rows * cols
  pub words : (l k : ℕ) → l < rows → k < cols → slice_index ws (l * cols + k) ≡ inner grid (width_of cols reach) reach i l k

-- the exclusive or of the words of block i on a line that meets row 0 in word `at`, and each row `step` words further
abbrev pub line_sum : List ℕ → ℕ → ℕ → ℕ → ℕ → ℕ
line_sum g i n at step = xor_below n (λ j. slice_index g (at + j * step + i))

-- how many places a line at the angle p is further in each row than in the row before it
abbrev pub step_of : ℕ → ℤ → ℕ
step_of w (pos n) = w - n
step_of w (negsuc n) = w + (n + 1)

-- the angle of projection m
abbrev pub angle_at : List ℤ → ℕ → ℤ
angle_at angles m = get_or angles m (pos 0)

-- the angle at which row l is read: the rows have the angles in the other order
abbrev pub direction_of : ℕ → List ℤ → ℕ → ℤ
direction_of rows angles l = angle_at angles (rows - 1 - l)

abbrev pub no_line : Line
no_line = record { turn = 0; at = 0; step = 0; own = 0 }

-- how the first n rows are read, where row l is read at the angle p l
pub record AreLines (rows cols reach : ℕ) (p : ℕ → ℤ) (lines : List Line) (n : ℕ) : Type 0 where
  pub turns : (l : ℕ) → l < n → (get_or lines l no_line).turn ≡ turn_of p 16 rows l
  pub ats : (l : ℕ) → l < n → (get_or lines l no_line).at ≡ 4 * (reach - offset (p l) rows + row_start (p l) rows l)
  pub steps : (l : ℕ) → l < n → (get_or lines l no_line).step ≡ 4 * step_of (width_of cols reach) (p l)
  pub owns : (l : ℕ) → l < n → (get_or lines l no_line).own ≡ 4 * (l * width_of cols reach + reach)
  pub early : (l : ℕ) → l < n → (get_or lines l no_line).turn ≤ 768

-- Below, given i l b is bin b of block i of the projection that gives row l, and p l is its angle.

-- the words f have the bins of block i in that projection
abbrev pub HasBins : ℕ → ℕ → (ℕ → ℕ → ℕ → ℕ) → (ℕ → ℤ) → (ℕ → ℕ → ℕ) → ℕ → ℕ → Type 0
HasBins rows cols given p f i l = (b : ℕ) → b < bins (p l) rows cols → given i l b ≡ bin f rows cols (p l) b

-- the bin that gives the word in column k of row l
abbrev pub giver : ℕ → (ℕ → ℕ → ℕ → ℕ) → (ℕ → ℤ) → ℕ → ℕ → ℕ → ℕ
giver rows given p i l k = given i l (row_start (p l) rows l + k)

-- the words on its line
abbrev pub giver_line : ℕ → ℕ → (ℕ → ℤ) → (ℕ → ℕ → ℕ) → ℕ → ℕ → ℕ
giver_line rows cols p f l k = bin f rows cols (p l) (row_start (p l) rows l + k)

-- what h has beyond f
abbrev pub beyond : (ℕ → ℕ → ℕ) → (ℕ → ℕ → ℕ) → ℕ → ℕ → ℕ
beyond h f l k = bit_xor (h l k) (f l k)

-- all words before row n of turn t were read, of each block: they have the bins that gave them. In place of the others stand the bins that give them
pub record IsSwept (rows cols reach : ℕ) (given : ℕ → ℕ → ℕ → ℕ) (p : ℕ → ℤ) (grid : List ℕ) (t n : ℕ) : Type 0 where
  pub told : (i : ℕ) → i < 4 → ZeroBefore (beyond (giver rows given p i) (giver_line rows cols p (inner grid (width_of cols reach) reach i))) p 16 rows cols t n
  pub later : (i l k : ℕ) → i < 4 → l < rows → k < cols → t < k + turn_of p 16 rows l → inner grid (width_of cols reach) reach i l k ≡ giver rows given p i l k
  pub next : (i l k : ℕ) → i < 4 → l < rows → k < cols → k + turn_of p 16 rows l ≡ t → n ≤ l → inner grid (width_of cols reach) reach i l k ≡ giver rows given p i l k

-- each word of the first n rows is the bin that gives it
abbrev pub AreBins : ℕ → ℕ → ℕ → (ℕ → ℕ → ℕ → ℕ) → (ℕ → ℤ) → List ℕ → ℕ → Type 0
AreBins rows cols reach given p grid n = (i l k : ℕ) → i < 4 → l < n → k < cols → inner grid (width_of cols reach) reach i l k ≡ giver rows given p i l k

-- the words have the bins that gave them
abbrev pub AreGiven : ℕ → ℕ → ℕ → (ℕ → ℕ → ℕ → ℕ) → (ℕ → ℤ) → List ℕ → Type 0
AreGiven rows cols reach given p grid =
    (i l k : ℕ) → i < 4 → l < rows → k < cols → giver rows given p i l k ≡ giver_line rows cols p (inner grid (width_of cols reach) reach i) l k
