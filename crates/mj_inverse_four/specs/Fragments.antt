-- Fragments of many blocks: of each projection a list of words, in which the bins of block i begin at i times a stride.
use Rattle.std.specs.Prelude.{◌≡◌, ℕ, zero, suc, ◌+◌, ◌-◌, ◌*◌, ◌<◌, ◌≤◌, ◌<ℤ◌, ℤ, List, [], ◌∷◌, length, slice_index, slice_range, unsigned_abs}
use Rattle.std.specs.Borrow.{Bor}
use Rattle.mj_angles.specs.Projection.{bins}
use Rattle.mj_inverse.specs.Fits.{Pair, Search}
use Rattle.mj_inverse_four.specs.Rows.{angle_at}
use Rattle.mj_inverse_four.specs.Starts.{block_of}
use Rattle.mj_inverse_four.specs.declared.starts.Group.{Group}

-- the words of projection m
abbrev pub part_at : List (Bor (List ℕ)) → ℕ → List ℕ
part_at [] m = []
part_at (part ∷ parts) zero = part.now
part_at (part ∷ parts) (suc m) = part_at parts m

-- the angles with the bins of block i
abbrev pub fragment_pairs : ℕ → ℕ → List ℤ → List (Bor (List ℕ)) → List ℕ → ℕ → List Pair
fragment_pairs rows cols [] parts strides i = []
fragment_pairs rows cols (p ∷ angles) [] strides i = []
fragment_pairs rows cols (p ∷ angles) (part ∷ parts) [] i = []
fragment_pairs rows cols (p ∷ angles) (part ∷ parts) (stride ∷ strides) i =
    (p, slice_range part.now (i * stride) (i * stride + bins p rows cols)) ∷ fragment_pairs rows cols angles parts strides i

-- the search for block i
abbrev pub fragment_search : ℕ → ℕ → List ℤ → List (Bor (List ℕ)) → List ℕ → ℕ → Search
fragment_search rows cols angles parts strides i = record { rows = rows; cols = cols; pairs = fragment_pairs rows cols angles parts strides i }

-- as many angles as rows, from -16 to 16, which rise, and whose lines meet no place further than `reach` from the columns
pub record AreAngles (rows reach : ℕ) (angles : List ℤ) : Type 0 where
  pub count : length angles ≡ rows
  pub small : (m : ℕ) → m < rows → unsigned_abs (angle_at angles m) ≤ 16
  pub near : (m : ℕ) → m < rows → unsigned_abs (angle_at angles m) ≤ reach
  pub reaches : (m : ℕ) → m < rows → unsigned_abs (angle_at angles m) * (rows - 1) ≤ reach
  pub rises : (l m : ℕ) → l < m → m < rows → angle_at angles l <ℤ angle_at angles m

-- each projection of as many as rows has its bins of all blocks up to number `last`
pub record AreThere (rows cols : ℕ) (angles : List ℤ) (parts : List (Bor (List ℕ))) (strides : List ℕ) (last : ℕ) : Type 0 where
  pub all : length parts ≡ rows
  pub each : length strides ≡ rows
  pub within : (m : ℕ) → m < rows → last * slice_index strides m + bins (angle_at angles m) rows cols ≤ length (part_at parts m)

-- bin b of block i of a group, of the projection that gives row l
abbrev pub given_by : ℕ → List (Bor (List ℕ)) → List ℕ → Group → ℕ → ℕ → ℕ → ℕ
given_by rows parts strides g i l b = slice_index (part_at parts (rows - 1 - l)) (block_of g i * slice_index strides (rows - 1 - l) + b)
