-- Fragments, and the blocks that they are of.
use Rattle.std.proofs.Common.{◌≡◌, ℕ, zero, suc, ◌+◌, ◌-◌, ◌*◌, ◌<◌, ◌≤◌, refl, sym, ap, ◌∙◌, subst, arith, rules, ◌⊎◌, inl, inr, ℤ, List, [], ◌∷◌, length, get_or}
use Rattle.std.specs.Prelude.{slice_range, All, min, ◌==◌, if◌then◌else◌}
use Rattle.std.specs.Borrow.{Bor}
use Rattle.std.proofs.lemmas.Bool.{cases_lt}
use Rattle.std.proofs.lemmas.List.{places, ext_get_or}
use Rattle.std.proofs.Math.Nat.{mul-le-mul_right}
use Rattle.rz_words.specs.Grid.{Grid, IsShape, word, grid_of}
use Rattle.mj_angles.specs.Projection.{bin, bins, projection, row_start}
use Rattle.mj_angles.proofs.Sums.{xor_below-same}
use Rattle.mj_angles.proofs.Projections.{get_or-projection, projection-from_bins}
use Rattle.mj_inverse.specs.Fits.{Pair, IsFound}
use Rattle.mj_inverse_four.specs.Rows.{Every, HasBins, angle_at, direction_of}
use Rattle.mj_inverse_four.specs.Starts.{block_of}
use Rattle.mj_inverse_four.specs.Fragments.{AreAngles, AreThere, fragment_pairs, fragment_search, given_by, part_at}
use Rattle.mj_inverse_four.specs.declared.starts.Group.{Group}

-- the pair is the projection of these words
abbrev pub FitsWords : ℕ → ℕ → (ℕ → ℕ) → Pair → Type 0
FitsWords rows cols w pair = pair.1 ≡ projection (λ l k. w (l * cols + k)) rows cols pair.0

all_from_every : {A : Type 0} (P : A → Type 0) (xs : List A) → Every P xs → All P xs
all_from_every P [] every k d h = absurd (omega arith)
all_from_every P (x ∷ xs) every zero d h = every.0
all_from_every P (x ∷ xs) every (suc k) d h = all_from_every P xs every.1 k d (let m : suc k < suc (length xs) = h in omega arith)

every_from_all : {A : Type 0} (P : A → Type 0) (xs : List A) → All P xs → Every P xs
every_from_all P [] all = tt
every_from_all P (x ∷ xs) all =
    (all 0 x (let m : 0 < suc (length xs) = omega arith in m), every_from_all P xs (λ k d h. all (suc k) d (let m : suc k < suc (length xs) = omega arith in m)))

-- words that are the same in each row are the same
words_same : (rows cols : ℕ) (v w : ℕ → ℕ) → ((l k : ℕ) → l < rows → k < cols → v (l * cols + k) ≡ w (l * cols + k)) → (i : ℕ) → i < rows * cols → v i ≡ w i
words_same zero cols v w same i h = absurd (omega arith)
words_same (suc n) cols v w same i h = by (words_same n cols v w (λ l k a b. same l k (omega arith) b) i) (cases_lt i (n * cols))
  where
    by : (i < n * cols → v i ≡ w i) → (i < n * cols) ⊎ (n * cols ≤ i) → v i ≡ w i
    by before (inl less) = before less
    by before (inr more) =
        let e : n * cols + (i - n * cols) ≡ i = omega arith in
        ap v (sym e) ∙ same n (i - n * cols) (omega arith) (omega arith) ∙ ap w e

pub bin-same : (f g : ℕ → ℕ → ℕ) (rows cols : ℕ) (p : ℤ) (b : ℕ) → ((l k : ℕ) → l < rows → k < cols → f l k ≡ g l k) → bin f rows cols p b ≡ bin g rows cols p b
bin-same f g rows cols p b same =
    xor_below-same rows _ _ (λ l h. xor_below-same cols _ _ (λ k m. ap (λ x. if row_start p rows l + k == b then x else 0) (same l k h m)))

pub in_slice : (xs : List ℕ) (a n i : ℕ) → a + n ≤ length xs → i < n → get_or (slice_range xs a (a + n)) i 0 ≡ get_or xs (a + i) 0
in_slice xs a n i m h = search (rules, places)

pub slice_long : (xs : List ℕ) (a n : ℕ) → a + n ≤ length xs → length (slice_range xs a (a + n)) ≡ n
slice_long xs a n h = search (rules, places)

module _ (rows cols i : ℕ) (w : ℕ → ℕ) where
  -- the words have the bins of block i in a list of words
  HasFragment : ℤ → List ℕ → ℕ → Type 0
  HasFragment p part stride = (b : ℕ) → b < bins p rows cols → get_or part (i * stride + b) 0 ≡ bin (λ l k. w (l * cols + k)) rows cols p b

  fits_one : (p : ℤ) (part : List ℕ) (stride : ℕ) → i * stride + bins p rows cols ≤ length part → ((b : ℕ) → b < bins p rows cols → get_or part (i * stride + b) 0 ≡ bin (λ l k. w (l * cols + k)) rows cols p b) →
      FitsWords rows cols w (p, slice_range part (i * stride) (i * stride + bins p rows cols))
  fits_one p part stride within has =
      projection-from_bins (λ l k. w (l * cols + k)) rows cols p (slice_range part (i * stride) (i * stride + bins p rows cols)) (slice_long part (i * stride) (bins p rows cols) within)
      (λ b near. in_slice part (i * stride) (bins p rows cols) b within near ∙ has b near)

  has_one : (p : ℤ) (part : List ℕ) (stride : ℕ) → i * stride + bins p rows cols ≤ length part → FitsWords rows cols w (p, slice_range part (i * stride) (i * stride + bins p rows cols)) →
      (b : ℕ) → b < bins p rows cols → get_or part (i * stride + b) 0 ≡ bin (λ l k. w (l * cols + k)) rows cols p b
  has_one p part stride within is b near =
      sym (in_slice part (i * stride) (bins p rows cols) b within near) ∙ ap (λ xs. get_or xs b 0) is ∙ get_or-projection (λ l k. w (l * cols + k)) rows cols p b near

  fits_all : (angles : List ℤ) (parts : List (Bor (List ℕ))) (strides : List ℕ) → length parts ≡ length angles → length strides ≡ length angles →
      ((m : ℕ) → m < length angles → i * get_or strides m 0 + bins (angle_at angles m) rows cols ≤ length (part_at parts m)) →
      ((m b : ℕ) → m < length angles → b < bins (angle_at angles m) rows cols → get_or (part_at parts m) (i * get_or strides m 0 + b) 0 ≡ bin (λ l k. w (l * cols + k)) rows cols (angle_at angles m) b) →
      Every (FitsWords rows cols w) (fragment_pairs rows cols angles parts strides i)
  fits_all [] parts strides a b within has = tt
  fits_all (p ∷ angles) [] strides a b within has = tt
  fits_all (p ∷ angles) (part ∷ parts) [] a b within has = tt
  fits_all (p ∷ angles) (part ∷ parts) (stride ∷ strides) a b within has =
      let some : 0 < suc (length angles) = omega arith in
      let a' : suc (length parts) ≡ suc (length angles) = a in
      let b' : suc (length strides) ≡ suc (length angles) = b in (
        fits_one p part.now stride (within 0 some) (λ b near. has 0 b some near),
        fits_all angles parts strides (omega arith) (omega arith) (λ m h. within (suc m) (let k : suc m < suc (length angles) = omega arith in k))
            (λ m b h near. has (suc m) b (let k : suc m < suc (length angles) = omega arith in k) near),
      )

  has_all : (angles : List ℤ) (parts : List (Bor (List ℕ))) (strides : List ℕ) → length parts ≡ length angles → length strides ≡ length angles →
      ((m : ℕ) → m < length angles → i * get_or strides m 0 + bins (angle_at angles m) rows cols ≤ length (part_at parts m)) →
      Every (FitsWords rows cols w) (fragment_pairs rows cols angles parts strides i) →
      (m b : ℕ) → m < length angles → b < bins (angle_at angles m) rows cols → get_or (part_at parts m) (i * get_or strides m 0 + b) 0 ≡ bin (λ l k. w (l * cols + k)) rows cols (angle_at angles m) b
  has_all [] parts strides a c within fits m b h near = absurd (omega arith)
  has_all (p ∷ angles) [] strides a c within fits m b h near = absurd (let k : 0 ≡ suc (length angles) = a in omega arith)
  has_all (p ∷ angles) (part ∷ parts) [] a c within fits m b h near = absurd (let k : 0 ≡ suc (length angles) = c in omega arith)
  has_all (p ∷ angles) (part ∷ parts) (stride ∷ strides) a c within (one, fits) zero b h near =
      has_one p part.now stride (within 0 (let k : 0 < suc (length angles) = omega arith in k)) one b near
  has_all (p ∷ angles) (part ∷ parts) (stride ∷ strides) a c within (one, fits) (suc m) b h near =
      let a' : suc (length parts) ≡ suc (length angles) = a in
      let c' : suc (length strides) ≡ suc (length angles) = c in
      has_all angles parts strides (omega arith) (omega arith) (λ m h. within (suc m) (let k : suc m < suc (length angles) = omega arith in k)) fits m b (let k : suc m < suc (length angles) = h in omega arith) near

module _ (rows cols reach : ℕ) (angles : List ℤ) (parts : List (Bor (List ℕ))) (strides : List ℕ) (group : Group) (i : ℕ) (shape : IsShape rows cols)
    (are : AreAngles rows reach angles) (there : AreThere rows cols angles parts strides (group.first + (group.count - 1))) (few : i < group.count) where
  number : block_of group i ≡ group.first + i
  number = let e : min i (group.count - 1) ≡ i = omega arith in ap (λ x. group.first + x) e

  -- what each row has, each projection has
  by_projection : (f : ℕ → ℕ → ℕ) → ((l : ℕ) → l < rows → HasBins rows cols (given_by rows parts strides group) (direction_of rows angles) f i l) →
      (m b : ℕ) → m < rows → b < bins (angle_at angles m) rows cols → get_or (part_at parts m) ((group.first + i) * get_or strides m 0 + b) 0 ≡ bin f rows cols (angle_at angles m) b
  by_projection f has m b h =
      let e : rows - 1 - (rows - 1 - m) ≡ m = omega arith in
      let P : ℕ → Type 0 = λ x. b < bins (angle_at angles x) rows cols → get_or (part_at parts x) ((group.first + i) * get_or strides x 0 + b) 0 ≡ bin f rows cols (angle_at angles x) b in
      let Q : ℕ → Type 0 = λ n. b < bins (angle_at angles (rows - 1 - (rows - 1 - m))) rows cols →
      get_or (part_at parts (rows - 1 - (rows - 1 - m))) (n * get_or strides (rows - 1 - (rows - 1 - m)) 0 + b) 0 ≡ bin f rows cols (angle_at angles (rows - 1 - (rows - 1 - m))) b in
      subst P e (subst Q number (has (rows - 1 - m) (omega arith) b))

  by_row : (f : ℕ → ℕ → ℕ) →
      ((m b : ℕ) → m < rows → b < bins (angle_at angles m) rows cols → get_or (part_at parts m) ((group.first + i) * get_or strides m 0 + b) 0 ≡ bin f rows cols (angle_at angles m) b) →
      (l : ℕ) → l < rows → HasBins rows cols (given_by rows parts strides group) (direction_of rows angles) f i l
  by_row f has l h b near =
      let Q : ℕ → Type 0 = λ n. get_or (part_at parts (rows - 1 - l)) (n * get_or strides (rows - 1 - l) 0 + b) 0 ≡ bin f rows cols (angle_at angles (rows - 1 - l)) b in
      subst Q (sym number) (has (rows - 1 - l) b (omega arith) near)

  within : (m : ℕ) → m < length angles → (group.first + i) * get_or strides m 0 + bins (angle_at angles m) rows cols ≤ length (part_at parts m)
  within m h =
      let count = are.count in
      let last = there.within m (omega arith) in
      let le : (group.first + i) * get_or strides m 0 ≤ (group.first + (group.count - 1)) * get_or strides m 0 = mul-le-mul_right (get_or strides m 0) (let k : group.first + i ≤ group.first + (group.count - 1) = omega arith in k) in
      omega arith

  -- words that have the bins are a block that is found
  pub found_from_bins : (out : List ℕ) → length out ≡ rows * cols → ((l : ℕ) → l < rows → HasBins rows cols (given_by rows parts strides group) (direction_of rows angles) (λ l k. get_or out (l * cols + k) 0) i l) →
      IsFound (fragment_search rows cols angles parts strides (group.first + i)) (grid_of rows cols out)
  found_from_bins out long has =
      let w : ℕ → ℕ = λ i. get_or out i 0 in
      let count = are.count in
      let fits : Every (FitsWords rows cols w) (fragment_pairs rows cols angles parts strides (group.first + i)) =
      fits_all rows cols (group.first + i) w angles parts strides (there.all ∙ sym count) (there.each ∙ sym count) within (λ m b h near. by_projection (λ l k. get_or out (l * cols + k) 0) has m b (omega arith) near) in
      record {
        grid = record { shape = shape; full = long };
        rows = refl;
        cols = refl;
        fits = all_from_every (FitsWords rows cols w) (fragment_pairs rows cols angles parts strides (group.first + i)) fits;
      }

  -- a block that is found has the bins
  pub bins_from_found : (g : Grid) → IsFound (fragment_search rows cols angles parts strides (group.first + i)) g →
      (l : ℕ) → l < rows → HasBins rows cols (given_by rows parts strides group) (direction_of rows angles) (λ l k. get_or g.words (l * cols + k) 0) i l
  bins_from_found g found =
      let w : ℕ → ℕ = λ i. get_or g.words i 0 in
      let count = are.count in
      let ps : List Pair = fragment_pairs rows cols angles parts strides (group.first + i) in
      let P : ℕ → ℕ → Type 0 = λ r c. Every (λ (pair : Pair). pair.1 ≡ projection (λ l k. get_or g.words (l * c + k) 0) r c pair.0) ps in
      let fits : P g.rows g.cols = every_from_all (λ (pair : Pair). pair.1 ≡ projection (word g) g.rows g.cols pair.0) ps found.fits in
      let Q : ℕ → Type 0 = λ r. P r g.cols in
      let R : ℕ → Type 0 = λ c. P rows c in
      let fits' : P rows cols = subst R found.cols (subst Q found.rows fits) in
      by_row (λ l k. get_or g.words (l * cols + k) 0)
      (λ m b h near. has_all rows cols (group.first + i) w angles parts strides (there.all ∙ sym count) (there.each ∙ sym count) within fits' m b (omega arith) near)

  -- blocks with the same words are the same
  pub grid_same : (g : Grid) (out : List ℕ) → length out ≡ rows * cols → IsFound (fragment_search rows cols angles parts strides (group.first + i)) g →
      ((l k : ℕ) → l < rows → k < cols → get_or g.words (l * cols + k) 0 ≡ get_or out (l * cols + k) 0) → g ≡ grid_of rows cols out
  grid_same g out long found same =
      let m : g.rows * g.cols ≡ rows * cols = ap (λ r. r * g.cols) found.rows ∙ ap (λ c. rows * c) found.cols in
      let n : length g.words ≡ rows * cols = found.grid.full ∙ m in
      let at : (k : ℕ) → k < length g.words → get_or g.words k 0 ≡ get_or out k 0 = λ k l. words_same rows cols (λ k. get_or g.words k 0) (λ k. get_or out k 0) same k (omega arith) in
      let words : g.words ≡ out = ext_get_or 0 g.words out (n ∙ sym long) at in
      ap (λ r. grid_of r g.cols g.words) found.rows ∙ ap (λ c. grid_of rows c g.words) found.cols ∙ ap (grid_of rows cols) words
