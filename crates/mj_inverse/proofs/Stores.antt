-- The series of a work and the pairs that contracts see.
use Rattle.std.proofs.Common.{◌≡◌, ◌≢◌, ℕ, zero, suc, ◌+◌, ◌-◌, ◌*◌, ◌<◌, ◌≤◌, refl, sym, ap, ◌∙◌, subst, arith, rules, ◌⊎◌, inl, inr, List, [], ◌∷◌, ◌++◌, length, get_or, take, drop, map, reverse, ℤ, pos, vec_len}
use Rattle.std.specs.Prelude.{negsuc, unsigned_abs, All, slice_range}
use Rattle.std.proofs.Math.Nat.{mul-le-mul_right}
use Rattle.std.proofs.lemmas.Bool.{cases_lt}
use Rattle.std.proofs.lemmas.List.{places, ext_get_or}
use Rattle.std.proofs.lemmas.Grind.{reverse_onto}
use Rattle.std.proofs.lemmas.List.FromFn.{get_or-map-range_with_len, length-map-range_with_len}
use mathlib.Core.Path.{fun_ext}
use Rattle.std.proofs.Math.Seq.{take-append_seam}
use Rattle.rz_words.specs.Grid.{Grid, IsShape, word, grid_of}
use Rattle.mj_angles.specs.Projection.{bins, bin, projection}
use Rattle.mj_angles.proofs.Projections.{get_or-projection, projection-from_bins}
use Rattle.mj_angles.proofs.Order.{lifted}
use Rattle.mj_inverse.specs.Fits.{Pair, Search, IsFound}
use Rattle.mj_inverse.specs.declared.series.Series.{Series}
use Rattle.mj_inverse_sums.specs.Polynomials.{raised}
use Rattle.mj_inverse.specs.Rows.{value, cut, block_rows, Every, Both, HaveValues, Differ}
use Rattle.mj_inverse.specs.Series.{seq, angle, angles, AreAt, HaveRoom, IsBlank, IsSpread, KeepsRoom, MaySpread}
use Rattle.std.proofs.lemmas.Int.{ints}
use Rattle.mj_inverse.specs.Store.{room_of, IsStore, IsSpare, Distinct, IsGiven, IsFilled, pair_of, pairs_in, search_in, lane_of, lane_pair, lane_search, lane_grid}
use Rattle.mj_inverse_sums.proofs.Algebra.{split, raised_below, raised_at}
use Rattle.mj_inverse_sums.proofs.Taken.{place_below, place_le}
use Rattle.mj_inverse.proofs.Blocks.{first_place, value-block_rows, bin_none, cut_in}
use Rattle.mj_inverse.proofs.Put.{offset_le}

pub bins_le : (p : ℤ) (rows cols : ℕ) → unsigned_abs p ≤ 16 → bins p rows cols ≤ cols + 16 * (rows - 1)
bins_le p rows cols h = let k = mul-le-mul_right (rows - 1) h in omega arith

-- no projection reaches further
pub given_to : (unit rows cols : ℕ) (s : Series) → IsShape rows cols → IsGiven unit rows cols s → s.to ≤ 32 * rows + cols
given_to unit rows cols s shape given =
    let a = offset_le s.direction rows given.small in
    let b = bins_le s.direction rows cols given.small in
    let d = given.first in
    let e = given.last in
    let h = shape.some_row in
    omega arith

pub every_to : (unit rows cols : ℕ) (all : List Series) → IsShape rows cols → Every (IsGiven unit rows cols) all → Every (λ s. s.to ≤ 32 * rows + cols) all
every_to unit rows cols [] shape given = tt
every_to unit rows cols (s ∷ rest) shape (g, given) = (given_to unit rows cols s shape g, every_to unit rows cols rest shape given)

pub every_angle : (unit rows cols : ℕ) (all : List Series) → Every (IsGiven unit rows cols) all → Every (λ s. s.angle ≤ 32) all
every_angle unit rows cols [] given = tt
every_angle unit rows cols (s ∷ rest) (g, given) = (g.is.angle, every_angle unit rows cols rest given)

pub can_spread : (unit rows cols high n : ℕ) (all : List Series) → n + angles all ≤ room_of rows cols → high ≤ n → Every (λ s. s.to ≤ high) all → Every (IsGiven unit rows cols) all →
    MaySpread unit n all
can_spread unit rows cols high n [] le more to given = tt
can_spread unit rows cols high n (s ∷ rest) le more (t, to) (g, given) =
    let full = g.full in
    let capacity = g.capacity in
    let sum : n + (s.angle + angles rest) ≤ room_of rows cols = le in
    let fits : unit * n ≤ unit * room_of rows cols = place_le unit n (room_of rows cols) (omega arith) in
    ((g.is, omega arith, omega arith), can_spread unit rows cols high (n + s.angle) rest (omega arith) (omega arith) to given)

pub spread_at : (unit rows cols high n m : ℕ) (xs ys : List Series) → m ≡ high + n → Every (IsGiven unit rows cols) xs → Every (λ s. s.to ≤ high) xs →
    Both (IsSpread unit) xs ys → HaveRoom m ys → AreAt unit n high high ys
spread_at unit rows cols high n m [] [] sum given to both rooms = tt
spread_at unit rows cols high n m [] (y ∷ ys) sum given to both rooms = absurd both
spread_at unit rows cols high n m (x ∷ xs) [] sum given to both rooms = absurd both
spread_at unit rows cols high n m (x ∷ xs) (y ∷ ys) sum (g, given) (t, to) (s, both) (room, rooms) =
    let o = s.origin in
    let start = g.start in
    let end = s.to in (
      record { is = s.is; low = omega arith; reach = omega arith; room = omega arith },
      spread_at unit rows cols high (n + y.angle) (m + y.angle) xs ys (omega arith) given to both rooms,
    )

pub spread_angles : (unit : ℕ) (xs ys : List Series) → Both (IsSpread unit) xs ys → angles ys ≡ angles xs
spread_angles unit [] [] both = refl
spread_angles unit [] (y ∷ ys) both = absurd both
spread_angles unit (x ∷ xs) [] both = absurd both
spread_angles unit (x ∷ xs) (y ∷ ys) (s, both) = ap (λ a. a + angles ys) s.angle ∙ ap (λ a. x.angle + a) (spread_angles unit xs ys both)

pub spread_length : (unit : ℕ) (xs ys : List Series) → Both (IsSpread unit) xs ys → length ys ≡ length xs
spread_length unit [] [] both = refl
spread_length unit [] (y ∷ ys) both = absurd both
spread_length unit (x ∷ xs) [] both = absurd both
spread_length unit (x ∷ xs) (y ∷ ys) (s, both) = ap suc (spread_length unit xs ys both)

pub spread_keeps : (unit : ℕ) (xs ys : List Series) → Both (IsSpread unit) xs ys → Both KeepsRoom xs ys
spread_keeps unit [] [] both = tt
spread_keeps unit [] (y ∷ ys) both = absurd both
spread_keeps unit (x ∷ xs) [] both = absurd both
spread_keeps unit (x ∷ xs) (y ∷ ys) (s, both) = (s.capacity, spread_keeps unit xs ys both)

other_spread : (unit a : ℕ) (xs ys : List Series) → Every (λ x. angle x ≢ a) xs → Both (IsSpread unit) xs ys → Every (λ y. angle y ≢ a) ys
other_spread unit a [] [] differ both = tt
other_spread unit a [] (y ∷ ys) differ both = absurd both
other_spread unit a (x ∷ xs) [] differ both = absurd both
other_spread unit a (x ∷ xs) (y ∷ ys) (ne, differ) (s, both) = (λ e. ne (sym s.angle ∙ e), other_spread unit a xs ys differ both)

pub spread_differ : (unit : ℕ) (xs ys : List Series) → Differ angle xs → Both (IsSpread unit) xs ys → Differ angle ys
spread_differ unit [] [] differ both = tt
spread_differ unit [] (y ∷ ys) differ both = absurd both
spread_differ unit (x ∷ xs) [] differ both = absurd both
spread_differ unit (x ∷ xs) (y ∷ ys) (ne, differ) (s, both) =
    let P : ℕ → Type 0 = λ a. Every (λ z. angle z ≢ a) xs in
    (other_spread unit y.angle xs ys (subst P (sym s.angle) ne) both, spread_differ unit xs ys differ both)

-- the projections stay the same
pub spread_values : (unit j : ℕ) (fs : List (ℕ → ℕ)) (xs ys : List Series) → Both (IsSpread unit) xs ys →
    HaveValues angle (seq unit j) fs xs → HaveValues angle (seq unit j) fs ys
spread_values unit j fs [] [] both values = tt
spread_values unit j fs [] (y ∷ ys) both values = absurd both
spread_values unit j fs (x ∷ xs) [] both values = absurd both
spread_values unit j fs (x ∷ xs) (y ∷ ys) (s, both) (v, values) =
    (ap (λ a. value a fs) s.angle ∙ v ∙ sym (s.words j), spread_values unit j fs xs ys both values)

pub values_spread : (unit j : ℕ) (fs : List (ℕ → ℕ)) (xs ys : List Series) → Both (IsSpread unit) xs ys →
    HaveValues angle (seq unit j) fs ys → HaveValues angle (seq unit j) fs xs
values_spread unit j fs [] [] both values = tt
values_spread unit j fs [] (y ∷ ys) both values = absurd both
values_spread unit j fs (x ∷ xs) [] both values = absurd both
values_spread unit j fs (x ∷ xs) (y ∷ ys) (s, both) (v, values) =
    (ap (λ a. value a fs) (sym s.angle) ∙ v ∙ s.words j, values_spread unit j fs xs ys both values)

module _ (unit rows cols j : ℕ) (s : Series) (h : j < unit) (given : IsGiven unit rows cols s) (w : ℕ → ℕ) where
  f : ℕ → ℕ → ℕ
  f l k = w (l * cols + k)

  p : ℤ
  p = s.direction

  raised_bins : ℕ → ℕ
  raised_bins = raised s.from (bin (λ l k. w (l * cols + k)) rows cols s.direction)

  value_is : value s.angle (block_rows cols 0 rows w) ≡ raised_bins
  unfolding raised_bins
  value_is =
      ap (λ q. value q (block_rows cols 0 rows w)) given.lifts
      ∙ value-block_rows s.direction rows cols 0 w given.small
      ∙ ap (λ d. raised d (bin (λ l k. w (l * cols + k)) rows cols s.direction)) (let g = given.first in let e : first_place 0 rows s.direction ≡ s.from = omega arith in e)

  seq_at : (e : ℕ) → seq unit j s e ≡ get_or s.words.items (unit * e + j) 0
  seq_at e = let k : s.origin + e ≡ e = (let z = given.start in omega arith) in ap (λ n. get_or s.words.items (unit * n + j) 0) k

  -- the bins are those of the words
  SameBins : Type 0
  SameBins = (b : ℕ) → b < bins s.direction rows cols → get_or s.words.items (unit * (s.from + b) + j) 0 ≡ bin (λ l k. w (l * cols + k)) rows cols s.direction b

  value_from_bins : SameBins → value s.angle (block_rows cols 0 rows w) ≡ seq unit j s
  unfolding SameBins raised_bins
  value_from_bins same = value_is ∙ fun_ext (λ e. by e (split s.from e))
    where
      inner : (e b : ℕ) → e ≡ s.from + b → (b < bins s.direction rows cols) ⊎ (bins s.direction rows cols ≤ b) → raised_bins e ≡ seq unit j s e
      inner e b k (inl near) =
          raised_at s.from (bin (λ l k. w (l * cols + k)) rows cols s.direction) e b k ∙ sym (same b near)
          ∙ ap (λ n. get_or s.words.items (unit * n + j) 0) (sym k) ∙ sym (seq_at e)
      inner e b k (inr far) =
          raised_at s.from (bin (λ l k. w (l * cols + k)) rows cols s.direction) e b k ∙ bin_none (λ l k. w (l * cols + k)) rows cols s.direction b far
          ∙ sym (seq_at e ∙ given.is.above e j (let l = given.last in omega arith) h)

      by : (e : ℕ) → (e < s.from) ⊎ ((b : ℕ) × (e ≡ s.from + b)) → raised_bins e ≡ seq unit j s e
      by e (inl l) = raised_below s.from (bin (λ l k. w (l * cols + k)) rows cols s.direction) e l ∙ sym (seq_at e ∙ given.is.below e j l h)
      by e (inr (b, k)) = inner e b k (cases_lt b (bins s.direction rows cols))

  bins_from_value : value s.angle (block_rows cols 0 rows w) ≡ seq unit j s → SameBins
  unfolding SameBins raised_bins
  bins_from_value is b near =
      sym (seq_at (s.from + b)) ∙ ap (λ (g : ℕ → ℕ). g (s.from + b)) (sym is ∙ value_is)
      ∙ raised_at s.from (bin (λ l k. w (l * cols + k)) rows cols s.direction) (s.from + b) b refl

  -- the pair of block j
  bs : List ℕ
  bs = (lane_pair unit j rows cols (pair_of unit s)).1

  in_slice : (xs : List ℕ) (a b i : ℕ) → a ≤ b → b ≤ length xs → i < b - a → get_or (slice_range xs a b) i 0 ≡ get_or xs (a + i) 0
  in_slice xs a b i l m n = search (rules, places)

  bin_at : (b : ℕ) → b < bins s.direction rows cols → get_or bs b 0 ≡ get_or s.words.items (unit * (s.from + b) + j) 0
  unfolding bs
  bin_at b near =
      let last = given.last in
      let order = given.is.order in
      let within = place_le unit s.to s.room given.is.within in
      let room = given.is.room in
      let long : length s.words.items ≡ vec_len s.words = search rules in
      let less = place_below unit (s.from + b) j s.to h (omega arith) in
      let le = place_le unit s.from s.to order in
      let k : unit * s.from + (unit * b + j) ≡ unit * (s.from + b) + j = omega arith in
      get_or-map-range_with_len (λ i. get_or (slice_range s.words.items (unit * s.from) (unit * s.to)) (unit * i + j) 0) 0 (bins s.direction rows cols) b b 0 near (omega arith)
      ∙ in_slice s.words.items (unit * s.from) (unit * s.to) (unit * b + j) le (omega arith) (omega arith)
      ∙ ap (λ n. get_or s.words.items n 0) k

  pair_from_bins : SameBins → bs ≡ projection (λ l k. w (l * cols + k)) rows cols s.direction
  unfolding SameBins bs
  pair_from_bins same =
      projection-from_bins (λ l k. w (l * cols + k)) rows cols s.direction bs
      (length-map-range_with_len (λ i. get_or (slice_range s.words.items (unit * s.from) (unit * s.to)) (unit * i + j) 0) 0 (bins s.direction rows cols))
      (λ b near. bin_at b near ∙ same b near)

  bins_from_pair : bs ≡ projection (λ l k. w (l * cols + k)) rows cols s.direction → SameBins
  unfolding SameBins
  bins_from_pair is b near =
      sym (bin_at b near) ∙ ap (λ xs. get_or xs b 0) is ∙ get_or-projection (λ l k. w (l * cols + k)) rows cols s.direction b near

  pub pair_from_value : value s.angle (block_rows cols 0 rows w) ≡ seq unit j s →
      (lane_pair unit j rows cols (pair_of unit s)).1 ≡ projection (λ l k. w (l * cols + k)) rows cols s.direction
  unfolding bs
  pair_from_value is = pair_from_bins (bins_from_value is)

  pub value_from_pair : (lane_pair unit j rows cols (pair_of unit s)).1 ≡ projection (λ l k. w (l * cols + k)) rows cols s.direction →
      value s.angle (block_rows cols 0 rows w) ≡ seq unit j s
  unfolding bs
  value_from_pair is = value_from_bins (bins_from_pair is)

  -- the same of the bins themselves
  pub value_from_words : ((b : ℕ) → b < bins s.direction rows cols → get_or s.words.items (unit * (s.from + b) + j) 0 ≡ bin (λ l k. w (l * cols + k)) rows cols s.direction b) →
      value s.angle (block_rows cols 0 rows w) ≡ seq unit j s
  unfolding SameBins
  value_from_words same = value_from_bins same

  pub words_from_value : value s.angle (block_rows cols 0 rows w) ≡ seq unit j s →
      (b : ℕ) → b < bins s.direction rows cols → get_or s.words.items (unit * (s.from + b) + j) 0 ≡ bin (λ l k. w (l * cols + k)) rows cols s.direction b
  unfolding SameBins
  words_from_value is = bins_from_value is

-- the pair fits the words
abbrev pub FitsWords : ℕ → ℕ → (ℕ → ℕ) → Pair → Type 0
FitsWords rows cols w pair = pair.1 ≡ projection (λ l k. w (l * cols + k)) rows cols pair.0

pub fits_from_values : (unit rows cols j n : ℕ) (w : ℕ → ℕ) (all : List Series) → j < unit → n ≡ length all → IsFilled unit rows cols n all →
    HaveValues angle (seq unit j) (block_rows cols 0 rows w) all → Every (FitsWords rows cols w) (map (lane_pair unit j rows cols) (pairs_in unit n all))
fits_from_values unit rows cols j zero w [] h e filled values = tt
fits_from_values unit rows cols j zero w (s ∷ rest) h e filled values = absurd (cc)
fits_from_values unit rows cols j (suc n) w [] h e filled values = absurd filled
fits_from_values unit rows cols j (suc n) w (s ∷ rest) h e (given, filled) (v, values) = (
  pair_from_value unit rows cols j s h given w v,
  fits_from_values unit rows cols j n w rest h (let k : suc n ≡ suc (length rest) = e in omega arith) filled values,
)

pub values_from_fits : (unit rows cols j n : ℕ) (w : ℕ → ℕ) (all : List Series) → j < unit → n ≡ length all → IsFilled unit rows cols n all →
    Every (FitsWords rows cols w) (map (lane_pair unit j rows cols) (pairs_in unit n all)) → HaveValues angle (seq unit j) (block_rows cols 0 rows w) all
values_from_fits unit rows cols j zero w [] h e filled fits = tt
values_from_fits unit rows cols j zero w (s ∷ rest) h e filled fits = absurd (cc)
values_from_fits unit rows cols j (suc n) w [] h e filled fits = absurd filled
values_from_fits unit rows cols j (suc n) w (s ∷ rest) h e (given, filled) (v, fits) = (
  value_from_pair unit rows cols j s h given w v,
  values_from_fits unit rows cols j n w rest h (let k : suc n ≡ suc (length rest) = e in omega arith) filled fits,
)

pub all_from_every : {A : Type 0} (P : A → Type 0) (xs : List A) → Every P xs → All P xs
all_from_every P [] every k d h = absurd (omega arith)
all_from_every P (x ∷ xs) every zero d h = every.0
all_from_every P (x ∷ xs) every (suc k) d h = all_from_every P xs every.1 k d (let m : suc k < suc (length xs) = h in omega arith)

pub every_from_all : {A : Type 0} (P : A → Type 0) (xs : List A) → All P xs → Every P xs
every_from_all P [] all = tt
every_from_all P (x ∷ xs) all =
    (all 0 x (let m : 0 < suc (length xs) = omega arith in m), every_from_all P xs (λ k d h. all (suc k) d (let m : suc k < suc (length xs) = omega arith in m)))

-- rows that are the same have the same words
pub words_from_rows : (cols low n : ℕ) (v w : ℕ → ℕ) → block_rows cols low n v ≡ block_rows cols low n w → (i : ℕ) → i < cols * n → v i ≡ w i
words_from_rows cols low zero v w e i h = absurd (omega arith)
words_from_rows cols low (suc n) v w e i h =
    let a : ℕ = low + 16 * suc n in
    let first : raised a (cut cols v) ≡ raised a (cut cols w) = cc in
    let rest : block_rows cols low n (λ i. v (cols + i)) ≡ block_rows cols low n (λ i. w (cols + i)) = cc in
    by first (words_from_rows cols low n (λ i. v (cols + i)) (λ i. w (cols + i)) rest) (cases_lt i cols)
  where
    by : raised (low + 16 * suc n) (cut cols v) ≡ raised (low + 16 * suc n) (cut cols w) → ((k : ℕ) → k < cols * n → v (cols + k) ≡ w (cols + k)) → (i < cols) ⊎ (cols ≤ i) → v i ≡ w i
    by first rest (inl k) =
        let a : ℕ = low + 16 * suc n in
        sym (cut_in cols v i k) ∙ sym (raised_at a (cut cols v) (a + i) i refl) ∙ ap (λ (f : ℕ → ℕ). f (a + i)) first
        ∙ raised_at a (cut cols w) (a + i) i refl ∙ cut_in cols w i k
    by first rest (inr k) =
        let m : cols * suc n ≡ cols + cols * n = omega arith in
        let d : cols + (i - cols) ≡ i = omega arith in
        ap v (sym d) ∙ rest (i - cols) (omega arith) ∙ ap w d

-- the words of block j
pub lane_words : (unit j n : ℕ) (ws : List ℕ) → j < unit → length ws ≡ unit * n →
    ◌≡◌ {A = ℕ → ℕ} (λ i. get_or (lane_of unit j n ws) i 0) (λ i. get_or ws (unit * i + j) 0)
lane_words unit j n ws h long = fun_ext (λ i. by i (cases_lt i n))
  where
    past : (xs : List ℕ) (i : ℕ) → length xs ≤ i → get_or xs i 0 ≡ 0
    past xs i l = search (rules, places)

    by : (i : ℕ) → (i < n) ⊎ (n ≤ i) → get_or (lane_of unit j n ws) i 0 ≡ get_or ws (unit * i + j) 0
    by i (inl l) = get_or-map-range_with_len (λ i. get_or ws (unit * i + j) 0) 0 n i i 0 l (omega arith)
    by i (inr l) =
        let k = length-map-range_with_len (λ i. get_or ws (unit * i + j) 0) 0 n in
        let m = place_le unit n i l in
        past (lane_of unit j n ws) i (omega arith) ∙ sym (past ws (unit * i + j) (omega arith))

module _ (unit rows cols j : ℕ) (all : List Series) (shape : IsShape rows cols) (h : j < unit) (full : length all ≡ rows) (filled : IsFilled unit rows cols rows all) where
  lanes : List Pair
  lanes = map (lane_pair unit j rows cols) (pairs_in unit rows all)

  -- words that have the projections are a block that is found
  pub found_from_values : (out : List ℕ) → length out ≡ unit * (rows * cols) →
      HaveValues angle (seq unit j) (block_rows cols 0 rows (λ i. get_or out (unit * i + j) 0)) all →
      IsFound (lane_search unit j (search_in unit rows cols rows all)) (lane_grid unit j rows cols out)
  found_from_values out long values =
      let w : ℕ → ℕ = λ i. get_or out (unit * i + j) 0 in
      let v : ℕ → ℕ = λ i. get_or (lane_of unit j (rows * cols) out) i 0 in
      let fits : Every (FitsWords rows cols w) (map (lane_pair unit j rows cols) (pairs_in unit rows all)) = fits_from_values unit rows cols j rows w all h (sym full) filled values in
      let P : (ℕ → ℕ) → Type 0 = λ w. Every (FitsWords rows cols w) (map (lane_pair unit j rows cols) (pairs_in unit rows all)) in
      let fits' : Every (FitsWords rows cols v) (map (lane_pair unit j rows cols) (pairs_in unit rows all)) = subst P (sym (lane_words unit j (rows * cols) out h long)) fits in
      record {
        grid = record { shape = shape; full = length-map-range_with_len (λ i. get_or out (unit * i + j) 0) 0 (rows * cols) };
        rows = refl;
        cols = refl;
        fits = all_from_every (FitsWords rows cols v) (map (lane_pair unit j rows cols) (pairs_in unit rows all)) fits';
      }

  -- a block that is found has the projections
  pub values_from_found : (g : Grid) → IsFound (lane_search unit j (search_in unit rows cols rows all)) g →
      HaveValues angle (seq unit j) (block_rows cols 0 rows (λ i. get_or g.words i 0)) all
  values_from_found g found =
      let w : ℕ → ℕ = λ i. get_or g.words i 0 in
      let ps : List Pair = map (lane_pair unit j rows cols) (pairs_in unit rows all) in
      let P : ℕ → ℕ → Type 0 = λ r c. Every (λ (pair : Pair). pair.1 ≡ projection (λ l k. get_or g.words (l * c + k) 0) r c pair.0) ps in
      let fits : P g.rows g.cols = every_from_all (λ (pair : Pair). pair.1 ≡ projection (word g) g.rows g.cols pair.0) ps found.fits in
      let Q : ℕ → Type 0 = λ r. P r g.cols in
      let R : ℕ → Type 0 = λ c. P rows c in
      let fits' : P rows cols = subst R found.cols (subst Q found.rows fits) in
      values_from_fits unit rows cols j rows w all h (sym full) filled fits'

  -- blocks with the same rows are the same
  pub same_grid : (g : Grid) (out : List ℕ) → length out ≡ unit * (rows * cols) → IsFound (lane_search unit j (search_in unit rows cols rows all)) g →
      block_rows cols 0 rows (λ i. get_or g.words i 0) ≡ block_rows cols 0 rows (λ i. get_or out (unit * i + j) 0) → g ≡ lane_grid unit j rows cols out
  same_grid g out long found same =
      let m : g.rows * g.cols ≡ rows * cols = ap (λ r. r * g.cols) found.rows ∙ ap (λ c. rows * c) found.cols in
      let k : length (lane_of unit j (rows * cols) out) ≡ rows * cols = length-map-range_with_len (λ i. get_or out (unit * i + j) 0) 0 (rows * cols) in
      let n : length g.words ≡ rows * cols = found.grid.full ∙ m in
      let at : (i : ℕ) → i < length g.words → get_or g.words i 0 ≡ get_or (lane_of unit j (rows * cols) out) i 0 = λ i l.
      words_from_rows cols 0 rows (λ i. get_or g.words i 0) (λ i. get_or out (unit * i + j) 0) same i (let e : cols * rows ≡ rows * cols = omega arith in omega arith)
      ∙ ap (λ (f : ℕ → ℕ). f i) (sym (lane_words unit j (rows * cols) out h long)) in
      let words : g.words ≡ lane_of unit j (rows * cols) out = ext_get_or 0 g.words (lane_of unit j (rows * cols) out) (n ∙ sym k) at in
      ap (λ r. grid_of r g.cols g.words) found.rows ∙ ap (λ c. grid_of rows c g.words) found.cols ∙ ap (grid_of rows cols) words

pub filled_blank : (unit rows cols n : ℕ) (xs ys : List Series) → IsFilled unit rows cols n xs → Every IsBlank ys → Both KeepsRoom xs ys → IsFilled unit rows cols 0 ys
filled_blank unit rows cols n [] [] filled blank both = tt
filled_blank unit rows cols n [] (y ∷ ys) filled blank both = absurd both
filled_blank unit rows cols n (x ∷ xs) [] filled blank both = absurd both
filled_blank unit rows cols zero (x ∷ xs) (y ∷ ys) (s, filled) (b, blank) (r, both) =
    (record { blank = b; capacity = (let k = s.capacity in omega arith) }, filled_blank unit rows cols zero xs ys filled blank both)
filled_blank unit rows cols (suc n) (x ∷ xs) (y ∷ ys) (s, filled) (b, blank) (r, both) =
    (record { blank = b; capacity = (let k = s.capacity in omega arith) }, filled_blank unit rows cols n xs ys filled blank both)

pub length-pairs_in : (unit n : ℕ) (all : List Series) → n ≤ length all → length (pairs_in unit n all) ≡ n
length-pairs_in unit zero all h = refl
length-pairs_in unit (suc n) [] h = absurd (omega arith)
length-pairs_in unit (suc n) (s ∷ rest) h = ap suc (length-pairs_in unit n rest (let k : suc n ≤ suc (length rest) = h in omega arith))

pub every_more : {A : Type 0} (P : A → Type 0) (xs : List A) (y : A) → Every P xs → P y → Every P (xs ++ y ∷ [])
every_more P [] y every p = (p, tt)
every_more P (x ∷ xs) y (px, every) p = (px, every_more P xs y every p)

pub distinct_more : (ps : List Pair) (q : Pair) → Distinct ps → Every (λ (x : Pair). x.0 ≢ q.0) ps → Distinct (ps ++ q ∷ [])
distinct_more [] q distinct other = (tt, tt)
distinct_more (p ∷ ps) q (d, distinct) (o, other) =
    (every_more (λ (x : Pair). x.0 ≢ p.0) ps q d (λ e. o (sym e)), distinct_more ps q distinct other)

-- one more pair
pub add_store : (unit rows cols n : ℕ) (xs ys : List Series) (p : ℤ) (bs : List ℕ) → IsStore unit rows cols n xs → n < rows → IsFilled unit rows cols (n + 1) ys →
    pairs_in unit (n + 1) ys ≡ pairs_in unit n xs ++ (p, bs) ∷ [] → length ys ≡ length xs → All (λ (pair : Pair). pair.0 ≢ p) (pairs_in unit n xs) → IsStore unit rows cols (n + 1) ys
add_store unit rows cols n xs ys p bs store room filled pairs long other = record {
  shape = store.shape;
  count = long ∙ store.count;
  few = omega arith;
  filled = filled;
  differ = (let P : List Pair → Type 0 = λ ps. Distinct ps in
      subst P (sym pairs) (distinct_more (pairs_in unit n xs) (p, bs) store.differ (every_from_all (λ (pair : Pair). pair.0 ≢ p) (pairs_in unit n xs) other)));
}

pub lifted-one : (a b : ℤ) → unsigned_abs a ≤ 16 → unsigned_abs b ≤ 16 → lifted 16 a ≡ lifted 16 b → a ≡ b
lifted-one (pos a) (pos b) f g h = omega (arith, ints)
lifted-one (pos a) (negsuc b) f g h = omega (arith, ints)
lifted-one (negsuc a) (pos b) f g h = omega (arith, ints)
lifted-one (negsuc a) (negsuc b) f g h = omega (arith, ints)

other_angles : (unit rows cols n : ℕ) (s : Series) (all : List Series) → n ≡ length all → IsGiven unit rows cols s → IsFilled unit rows cols n all →
    Every (λ (other : Pair). other.0 ≢ s.direction) (pairs_in unit n all) → Every (λ y. angle y ≢ angle s) all
other_angles unit rows cols zero s [] e given filled other = tt
other_angles unit rows cols zero s (x ∷ rest) e given filled other = absurd (cc)
other_angles unit rows cols (suc n) s [] e given filled other = tt
other_angles unit rows cols (suc n) s (x ∷ rest) e given (g, filled) (o, other) = (
  λ k. o (lifted-one x.direction s.direction g.small given.small (sym g.lifts ∙ k ∙ given.lifts)),
  other_angles unit rows cols n s rest (let k : suc n ≡ suc (length rest) = e in omega arith) given filled other,
)

pub differ_from_pairs : (unit rows cols n : ℕ) (all : List Series) → n ≡ length all → IsFilled unit rows cols n all → Distinct (pairs_in unit n all) → Differ angle all
differ_from_pairs unit rows cols zero [] e filled distinct = tt
differ_from_pairs unit rows cols zero (x ∷ rest) e filled distinct = absurd (cc)
differ_from_pairs unit rows cols (suc n) [] e filled distinct = tt
differ_from_pairs unit rows cols (suc n) (x ∷ rest) e (g, filled) (o, distinct) =
    let k : n ≡ length rest = (let m : suc n ≡ suc (length rest) = e in omega arith) in
    (other_angles unit rows cols n x rest k g filled o, differ_from_pairs unit rows cols n rest k filled distinct)

-- a list is its only block
lane_whole : (n : ℕ) (ws : List ℕ) → length ws ≡ n → lane_of 1 0 n ws ≡ ws
lane_whole n ws long =
    ext_get_or 0 (lane_of 1 0 n ws) ws (length-map-range_with_len (λ i. get_or ws (1 * i + 0) 0) 0 n ∙ sym long)
    (λ i h.
    let k = length-map-range_with_len (λ i. get_or ws (1 * i + 0) 0) 0 n in
    let e : 1 * i + 0 ≡ i = omega arith in
    get_or-map-range_with_len (λ i. get_or ws (1 * i + 0) 0) 0 n i i 0 (omega arith) (omega arith) ∙ ap (λ n. get_or ws n 0) e)

pub lane_grid-one : (rows cols : ℕ) (ws : List ℕ) → length ws ≡ rows * cols → lane_grid 1 0 rows cols ws ≡ grid_of rows cols ws
lane_grid-one rows cols ws long = ap (grid_of rows cols) (lane_whole (rows * cols) ws long)

lane_pairs-one : (rows cols n : ℕ) (all : List Series) → IsFilled 1 rows cols n all → map (lane_pair 1 0 rows cols) (pairs_in 1 n all) ≡ pairs_in 1 n all
lane_pairs-one rows cols zero all filled = refl
lane_pairs-one rows cols (suc n) [] filled = refl
lane_pairs-one rows cols (suc n) (s ∷ rest) (g, filled) =
    let last = g.last in
    let within = g.is.within in
    let room = g.is.room in
    let wide : length s.words.items ≡ vec_len s.words = search rules in
    let long : length (slice_range s.words.items (1 * s.from) (1 * s.to)) ≡ bins s.direction rows cols = slice_long s.words.items (1 * s.from) (1 * s.to) (bins s.direction rows cols) (omega arith) (omega arith) in
    ap (λ (bs : List ℕ). (let q : Pair = (s.direction, bs) in q) ∷ map (lane_pair 1 0 rows cols) (pairs_in 1 n rest)) (lane_whole (bins s.direction rows cols) (slice_range s.words.items (1 * s.from) (1 * s.to)) long)
    ∙ ap (λ ps. pair_of 1 s ∷ ps) (lane_pairs-one rows cols n rest filled)
  where
    slice_long : (xs : List ℕ) (a b n : ℕ) → b ≡ a + n → b ≤ length xs → length (slice_range xs a b) ≡ n
    slice_long xs a b n e fits = search (rules, places)

pub lane_search-one : (rows cols n : ℕ) (all : List Series) → IsFilled 1 rows cols n all → lane_search 1 0 (search_in 1 rows cols n all) ≡ search_in 1 rows cols n all
lane_search-one rows cols n all filled = ap (λ (ps : List Pair). let s : Search = record { rows = rows; cols = cols; pairs = ps } in s) (lane_pairs-one rows cols n all filled)

-- a whole list is written over
pub whole : {A : Type 0} (n : ℕ) (xs ys : List A) → length ys ≡ length xs → n ≡ length xs → take n (ys ++ drop (length ys) xs) ≡ ys
whole n xs ys h k = ap (λ n. take n (ys ++ drop (length ys) xs)) (k ∙ sym h) ∙ take-append_seam ys (drop (length ys) xs)

pub first_word : (xs : List ℕ) (d : ℕ) → 0 < length xs → get_or xs 0 d ≡ get_or xs 0 0
first_word [] d h = absurd (omega arith)
first_word (x ∷ xs) d h = refl

pub filled_more : (unit rows cols : ℕ) (xs : List Series) (s : Series) → IsFilled unit rows cols 0 xs → IsSpare unit rows cols s → IsFilled unit rows cols 0 (xs ++ s ∷ [])
filled_more unit rows cols [] s filled spare = (spare, tt)
filled_more unit rows cols (x ∷ xs) s (f, filled) spare = (f, filled_more unit rows cols xs s filled spare)

pub filled_reverse : (unit rows cols : ℕ) (xs : List Series) → IsFilled unit rows cols 0 xs → IsFilled unit rows cols 0 (reverse xs)
filled_reverse unit rows cols [] filled = tt
filled_reverse unit rows cols (x ∷ xs) (f, filled) =
    let P : List Series → Type 0 = λ ys. IsFilled unit rows cols 0 ys in
    subst P (sym (reverse_onto xs x [])) (filled_more unit rows cols (reverse xs) x (filled_reverse unit rows cols xs filled) f)
