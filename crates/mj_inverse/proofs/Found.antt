-- Projections in a list of words, and the blocks that they are of.
use Rattle.std.proofs.Common.{◌≡◌, ◌≢◌, ℕ, zero, suc, ◌+◌, ◌-◌, ◌*◌, ◌<◌, ◌≤◌, refl, sym, ap, ◌∙◌, subst, arith, rules, ℤ, List, [], ◌∷◌, ◌++◌, length, get_or, map, take, drop}
use Rattle.std.specs.Prelude.{unsigned_abs, slice_range, All}
use Rattle.std.proofs.lemmas.List.{places, ext_get_or, length-append}
use Rattle.std.proofs.lemmas.List.FromFn.{get_or-map-range_with_len, length-map-range_with_len}
use Rattle.std.proofs.Math.Nat.{mul-le-mul_right}
use Rattle.std.proofs.lemmas.Nat.{mul-add-lt}
use Rattle.rz_words.specs.Grid.{Grid, IsShape, word, grid_of}
use Rattle.mj_angles.specs.Projection.{bins, projection}
use Rattle.mj_angles.proofs.Order.{lifted}
use Rattle.mj_angles.proofs.Projections.{get_or-projection, projection-from_bins}
use Rattle.mj_inverse.specs.Fits.{Pair, IsFound, AnglesDiffer, pairs_from, total_bins}
use Rattle.mj_inverse.specs.Rows.{Every, Differ}
use Rattle.mj_inverse.specs.Store.{Distinct, lane_of, lane_pair, lane_search}
use Rattle.mj_inverse.specs.Padded.{HasBins, IsPlaced, IsLined, IsKept, IsTaken, inner, width_of, pair_over, pairs_over, placed_at, placed_from, raised_angle, search_over}
use Rattle.mj_inverse.specs.declared.placed.Placed.{Placed}
use Rattle.mj_inverse.proofs.Put.{slice_is}
use Rattle.mj_inverse.proofs.Stores.{FitsWords, all_from_every, every_from_all, words_from_rows, every_more, distinct_more, lifted-one, bins_le}
use Rattle.mj_inverse.proofs.Tied.{rows_from_words}

module _ (rows cols j : ℕ) (ws : List ℕ) (s : Placed) (h : j < 8) (given : IsPlaced rows cols (length ws) s) where
  in_slice : (xs : List ℕ) (a b i : ℕ) → a ≤ b → b ≤ length xs → i < b - a → get_or (slice_range xs a b) i 0 ≡ get_or xs (a + i) 0
  in_slice xs a b i l m n = search (rules, places)

  lane_at : (b : ℕ) → b < bins s.direction rows cols → get_or (lane_of 8 j (bins s.direction rows cols) (slice_range ws (8 * s.from) (8 * (s.from + bins s.direction rows cols)))) b 0 ≡ get_or ws (8 * (s.from + b) + j) 0
  lane_at b near =
      let within = given.within in
      let k : 8 * s.from + (8 * b + j) ≡ 8 * (s.from + b) + j = omega arith in
      get_or-map-range_with_len (λ i. get_or (slice_range ws (8 * s.from) (8 * (s.from + bins s.direction rows cols))) (8 * i + j) 0) 0 (bins s.direction rows cols) b b 0 near (omega arith)
      ∙ in_slice ws (8 * s.from) (8 * (s.from + bins s.direction rows cols)) (8 * b + j) (omega arith) (omega arith) (omega arith)
      ∙ ap (λ n. get_or ws n 0) k

  fits_one : (w : ℕ → ℕ) → HasBins rows cols j (λ l k. w (l * cols + k)) ws s → FitsWords rows cols w (lane_pair 8 j rows cols (pair_over rows cols ws s))
  fits_one w has =
      projection-from_bins (λ l k. w (l * cols + k)) rows cols s.direction (lane_of 8 j (bins s.direction rows cols) (slice_range ws (8 * s.from) (8 * (s.from + bins s.direction rows cols))))
      (length-map-range_with_len (λ i. get_or (slice_range ws (8 * s.from) (8 * (s.from + bins s.direction rows cols))) (8 * i + j) 0) 0 (bins s.direction rows cols))
      (λ b near. lane_at b near ∙ has b near)

  has_one : (w : ℕ → ℕ) → FitsWords rows cols w (lane_pair 8 j rows cols (pair_over rows cols ws s)) → HasBins rows cols j (λ l k. w (l * cols + k)) ws s
  has_one w is b near = sym (lane_at b near) ∙ ap (λ xs. get_or xs b 0) is ∙ get_or-projection (λ l k. w (l * cols + k)) rows cols s.direction b near

module _ (rows cols j : ℕ) (ws : List ℕ) (h : j < 8) (w : ℕ → ℕ) where
  fits_from_bins : (all : List Placed) → Every (IsPlaced rows cols (length ws)) all → Every (HasBins rows cols j (λ l k. w (l * cols + k)) ws) all →
      Every (FitsWords rows cols w) (map (lane_pair 8 j rows cols) (pairs_over rows cols ws all))
  fits_from_bins [] given has = tt
  fits_from_bins (s ∷ rest) (g, given) (one, has) = (fits_one rows cols j ws s h g w one, fits_from_bins rest given has)

  bins_from_fits : (all : List Placed) → Every (IsPlaced rows cols (length ws)) all → Every (FitsWords rows cols w) (map (lane_pair 8 j rows cols) (pairs_over rows cols ws all)) →
      Every (HasBins rows cols j (λ l k. w (l * cols + k)) ws) all
  bins_from_fits [] given fits = tt
  bins_from_fits (s ∷ rest) (g, given) (one, fits) = (has_one rows cols j ws s h g w one, bins_from_fits rest given fits)

module _ (rows cols j : ℕ) (ws : List ℕ) (all : List Placed) (shape : IsShape rows cols) (h : j < 8) (given : Every (IsPlaced rows cols (length ws)) all) where
  -- words that have the bins are a block that is found
  pub found_from_bins : (out : List ℕ) → length out ≡ rows * cols → Every (HasBins rows cols j (λ l k. get_or out (l * cols + k) 0) ws) all →
      IsFound (lane_search 8 j (search_over rows cols ws all)) (grid_of rows cols out)
  found_from_bins out long has =
      let w : ℕ → ℕ = λ i. get_or out i 0 in
      let fits : Every (FitsWords rows cols w) (map (lane_pair 8 j rows cols) (pairs_over rows cols ws all)) = fits_from_bins rows cols j ws h w all given has in
      record {
        grid = record { shape = shape; full = long };
        rows = refl;
        cols = refl;
        fits = all_from_every (FitsWords rows cols w) (map (lane_pair 8 j rows cols) (pairs_over rows cols ws all)) fits;
      }

  -- a block that is found has the bins
  pub bins_from_found : (g : Grid) → IsFound (lane_search 8 j (search_over rows cols ws all)) g → Every (HasBins rows cols j (λ l k. get_or g.words (l * cols + k) 0) ws) all
  bins_from_found g found =
      let w : ℕ → ℕ = λ i. get_or g.words i 0 in
      let ps : List Pair = map (lane_pair 8 j rows cols) (pairs_over rows cols ws all) in
      let P : ℕ → ℕ → Type 0 = λ r c. Every (λ (pair : Pair). pair.1 ≡ projection (λ l k. get_or g.words (l * c + k) 0) r c pair.0) ps in
      let fits : P g.rows g.cols = every_from_all (λ (pair : Pair). pair.1 ≡ projection (word g) g.rows g.cols pair.0) ps found.fits in
      let Q : ℕ → Type 0 = λ r. P r g.cols in
      let R : ℕ → Type 0 = λ c. P rows c in
      let fits' : P rows cols = subst R found.cols (subst Q found.rows fits) in
      bins_from_fits rows cols j ws h w all given fits'

  -- blocks with the same words are the same
  pub grid_same : (g : Grid) (out : List ℕ) → length out ≡ rows * cols → IsFound (lane_search 8 j (search_over rows cols ws all)) g →
      ((l k : ℕ) → l < rows → k < cols → get_or g.words (l * cols + k) 0 ≡ get_or out (l * cols + k) 0) → g ≡ grid_of rows cols out
  grid_same g out long found same =
      let v : ℕ → ℕ = λ i. get_or g.words i 0 in
      let w : ℕ → ℕ = λ i. get_or out i 0 in
      let m : g.rows * g.cols ≡ rows * cols = ap (λ r. r * g.cols) found.rows ∙ ap (λ c. rows * c) found.cols in
      let n : length g.words ≡ rows * cols = found.grid.full ∙ m in
      let at : (i : ℕ) → i < length g.words → get_or g.words i 0 ≡ get_or out i 0 = λ i l.
      words_from_rows cols 0 rows v w (rows_from_words cols 0 rows v w same) i (let e : cols * rows ≡ rows * cols = omega arith in omega arith) in
      let words : g.words ≡ out = ext_get_or 0 g.words out (n ∙ sym long) at in
      ap (λ r. grid_of r g.cols g.words) found.rows ∙ ap (λ c. grid_of rows c g.words) found.cols ∙ ap (grid_of rows cols) words

-- the words of a block among eight, in a list of their own
pub lane_taken : (rows cols reach j : ℕ) (grid out : List ℕ) → j < 8 → length out ≡ 8 * (rows * cols) →
    ((i l k : ℕ) → i < 8 → l < rows → k < cols → get_or out (8 * (l * cols + k) + i) 0 ≡ inner grid (width_of cols reach) reach i l k) → IsTaken rows cols reach grid j (lane_of 8 j (rows * cols) out)
lane_taken rows cols reach j grid out small long same = record {
  full = length-map-range_with_len (λ i. get_or out (8 * i + j) 0) 0 (rows * cols);
  words = λ l k a b.
      (let near : l * cols + k < rows * cols = omega (arith, mul-add-lt l cols k rows a b) in
      get_or-map-range_with_len (λ i. get_or out (8 * i + j) 0) 0 (rows * cols) (l * cols + k) (l * cols + k) 0 near (omega arith) ∙ same j l k small a b);
}

-- all angles from -16 to 16 stay within 16 places for each row
pub lined_wide : (rows cols n : ℕ) → 0 < rows → (all : List Placed) → Every (IsPlaced rows cols n) all → Every (IsLined rows (16 * rows)) all
lined_wide rows cols n some [] placed = tt
lined_wide rows cols n some (s ∷ rest) (g, placed) = (
  record { small = g.small; lifts = g.lifts; near = (let k = g.small in omega arith); reaches = (let k = mul-le-mul_right (rows - 1) g.small in omega arith) },
  lined_wide rows cols n some rest placed,
)

-- no two angles are the same
other_angles : (rows cols n : ℕ) (ws : List ℕ) (s : Placed) (all : List Placed) → IsPlaced rows cols n s → Every (IsPlaced rows cols n) all →
    Every (λ (other : Pair). other.0 ≢ s.direction) (pairs_over rows cols ws all) → Every (λ y. raised_angle y ≢ raised_angle s) all
other_angles rows cols n ws s [] given placed other = tt
other_angles rows cols n ws s (x ∷ rest) given (g, placed) (o, other) = (
  λ k. o (lifted-one x.direction s.direction g.small given.small (sym g.lifts ∙ k ∙ given.lifts)),
  other_angles rows cols n ws s rest given placed other,
)

pub differ_over : (rows cols n : ℕ) (ws : List ℕ) (all : List Placed) → Every (IsPlaced rows cols n) all → Distinct (pairs_over rows cols ws all) → Differ raised_angle all
differ_over rows cols n ws [] placed distinct = tt
differ_over rows cols n ws (x ∷ rest) (g, placed) (o, distinct) = (other_angles rows cols n ws x rest g placed o, differ_over rows cols n ws rest placed distinct)

pub length-pairs_over : (rows cols : ℕ) (ws : List ℕ) (all : List Placed) → length (pairs_over rows cols ws all) ≡ length all
length-pairs_over rows cols ws [] = refl
length-pairs_over rows cols ws (s ∷ rest) = ap suc (length-pairs_over rows cols ws rest)

-- more bins behind those that are there
placed_more : (rows cols n m : ℕ) (all : List Placed) → n ≤ m → Every (IsPlaced rows cols n) all → Every (IsPlaced rows cols m) all
placed_more rows cols n m [] le placed = tt
placed_more rows cols n m (s ∷ rest) le (g, placed) =
    (record { small = g.small; lifts = g.lifts; within = (let k = g.within in omega arith) }, placed_more rows cols n m rest le placed)

slice_before : (xs ys : List ℕ) (a b : ℕ) → a ≤ b → b ≤ length xs → slice_range (xs ++ ys) a b ≡ slice_range xs a b
slice_before xs ys a b order fits =
    let long : length (slice_range xs a b) ≡ b - a = search (rules, places) in
    slice_is (xs ++ ys) (slice_range xs a b) a b (omega arith) (search (rules, places)) (λ k h. at k (omega arith))
  where
    at : (k : ℕ) → k < b - a → get_or (xs ++ ys) (a + k) 0 ≡ get_or (slice_range xs a b) k 0
    at k h = search (rules, places)

slice_behind : (xs ys : List ℕ) (a b : ℕ) → a ≡ length xs → b ≡ a + length ys → slice_range (xs ++ ys) a b ≡ ys
slice_behind xs ys a b from to = slice_is (xs ++ ys) ys a b (sym to) (search (rules, places)) (λ k h. at k h)
  where
    at : (k : ℕ) → k < length ys → get_or (xs ++ ys) (a + k) 0 ≡ get_or ys k 0
    at k h = search (rules, places)

pairs_more : (rows cols n : ℕ) (ws bs : List ℕ) (all : List Placed) (s : Placed) → n ≡ length ws → Every (IsPlaced rows cols n) all → 8 * s.from ≡ length ws → 8 * (s.from + bins s.direction rows cols) ≡ length ws + length bs →
    pairs_over rows cols (ws ++ bs) (all ++ s ∷ []) ≡ pairs_over rows cols ws all ++ (s.direction, bs) ∷ []
pairs_more rows cols n ws bs [] s len placed from to =
    let e = slice_behind ws bs (8 * s.from) (8 * (s.from + bins s.direction rows cols)) from (omega arith) in
    ap (λ (bs : List ℕ). (let q : Pair = (s.direction, bs) in q ∷ [])) e
pairs_more rows cols n ws bs (x ∷ rest) s len (g, placed) from to =
    let within = g.within in
    let e = slice_before ws bs (8 * x.from) (8 * (x.from + bins x.direction rows cols)) (omega arith) (omega arith) in
    ap (λ (bs' : List ℕ). (let q : Pair = (x.direction, bs') in q ∷ pairs_over rows cols (ws ++ bs) (rest ++ s ∷ []))) e
    ∙ ap (λ (ps : List Pair). pair_over rows cols ws x ∷ ps) (pairs_more rows cols n ws bs rest s len placed from to)

-- one more pair
module _ (rows cols used : ℕ) (ws bs : List ℕ) (all : List Placed) (p : ℤ) (kept : IsKept rows cols used ws all) (small : unsigned_abs p ≤ 16) (size : length bs ≡ 8 * bins p rows cols) where
  pub pairs_added : pairs_over rows cols (ws ++ bs) (all ++ placed_at p used ∷ []) ≡ pairs_over rows cols ws all ++ (p, bs) ∷ []
  pairs_added = let full = kept.full in pairs_more rows cols (length ws) ws bs all (placed_at p used) refl kept.placed (omega arith) (omega arith)

  longer : length (ws ++ bs) ≡ length ws + length bs
  longer = length-append ws bs

  pub kept_more : length all < rows → All (λ (pair : Pair). pair.0 ≢ p) (pairs_over rows cols ws all) → IsKept rows cols (used + bins p rows cols) (ws ++ bs) (all ++ placed_at p used ∷ [])
  kept_more room other =
      let full = kept.full in
      let most = kept.most in
      let len : length (all ++ placed_at p used ∷ []) ≡ length all + 1 = length-append all (placed_at p used ∷ []) in
      let le = bins_le p rows cols small in
      let sum : (length all + 1) * (cols + 16 * rows) ≡ length all * (cols + 16 * rows) + (cols + 16 * rows) = omega arith in
      record {
        shape = kept.shape;
        few = omega arith;
        full = longer ∙ omega arith;
        most = rw len (omega arith);
        placed = every_more (IsPlaced rows cols (length (ws ++ bs))) all (placed_at p used) (placed_more rows cols (length ws) (length (ws ++ bs)) all (let l = longer in omega arith) kept.placed)
            (record { small = small; lifts = refl; within = (let l = longer in omega arith) });
        differ = (let P : List Pair → Type 0 = λ ps. Distinct ps in
            subst P (sym pairs_added) (distinct_more (pairs_over rows cols ws all) (p, bs) kept.differ (every_from_all (λ (pair : Pair). pair.0 ≢ p) (pairs_over rows cols ws all) other)));
      }

  -- there is room for them
  pub fits_more : length all < rows → length ws + length bs ≤ 8 * (rows * (cols + 16 * rows))
  fits_more room =
      let full = kept.full in
      let most = kept.most in
      let le = bins_le p rows cols small in
      let sum : (length all + 1) * (cols + 16 * rows) ≡ length all * (cols + 16 * rows) + (cols + 16 * rows) = omega arith in
      let all_rows : (length all + 1) * (cols + 16 * rows) ≤ rows * (cols + 16 * rows) = mul-le-mul_right (cols + 16 * rows) (let k : length all + 1 ≤ rows = omega arith in k) in
      omega arith

-- projections one after the other
pub length-placed_from : (rows cols from : ℕ) (angles : List ℤ) → length (placed_from rows cols from angles) ≡ length angles
length-placed_from rows cols from [] = refl
length-placed_from rows cols from (p ∷ rest) = ap suc (length-placed_from rows cols (from + bins p rows cols) rest)

pub are_placed : (rows cols from n : ℕ) (angles : List ℤ) → Every (λ p. unsigned_abs p ≤ 16) angles → 8 * (from + total_bins rows cols angles) ≤ n → Every (IsPlaced rows cols n) (placed_from rows cols from angles)
are_placed rows cols from n [] small fits = tt
are_placed rows cols from n (p ∷ rest) (s, small) fits =
    let sum : 8 * (from + (bins p rows cols + total_bins rows cols rest)) ≤ n = fits in
    (record { small = s; lifts = refl; within = omega arith }, are_placed rows cols (from + bins p rows cols) n rest small (omega arith))

pub are_lined : (rows cols reach from : ℕ) (angles : List ℤ) → Every (λ p. unsigned_abs p ≤ 16) angles → Every (λ p. unsigned_abs p ≤ reach) angles → Every (λ p. unsigned_abs p * (rows - 1) ≤ reach) angles →
    Every (IsLined rows reach) (placed_from rows cols from angles)
are_lined rows cols reach from [] small near reaches = tt
are_lined rows cols reach from (p ∷ rest) (s, small) (n, near) (r, reaches) =
    (record { small = s; lifts = refl; near = n; reaches = r }, are_lined rows cols reach (from + bins p rows cols) rest small near reaches)

other_lifted : (rows cols from : ℕ) (p : ℤ) (angles : List ℤ) → unsigned_abs p ≤ 16 → Every (λ p. unsigned_abs p ≤ 16) angles → Every (λ q. q ≢ p) angles →
    Every (λ y. raised_angle y ≢ lifted 16 p) (placed_from rows cols from angles)
other_lifted rows cols from p [] s small other = tt
other_lifted rows cols from p (q ∷ rest) s (t, small) (ne, other) =
    (λ e. ne (lifted-one q p t s e), other_lifted rows cols (from + bins q rows cols) p rest s small other)

pub differ_from : (rows cols from : ℕ) (angles : List ℤ) → Every (λ p. unsigned_abs p ≤ 16) angles → AnglesDiffer angles → Differ raised_angle (placed_from rows cols from angles)
differ_from rows cols from [] small differ = tt
differ_from rows cols from (p ∷ rest) (s, small) (other, differ) = (
  other_lifted rows cols (from + bins p rows cols) p rest s small (every_from_all (λ q. q ≢ p) rest other),
  differ_from rows cols (from + bins p rows cols) rest small differ,
)

drop-twice : {A : Type 0} (a b : ℕ) (xs : List A) → drop b (drop a xs) ≡ drop (a + b) xs
drop-twice {A = A} zero b xs = ap (λ n. drop n xs) (let e : b ≡ 0 + b = omega arith in e)
drop-twice {A = A} (suc a) b [] = search (rules, places)
drop-twice {A = A} (suc a) b (x ∷ xs) = drop-twice a b xs ∙ ap (λ n. drop n (x ∷ xs)) (let e : suc (a + b) ≡ suc a + b = omega arith in e)

pub pairs_placed : (rows cols from : ℕ) (angles : List ℤ) (ws : List ℕ) → pairs_over rows cols ws (placed_from rows cols from angles) ≡ pairs_from rows cols angles (drop (8 * from) ws)
pairs_placed rows cols from [] ws = refl
pairs_placed rows cols from (p ∷ rest) ws =
    let b : ℕ = bins p rows cols in
    let size : 8 * (from + b) - 8 * from ≡ 8 * b = omega arith in
    let next : 8 * from + 8 * b ≡ 8 * (from + b) = omega arith in
    let first : slice_range ws (8 * from) (8 * (from + b)) ≡ take (8 * b) (drop (8 * from) ws) = ap (λ n. take n (drop (8 * from) ws)) size in
    ap (λ (bs : List ℕ). (let q : Pair = (p, bs) in q ∷ pairs_over rows cols ws (placed_from rows cols (from + b) rest))) first
    ∙ ap (λ (ps : List Pair). (let q : Pair = (p, take (8 * b) (drop (8 * from) ws)) in q ∷ ps))
    (pairs_placed rows cols (from + b) rest ws ∙ ap (λ xs. pairs_from rows cols rest xs) (ap (λ n. drop n ws) (sym next) ∙ sym (drop-twice (8 * from) (8 * b) ws)))
