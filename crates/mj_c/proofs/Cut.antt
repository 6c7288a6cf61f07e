-- Fragments of blocks that stand one block after the other.
use Rattle.std.proofs.Common.{◌≡◌, ℕ, zero, suc, ◌+◌, ◌-◌, ◌*◌, ◌<◌, ◌≤◌, arith, rules, refl, sym, ap, ◌∙◌, subst, List, [], ◌∷◌, length, get_or, map, take, drop, ℤ}
use Rattle.std.specs.Prelude.{slice_range}
use Rattle.std.specs.List.{sum_by}
use Rattle.std.specs.Borrow.{Bor}
use Rattle.std.proofs.lemmas.List.{places, ext_get_or}
use Rattle.std.proofs.lemmas.List.Sums.{sum_by-cons}
use Rattle.std.proofs.Math.Nat.{mul-le-mul_right}
use Rattle.mj_angles.specs.declared.layout.Layout.{Layout}
use Rattle.mj_angles.specs.Projection.{bins as bin_count}
use Rattle.mj_angles.specs.Layout.{inverse_of, cols_of, angle_of, bins_at_of}
use Rattle.mj_inverse.specs.Fits.{Pair, Search}
use Rattle.mj_inverse_four.specs.Fragments.{AreThere, fragment_pairs, fragment_search, part_at}
use Rattle.mj_c.specs.Layouts.{bins_behind, pairs_with, search_at}
use Rattle.mj_c.proofs.Risen.{angle_in}

drop-twice : (a b : ℕ) (xs : List ℕ) → drop b (drop a xs) ≡ drop (a + b) xs
drop-twice zero b xs = ap (λ n. drop n xs) (let e : b ≡ 0 + b = omega arith in e)
drop-twice (suc a) b [] = search (rules, places)
drop-twice (suc a) b (x ∷ xs) = drop-twice a b xs ∙ ap (λ n. drop n (x ∷ xs)) (let e : suc (a + b) ≡ suc a + b = omega arith in e)

-- each part begins with the bins of the projection at its position, where these stand one projection after the other
abbrev pub ArePartsOf : Layout → List ℕ → List ℕ → List (Bor (List ℕ)) → Type 0
ArePartsOf y [] bins parts = parts ≡ []
ArePartsOf y (i ∷ positions) bins [] = ⊥
ArePartsOf y (i ∷ positions) bins (part ∷ parts) = (part.now ≡ bins) × ArePartsOf y positions (drop (bins_at_of y i) bins) parts

are_parts : (y : Layout) (positions bins : List ℕ) (parts : List (Bor (List ℕ))) → length parts ≡ length positions → ((m : ℕ) → m < length positions → part_at parts m ≡ bins_behind y m positions bins) → ArePartsOf y positions bins parts
are_parts y [] bins [] e at = refl
are_parts y [] bins (part ∷ parts) e at = absurd (let k : suc (length parts) ≡ 0 = e in omega arith)
are_parts y (i ∷ positions) bins [] e at = absurd (let k : 0 ≡ suc (length positions) = e in omega arith)
are_parts y (i ∷ positions) bins (part ∷ parts) e at = (
  at 0 (let k : 0 < suc (length positions) = omega arith in k),
  are_parts y positions (drop (bins_at_of y i) bins) parts (let k : suc (length parts) ≡ suc (length positions) = e in omega arith) (λ m h. at (suc m) (let k : suc m < suc (length positions) = omega arith in k)),
)

part_taken : (xs : List (Bor (List ℕ))) (n m : ℕ) → m < n → part_at (take n xs) m ≡ part_at xs m
part_taken xs zero m h = absurd (omega arith)
part_taken [] (suc n) m h = refl
part_taken (x ∷ xs) (suc n) zero h = refl
part_taken (x ∷ xs) (suc n) (suc m) h = part_taken xs n m (omega arith)

taken_long : (xs : List (Bor (List ℕ))) (n : ℕ) → n ≤ length xs → length (take n xs) ≡ n
taken_long xs zero h = refl
taken_long [] (suc n) h = absurd (let k : suc n ≤ 0 = h in omega arith)
taken_long (x ∷ xs) (suc n) h = ap suc (taken_long xs n (let k : suc n ≤ suc (length xs) = h in omega arith))

pub of_eight : (P : ℕ → Type 0) → P 0 → P 1 → P 2 → P 3 → P 4 → P 5 → P 6 → P 7 → (i : ℕ) → i < 8 → P i
of_eight P a b c d e f g h zero l = a
of_eight P a b c d e f g h (suc zero) l = b
of_eight P a b c d e f g h (suc (suc zero)) l = c
of_eight P a b c d e f g h (suc (suc (suc zero))) l = d
of_eight P a b c d e f g h (suc (suc (suc (suc zero)))) l = e
of_eight P a b c d e f g h (suc (suc (suc (suc (suc zero))))) l = f
of_eight P a b c d e f g h (suc (suc (suc (suc (suc (suc zero)))))) l = g
of_eight P a b c d e f g h (suc (suc (suc (suc (suc (suc (suc zero))))))) l = h
of_eight P a b c d e f g h (suc (suc (suc (suc (suc (suc (suc (suc i)))))))) l = absurd (omega arith)

-- the first ones of eight
pub eight_parts : (y : Layout) (positions bins : List ℕ) (xs : List (Bor (List ℕ))) → length positions ≤ 8 → length xs ≡ 8 → ((m : ℕ) → m < 8 → part_at xs m ≡ bins_behind y m positions bins) →
    ArePartsOf y positions bins (take (length positions) xs)
eight_parts y positions bins xs few long at =
    are_parts y positions bins (take (length positions) xs) (taken_long xs (length positions) (omega arith)) (λ m h. part_taken xs (length positions) m h ∙ at m (omega arith))

-- all strides are the same
abbrev pub AllAre : ℕ → List ℕ → Type 0
AllAre each [] = Unit {0}
AllAre each (x ∷ xs) = (x ≡ each) × AllAre each xs

pub all_at : (each : ℕ) (xs : List ℕ) (m : ℕ) → AllAre each xs → m < length xs → get_or xs m 0 ≡ each
all_at each [] m all h = absurd (omega arith)
all_at each (x ∷ xs) zero all h = all.0
all_at each (x ∷ xs) (suc m) all h = all_at each xs m all.1 (let k : suc m < suc (length xs) = h in omega arith)

module _ (bins : List ℕ) (each i : ℕ) (inside : i * each + each ≤ length bins) where
  -- a projection of block i, from where the first block has it, and in the block itself
  same_bins : (o b : ℕ) → o + b ≤ each → slice_range (drop o bins) (i * each) (i * each + b) ≡ take b (drop o (slice_range bins (i * each) (i * each + each)))
  same_bins o b h =
      ext_get_or 0 (slice_range (drop o bins) (i * each) (i * each + b)) (take b (drop o (slice_range bins (i * each) (i * each + each)))) (one ∙ sym two)
      (λ k m.
      let near : k < b = (let l = one in omega arith) in
      at k near ∙ sym (there k near))
    where
      one : length (slice_range (drop o bins) (i * each) (i * each + b)) ≡ b
      one = search (rules, places)

      two : length (take b (drop o (slice_range bins (i * each) (i * each + each)))) ≡ b
      two = search (rules, places)

      at : (k : ℕ) → k < b → get_or (slice_range (drop o bins) (i * each) (i * each + b)) k 0 ≡ get_or bins (i * each + o + k) 0
      at k near =
          let e : o + (i * each + k) ≡ i * each + o + k = omega arith in
          let first : get_or (slice_range (drop o bins) (i * each) (i * each + b)) k 0 ≡ get_or (drop o bins) (i * each + k) 0 = search (rules, places) in
          let second : get_or (drop o bins) (i * each + k) 0 ≡ get_or bins (o + (i * each + k)) 0 = search (rules, places) in
          first ∙ second ∙ ap (λ x. get_or bins x 0) e

      there : (k : ℕ) → k < b → get_or (take b (drop o (slice_range bins (i * each) (i * each + each)))) k 0 ≡ get_or bins (i * each + o + k) 0
      there k near =
          let e : i * each + (o + k) ≡ i * each + o + k = omega arith in
          let first : get_or (take b (drop o (slice_range bins (i * each) (i * each + each)))) k 0 ≡ get_or (slice_range bins (i * each) (i * each + each)) (o + k) 0 = search (rules, places) in
          let second : get_or (slice_range bins (i * each) (i * each + each)) (o + k) 0 ≡ get_or bins (i * each + (o + k)) 0 = search (rules, places) in
          first ∙ second ∙ ap (λ x. get_or bins x 0) e

  pairs_cut : (y : Layout) (positions : List ℕ) (parts : List (Bor (List ℕ))) (strides : List ℕ) (o : ℕ) → ArePartsOf y positions (drop o bins) parts → AllAre each strides → length strides ≡ length positions →
      o + sum_by (bins_at_of y) positions ≤ each →
      fragment_pairs (inverse_of y) (cols_of y) (map (angle_of y) positions) parts strides i ≡ pairs_with (bins_at_of y) y positions (drop o (slice_range bins (i * each) (i * each + each)))
  pairs_cut y [] parts strides o are all count h = refl
  pairs_cut y (x ∷ positions) [] strides o are all count h = absurd are
  pairs_cut y (x ∷ positions) (part ∷ parts) [] o are all count h = absurd (let k : 0 ≡ suc (length positions) = count in omega arith)
  pairs_cut y (x ∷ positions) (part ∷ parts) (stride ∷ strides) o (is, are) (same, all) count h =
      let b : ℕ = bins_at_of y x in
      let own : List ℕ = slice_range bins (i * each) (i * each + each) in
      let sum = sum_by-cons (bins_at_of y) x positions in
      let P : List ℕ → Type 0 = λ ws. ArePartsOf y positions ws parts in
      let rest = pairs_cut y positions parts strides (o + bins_at_of y x) (subst P (drop-twice o (bins_at_of y x) bins) are) all (let k : suc (length strides) ≡ suc (length positions) = count in omega arith) (omega arith) in
      ap (λ ws. (angle_of y x, slice_range ws (i * stride) (i * stride + b)) ∷ fragment_pairs (inverse_of y) (cols_of y) (map (angle_of y) positions) parts strides i) is
      ∙ ap (λ s. (angle_of y x, slice_range (drop o bins) (i * s) (i * s + b)) ∷ fragment_pairs (inverse_of y) (cols_of y) (map (angle_of y) positions) parts strides i) same
      ∙ ap (λ ws. (angle_of y x, ws) ∷ fragment_pairs (inverse_of y) (cols_of y) (map (angle_of y) positions) parts strides i) (same_bins o (bins_at_of y x) (omega arith))
      ∙ ap (λ (ps : List Pair). (angle_of y x, take b (drop o own)) ∷ ps) (rest ∙ ap (pairs_with (bins_at_of y) y positions) (sym (drop-twice o (bins_at_of y x) own)))

-- the search for block i among blocks that stand together
pub search_cut : (y : Layout) (positions bins : List ℕ) (parts : List (Bor (List ℕ))) (strides : List ℕ) (i : ℕ) →
    i * sum_by (bins_at_of y) positions + sum_by (bins_at_of y) positions ≤ length bins → ArePartsOf y positions bins parts → AllAre (sum_by (bins_at_of y) positions) strides → length strides ≡ length positions →
    fragment_search (inverse_of y) (cols_of y) (map (angle_of y) positions) parts strides i ≡ search_at y positions bins i
search_cut y positions bins parts strides i inside are all count =
    let each : ℕ = sum_by (bins_at_of y) positions in
    let zero_more : 0 + sum_by (bins_at_of y) positions ≤ sum_by (bins_at_of y) positions = omega arith in
    ap (λ (ps : List Pair). (let s : Search = record { rows = inverse_of y; cols = cols_of y; pairs = ps } in s)) (pairs_cut bins (sum_by (bins_at_of y) positions) i inside y positions parts strides 0 are all count zero_more)

-- the parts are long enough for the last block
parts_long : (y : Layout) (positions bins : List ℕ) (parts : List (Bor (List ℕ))) (n : ℕ) → ArePartsOf y positions bins parts → n + sum_by (bins_at_of y) positions ≤ length bins →
    (m : ℕ) → m < length positions → n + bins_at_of y (get_or positions m 0) ≤ length (part_at parts m)
parts_long y [] bins parts n are fits m h = absurd (omega arith)
parts_long y (x ∷ positions) bins [] n are fits m h = absurd are
parts_long y (x ∷ positions) bins (part ∷ parts) n (is, are) fits zero h =
    let sum = sum_by-cons (bins_at_of y) x positions in
    let same = ap (λ ws. length ws) is in
    omega arith
parts_long y (x ∷ positions) bins (part ∷ parts) n (is, are) fits (suc m) h =
    let sum = sum_by-cons (bins_at_of y) x positions in
    let long : length (drop (bins_at_of y x) bins) ≡ length bins - bins_at_of y x = search (rules, places) in
    parts_long y positions (drop (bins_at_of y x) bins) parts n are (omega arith) m (let k : suc m < suc (length positions) = h in omega arith)

length_parts : (y : Layout) (positions bins : List ℕ) (parts : List (Bor (List ℕ))) → ArePartsOf y positions bins parts → length parts ≡ length positions
length_parts y [] bins parts are = ap (λ ps. length ps) are
length_parts y (x ∷ positions) bins [] are = absurd are
length_parts y (x ∷ positions) bins (part ∷ parts) (is, are) = ap suc (length_parts y positions (drop (bins_at_of y x) bins) parts are)

pub there_cut : (y : Layout) (positions bins : List ℕ) (parts : List (Bor (List ℕ))) (strides : List ℕ) (last : ℕ) → length positions ≡ inverse_of y →
    last * sum_by (bins_at_of y) positions + sum_by (bins_at_of y) positions ≤ length bins → ArePartsOf y positions bins parts → AllAre (sum_by (bins_at_of y) positions) strides → length strides ≡ length positions →
    AreThere (inverse_of y) (cols_of y) (map (angle_of y) positions) parts strides last
there_cut y positions bins parts strides last count inside are all long = record {
  all = length_parts y positions bins parts are ∙ count;
  each = long ∙ count;
  within = λ m h.
      (let each : ℕ = sum_by (bins_at_of y) positions in
      let s = all_at (sum_by (bins_at_of y) positions) strides m all (omega arith) in
      let fits = parts_long y positions bins parts (last * sum_by (bins_at_of y) positions) are inside m (omega arith) in
      let P : ℕ → Type 0 = λ x. last * x + bins_at_of y (get_or positions m 0) ≤ length (part_at parts m) in
      let Q : ℤ → Type 0 = λ q. last * get_or strides m 0 + bin_count q (inverse_of y) (cols_of y) ≤ length (part_at parts m) in
      subst Q (sym (angle_in y positions m (omega arith))) (subst P (sym s) fits));
}

-- what is there for the last block is there for those before it
pub there_before : (rows cols : ℕ) (angles : List ℤ) (parts : List (Bor (List ℕ))) (strides : List ℕ) (last n : ℕ) → n ≤ last → AreThere rows cols angles parts strides last → AreThere rows cols angles parts strides n
there_before rows cols angles parts strides last n le there = record {
  all = there.all;
  each = there.each;
  within = λ m h. (let k = there.within m h in let row = mul-le-mul_right (get_or strides m 0) le in omega arith);
}
