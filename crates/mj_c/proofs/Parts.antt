-- Parts of a list of which one part was written.
use Rattle.std.proofs.Common.{rules, ◌≡◌, ℕ, ◌+◌, ◌-◌, ◌*◌, ◌<◌, ◌≤◌, sym, ap, ◌∙◌, arith, subst, refl, get_or-set_same, get_or-set_other, List, length, get_or, ◌⊎◌, inl, inr}
use Rattle.std.specs.Prelude.{slice_range, slice_set}
use Rattle.std.specs.List.{sum_by}
use Rattle.std.proofs.lemmas.List.{places, ext_get_or}
use Rattle.std.proofs.lemmas.Nat.{row_fits}
use Rattle.std.proofs.lemmas.Bool.{cases_lt}
use borrow.Rule.Slice.PartMut.{put_mid}
use Rattle.rz_words.specs.Grid.{Grid, grid_of}
use Rattle.mj_angles.specs.declared.layout.Layout.{Layout}
use Rattle.mj_angles.specs.Layout.{inverse_of, cols_of, bins_at_of}
use Rattle.mj_inverse.specs.Fits.{IsFound}
use Rattle.mj_c.specs.Layouts.{words_of, search_of, search_at, IsAnswered, eight_search, group_search, group_at, IsSolved}

part_before : (xs ys : List ℕ) (s n a e : ℕ) → e ≤ s → s + n ≤ length xs → length ys ≡ n → slice_range (put_mid s n xs ys) a e ≡ slice_range xs a e
part_before xs ys s n a e before fits long =
    let whole : length (put_mid s n xs ys) ≡ length xs = search (rules, places) in
    let l : length (slice_range (put_mid s n xs ys) a e) ≡ e - a = search (rules, places) in
    let m : length (slice_range xs a e) ≡ e - a = search (rules, places) in
    ext_get_or 0 (slice_range (put_mid s n xs ys) a e) (slice_range xs a e) (l ∙ sym m) (λ i h.
    let small : i < e - a = omega arith in
    let here : get_or (slice_range (put_mid s n xs ys) a e) i 0 ≡ get_or (put_mid s n xs ys) (a + i) 0 = search (rules, places) in
    let there : get_or (slice_range xs a e) i 0 ≡ get_or xs (a + i) 0 = search (rules, places) in
    let same : get_or (put_mid s n xs ys) (a + i) 0 ≡ get_or xs (a + i) 0 = search (rules, places) in
    here ∙ same ∙ sym there)

part_itself : (xs ys : List ℕ) (s n : ℕ) → s + n ≤ length xs → length ys ≡ n → slice_range (put_mid s n xs ys) s (s + n) ≡ ys
part_itself xs ys s n fits long =
    let whole : length (put_mid s n xs ys) ≡ length xs = search (rules, places) in
    let l : length (slice_range (put_mid s n xs ys) s (s + n)) ≡ n = search (rules, places) in
    ext_get_or 0 (slice_range (put_mid s n xs ys) s (s + n)) ys (l ∙ sym long) (λ i h.
    let small : i < n = omega arith in
    let here : get_or (slice_range (put_mid s n xs ys) s (s + n)) i 0 ≡ get_or (put_mid s n xs ys) (s + i) 0 = search (rules, places) in
    let there : get_or (put_mid s n xs ys) (s + i) 0 ≡ get_or ys i 0 = search (rules, places) in
    here ∙ there)

-- block i was found, and those before it stay
pub answered_more : (y : Layout) (positions bins out given room : List ℕ) (blocks i : ℕ) → i < blocks → length out ≡ blocks * words_of y → length room ≡ words_of y →
    given ≡ slice_range bins (i * sum_by (bins_at_of y) positions) (i * sum_by (bins_at_of y) positions + sum_by (bins_at_of y) positions) →
    IsFound (search_of y positions given) (grid_of (inverse_of y) (cols_of y) room) →
    ((g : Grid) → IsFound (search_of y positions given) g → g ≡ grid_of (inverse_of y) (cols_of y) room) →
    ((k : ℕ) → k < i → IsAnswered y positions bins out k) →
    (k : ℕ) → k < i + 1 → IsAnswered y positions bins (put_mid (i * words_of y) (words_of y) out room) k
answered_more y positions bins out given room blocks i few long room_long is found only before k less = by_place (cases_lt k i)
  where
    by_place : (k < i) ⊎ (i ≤ k) → IsAnswered y positions bins (put_mid (i * words_of y) (words_of y) out room) k
    by_place (inl earlier) =
        let fits : i * words_of y + words_of y ≤ length out = (let r = row_fits i (words_of y) blocks (words_of y) few (omega arith) in omega (arith, r, long)) in
        let low : k * words_of y + words_of y ≤ i * words_of y = row_fits k (words_of y) i (words_of y) earlier (omega arith) in
        let same = part_before out room (i * words_of y) (words_of y) (k * words_of y) (k * words_of y + words_of y) low fits room_long in
        let was = before k earlier in
        let P : List ℕ → Type 0 = λ ws. IsFound (search_at y positions bins k) (grid_of (inverse_of y) (cols_of y) ws) in
        record {
          found = subst P (sym same) was.found;
          only = λ g h. was.only g h ∙ ap (grid_of (inverse_of y) (cols_of y)) (sym same);
        }
    by_place (inr later) =
        let fits : i * words_of y + words_of y ≤ length out = (let r = row_fits i (words_of y) blocks (words_of y) few (omega arith) in omega (arith, r, long)) in
        let e : i ≡ k = omega arith in
        let same = part_itself out room (i * words_of y) (words_of y) fits room_long in
        let P : List ℕ → Type 0 = λ bs. IsFound (search_of y positions bs) (grid_of (inverse_of y) (cols_of y) room) in
        let Q : List ℕ → Type 0 = λ ws. IsFound (search_at y positions bins i) (grid_of (inverse_of y) (cols_of y) ws) in
        let R : List ℕ → Type 0 = λ bs. (g : Grid) → IsFound (search_of y positions bs) g → g ≡ grid_of (inverse_of y) (cols_of y) room in
        let S : ℕ → Type 0 = λ k. IsAnswered y positions bins (put_mid (i * words_of y) (words_of y) out room) k in
        let here : S i = record {
          found = subst Q (sym same) (subst P is found);
          only = λ g h. subst R is only g h ∙ ap (grid_of (inverse_of y) (cols_of y)) (sym same);
        } in
        subst S e here

-- the same, of places as the code writes them
pub answered_at : (y : Layout) (positions bins out given room : List ℕ) (blocks i w m each : ℕ) → w ≡ words_of y → m ≡ w → each ≡ sum_by (bins_at_of y) positions →
    i < blocks → length out ≡ blocks * words_of y → length room ≡ w → given ≡ slice_range bins (i * each) (i * each + each) →
    IsFound (search_of y positions given) (grid_of (inverse_of y) (cols_of y) room) →
    ((g : Grid) → IsFound (search_of y positions given) g → g ≡ grid_of (inverse_of y) (cols_of y) room) →
    ((k : ℕ) → k < i → IsAnswered y positions bins out k) →
    (k : ℕ) → k < i + 1 → IsAnswered y positions bins (put_mid (i * w) m out room) k
answered_at y positions bins out given room blocks i w m each ew em ee few long room_long is found only before k less =
    let more = answered_more y positions bins out given room blocks i few long (room_long ∙ ew) (is ∙ ap (λ e. slice_range bins (i * e) (i * e + e)) ee) found only before k less in
    let P : ℕ → Type 0 = λ x. IsAnswered y positions bins (put_mid (i * x) x out room) k in
    let Q : ℕ → Type 0 = λ x. IsAnswered y positions bins (put_mid (i * w) x out room) k in
    subst Q (sym em) (subst P (sym ew) more)

-- group i of eight was solved, and those before it stay
groups_more : (y : Layout) (positions bins out given room answers : List ℕ) (n i v answer : ℕ) → v ≡ 8 * words_of y → i < n → length answers ≡ n → length out ≡ n * v → length room ≡ v →
    given ≡ slice_range bins (i * sum_by (λ i. 8 * bins_at_of y i) positions) (i * sum_by (λ i. 8 * bins_at_of y i) positions + sum_by (λ i. 8 * bins_at_of y i) positions) →
    ((j : ℕ) → j < 8 → IsSolved y (eight_search y positions given) room answer j) →
    ((k j : ℕ) → k < i → j < 8 → IsSolved y (group_search y positions bins k) (slice_range out (k * v) (k * v + v)) (get_or answers k 0) j) →
    (k j : ℕ) → k < i + 1 → j < 8 → IsSolved y (group_search y positions bins k) (slice_range (put_mid (i * v) v out room) (k * v) (k * v + v)) (get_or (slice_set answers i answer) k 0) j
groups_more y positions bins out given room answers n i v answer ev few count long room_long is solved before k j less small = by_place (cases_lt k i)
  where
    by_place : (k < i) ⊎ (i ≤ k) → IsSolved y (group_search y positions bins k) (slice_range (put_mid (i * v) v out room) (k * v) (k * v + v)) (get_or (slice_set answers i answer) k 0) j
    by_place (inl earlier) =
        let fits : i * v + v ≤ length out = (let r = row_fits i v n v few (omega arith) in omega (arith, r, long)) in
        let low : k * v + v ≤ i * v = row_fits k v i v earlier (omega arith) in
        let same = part_before out room (i * v) v (k * v) (k * v + v) low fits room_long in
        let kept : get_or (slice_set answers i answer) k 0 ≡ get_or answers k 0 = get_or-set_other answers i k answer 0 (omega arith) in
        let P : List ℕ → Type 0 = λ ws. IsSolved y (group_search y positions bins k) ws (get_or answers k 0) j in
        let Q : ℕ → Type 0 = λ a. IsSolved y (group_search y positions bins k) (slice_range (put_mid (i * v) v out room) (k * v) (k * v + v)) a j in
        subst Q (sym kept) (subst P (sym same) (before k j earlier small))
    by_place (inr later) =
        let fits : i * v + v ≤ length out = (let r = row_fits i v n v few (omega arith) in omega (arith, r, long)) in
        let e : i ≡ k = omega arith in
        let same = part_itself out room (i * v) v fits room_long in
        let new : get_or (slice_set answers i answer) i 0 ≡ answer = get_or-set_same answers i answer 0 (omega arith) in
        let P : List ℕ → Type 0 = λ bs. IsSolved y (eight_search y positions bs) room answer j in
        let Q : List ℕ → Type 0 = λ ws. IsSolved y (group_search y positions bins i) ws answer j in
        let R : ℕ → Type 0 = λ a. IsSolved y (group_search y positions bins i) (slice_range (put_mid (i * v) v out room) (i * v) (i * v + v)) a j in
        let S : ℕ → Type 0 = λ k. IsSolved y (group_search y positions bins k) (slice_range (put_mid (i * v) v out room) (k * v) (k * v + v)) (get_or (slice_set answers i answer) k 0) j in
        subst S e (subst R (sym new) (subst Q (sym same) (subst P is (solved j small))))

-- the same, of places as the code writes them
pub groups_at : (y : Layout) (positions bins out given room answers : List ℕ) (n i w m each answer : ℕ) → w ≡ 8 * words_of y → m ≡ w → each ≡ sum_by (λ i. 8 * bins_at_of y i) positions →
    i < n → length answers ≡ n → length out ≡ n * (8 * words_of y) → length room ≡ w → given ≡ slice_range bins (i * each) (i * each + each) →
    ((j : ℕ) → j < 8 → IsSolved y (eight_search y positions given) room answer j) →
    ((k j : ℕ) → k < i → j < 8 → IsSolved y (group_search y positions bins k) (group_at y out k) (get_or answers k 0) j) →
    (k j : ℕ) → k < i + 1 → j < 8 → IsSolved y (group_search y positions bins k) (group_at y (put_mid (i * w) m out room) k) (get_or (slice_set answers i answer) k 0) j
groups_at y positions bins out given room answers n i w m each answer ew em ee few count long room_long is solved before k j less small =
    let more = groups_more y positions bins out given room answers n i (8 * words_of y) answer refl few count long (room_long ∙ ew) (is ∙ ap (λ e. slice_range bins (i * e) (i * e + e)) ee) solved before k j less small in
    let P : ℕ → Type 0 = λ x. IsSolved y (group_search y positions bins k) (group_at y (put_mid (i * x) x out room) k) (get_or (slice_set answers i answer) k 0) j in
    let Q : ℕ → Type 0 = λ x. IsSolved y (group_search y positions bins k) (group_at y (put_mid (i * w) x out room) k) (get_or (slice_set answers i answer) k 0) j in
    subst Q (sym em) (subst P (sym ew) more)
