-- Words taken apart, row by row.
use Rattle.std.proofs.Common.{rules, arith, ◌≡◌, ◌≤◌, ◌<◌, ◌+◌, ◌-◌, ◌*◌, ◌∙◌, ℕ, List, length, get_or, ap, sym, subst, ◌⊎◌, inl, inr}
use Rattle.std.proofs.lemmas.Bool.{cases_lt}
use Rattle.std.proofs.lemmas.List.{places}
use Rattle.std.proofs.lemmas.Nat.{row_fits}
use borrow.Rule.Slice.PartMut.{put_mid}
use Rattle.mj_inverse_four.specs.Rows.{inner}

put_before : (xs ys : List ℕ) (a n i : ℕ) → i < a → a + n ≤ length xs → length ys ≡ n → get_or (put_mid a n xs ys) i 0 ≡ get_or xs i 0
put_before xs ys a n i h fits long = search (rules, places)

put_inside : (xs ys : List ℕ) (a n i : ℕ) → i < n → a + n ≤ length xs → length ys ≡ n → get_or (put_mid a n xs ys) (a + i) 0 ≡ get_or ys i 0
put_inside xs ys a n i h fits long = search (rules, places)

-- one more row of a block
pub taken_more : (grid old row : List ℕ) (cols w reach i n at m from : ℕ) → at ≡ n * cols → m ≡ cols → from ≡ 4 * (n * w + reach) + i → n * cols + cols ≤ length old → length row ≡ cols →
    ((k : ℕ) → k < cols → get_or row k 0 ≡ get_or grid (from + 4 * k) 0) →
    ((l k : ℕ) → l < n → k < cols → get_or old (l * cols + k) 0 ≡ inner grid w reach i l k) →
    (l k : ℕ) → l < n + 1 → k < cols → get_or (put_mid at m old row) (l * cols + k) 0 ≡ inner grid w reach i l k
taken_more grid old row cols w reach i n at m from is long place fits row_long here before l k h near =
    let P : ℕ → Type 0 = λ x. get_or (put_mid at x old row) (l * cols + k) 0 ≡ inner grid w reach i l k in
    let Q : ℕ → Type 0 = λ x. get_or (put_mid x cols old row) (l * cols + k) 0 ≡ inner grid w reach i l k in
    subst P (sym long) (subst Q (sym is) (by (cases_lt l n)))
  where
    by : (l < n) ⊎ (n ≤ l) → get_or (put_mid (n * cols) cols old row) (l * cols + k) 0 ≡ inner grid w reach i l k
    by (inl less) =
        let low : l * cols + cols ≤ n * cols = row_fits l cols n cols less (omega arith) in
        put_before old row (n * cols) cols (l * cols + k) (omega arith) fits row_long ∙ before l k less near
    by (inr more) =
        let e : n ≡ l = omega arith in
        let to : from + 4 * k ≡ 4 * (n * w + (reach + k)) + i = omega arith in
        let R : ℕ → Type 0 = λ x. get_or (put_mid (n * cols) cols old row) (x * cols + k) 0 ≡ inner grid w reach i x k in
        subst R e (put_inside old row (n * cols) cols k near fits row_long ∙ here k near ∙ ap (λ x. get_or grid x 0) to)

-- the same of a list that was written from the row's place on
pub row_more : (grid old new : List ℕ) (cols w reach i n from m : ℕ) → from + i ≡ 4 * (n * w + reach) + i → m ≡ cols →
    ((k : ℕ) → k < m → get_or new (n * cols + k) 0 ≡ get_or grid (from + 4 * k + i) 0) →
    ((j : ℕ) → j < n * cols → get_or new j 0 ≡ get_or old j 0) →
    ((l k : ℕ) → l < n → k < cols → get_or old (l * cols + k) 0 ≡ inner grid w reach i l k) →
    (l k : ℕ) → l < n + 1 → k < cols → get_or new (l * cols + k) 0 ≡ inner grid w reach i l k
row_more grid old new cols w reach i n from m place all here below before l k h near = by (cases_lt l n)
  where
    by : (l < n) ⊎ (n ≤ l) → get_or new (l * cols + k) 0 ≡ inner grid w reach i l k
    by (inl less) =
        let low : l * cols + cols ≤ n * cols = row_fits l cols n cols less (omega arith) in
        below (l * cols + k) (omega arith) ∙ before l k less near
    by (inr more) =
        let e : n ≡ l = omega arith in
        let to : from + 4 * k + i ≡ 4 * (n * w + (reach + k)) + i = omega arith in
        let R : ℕ → Type 0 = λ x. get_or new (x * cols + k) 0 ≡ inner grid w reach i x k in
        subst R e (here k (omega arith) ∙ ap (λ x. get_or grid x 0) to)

-- eight more places of a block
pub eight_more : (grid old new : List ℕ) (from to h i : ℕ) → ((r : ℕ) → r < 8 → get_or new (to + 8 * h + r) 0 ≡ get_or grid (from + 32 * h + i + 4 * r) 0) →
    ((m : ℕ) → m < to + 8 * h → get_or new m 0 ≡ get_or old m 0) →
    ((k : ℕ) → k < 8 * h → get_or old (to + k) 0 ≡ get_or grid (from + 4 * k + i) 0) → (k : ℕ) → k < 8 * (h + 1) → get_or new (to + k) 0 ≡ get_or grid (from + 4 * k + i) 0
eight_more grid old new from to h i here below before k near = by (cases_lt k (8 * h))
  where
    by : (k < 8 * h) ⊎ (8 * h ≤ k) → get_or new (to + k) 0 ≡ get_or grid (from + 4 * k + i) 0
    by (inl less) = below (to + k) (omega arith) ∙ before k less
    by (inr more) =
        let e : to + k ≡ to + 8 * h + (k - 8 * h) = omega arith in
        let f : from + 32 * h + i + 4 * (k - 8 * h) ≡ from + 4 * k + i = omega arith in
        ap (λ x. get_or new x 0) e ∙ here (k - 8 * h) (omega arith) ∙ ap (λ x. get_or grid x 0) f
