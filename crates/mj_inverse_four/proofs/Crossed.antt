-- The words on a line, where each row has room for zeros on both sides of its columns.
use Rattle.std.proofs.Common.{◌≡◌, ◌≢◌, ℕ, ◌+◌, ◌-◌, ◌*◌, ◌<◌, ◌≤◌, sym, ap, ◌∙◌, subst, arith, ◌⊎◌, inl, inr, ℤ, pos, List, get_or}
use Rattle.std.specs.Prelude.{negsuc, unsigned_abs, ◌==◌, if◌then◌else◌}
use Rattle.std.proofs.Math.Nat.{mul-le-mul_left}
use Rattle.std.proofs.lemmas.Nat.{same_from_place, row_fits}
use Rattle.std.proofs.lemmas.Bool.{cases_lt}
use Rattle.mj_angles.specs.Xor.{xor_below}
use Rattle.mj_angles.specs.Projection.{bins, bin, offset, row_start}
use Rattle.mj_angles.proofs.Sums.{xor_below-same, row_at, row_misses}
use Rattle.mj_inverse_four.specs.Rows.{IsPadded, inner, line_sum, room_of, step_of, width_of}

-- where a line meets row j
pub same_place : (p : ℤ) (w reach rows b j : ℕ) → unsigned_abs p ≤ w → unsigned_abs p * (rows - 1) ≤ reach → j < rows →
    reach - offset p rows + b + j * step_of w p ≡ j * w + (reach + b - row_start p rows j)
same_place (pos n) w reach rows b j fits reaches h =
    let r : ℕ = w - n in
    let split : w ≡ r + n = omega arith in
    let whole : j * w ≡ j * (r + n) = ap (λ x. j * x) split in
    let low : n * j ≤ n * (rows - 1) = mul-le-mul_left n (let k : j ≤ rows - 1 = omega arith in k) in
    let by : (x y z : ℕ) → z ≡ x + y → y ≤ reach → reach - 0 + b + x ≡ z + (reach + b - y) = λ x y z e le. omega arith in
    let sum : j * w ≡ j * r + n * j = omega (arith, whole) in
    by (j * r) (n * j) (j * w) sum (omega (arith, low, reaches))
same_place (negsuc n) w reach rows b j fits reaches h =
    let a : ℕ = n + 1 in
    let rest : rows - 1 ≡ (rows - 1 - j) + j = omega arith in
    let whole : a * (rows - 1) ≡ a * ((rows - 1 - j) + j) = ap (λ x. a * x) rest in
    let by : (x y z v : ℕ) → x ≡ y + z → x ≤ reach → reach - x + b + (v + z) ≡ v + (reach + b - y) = λ x y z v e le. omega arith in
    let parts : a * (rows - 1) ≡ a * (rows - 1 - j) + a * j = omega (arith, whole) in
    let low : a * (rows - 1) ≤ reach = omega (arith, reaches) in
    let here = by (a * (rows - 1)) (a * (rows - 1 - j)) (a * j) (j * w) parts low in
    let e : j * (w + a) ≡ j * w + a * j = omega arith in
    ap (λ x. reach - a * (rows - 1) + b + x) e ∙ here

start_low : (p : ℤ) (rows reach j : ℕ) → unsigned_abs p * (rows - 1) ≤ reach → j < rows → row_start p rows j ≤ reach
start_low (pos n) rows reach j h k = omega (arith, h, mul-le-mul_left n (let l : j ≤ rows - 1 = omega arith in l))
start_low (negsuc n) rows reach j h k = omega (arith, h, mul-le-mul_left (n + 1) (let l : rows - 1 - j ≤ rows - 1 = omega arith in l))

module _ (g : List ℕ) (i rows cols reach : ℕ) (padded : IsPadded (rows + 1) cols reach g) (lane : i < 4) where
  -- the word in row j
  word_on : (p : ℤ) (b j : ℕ) → unsigned_abs p ≤ reach → unsigned_abs p * (rows - 1) ≤ reach → b < bins p rows cols → j < rows →
      get_or g (4 * (reach - offset p rows + b + j * step_of (width_of cols reach) p) + i) 0
      ≡ xor_below cols (λ k. if row_start p rows j + k == b then inner g (width_of cols reach) reach i j k else 0)
  word_on p b j small reaches within h =
      let w : ℕ = width_of cols reach in
      let s : ℕ = row_start p rows j in
      let low : s ≤ reach = start_low p rows reach j reaches h in
      let place = same_place p w reach rows b j (omega arith) reaches h in
      let here : get_or g (4 * (reach - offset p rows + b + j * step_of w p) + i) 0 ≡ get_or g (4 * (j * w + (reach + b - s)) + i) 0 = ap (λ x. get_or g (4 * x + i) 0) place in
      here ∙ by_side (cases_lt b s) (cases_lt b (s + cols))
    where
      by_side : (b < row_start p rows j) ⊎ (row_start p rows j ≤ b) → (b < row_start p rows j + cols) ⊎ (row_start p rows j + cols ≤ b) →
          get_or g (4 * (j * width_of cols reach + (reach + b - row_start p rows j)) + i) 0
          ≡ xor_below cols (λ k. if row_start p rows j + k == b then inner g (width_of cols reach) reach i j k else 0)
      by_side (inl before) _ =
          let low : row_start p rows j ≤ reach = start_low p rows reach j reaches h in
          padded j (reach + b - row_start p rows j) i (omega arith) (omega arith) lane
          ∙ sym (row_misses cols (row_start p rows j) b (inner g (width_of cols reach) reach i j) (λ k m e. absurd (omega arith)))
      by_side (inr from) (inl inside) =
          let k : ℕ = b - row_start p rows j in
          let place : reach + b - row_start p rows j ≡ reach + k = omega arith in
          ap (λ c. get_or g (4 * (j * width_of cols reach + c) + i) 0) place
          ∙ sym (row_at cols (row_start p rows j) b k (inner g (width_of cols reach) reach i j) (omega arith) (omega arith))
      by_side (inr from) (inr behind) =
          let c : ℕ = b - (row_start p rows j + cols) in
          let near : c < reach = omega (arith, within, reaches) in
          let next : (j + 1) * width_of cols reach ≡ j * width_of cols reach + width_of cols reach = omega arith in
          let place : 4 * (j * width_of cols reach + (reach + b - row_start p rows j)) + i ≡ 4 * ((j + 1) * width_of cols reach + c) + i = omega (arith, next) in
          ap (λ x. get_or g x 0) place ∙ padded (j + 1) c i (omega arith) near lane
          ∙ sym (row_misses cols (row_start p rows j) b (inner g (width_of cols reach) reach i j) (λ k m e. absurd (omega arith)))

  -- the same, of a place in words
  word_at_line : (p : ℤ) (b j at step : ℕ) → at ≡ 4 * (reach - offset p rows + b) → step ≡ 4 * step_of (width_of cols reach) p → at + j * step + i ≡ 4 * (reach - offset p rows + b + j * step_of (width_of cols reach) p) + i
  word_at_line p b j at step is steps =
      let s : ℕ = step_of (width_of cols reach) p in
      let times : j * step ≡ j * (4 * s) = ap (λ x. j * x) steps in
      let moved : j * (4 * s) ≡ 4 * (j * s) = omega arith in
      omega arith

  -- all words on a line
  pub line-is : (p : ℤ) (b at step : ℕ) → at ≡ 4 * (reach - offset p rows + b) → step ≡ 4 * step_of (width_of cols reach) p → unsigned_abs p ≤ reach → unsigned_abs p * (rows - 1) ≤ reach → b < bins p rows cols →
      line_sum g i rows at step ≡ bin (inner g (width_of cols reach) reach i) rows cols p b
  line-is p b at step is steps small reaches within =
      xor_below-same rows (λ j. get_or g (at + j * step + i) 0)
      (λ j. xor_below cols (λ k. if row_start p rows j + k == b then inner g (width_of cols reach) reach i j k else 0))
      (λ j h. ap (λ x. get_or g x 0) (word_at_line p b j at step is steps) ∙ word_on p b j small reaches within h)

-- a line stays within the room
module _ (rows cols reach : ℕ) where
  four : (x y z : ℕ) → x < y → 4 * x + 4 ≤ 4 * (y + z)
  four x y z h = omega arith

  in_place : (p : ℤ) (b j : ℕ) → unsigned_abs p ≤ reach → unsigned_abs p * (rows - 1) ≤ reach → b < bins p rows cols → j < rows →
      4 * (reach - offset p rows + b + j * step_of (width_of cols reach) p) + 4 ≤ room_of rows cols reach
  in_place p b j small r within h =
      let v : ℕ = width_of cols reach in
      let col : ℕ = reach + b - row_start p rows j in
      let near : col < v + reach = omega (arith, within, r) in
      let low : unsigned_abs p ≤ v = omega arith in
      let place = same_place p v reach rows b j low r h in
      let row : j * v + v ≤ rows * v = row_fits j v rows v h (omega arith) in
      omega (arith, place, row, near)

  pub line_fits : (p : ℤ) (b j at step : ℕ) → at ≡ 4 * (reach - offset p rows + b) → step ≡ 4 * step_of (width_of cols reach) p → unsigned_abs p ≤ reach → unsigned_abs p * (rows - 1) ≤ reach → b < bins p rows cols → j < rows →
      at + j * step + 4 ≤ room_of rows cols reach
  line_fits p b j at step is steps small r within h =
      let s : ℕ = step_of (width_of cols reach) p in
      let times : j * step ≡ j * (4 * s) = ap (λ x. j * x) steps in
      let moved : j * (4 * s) ≡ 4 * (j * s) = omega arith in
      let inside = in_place p b j small r within h in
      omega arith

  pub own_fits : (n k : ℕ) → n < rows → k < cols → 4 * (n * width_of cols reach + (reach + k)) + 4 ≤ room_of rows cols reach
  own_fits n k h m =
      let v : ℕ = width_of cols reach in
      let near : reach + k < v = omega arith in
      let row : n * v + v ≤ rows * v = row_fits n v rows v h (omega arith) in
      omega (arith, row)

-- a word in another place
pub elsewhere : (x y i : ℕ) → y ≢ x → i < 4 → (4 * y + i < 4 * x) ⊎ (4 * x + 4 ≤ 4 * y + i)
elsewhere x y i ne small = by (cases_lt y x)
  where
    by : (y < x) ⊎ (x ≤ y) → (4 * y + i < 4 * x) ⊎ (4 * x + 4 ≤ 4 * y + i)
    by (inl less) = inl (omega arith)
    by (inr more) = inr (omega arith)

pub kept_place : (old new : List ℕ) (x y i : ℕ) → y ≢ x → i < 4 → ((k : ℕ) → k < 4 * x → get_or new k 0 ≡ get_or old k 0) → ((k : ℕ) → 4 * x + 4 ≤ k → get_or new k 0 ≡ get_or old k 0) →
    get_or new (4 * y + i) 0 ≡ get_or old (4 * y + i) 0
kept_place old new x y i ne small below above = by (elsewhere x y i ne small)
  where
    by : (4 * y + i < 4 * x) ⊎ (4 * x + 4 ≤ 4 * y + i) → get_or new (4 * y + i) 0 ≡ get_or old (4 * y + i) 0
    by (inl low) = below (4 * y + i) low
    by (inr high) = above (4 * y + i) high

-- what is written in one place changes nothing else
module _ (rows cols reach : ℕ) (old new : List ℕ) (n k : ℕ) (in_row : n < rows) (in_col : k < cols)
    (below : (m : ℕ) → m < 4 * (n * width_of cols reach + (reach + k)) → get_or new m 0 ≡ get_or old m 0)
    (above : (m : ℕ) → 4 * (n * width_of cols reach + (reach + k)) + 4 ≤ m → get_or new m 0 ≡ get_or old m 0) where
  pub other_words : (i l' k' : ℕ) → i < 4 → l' < rows → k' < cols → (l' ≡ n → k' ≡ k → ⊥) →
      inner new (width_of cols reach) reach i l' k' ≡ inner old (width_of cols reach) reach i l' k'
  other_words i l' k' small h m ne =
      let v : ℕ = width_of cols reach in
      kept_place old new (n * v + (reach + k)) (l' * v + (reach + k')) i
      (λ e. let same = same_from_place l' (reach + k') n (reach + k) v (omega arith) (omega arith) e in ne same.0 (let c = same.1 in omega arith)) small below above

  pub still_padded : (gaps : ℕ) → IsPadded gaps cols reach old → IsPadded gaps cols reach new
  still_padded gaps padded l c i h low small =
      let v : ℕ = width_of cols reach in
      kept_place old new (n * v + (reach + k)) (l * v + c) i
      (λ e. let same = (same_from_place l c n (reach + k) v (omega arith) (omega arith) e).1 in absurd (omega arith)) small below above
      ∙ padded l c i h low small

-- a row is written, and nothing else
module _ (rows cols reach : ℕ) (old new : List ℕ) (n : ℕ) (in_row : n < rows)
    (below : (m : ℕ) → m < 4 * (n * width_of cols reach + reach) → get_or new m 0 ≡ get_or old m 0)
    (above : (m : ℕ) → 4 * (n * width_of cols reach + reach) + 4 * cols ≤ m → get_or new m 0 ≡ get_or old m 0) where
  -- the place lies before the row
  row_before : (l c i : ℕ) → i < 4 → c < width_of cols reach → l < n → get_or new (4 * (l * width_of cols reach + c) + i) 0 ≡ get_or old (4 * (l * width_of cols reach + c) + i) 0
  row_before l c i small near less =
      let v : ℕ = width_of cols reach in
      let row : l * v + v ≤ n * v = row_fits l v n v less (omega arith) in
      below (4 * (l * v + c) + i) (omega arith)

  row_after : (l c i : ℕ) → i < 4 → n < l → get_or new (4 * (l * width_of cols reach + c) + i) 0 ≡ get_or old (4 * (l * width_of cols reach + c) + i) 0
  row_after l c i small more =
      let v : ℕ = width_of cols reach in
      let row : n * v + v ≤ l * v = row_fits n v l v more (omega arith) in
      above (4 * (l * v + c) + i) (omega arith)

  pub row_padded : (gaps : ℕ) → IsPadded gaps cols reach old → IsPadded gaps cols reach new
  row_padded gaps padded l c i h low small = left l c i small low (cases_lt l n) (cases_lt n l) ∙ padded l c i h low small
    where
      left : (l c i : ℕ) → i < 4 → c < reach → (l < n) ⊎ (n ≤ l) → (n < l) ⊎ (l ≤ n) →
          get_or new (4 * (l * width_of cols reach + c) + i) 0 ≡ get_or old (4 * (l * width_of cols reach + c) + i) 0
      left l c i small low (inl less) _ = row_before l c i small (omega arith) less
      left l c i small low (inr _) (inl more) = row_after l c i small more
      left l c i small low (inr a) (inr b) =
          let e : n ≡ l = omega arith in
          let P : ℕ → Type 0 = λ y. get_or new (4 * (y * width_of cols reach + c) + i) 0 ≡ get_or old (4 * (y * width_of cols reach + c) + i) 0 in
          subst P e (below (4 * (n * width_of cols reach + c) + i) (omega arith))

  pub row_kept : (i l k : ℕ) → i < 4 → l < n → k < cols → inner new (width_of cols reach) reach i l k ≡ inner old (width_of cols reach) reach i l k
  row_kept i l k small less near = row_before l (reach + k) i small (omega arith) less

-- the places before one more row are made zero
pub padded_more : (cols reach l at : ℕ) (old new : List ℕ) → at ≡ l * width_of cols reach → IsPadded l cols reach old →
    ((k : ℕ) → k < 4 * at → get_or new k 0 ≡ get_or old k 0) → ((c i : ℕ) → c < reach → i < 4 → get_or new (4 * (at + c) + i) 0 ≡ 0) → IsPadded (l + 1) cols reach new
padded_more cols reach l at old new is padded below zero n c i h low small = by (cases_lt n l)
  where
    by : (n < l) ⊎ (l ≤ n) → get_or new (4 * (n * width_of cols reach + c) + i) 0 ≡ 0
    by (inl less) =
        let v : ℕ = width_of cols reach in
        let row : n * v + v ≤ l * v = row_fits n v l v less (omega arith) in
        below (4 * (n * v + c) + i) (omega arith) ∙ padded n c i less low small
    by (inr more) =
        let e : l ≡ n = omega arith in
        let P : ℕ → Type 0 = λ x. get_or new (4 * (x + c) + i) 0 ≡ 0 in
        subst P (is ∙ ap (λ x. x * width_of cols reach) e) (zero c i low small)
