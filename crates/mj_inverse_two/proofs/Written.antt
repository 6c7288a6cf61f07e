-- Rows that are written part by part.
use Rattle.std.proofs.Common.{◌≡◌, ℕ, ◌+◌, ◌-◌, ◌<◌, ◌≤◌, sym, ap, ◌∙◌, arith, ◌⊎◌, inl, inr, List, get_or}
use Rattle.std.specs.Prelude.{bit_xor}
use Rattle.std.proofs.lemmas.Bool.{cases_lt}
use lib.Bits.{xor_assoc, xor_zero_r}
use Rattle.mj_inverse_two.specs.declared.starts.Starts.{Starts}
use Rattle.mj_inverse_two.specs.Two.{IsSecond, first_row, share}
use Rattle.mj_inverse_two.proofs.Shares.{share_at, share_high, share_low}
use Rattle.mj_inverse_two.proofs.Rows.{first_zero, second_zero}

-- what stands in row 1
module _ (cols : ℕ) (p q : Starts) (a b row : List ℕ) (one : (p.first ≡ 0) ⊎ (p.second ≡ 0)) (p_few : p.first + p.second ≤ 16) (q_few : q.first + q.second ≤ 16)
    (order : p.second + q.first < p.first + q.second) (wide : 16 ≤ cols)
    (zero : (k : ℕ) → k < 32 → get_or row k 0 ≡ 0)
    (low : (k : ℕ) → k < p.first → get_or row (32 + k) 0 ≡ get_or a (p.second + k) 0)
    (mid : (k : ℕ) → k < cols - p.first - p.second → get_or row (32 + p.first + k) 0 ≡
    bit_xor (bit_xor (get_or a (p.first + p.second + k) 0) (get_or b (q.first + p.second + k) 0)) (get_or row (32 + p.first + k - (p.first + q.second - p.second - q.first)) 0))
    (high : (k : ℕ) → k < p.second → get_or row (32 + (cols - p.second) + k) 0 ≡ get_or a (cols + k) 0) where
  -- row 1
  second : ℕ → ℕ
  second e = get_or row (32 + e) 0

  -- the word of row 1 that the bin at the greater angle has too
  other : (e j place : ℕ) → p.first + j ≡ p.second + e → e < cols → place ≡ 32 + e - (p.first + q.second - p.second - q.first) →
      (e < p.first + q.second - p.second - q.first) ⊎ (p.first + q.second - p.second - q.first ≤ e) → get_or row place 0 ≡ share cols q.second (λ x. get_or row (32 + x) 0) (q.first + j)
  other e j place meets near is (inl less) =
      zero place (omega arith) ∙ sym (share_low cols q.second (q.first + j) (λ x. get_or row (32 + x) 0) (omega arith))
  other e j place meets near is (inr from) =
      let m : ℕ = e - (p.first + q.second - p.second - q.first) in
      ap (λ x. get_or row x 0) (let same : place ≡ 32 + m = omega arith in same)
      ∙ sym (share_at cols q.second (q.first + j) m (λ x. get_or row (32 + x) 0) (omega arith) (omega arith))

  none : (x y : ℕ) → y ≡ 0 → x ≡ bit_xor x y
  none x y e = sym (ap (bit_xor x) e ∙ xor_zero_r x)

  pub second_is : IsSecond cols p q a b (λ e. get_or row (32 + e) 0)
  second_is e m = by (cases_lt e p.first) (cases_lt e (cols - p.second))
    where
      by : (e < p.first) ⊎ (p.first ≤ e) → (e < cols - p.second) ⊎ (cols - p.second ≤ e) →
          get_or row (32 + e) 0 ≡ bit_xor (get_or a (p.second + e) 0) (share cols p.first (first_row cols q b (λ x. get_or row (32 + x) 0)) (p.second + e))
      by (inl less) d =
          let z : p.second ≡ 0 = second_zero p.first p.second one (omega arith) in
          low e less
          ∙ none (get_or a (p.second + e) 0) (share cols p.first (first_row cols q b (λ x. get_or row (32 + x) 0)) (p.second + e))
          (share_low cols p.first (p.second + e) (first_row cols q b (λ x. get_or row (32 + x) 0)) (omega arith))
      by (inr from) (inl within) =
          let k : ℕ = e - p.first in
          let j : ℕ = p.second + e - p.first in
          let meets : p.first + j ≡ p.second + e = omega arith in
          let here : 32 + e ≡ 32 + p.first + k = omega arith in
          let ours : p.first + p.second + k ≡ p.second + e = omega arith in
          let others : q.first + p.second + k ≡ q.first + j = omega arith in
          let place : 32 + p.first + k - (p.first + q.second - p.second - q.first) ≡ 32 + e - (p.first + q.second - p.second - q.first) = omega arith in
          ap (λ x. get_or row x 0) here
          ∙ mid k (omega arith)
          ∙ ap (λ x. bit_xor (bit_xor (get_or a x 0) (get_or b (q.first + p.second + k) 0)) (get_or row (32 + p.first + k - (p.first + q.second - p.second - q.first)) 0)) ours
          ∙ ap (λ x. bit_xor (bit_xor (get_or a (p.second + e) 0) (get_or b x 0)) (get_or row (32 + p.first + k - (p.first + q.second - p.second - q.first)) 0)) others
          ∙ ap (bit_xor (bit_xor (get_or a (p.second + e) 0) (get_or b (q.first + j) 0)))
          (other e j (32 + p.first + k - (p.first + q.second - p.second - q.first)) meets m place (cases_lt e (p.first + q.second - p.second - q.first)))
          ∙ xor_assoc (get_or a (p.second + e) 0) (get_or b (q.first + j) 0) (share cols q.second (λ x. get_or row (32 + x) 0) (q.first + j))
          ∙ ap (bit_xor (get_or a (p.second + e) 0))
          (sym (share_at cols p.first (p.second + e) j (first_row cols q b (λ x. get_or row (32 + x) 0)) (omega arith) meets))
      by (inr from) (inr behind) =
          let z : p.first ≡ 0 = first_zero p.first p.second one (omega arith) in
          let k : ℕ = e - (cols - p.second) in
          ap (λ x. get_or row x 0) (let here : 32 + e ≡ 32 + (cols - p.second) + k = omega arith in here)
          ∙ high k (omega arith)
          ∙ ap (λ x. get_or a x 0) (let there : cols + k ≡ p.second + e = omega arith in there)
          ∙ none (get_or a (p.second + e) 0) (share cols p.first (first_row cols q b (λ x. get_or row (32 + x) 0)) (p.second + e))
          (share_high cols p.first (p.second + e) (first_row cols q b (λ x. get_or row (32 + x) 0)) (omega arith))

-- what stands in row 0
module _ (cols : ℕ) (q : Starts) (b row out : List ℕ) (one : (q.first ≡ 0) ⊎ (q.second ≡ 0)) (few : q.first + q.second ≤ 16) (wide : 16 ≤ cols)
    (low : (k : ℕ) → k < q.second → get_or out k 0 ≡ get_or b (q.first + k) 0)
    (mid : (k : ℕ) → k < cols - q.first - q.second → get_or out (q.second + k) 0 ≡ bit_xor (get_or b (q.first + q.second + k) 0) (get_or row (32 + q.first + k) 0))
    (high : (k : ℕ) → k < q.first → get_or out (cols - q.first + k) 0 ≡ get_or b (cols + k) 0) where
  nothing : (x y : ℕ) → y ≡ 0 → x ≡ bit_xor x y
  nothing x y e = sym (ap (bit_xor x) e ∙ xor_zero_r x)

  pub first_is : (k : ℕ) → k < cols → get_or out k 0 ≡ first_row cols q b (λ e. get_or row (32 + e) 0) k
  first_is k m = by (cases_lt k q.second) (cases_lt k (cols - q.first))
    where
      by : (k < q.second) ⊎ (q.second ≤ k) → (k < cols - q.first) ⊎ (cols - q.first ≤ k) → get_or out k 0 ≡ first_row cols q b (λ e. get_or row (32 + e) 0) k
      by (inl less) d =
          let z : q.first ≡ 0 = first_zero q.first q.second one (omega arith) in
          low k less
          ∙ nothing (get_or b (q.first + k) 0) (share cols q.second (λ e. get_or row (32 + e) 0) (q.first + k)) (share_low cols q.second (q.first + k) (λ e. get_or row (32 + e) 0) (omega arith))
      by (inr from) (inl within) =
          let i : ℕ = k - q.second in
          ap (λ x. get_or out x 0) (let here : k ≡ q.second + i = omega arith in here)
          ∙ mid i (omega arith)
          ∙ ap (λ x. bit_xor (get_or b x 0) (get_or row (32 + q.first + i) 0)) (let ours : q.first + q.second + i ≡ q.first + k = omega arith in ours)
          ∙ ap (λ x. bit_xor (get_or b (q.first + k) 0) (get_or row x 0)) (let place : 32 + q.first + i ≡ 32 + (q.first + i) = omega arith in place)
          ∙ ap (bit_xor (get_or b (q.first + k) 0)) (sym (share_at cols q.second (q.first + k) (q.first + i) (λ e. get_or row (32 + e) 0) (omega arith) (omega arith)))
      by (inr from) (inr behind) =
          let z : q.second ≡ 0 = second_zero q.first q.second one (omega arith) in
          let i : ℕ = k - (cols - q.first) in
          ap (λ x. get_or out x 0) (let here : k ≡ cols - q.first + i = omega arith in here)
          ∙ high i (omega arith)
          ∙ ap (λ x. get_or b x 0) (let there : cols + i ≡ q.first + k = omega arith in there)
          ∙ nothing (get_or b (q.first + k) 0) (share cols q.second (λ e. get_or row (32 + e) 0) (q.first + k)) (share_high cols q.second (q.first + k) (λ e. get_or row (32 + e) 0) (omega arith))
