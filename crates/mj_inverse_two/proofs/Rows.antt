-- Two rows that follow from the bins.
use Rattle.std.proofs.Common.{◌≡◌, ℕ, zero, suc, ◌+◌, ◌-◌, ◌<◌, ◌≤◌, refl, sym, ap, ◌∙◌, arith, ◌⊎◌, inl, inr, List, get_or}
use Rattle.std.specs.Prelude.{bit_xor}
use Rattle.std.proofs.lemmas.Bool.{cases_lt}
use lib.Bits.{xor_zero_l, xor_zero_r, xor_comm}
use Rattle.mj_inverse_two.specs.declared.starts.Starts.{Starts}
use Rattle.mj_inverse_two.specs.Two.{AreEnds, IsSecond, first_row, share}
use Rattle.mj_inverse_two.proofs.Shares.{share_at, share_low, share_high, share_same, left_of, right_of}

-- the rows g and h have all these bins
pub record HaveBins (cols : ℕ) (s : Starts) (bins : List ℕ) (g h : ℕ → ℕ) : Type 0 where
  pub all : (b : ℕ) → b < cols + (s.first + s.second) → get_or bins b 0 ≡ bit_xor (share cols s.first g b) (share cols s.second h b)

pub second_zero : (x y : ℕ) → (x ≡ 0) ⊎ (y ≡ 0) → 0 < x → y ≡ 0
second_zero x y (inl e) some = absurd (omega arith)
second_zero x y (inr e) some = e

pub first_zero : (x y : ℕ) → (x ≡ 0) ⊎ (y ≡ 0) → 0 < y → x ≡ 0
first_zero x y (inl e) some = e
first_zero x y (inr e) some = absurd (omega arith)

module _ (cols : ℕ) (p q : Starts) (a b : List ℕ) (order : p.second + q.first < p.first + q.second) (f : ℕ → ℕ) (is : IsSecond cols p q a b f) where
  -- other rows that have the bins are the same
  module _ (g h : ℕ → ℕ) (low : HaveBins cols p a g h) (high : HaveBins cols q b g h) where
    first_by : (k : ℕ) → k < cols → g k ≡ first_row cols q b h k
    first_by k m =
        sym (share_at cols q.first (q.first + k) k g m refl)
        ∙ left_of (get_or b (q.first + k) 0) (share cols q.first g (q.first + k)) (share cols q.second h (q.first + k)) (high.all (q.first + k) (omega arith))

    second_by : (e : ℕ) → e < cols → h e ≡ bit_xor (get_or a (p.second + e) 0) (share cols p.first g (p.second + e))
    second_by e m =
        sym (share_at cols p.second (p.second + e) e h m refl)
        ∙ right_of (get_or a (p.second + e) 0) (share cols p.first g (p.second + e)) (share cols p.second h (p.second + e)) (low.all (p.second + e) (omega arith))

    same_below : (n e : ℕ) → e < n → e < cols → h e ≡ f e
    same_below zero e less m = absurd (omega arith)
    same_below (suc n) e less m =
        second_by e m
        ∙ ap (bit_xor (get_or a (p.second + e) 0))
        (share_same cols p.first (p.second + e) g (first_row cols q b f)
        (λ k k_in at. first_by k k_in
        ∙ ap (bit_xor (get_or b (q.first + k) 0))
        (share_same cols q.second (q.first + k) h f (λ j j_in meets. same_below n j (let lt : j < n = omega arith in lt) j_in))))
        ∙ sym (is e m)

    pub second_same : (e : ℕ) → e < cols → h e ≡ f e
    second_same e m = same_below (suc e) e (omega arith) m

    pub first_same : (k : ℕ) → k < cols → g k ≡ first_row cols q b f k
    first_same k m =
        first_by k m ∙ ap (bit_xor (get_or b (q.first + k) 0)) (share_same cols q.second (q.first + k) h f (λ j j_in meets. second_same j j_in))

    -- so these have the bins that gave no word
    pub ends_same : (p.first ≡ 0) ⊎ (p.second ≡ 0) → (q.first ≡ 0) ⊎ (q.second ≡ 0) → p.first + p.second ≤ cols → q.first + q.second ≤ cols → AreEnds cols p q a b f
    ends_same p_one q_one p_few q_few = record {
      low_second = λ i m.
          (let e : q.second ≡ 0 = second_zero q.first q.second q_one (omega arith) in
          high.all i (omega arith)
          ∙ ap (λ x. bit_xor x (share cols q.second h i)) (share_low cols q.first i g m)
          ∙ xor_zero_l (share cols q.second h i)
          ∙ share_at cols q.second i i h (omega arith) (omega arith)
          ∙ second_same i (omega arith));
      high_second = λ i m.
          (let e : q.first ≡ 0 = first_zero q.first q.second q_one (omega arith) in
          high.all (cols + i) (omega arith)
          ∙ ap (λ x. bit_xor x (share cols q.second h (cols + i))) (share_high cols q.first (cols + i) g (omega arith))
          ∙ xor_zero_l (share cols q.second h (cols + i))
          ∙ share_at cols q.second (cols + i) (cols + i - q.second) h (omega arith) (omega arith)
          ∙ second_same (cols + i - q.second) (omega arith));
      low_first = λ i m.
          (let e : p.first ≡ 0 = first_zero p.first p.second p_one (omega arith) in
          low.all i (omega arith)
          ∙ ap (bit_xor (share cols p.first g i)) (share_low cols p.second i h m)
          ∙ xor_zero_r (share cols p.first g i)
          ∙ share_at cols p.first i i g (omega arith) (omega arith)
          ∙ first_same i (omega arith));
      high_first = λ i m.
          (let e : p.second ≡ 0 = second_zero p.first p.second p_one (omega arith) in
          low.all (cols + i) (omega arith)
          ∙ ap (bit_xor (share cols p.first g (cols + i))) (share_high cols p.second (cols + i) h (omega arith))
          ∙ xor_zero_r (share cols p.first g (cols + i))
          ∙ share_at cols p.first (cols + i) (cols + i - p.first) g (omega arith) (omega arith)
          ∙ first_same (cols + i - p.first) (omega arith));
    }

  -- the rows have all bins
  module _ (p_one : (p.first ≡ 0) ⊎ (p.second ≡ 0)) (q_one : (q.first ≡ 0) ⊎ (q.second ≡ 0)) (p_few : p.first + p.second ≤ cols) (q_few : q.first + q.second ≤ cols)
      (ends : AreEnds cols p q a b f) where
    pub low_bins : HaveBins cols p a (first_row cols q b f) f
    low_bins = record { all = λ n m. by n m (cases_lt n p.second) (cases_lt n (p.second + cols)) }
      where
        by : (n : ℕ) → n < cols + (p.first + p.second) → (n < p.second) ⊎ (p.second ≤ n) → (n < p.second + cols) ⊎ (p.second + cols ≤ n) →
            get_or a n 0 ≡ bit_xor (share cols p.first (first_row cols q b f) n) (share cols p.second f n)
        by n m (inl less) d =
            let e : p.first ≡ 0 = first_zero p.first p.second p_one (omega arith) in
            ends.low_first n less
            ∙ sym (share_at cols p.first n n (first_row cols q b f) (omega arith) (omega arith))
            ∙ sym (xor_zero_r (share cols p.first (first_row cols q b f) n))
            ∙ ap (bit_xor (share cols p.first (first_row cols q b f) n)) (sym (share_low cols p.second n f less))
        by n m (inr from) (inl within) =
            let j : ℕ = n - p.second in
            let e : p.second + j ≡ n = omega arith in
            let g : ℕ → ℕ = first_row cols q b f in
            let word : f j ≡ bit_xor (get_or a n 0) (share cols p.first (first_row cols q b f) n) = is j (omega arith) ∙ ap (λ x. bit_xor (get_or a x 0) (share cols p.first (first_row cols q b f) x)) e in
            left_of (f j) (get_or a n 0) (share cols p.first (first_row cols q b f) n) word
            ∙ xor_comm (f j) (share cols p.first (first_row cols q b f) n)
            ∙ ap (bit_xor (share cols p.first (first_row cols q b f) n)) (sym (share_at cols p.second n j f (omega arith) e))
        by n m (inr from) (inr past) =
            let e : p.second ≡ 0 = second_zero p.first p.second p_one (omega arith) in
            let i : ℕ = n - cols in
            let at : cols + i ≡ n = omega arith in
            ap (λ x. get_or a x 0) (sym at)
            ∙ ends.high_first i (omega arith)
            ∙ sym (share_at cols p.first n (cols + i - p.first) (first_row cols q b f) (omega arith) (omega arith))
            ∙ sym (xor_zero_r (share cols p.first (first_row cols q b f) n))
            ∙ ap (bit_xor (share cols p.first (first_row cols q b f) n)) (sym (share_high cols p.second n f (omega arith)))

    pub high_bins : HaveBins cols q b (first_row cols q b f) f
    high_bins = record { all = λ n m. by n m (cases_lt n q.first) (cases_lt n (q.first + cols)) }
      where
        by : (n : ℕ) → n < cols + (q.first + q.second) → (n < q.first) ⊎ (q.first ≤ n) → (n < q.first + cols) ⊎ (q.first + cols ≤ n) →
            get_or b n 0 ≡ bit_xor (share cols q.first (first_row cols q b f) n) (share cols q.second f n)
        by n m (inl less) d =
            let e : q.second ≡ 0 = second_zero q.first q.second q_one (omega arith) in
            ends.low_second n less
            ∙ sym (share_at cols q.second n n f (omega arith) (omega arith))
            ∙ sym (xor_zero_l (share cols q.second f n))
            ∙ ap (λ x. bit_xor x (share cols q.second f n)) (sym (share_low cols q.first n (first_row cols q b f) less))
        by n m (inr from) (inl within) =
            let j : ℕ = n - q.first in
            let e : q.first + j ≡ n = omega arith in
            let word : first_row cols q b f j ≡ bit_xor (get_or b n 0) (share cols q.second f n) = ap (λ x. bit_xor (get_or b x 0) (share cols q.second f x)) e in
            left_of (first_row cols q b f j) (get_or b n 0) (share cols q.second f n) word
            ∙ ap (λ x. bit_xor x (share cols q.second f n)) (sym (share_at cols q.first n j (first_row cols q b f) (omega arith) e))
        by n m (inr from) (inr past) =
            let e : q.first ≡ 0 = first_zero q.first q.second q_one (omega arith) in
            let i : ℕ = n - cols in
            let at : cols + i ≡ n = omega arith in
            ap (λ x. get_or b x 0) (sym at)
            ∙ ends.high_second i (omega arith)
            ∙ sym (share_at cols q.second n (cols + i - q.second) f (omega arith) (omega arith))
            ∙ sym (xor_zero_l (share cols q.second f n))
            ∙ ap (λ x. bit_xor x (share cols q.second f n)) (sym (share_high cols q.first n (first_row cols q b f) (omega arith)))

-- rows with the same words have the same bins
pub bins_same : (cols : ℕ) (s : Starts) (bins : List ℕ) (g h g' h' : ℕ → ℕ) → ((k : ℕ) → k < cols → g k ≡ g' k) → ((k : ℕ) → k < cols → h k ≡ h' k) → HaveBins cols s bins g h → HaveBins cols s bins g' h'
bins_same cols s bins g h g' h' first second has = record {
  all = λ n m.
      has.all n m
      ∙ ap (λ x. bit_xor x (share cols s.second h n)) (share_same cols s.first n g g' (λ k k_in at. first k k_in))
      ∙ ap (bit_xor (share cols s.first g' n)) (share_same cols s.second n h h' (λ k k_in at. second k k_in));
}
