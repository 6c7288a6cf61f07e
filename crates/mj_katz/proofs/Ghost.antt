-- A factor has no projection at its angle, and keeps what has none.
use Rattle.std.proofs.Common.{◌≡◌, ◌≢◌, ℕ, zero, suc, ◌+◌, ◌-◌, ◌*◌, ◌<◌, ◌≤◌, refl, sym, ap, ◌∙◌, subst, arith, ◌⊎◌, inl, inr, ℤ, pos, true, false}
use Rattle.std.specs.Prelude.{bit_xor, if◌then◌else◌, ◌==◌, nat_le, negsuc, unsigned_abs}
use Rattle.std.proofs.lemmas.Bool.{cases_lt}
use Rattle.std.proofs.lemmas.Grind.{common_steps}
use lib.Bits.{xor_zero_l, xor_zero_r, xor_self}
use Rattle.mj_angles.specs.Xor.{xor_below}
use Rattle.mj_angles.specs.Projection.{row_start, bin}
use Rattle.mj_katz.specs.Factor.{moved, factor}
use Rattle.mj_angles.proofs.Sums.{xor_below-zero, xor_below-same}
use Rattle.mj_angles.proofs.Peel.{bin-xor}

-- the first r terms are nothing
sum_from : (m r : ℕ) (g : ℕ → ℕ) → ((i : ℕ) → i < r → g i ≡ 0) → xor_below (m + r) g ≡ xor_below m (λ i. g (i + r))
sum_from zero r g none = let e : zero + r ≡ r = omega arith in rw e (xor_below-zero r g none)
sum_from (suc m) r g none =
    let e : suc m + r ≡ suc (m + r) = omega arith in
    rw e (ap (λ x. bit_xor x (g (m + r))) (sum_from m r g none))

-- the last r terms are nothing
sum_to : (m r : ℕ) (h : ℕ → ℕ) → ((i : ℕ) → m ≤ i → i < m + r → h i ≡ 0) → xor_below (m + r) h ≡ xor_below m h
sum_to m zero h none = let e : m + zero ≡ m = omega arith in rw e refl
sum_to m (suc r) h none =
    let e : m + suc r ≡ suc (m + r) = omega arith in
    let last : h (m + r) ≡ 0 = none (m + r) (omega arith) (omega arith) in
    rw (e, last) (xor_zero_r (xor_below (m + r) h) ∙ sum_to m r h (λ i a b. none i a (omega arith)))

-- the terms of g are those of h, r places on
sum_moved : (n r : ℕ) (g h : ℕ → ℕ) → ((i : ℕ) → i < r → g i ≡ 0) → ((i : ℕ) → i + r < n → g (i + r) ≡ h i) →
    ((i : ℕ) → i < n → n ≤ i + r → h i ≡ 0) → xor_below n g ≡ xor_below n h
sum_moved n r g h none same late = by_size (cases_lt n r)
  where
    by_size : (n < r) ⊎ (r ≤ n) → xor_below n g ≡ xor_below n h
    by_size (inl less) = xor_below-zero n g (λ i m. none i (omega arith)) ∙ sym (xor_below-zero n h (λ i m. late i m (omega arith)))
    by_size (inr more) =
        let m : ℕ = n - r in
        let e : m + r ≡ n = omega arith in
        let P : ℕ → Type 0 = λ x. xor_below x g ≡ xor_below x h in
        subst P e
        (sum_from m r g none ∙ xor_below-same m (λ i. g (i + r)) h (λ i l. same i (omega arith))
        ∙ sym (sum_to m r h (λ i a b. late i (omega arith) (omega arith))))

-- the words on bin b + v - u
abbrev pub bin_at : (ℕ → ℕ → ℕ) → ℕ → ℕ → ℤ → ℕ → ℕ → ℕ → ℕ
bin_at f rows cols p u v b = xor_below rows (λ l. xor_below cols (λ k. if row_start p rows l + k + u == b + v then f l k else 0))

-- the words of f lie in the first rows and columns
pub record LiesWithin (f : ℕ → ℕ → ℕ) (rows cols : ℕ) : Type 0 where
  pub below : (l k : ℕ) → rows ≤ l → f l k ≡ 0
  pub beyond : (l k : ℕ) → cols ≤ k → f l k ≡ 0

moved-at : (r c : ℕ) (f : ℕ → ℕ → ℕ) (l k : ℕ) → moved r c f (l + r) (k + c) ≡ f l k
moved-at r c f l k =
    let a : nat_le r (l + r) ≡ true = grind (arith, common_steps) in
    let b : nat_le c (k + c) ≡ true = grind (arith, common_steps) in
    let e : l + r - r ≡ l = omega arith in
    let e' : k + c - c ≡ k = omega arith in
    rw (a, b, e, e') refl

moved-above : (r c : ℕ) (f : ℕ → ℕ → ℕ) (l k : ℕ) → l < r → moved r c f l k ≡ 0
moved-above r c f l k h = let a : nat_le r l ≡ false = grind (arith, common_steps) in rw a refl

moved-left : (r c : ℕ) (f : ℕ → ℕ → ℕ) (l k : ℕ) → k < c → moved r c f (l + r) k ≡ 0
moved-left r c f l k h =
    let a : nat_le r (l + r) ≡ true = grind (arith, common_steps) in
    let b : nat_le c k ≡ false = grind (arith, common_steps) in
    rw (a, b) refl

if_same : (s b x : ℕ) → (if s == b then x else x) ≡ x
if_same s b x = elim (s == b) as (λ t. (if t then x else x) ≡ x) [ true ↦ refl | false ↦ refl ]

same_test : (a b c d x : ℕ) → (a ≡ b → c ≡ d) → (c ≡ d → a ≡ b) → (if a == b then x else 0) ≡ (if c == d then x else 0)
same_test a b c d x there back = grind (arith, common_steps)

-- the bins of words that were moved
bin-moved : (r c : ℕ) (f : ℕ → ℕ → ℕ) (rows cols : ℕ) (p : ℤ) (u v b : ℕ) → LiesWithin f (rows - r) (cols - c) →
    ((l k : ℕ) → l + r < rows → row_start p rows (l + r) + (k + c) + v ≡ row_start p rows l + k + u) →
    bin (moved r c f) rows cols p b ≡ bin_at f rows cols p u v b
bin-moved r c f rows cols p u v b within place =
    sum_moved rows r
    (λ l. xor_below cols (λ k. if row_start p rows l + k == b then moved r c f l k else 0))
    (λ l. xor_below cols (λ k. if row_start p rows l + k + u == b + v then f l k else 0))
    (λ l h. xor_below-zero cols _ (λ k h'. ap (λ x. if row_start p rows l + k == b then x else 0) (moved-above r c f l k h) ∙ if_same (row_start p rows l + k) b 0))
    (λ l h. sum_moved cols c
    (λ k. if row_start p rows (l + r) + k == b then moved r c f (l + r) k else 0)
    (λ k. if row_start p rows l + k + u == b + v then f l k else 0)
    (λ k h'. ap (λ x. if row_start p rows (l + r) + k == b then x else 0) (moved-left r c f l k h') ∙ if_same (row_start p rows (l + r) + k) b 0)
    (λ k h'. ap (λ x. if row_start p rows (l + r) + (k + c) == b then x else 0) (moved-at r c f l k)
    ∙ (let e = place l k h in same_test (row_start p rows (l + r) + (k + c)) b (row_start p rows l + k + u) (b + v) (f l k) (λ z. omega arith) (λ z. omega arith)))
    (λ k h' h''. ap (λ x. if row_start p rows l + k + u == b + v then x else 0) (within.beyond l k (omega arith)) ∙ if_same (row_start p rows l + k + u) (b + v) 0))
    (λ l h h'. xor_below-zero cols _ (λ k m. ap (λ x. if row_start p rows l + k + u == b + v then x else 0) (within.below l k (omega arith)) ∙ if_same (row_start p rows l + k + u) (b + v) 0))

-- words in fewer rows and columns lie in more
pub LiesWithin-more : (f : ℕ → ℕ → ℕ) (r c r' c' : ℕ) → r ≤ r' → c ≤ c' → LiesWithin f r c → LiesWithin f r' c'
LiesWithin-more f r c r' c' h h' is = record {
  below = λ l k m. is.below l k (omega arith);
  beyond = λ l k m. is.beyond l k (omega arith);
}

-- a factor has nothing at its angle
pub factor-nothing : (p : ℤ) (f : ℕ → ℕ → ℕ) (rows cols b : ℕ) → LiesWithin f (rows - 1) (cols - unsigned_abs p) → bin (factor p f) rows cols p b ≡ 0
factor-nothing (pos n) f rows cols b is =
    bin-xor (moved 1 0 f) (moved 0 n f) rows cols (pos n) b
    ∙ ap (λ x. bit_xor x (bin (moved 0 n f) rows cols (pos n) b)) (bin-moved 1 0 f rows cols (pos n) n 0 b (LiesWithin-more f (rows - 1) (cols - n) (rows - 1) (cols - 0) (omega arith) (omega arith) is) (λ l k h. omega arith))
    ∙ ap (bit_xor (bin_at f rows cols (pos n) n 0 b)) (bin-moved 0 n f rows cols (pos n) n 0 b (LiesWithin-more f (rows - 1) (cols - n) (rows - 0) (cols - n) (omega arith) (omega arith) is) (λ l k h. let e : l + 0 ≡ l = omega arith in rw e (omega arith)))
    ∙ xor_self (bin_at f rows cols (pos n) n 0 b)
factor-nothing (negsuc m) f rows cols b is =
    let a : ℕ = m + 1 in
    let size : unsigned_abs (negsuc m) ≡ m + 1 = omega arith in
    bin-xor (moved 1 (m + 1) f) (moved 0 0 f) rows cols (negsuc m) b
    ∙ ap (λ x. bit_xor x (bin (moved 0 0 f) rows cols (negsuc m) b))
    (bin-moved 1 (m + 1) f rows cols (negsuc m) (m + 1) (m + 1) b (LiesWithin-more f _ _ (rows - 1) (cols - (m + 1)) (omega arith) (omega arith) is)
    (λ l k h. let e : rows - 1 - l ≡ rows - 1 - (l + 1) + 1 = omega arith in rw e (omega arith)))
    ∙ ap (bit_xor (bin_at f rows cols (negsuc m) (m + 1) (m + 1) b))
    (bin-moved 0 0 f rows cols (negsuc m) (m + 1) (m + 1) b (LiesWithin-more f _ _ (rows - 0) (cols - 0) (omega arith) (omega arith) is)
    (λ l k h. let e : l + 0 ≡ l = omega arith in rw e (omega arith)))
    ∙ xor_self (bin_at f rows cols (negsuc m) (m + 1) (m + 1) b)

bin_at-nothing : (f : ℕ → ℕ → ℕ) (rows cols : ℕ) (q : ℤ) (u v b : ℕ) → ((b : ℕ) → bin f rows cols q b ≡ 0) → bin_at f rows cols q u v b ≡ 0
bin_at-nothing f rows cols q u v b none = by_size (cases_lt (b + v) u)
  where
    by_size : (b + v < u) ⊎ (u ≤ b + v) → bin_at f rows cols q u v b ≡ 0
    by_size (inl less) = xor_below-zero rows _ (λ l h. xor_below-zero cols _ (λ k h'. not_there (row_start q rows l + k) (f l k) less))
      where
        not_there : (s x : ℕ) → b + v < u → (if s + u == b + v then x else 0) ≡ 0
        not_there s x less = let ne : s + u ≢ b + v = omega arith in grind (arith, common_steps)
    by_size (inr more) =
        xor_below-same rows _ _ (λ l h. xor_below-same cols _ _ (λ k h'. same_test (row_start q rows l + k + u) (b + v) (row_start q rows l + k) (b + v - u) (f l k) (λ z. omega arith) (λ z. omega arith)))
        ∙ none (b + v - u)

-- words that have nothing at the angle q still have nothing once moved
moved-keeps : (q : ℤ) (r c : ℕ) (f : ℕ → ℕ → ℕ) (rows cols : ℕ) → LiesWithin f (rows - r) (cols - c) → ((b : ℕ) → bin f rows cols q b ≡ 0) →
    (b : ℕ) → bin (moved r c f) rows cols q b ≡ 0
moved-keeps (pos n) r c f rows cols is none b =
    bin-moved r c f rows cols (pos n) (n * r + c) 0 b is (λ l k h. omega arith) ∙ bin_at-nothing f rows cols (pos n) (n * r + c) 0 b none
moved-keeps (negsuc m) r c f rows cols is none b =
    bin-moved r c f rows cols (negsuc m) c ((m + 1) * r) b is (λ l k h. let e : rows - 1 - l ≡ rows - 1 - (l + r) + r = omega arith in rw e (omega arith))
    ∙ bin_at-nothing f rows cols (negsuc m) c ((m + 1) * r) b none

pub factor-keeps : (p q : ℤ) (f : ℕ → ℕ → ℕ) (rows cols : ℕ) → LiesWithin f (rows - 1) (cols - unsigned_abs p) → ((b : ℕ) → bin f rows cols q b ≡ 0) →
    (b : ℕ) → bin (factor p f) rows cols q b ≡ 0
factor-keeps (pos n) q f rows cols is none b =
    bin-xor (moved 1 0 f) (moved 0 n f) rows cols q b
    ∙ ap (λ x. bit_xor x (bin (moved 0 n f) rows cols q b)) (moved-keeps q 1 0 f rows cols (LiesWithin-more f _ _ (rows - 1) (cols - 0) (omega arith) (omega arith) is) none b)
    ∙ ap (bit_xor 0) (moved-keeps q 0 n f rows cols (LiesWithin-more f _ _ (rows - 0) (cols - n) (omega arith) (omega arith) is) none b)
factor-keeps (negsuc m) q f rows cols is none b =
    bin-xor (moved 1 (m + 1) f) (moved 0 0 f) rows cols q b
    ∙ ap (λ x. bit_xor x (bin (moved 0 0 f) rows cols q b)) (moved-keeps q 1 (m + 1) f rows cols (LiesWithin-more f _ _ (rows - 1) (cols - (m + 1)) (omega arith) (omega arith) is) none b)
    ∙ ap (bit_xor 0) (moved-keeps q 0 0 f rows cols (LiesWithin-more f _ _ (rows - 0) (cols - 0) (omega arith) (omega arith) is) none b)

moved-zero : (r c : ℕ) (f : ℕ → ℕ → ℕ) (l k : ℕ) → (r ≤ l → c ≤ k → f (l - r) (k - c) ≡ 0) → moved r c f l k ≡ 0
moved-zero r c f l k h = by_place (cases_lt l r) (cases_lt k c)
  where
    by_place : (l < r) ⊎ (r ≤ l) → (k < c) ⊎ (c ≤ k) → moved r c f l k ≡ 0
    by_place (inl a) _ = moved-above r c f l k a
    by_place (inr a) (inl b) =
        let e : l - r + r ≡ l = omega arith in
        let P : ℕ → Type 0 = λ x. moved r c f x k ≡ 0 in
        subst P e (moved-left r c f (l - r) k b)
    by_place (inr a) (inr b) =
        let e : l - r + r ≡ l = omega arith in
        let e' : k - c + c ≡ k = omega arith in
        let P : ℕ → ℕ → Type 0 = λ x y. moved r c f x y ≡ 0 in
        subst (λ x. P x k) e (subst (λ y. P (l - r + r) y) e' (moved-at r c f (l - r) (k - c) ∙ h a b))

moved-lies : (r c : ℕ) (f : ℕ → ℕ → ℕ) (rows cols rows' cols' : ℕ) → rows + r ≤ rows' → cols + c ≤ cols' → LiesWithin f rows cols → LiesWithin (moved r c f) rows' cols'
moved-lies r c f rows cols rows' cols' h h' is = record {
  below = λ l k m. moved-zero r c f l k (λ a b. is.below (l - r) (k - c) (omega arith));
  beyond = λ l k m. moved-zero r c f l k (λ a b. is.beyond (l - r) (k - c) (omega arith));
}

xor_lies : (f g : ℕ → ℕ → ℕ) (rows cols : ℕ) → LiesWithin f rows cols → LiesWithin g rows cols → LiesWithin (λ l k. bit_xor (f l k) (g l k)) rows cols
xor_lies f g rows cols is is' = record {
  below = λ l k m. ap (λ x. bit_xor x (g l k)) (is.below l k m) ∙ ap (bit_xor 0) (is'.below l k m);
  beyond = λ l k m. ap (λ x. bit_xor x (g l k)) (is.beyond l k m) ∙ ap (bit_xor 0) (is'.beyond l k m);
}

pub factor-lies : (p : ℤ) (f : ℕ → ℕ → ℕ) (rows cols : ℕ) → LiesWithin f rows cols → LiesWithin (factor p f) (rows + 1) (cols + unsigned_abs p)
factor-lies (pos n) f rows cols is = xor_lies (moved 1 0 f) (moved 0 n f) (rows + 1) (cols + n) (moved-lies 1 0 f rows cols (rows + 1) (cols + n) (omega arith) (omega arith) is) (moved-lies 0 n f rows cols (rows + 1) (cols + n) (omega arith) (omega arith) is)
factor-lies (negsuc m) f rows cols is = xor_lies (moved 1 (m + 1) f) (moved 0 0 f) (rows + 1) _ (moved-lies 1 (m + 1) f rows cols (rows + 1) _ (omega arith) (omega arith) is) (moved-lies 0 0 f rows cols (rows + 1) _ (omega arith) (omega arith) is)

-- f without the angles before n, and with a word in its first row
pub record IsGhost (p : ℕ → ℤ) (n size rows cols : ℕ) (f : ℕ → ℕ → ℕ) : Type 0 where
  pub nothing : (i : ℕ) → i < n → (b : ℕ) → bin f rows cols (p i) b ≡ 0
  pub lies : LiesWithin f (n + 1) (size + 1)
  pub some : (k : ℕ) × (k ≤ size) × (f 0 k ≡ 1)

factor-first : (p : ℤ) (f : ℕ → ℕ → ℕ) (k : ℕ) → (j : ℕ) × (j ≤ k + unsigned_abs p) × (factor p f 0 j ≡ f 0 k)
factor-first (pos n) f k =
    (k + n, omega arith, ap (λ x. bit_xor x (moved 0 n f 0 (k + n))) (moved-above 1 0 f 0 (k + n) (omega arith)) ∙ xor_zero_l (moved 0 n f 0 (k + n)) ∙ moved-at 0 n f 0 k)
factor-first (negsuc m) f k =
    (k, omega arith, ap (λ x. bit_xor x (moved 0 0 f 0 k)) (moved-above 1 (m + 1) f 0 k (omega arith)) ∙ xor_zero_l (moved 0 0 f 0 k) ∙ (let e : k ≡ k + 0 = omega arith in ap (moved 0 0 f 0) e ∙ moved-at 0 0 f 0 k))

pub ghost_more : (p : ℕ → ℤ) (n size rows cols : ℕ) (f : ℕ → ℕ → ℕ) → n + 1 < rows → size + unsigned_abs (p n) < cols →
    IsGhost p n size rows cols f → IsGhost p (n + 1) (size + unsigned_abs (p n)) rows cols (factor (p n) f)
ghost_more p n size rows cols f room room' is =
    let within : LiesWithin f (rows - 1) (cols - unsigned_abs (p n)) = LiesWithin-more f (n + 1) (size + 1) _ _ (omega arith) (omega arith) is.lies in
    let first = factor-first (p n) f is.some.0 in
    let le = is.some.1 in
    let le' = first.1 in
    record {
      nothing = λ i h b. at i b within (cases_lt i n) h;
      lies = LiesWithin-more (factor (p n) f) (n + 1 + 1) (size + 1 + unsigned_abs (p n)) _ _ (omega arith) (omega arith) (factor-lies (p n) f (n + 1) (size + 1) is.lies);
      some = (first.0, omega arith, first.2 ∙ is.some.2);
    }
  where
    at : (i b : ℕ) → LiesWithin f (rows - 1) (cols - unsigned_abs (p n)) → (i < n) ⊎ (n ≤ i) → i < n + 1 → bin (factor (p n) f) rows cols (p i) b ≡ 0
    at i b within (inl before) h = factor-keeps (p n) (p i) f rows cols within (is.nothing i before) b
    at i b within (inr last) h =
        let e : n ≡ i = omega arith in
        ap (λ x. bin (factor (p n) f) rows cols (p x) b) (sym e) ∙ factor-nothing (p n) f rows cols b within
