-- Words read one after the other.
use Rattle.std.proofs.Common.{◌≡◌, ◌≢◌, ℕ, zero, suc, ◌+◌, ◌-◌, ◌*◌, ◌<◌, ◌≤◌, refl, sym, ap, ◌∙◌, subst, arith, ℤ, List, ◌⊎◌, inl, inr}
use Rattle.std.specs.Prelude.{bit_xor, if◌then◌else◌, ◌==◌}
use Rattle.std.proofs.lemmas.Bool.{cases_eq, cases_lt}
use Rattle.std.proofs.lemmas.Grind.{common_steps}
use lib.Bits.{xor_self, xor_assoc, xor_comm, xor_zero_l, xor_zero_r}
use Rattle.mj_angles.proofs.Sums.{xor_below-same, row_within}
use Rattle.mj_angles.specs.Projection.{bins, bin, row_start}
use Rattle.mj_angles.proofs.Order.{slope_sum, lifted, same_bin, lower_before, higher_before}
use Rattle.mj_angles.proofs.Peel.{AnglesFall, ZeroBefore, turn_of, Falls-lifted, bin_alone, bin_next, bin-xor, zero_start, zero_row, zero_turn, same_from_xor}
use Rattle.mj_inverse_four.specs.Rows.{inner, width_of, HasBins, IsSwept, AreBins, AreGiven, beyond, giver, giver_line}

xor_same_right : (a b c : ℕ) → bit_xor a c ≡ bit_xor b c → a ≡ b
xor_same_right a b c e =
    sym (xor_zero_r a) ∙ ap (bit_xor a) (sym (xor_self c)) ∙ sym (xor_assoc a c c) ∙ ap (λ y. bit_xor y c) e ∙ xor_assoc b c c ∙ ap (bit_xor b) (xor_self c) ∙ xor_zero_r b

twice : (a b : ℕ) → bit_xor a (bit_xor a b) ≡ b
twice a b = sym (xor_assoc a a b) ∙ ap (λ y. bit_xor y b) (xor_self a) ∙ xor_zero_l b

-- the words on the line of a word say what its bin is
bin-on_line : (f g : ℕ → ℕ → ℕ) (rows cols : ℕ) (p : ℤ) (b : ℕ) → ((l k : ℕ) → l < rows → k < cols → row_start p rows l + k ≡ b → f l k ≡ g l k) → bin f rows cols p b ≡ bin g rows cols p b
bin-on_line f g rows cols p b same =
    xor_below-same rows _ _ (λ l h. xor_below-same cols _ _ (λ k m. by (row_start p rows l + k) (f l k) (g l k) (same l k h m) (cases_eq (row_start p rows l + k) b)))
  where
    by : (s x y : ℕ) → (s ≡ b → x ≡ y) → (s ≡ b) ⊎ (s ≢ b) → (if s == b then x else 0) ≡ (if s == b then y else 0)
    by s x y h (inl e) = ap (λ z. if s == b then z else 0) (h e)
    by s x y h (inr ne) = grind (arith, common_steps)

-- the bins that gave the words
module _ (f f' : ℕ → ℕ → ℕ) (p : ℕ → ℤ) (rows cols t n k x : ℕ) (fall : AnglesFall p 16 rows) (in_row : n < rows) (in_col : k < cols) (is : k + turn_of p 16 rows n ≡ t)
    (here : f' n k ≡ bit_xor (f n k) (bit_xor x (bin f rows cols (p n) (row_start (p n) rows n + k))))
    (other : (l' k' : ℕ) → l' < rows → k' < cols → (l' ≡ n → k' ≡ k → ⊥) → f' l' k' ≡ f l' k') where
  told_here : bin f' rows cols (p n) (row_start (p n) rows n + k) ≡ x
  told_here =
      let b : ℕ = row_start (p n) rows n + k in
      let v : ℕ = bin f rows cols (p n) b in
      let w : ℕ = bit_xor x v in
      let alone : bin (beyond f' f) rows cols (p n) b ≡ beyond f' f n k =
      bin_alone (beyond f' f) rows cols (p n) n k in_row in_col
      (λ l' k' h m ne e. ap (λ y. bit_xor y (f l' k')) (other l' k' h m (λ same _. ne same)) ∙ xor_self (f l' k')) in
      let one : beyond f' f n k ≡ w = ap (λ y. bit_xor y (f n k)) (here ∙ xor_comm (f n k) w) ∙ xor_assoc w (f n k) (f n k) ∙ ap (bit_xor w) (xor_self (f n k)) ∙ xor_zero_r w in
      let both : bit_xor (bin f' rows cols (p n) b) v ≡ bit_xor x v = sym (bin-xor f' f rows cols (p n) b) ∙ alone ∙ one in
      xor_same_right (bin f' rows cols (p n) b) x v both

  -- a word that was read before is on no line with the one that is read now
  apart : (l' k' : ℕ) → l' < rows → k' < cols → (k' + turn_of p 16 rows l' < t) ⊎ ((k' + turn_of p 16 rows l' ≡ t) × (l' < n)) → row_start (p l') rows n + k ≡ row_start (p l') rows l' + k' → ⊥
  apart l' k' h m early e = by (cases_lt l' n) (cases_lt n l') early
    where
      q : ℕ → ℕ
      q l = lifted 16 (p l)

      meet : lifted 16 (p l') * l' + 16 * n + k' ≡ lifted 16 (p l') * n + 16 * l' + k
      meet = same_bin (p l') 16 rows l' k' n k (fall.small l' h) h in_row e

      by : (l' < n) ⊎ (n ≤ l') → (n < l') ⊎ (l' ≤ n) → (k' + turn_of p 16 rows l' < t) ⊎ ((k' + turn_of p 16 rows l' ≡ t) × (l' < n)) → ⊥
      by (inl above) _ before =
          let lt : k + turn_of p 16 rows n < k' + turn_of p 16 rows l' = lower_before (λ l. lifted 16 (p l)) 16 rows l' k' n k (Falls-lifted p 16 rows fall) above in_row meet in
          late lt before
        where
          late : k + turn_of p 16 rows n < k' + turn_of p 16 rows l' → (k' + turn_of p 16 rows l' < t) ⊎ ((k' + turn_of p 16 rows l' ≡ t) × (l' < n)) → ⊥
          late lt (inl less) = absurd (omega arith)
          late lt (inr same) = let s = same.0 in absurd (omega arith)
      by (inr le) (inl below) before =
          let less : k + turn_of p 16 rows n ≤ k' + turn_of p 16 rows l' = higher_before (λ l. lifted 16 (p l)) 16 rows l' k' n k (Falls-lifted p 16 rows fall) below h meet in
          late less before
        where
          late : k + turn_of p 16 rows n ≤ k' + turn_of p 16 rows l' → (k' + turn_of p 16 rows l' < t) ⊎ ((k' + turn_of p 16 rows l' ≡ t) × (l' < n)) → ⊥
          late less (inl lt) = absurd (omega arith)
          late less (inr same) = let s = same.1 in absurd (omega arith)
      by (inr le) (inr ge) before =
          let row : l' ≡ n = omega arith in
          let starts : row_start (p l') rows n ≡ row_start (p l') rows l' = ap (row_start (p l') rows) (sym row) in
          let col : k ≡ k' = omega arith in
          let turns : turn_of p 16 rows l' ≡ turn_of p 16 rows n = ap (turn_of p 16 rows) row in
          late row col turns before
        where
          late : l' ≡ n → k ≡ k' → turn_of p 16 rows l' ≡ turn_of p 16 rows n → (k' + turn_of p 16 rows l' < t) ⊎ ((k' + turn_of p 16 rows l' ≡ t) × (l' < n)) → ⊥
          late row col turns (inl less) = absurd (omega arith)
          late row col turns (inr same) = let s = same.1 in absurd (omega arith)

  told_still : (l' k' : ℕ) → l' < rows → k' < cols → (k' + turn_of p 16 rows l' < t) ⊎ ((k' + turn_of p 16 rows l' ≡ t) × (l' < n)) →
      bin f' rows cols (p l') (row_start (p l') rows l' + k') ≡ bin f rows cols (p l') (row_start (p l') rows l' + k')
  told_still l' k' h m early =
      bin-on_line f' f rows cols (p l') (row_start (p l') rows l' + k')
      (λ l k'' a b e. other l k'' a b (λ row col.
      let P : ℕ → Type 0 = λ y. row_start (p l') rows y + k'' ≡ row_start (p l') rows l' + k' in
      let Q : ℕ → Type 0 = λ y. row_start (p l') rows n + y ≡ row_start (p l') rows l' + k' in
      apart l' k' h m early (subst Q col (subst P row e))))

  -- w is what the bins are
  pub told_more : (w : ℕ → ℕ → ℕ) → w n (row_start (p n) rows n + k) ≡ x →
      ZeroBefore (λ l k. bit_xor (w l (row_start (p l) rows l + k)) (bin f rows cols (p l) (row_start (p l) rows l + k))) p 16 rows cols t n →
      ZeroBefore (λ l k. bit_xor (w l (row_start (p l) rows l + k)) (bin f' rows cols (p l) (row_start (p l) rows l + k))) p 16 rows cols t (n + 1)
  told_more w gives before =
      zero_row (λ l k. bit_xor (w l (row_start (p l) rows l + k)) (bin f' rows cols (p l) (row_start (p l) rows l + k))) p 16 rows cols t n
      (record {
        earlier = λ l' k' m m' early. ap (bit_xor (w l' (row_start (p l') rows l' + k'))) (told_still l' k' m m' (inl early)) ∙ before.earlier l' k' m m' early;
        now = λ l' k' m m' now above. ap (bit_xor (w l' (row_start (p l') rows l' + k'))) (told_still l' k' m m' (inr (now, above))) ∙ before.now l' k' m m' now above;
      })
      (λ k' m' now. let e : k ≡ k' = omega arith in
      let P : ℕ → Type 0 = λ y. bit_xor (w n (row_start (p n) rows n + y)) (bin f' rows cols (p n) (row_start (p n) rows n + y)) ≡ 0 in
      subst P e (ap (λ y. bit_xor y (bin f' rows cols (p n) (row_start (p n) rows n + k))) gives ∙ ap (bit_xor x) told_here ∙ xor_self x))

module _ (rows cols reach : ℕ) (given : ℕ → ℕ → ℕ → ℕ) (p : ℕ → ℤ) where
  pub swept_start : (grid : List ℕ) (t : ℕ) → AreBins rows cols reach given p grid rows → ((l : ℕ) → l < rows → t ≤ turn_of p 16 rows l) → IsSwept rows cols reach given p grid t 0
  swept_start grid t are first = record {
    later = λ i l k m a b e. are i l k m a b;
    next = λ i l k m a b e e'. are i l k m a b;
    told = λ i m. record {
      earlier = λ l k a b e. let late = first l a in absurd (omega arith);
      now = λ l k a b e e'. absurd (omega arith);
    };
  }

  pub swept_none : (grid : List ℕ) (t n : ℕ) → ((k : ℕ) → k < cols → k + turn_of p 16 rows n ≢ t) → IsSwept rows cols reach given p grid t n → IsSwept rows cols reach given p grid t (n + 1)
  swept_none grid t n none before = record {
    later = before.later;
    next = λ i l k m a b e le. before.next i l k m a b e (omega arith);
    told = λ i m. zero_row (beyond (giver rows given p i) (giver_line rows cols p (inner grid (width_of cols reach) reach i))) p 16 rows cols t n (before.told i m) (λ k a e. absurd (none k a e));
  }

  pub swept_turn : (grid : List ℕ) (t : ℕ) → IsSwept rows cols reach given p grid t rows → IsSwept rows cols reach given p grid (t + 1) 0
  swept_turn grid t before = record {
    later = λ i l k m a b e. before.later i l k m a b (omega arith);
    next = λ i l k m a b e le. before.later i l k m a b (omega arith);
    told = λ i m. zero_turn (beyond (giver rows given p i) (giver_line rows cols p (inner grid (width_of cols reach) reach i))) p 16 rows cols t (before.told i m);
  }

  pub swept_more : (grid grid' : List ℕ) (t n k : ℕ) → AnglesFall p 16 rows → n < rows → k < cols → k + turn_of p 16 rows n ≡ t →
      ((i : ℕ) → i < 4 → inner grid' (width_of cols reach) reach i n k ≡ bin (inner grid (width_of cols reach) reach i) rows cols (p n) (row_start (p n) rows n + k)) →
      ((i l' k' : ℕ) → i < 4 → l' < rows → k' < cols → (l' ≡ n → k' ≡ k → ⊥) → inner grid' (width_of cols reach) reach i l' k' ≡ inner grid (width_of cols reach) reach i l' k') →
      IsSwept rows cols reach given p grid t n → IsSwept rows cols reach given p grid' t (n + 1)
  swept_more grid grid' t n k fall in_row in_col is here other before = record {
    later = λ i l' k' m a b e. other i l' k' m a b (λ row col. after l' k' row col e) ∙ before.later i l' k' m a b e;
    next = λ i l' k' m a b e le. other i l' k' m a b (λ row col. absurd (omega arith)) ∙ before.next i l' k' m a b e (omega arith);
    told = λ i m.
        (let f : ℕ → ℕ → ℕ = inner grid (width_of cols reach) reach i in
        let f' : ℕ → ℕ → ℕ = inner grid' (width_of cols reach) reach i in
        told_more f f' p rows cols t n k (giver rows given p i n k) fall in_row in_col is (gives i m) (λ l' k' a b ne. other i l' k' m a b ne) (given i) refl (before.told i m));
  }
    where
      after : (l' k' : ℕ) → l' ≡ n → k' ≡ k → t < k' + turn_of p 16 rows l' → ⊥
      after l' k' row col late =
          let same : k' + turn_of p 16 rows l' ≡ k + turn_of p 16 rows n = ap (λ x. x + turn_of p 16 rows l') col ∙ ap (λ x. k + turn_of p 16 rows x) row in
          omega arith

      -- what is written is the word that was there, the bin and the sum of its line
      gives : (i : ℕ) → i < 4 → inner grid' (width_of cols reach) reach i n k ≡
          bit_xor (inner grid (width_of cols reach) reach i n k)
          (bit_xor (giver rows given p i n k) (bin (inner grid (width_of cols reach) reach i) rows cols (p n) (row_start (p n) rows n + k)))
      gives i m =
          let f : ℕ → ℕ → ℕ = inner grid (width_of cols reach) reach i in
          let x : ℕ = giver rows given p i n k in
          let v : ℕ = bin f rows cols (p n) (row_start (p n) rows n + k) in
          let was : f n k ≡ x = before.next i n k m in_row in_col is (omega arith) in
          here i m ∙ sym (twice x v) ∙ ap (λ y. bit_xor y (bit_xor x v)) (sym was)

  -- all words were read
  pub swept_all : (grid : List ℕ) (t : ℕ) → IsSwept rows cols reach given p grid t 0 → ((l : ℕ) → l < rows → cols + turn_of p 16 rows l ≤ t) → AreGiven rows cols reach given p grid
  swept_all grid t is late i l k m a b =
      let e = late l a in
      same_from_xor (giver rows given p i l k) (giver_line rows cols p (inner grid (width_of cols reach) reach i) l k) ((is.told i m).earlier l k a b (omega arith))

-- words whose bins that give a word are all zero are zero
module _ (d : ℕ → ℕ → ℕ) (p : ℕ → ℤ) (rows cols : ℕ) (a : AnglesFall p 16 rows)
    (none : (l k : ℕ) → l < rows → k < cols → bin d rows cols (p l) (row_start (p l) rows l + k) ≡ 0) where
  zero_rows : (t n : ℕ) → n ≤ rows → ZeroBefore d p 16 rows cols t 0 → ZeroBefore d p 16 rows cols t n
  zero_rows t zero h before = before
  zero_rows t (suc n) h before =
      let now = zero_rows t n (omega arith) before in
      let e : n + 1 ≡ suc n = omega arith in
      let P : ℕ → Type 0 = λ x. ZeroBefore d p 16 rows cols t x in
      subst P e (zero_row d p 16 rows cols t n now (λ k h' is. sym (bin_next d p 16 rows cols t n k a now (omega arith) h' is) ∙ none n k (omega arith) h'))

  zero_turns : (t : ℕ) → ZeroBefore d p 16 rows cols t 0
  zero_turns zero = zero_start d p 16 rows cols
  zero_turns (suc t) =
      let e : t + 1 ≡ suc t = omega arith in
      let P : ℕ → Type 0 = λ x. ZeroBefore d p 16 rows cols x 0 in
      subst P e (zero_turn d p 16 rows cols t (zero_rows t rows (omega arith) (zero_turns t)))

  given_zero : (l k : ℕ) → l < rows → k < cols → d l k ≡ 0
  given_zero l k h h' = (zero_turns (k + turn_of p 16 rows l + 1)).earlier l k h h' (omega arith)

-- no other words can have all bins
pub only_words : (rows cols reach i : ℕ) (given : ℕ → ℕ → ℕ → ℕ) (p : ℕ → ℤ) (grid : List ℕ) (f : ℕ → ℕ → ℕ) → AnglesFall p 16 rows → i < 4 →
    AreGiven rows cols reach given p grid → ((l : ℕ) → l < rows → HasBins rows cols given p f i l) → (l k : ℕ) → l < rows → k < cols → f l k ≡ inner grid (width_of cols reach) reach i l k
only_words rows cols reach i given p grid f fall small are has l k h m =
    let g : ℕ → ℕ → ℕ = inner grid (width_of cols reach) reach i in
    same_from_xor (f l k) (g l k)
    (given_zero (beyond f g) p rows cols fall
    (λ l' k' a b.
    let s : ℕ = row_start (p l') rows l' + k' in
    let within : row_start (p l') rows l' + k' < bins (p l') rows cols = (let r = row_within (p l') rows cols l' a in omega arith) in
    bin-xor f g rows cols (p l') s ∙ ap (λ x. bit_xor x (bin g rows cols (p l') s)) (sym (has l' a (row_start (p l') rows l' + k') within) ∙ are i l' k' small a b)
    ∙ xor_self (bin g rows cols (p l') s))
    l k h m)

pub slope_sum-step : (q : ℕ → ℕ) (l : ℕ) → 0 < l → slope_sum q (l - 1) + q l ≡ slope_sum q l
slope_sum-step q zero h = absurd (omega arith)
slope_sum-step q (suc m) h = let e : suc m - 1 ≡ m = omega arith in rw e refl
