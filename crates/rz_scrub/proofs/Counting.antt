-- Counts of the numbers that pass a test.
use Rattle.std.proofs.Common.{◌≡◌, ℕ, zero, suc, ◌+◌, ◌-◌, ◌<◌, ◌≤◌, Bool, cond, List, [], ◌∷◌, ◌++◌, refl, sym, arith, ap, ◌∙◌}
use Rattle.std.specs.Prelude.{count_by}
use Rattle.std.specs.List.{range_with_len}
use Rattle.std.proofs.lemmas.List.{map-id}
use Rattle.std.proofs.lemmas.List.FromFn.{map-range_with_len_more, length-range_with_len}
use Rattle.std.proofs.lemmas.List.Sums.{sum_by-cons, sum_by_push, count_by-le-length}

-- 1 for a test that passes
abbrev pub one : Bool → ℕ
one b = cond b 1 0

pub count-cons : (p : ℕ → Bool) (x : ℕ) (xs : List ℕ) → count_by p (x ∷ xs) ≡ one (p x) + count_by p xs
count-cons p x xs = sum_by-cons (λ (y : ℕ). cond (p y) 1 0) x xs

pub count-push : (p : ℕ → Bool) (xs : List ℕ) (y : ℕ) → count_by p (xs ++ y ∷ []) ≡ count_by p xs + one (p y)
count-push p xs y = sum_by_push (λ (x : ℕ). cond (p x) 1 0) xs y

-- what p passes, one of q, r and s passes
pub count-le : (p q r s : ℕ → Bool) → ((x : ℕ) → one (p x) ≤ one (q x) + (one (r x) + one (s x))) → (xs : List ℕ) →
    count_by p xs ≤ count_by q xs + (count_by r xs + count_by s xs)
count-le p q r s each [] = omega arith
count-le p q r s each (x ∷ xs) =
    omega (arith, each x, count-le p q r s each xs, count-cons p x xs, count-cons q x xs, count-cons r x xs, count-cons s x xs)

-- what p passes, just one of q and r passes
pub count-split : (p q r : ℕ → Bool) → ((x : ℕ) → one (p x) ≡ one (q x) + one (r x)) → (xs : List ℕ) → count_by p xs ≡ count_by q xs + count_by r xs
count-split p q r each [] = refl
count-split p q r each (x ∷ xs) = omega (arith, each x, count-split p q r each xs, count-cons p x xs, count-cons q x xs, count-cons r x xs)

-- numbers in a row, with one more at the end
pub range-more : (a n : ℕ) → range_with_len a (n + 1) ≡ range_with_len a n ++ (a + n) ∷ []
range-more a n =
    sym (map-id (range_with_len a (n + 1))) ∙ map-range_with_len_more (λ (x : ℕ). x) a n (a + n) refl
    ∙ ap (λ (xs : List ℕ). xs ++ (a + n) ∷ []) (map-id (range_with_len a n))

pub range-upto : (n : ℕ) → range_with_len 0 (n + 1) ≡ range_with_len 0 n ++ n ∷ []
range-upto n = range-more 0 n ∙ ap (λ (x : ℕ). range_with_len 0 n ++ x ∷ []) (let e : 0 + n ≡ n = omega arith in e)

pub count-upto : (p : ℕ → Bool) (n : ℕ) → count_by p (range_with_len 0 (n + 1)) ≡ count_by p (range_with_len 0 n) + one (p n)
count-upto p n = ap (count_by p) (range-upto n) ∙ count-push p (range_with_len 0 n) n

-- numbers in a row up to n, from the first one on
range-cons : (a m : ℕ) → 0 < m → range_with_len a m ≡ a ∷ range_with_len (a + 1) (m - 1)
range-cons a zero h = absurd (omega arith)
range-cons a (suc m) h = ap (λ (k : ℕ). a ∷ range_with_len (a + 1) k) (let e : m ≡ suc m - 1 = omega arith in e)

pub count-from : (p : ℕ → Bool) (from n : ℕ) → from < n →
    count_by p (range_with_len from (n - from)) ≡ one (p from) + count_by p (range_with_len (from + 1) (n - (from + 1)))
count-from p from n h =
    ap (count_by p) (range-cons from (n - from) (omega arith)) ∙ count-cons p from (range_with_len (from + 1) (n - from - 1))
    ∙ ap (λ (k : ℕ). one (p from) + count_by p (range_with_len (from + 1) k)) (let e : n - from - 1 ≡ n - (from + 1) = omega arith in e)

pub count-few : (p : ℕ → Bool) (from m : ℕ) → count_by p (range_with_len from m) ≤ m
count-few p from m = let few = count_by-le-length p (range_with_len from m) in omega (arith, few, length-range_with_len from m)
