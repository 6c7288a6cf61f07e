-- One row more is written out.
use Rattle.std.proofs.Common.{◌≡◌, ℕ, zero, suc, ◌+◌, ◌*◌, ◌<◌, ◌≤◌, sym, ap, ◌∙◌, arith, rules, ◌⊎◌, inl, inr, List, ◌∷◌, ◌++◌, length, get_or}
use Rattle.std.proofs.lemmas.Bool.{cases_lt}
use Rattle.std.proofs.lemmas.List.{places}
use mathlib.Core.Path.{fun_ext}
use Rattle.mj_inverse_sums.specs.Polynomials.{raised}
use Rattle.mj_inverse.specs.Rows.{cut, block_rows, AreRows}
use Rattle.mj_inverse_sums.proofs.Taken.{place_below}
use Rattle.mj_inverse.proofs.Blocks.{cut_in, cut_out, length-block_rows}

pub cut-same : (cols : ℕ) (v w : ℕ → ℕ) → ((k : ℕ) → k < cols → v k ≡ w k) → cut cols v ≡ cut cols w
cut-same cols v w same = fun_ext (λ k. by k (cases_lt k cols))
  where
    by : (k : ℕ) → (k < cols) ⊎ (cols ≤ k) → cut cols v k ≡ cut cols w k
    by k (inl h) = cut_in cols v k h ∙ same k h ∙ sym (cut_in cols w k h)
    by k (inr h) = cut_out cols v k h ∙ sym (cut_out cols w k h)

front : (xs ys : List ℕ) (i : ℕ) → i < length xs → get_or (xs ++ ys) i 0 ≡ get_or xs i 0
front xs ys i h = search (rules, places)

back : (xs ys : List ℕ) (n i : ℕ) → length xs ≡ n → get_or (xs ++ ys) (n + i) 0 ≡ get_or ys i 0
back xs ys n i h = search (rules, places)

pub rows_more : (cols low n unit j : ℕ) (row others : List ℕ) → j < unit → length row ≡ unit * cols → (f : ℕ → ℕ) (fs : List (ℕ → ℕ)) →
    f ≡ raised (low + 16 * (n + 1)) (cut cols (λ k. get_or row (unit * k + j) 0)) →
    fs ≡ block_rows cols low n (λ i. get_or others (unit * i + j) 0) →
    f ∷ fs ≡ block_rows cols low (suc n) (λ i. get_or (row ++ others) (unit * i + j) 0)
rows_more cols low n unit j row others h long f fs first rest =
    let a : low + 16 * (n + 1) ≡ low + 16 * suc n = omega arith in
    let b : cut cols (λ k. get_or row (unit * k + j) 0) ≡ cut cols (λ i. get_or (row ++ others) (unit * i + j) 0) =
    cut-same cols (λ k. get_or row (unit * k + j) 0) (λ i. get_or (row ++ others) (unit * i + j) 0)
    (λ k l. sym (front row others (unit * k + j) (let m = place_below unit k j cols h l in omega arith))) in
    let d : (λ i. get_or others (unit * i + j) 0) ≡ (λ i. get_or (row ++ others) (unit * (cols + i) + j) 0) =
    fun_ext (λ i.
    let e : unit * (cols + i) + j ≡ unit * cols + (unit * i + j) = omega arith in
    sym (ap (λ x. get_or (row ++ others) x 0) e ∙ back row others (unit * cols) (unit * i + j) long)) in
    ap (λ x. x ∷ fs) (first ∙ ap (λ x. raised x (cut cols (λ k. get_or row (unit * k + j) 0))) a ∙ ap (raised (low + 16 * suc n)) b)
    ∙ ap (λ x. raised (low + 16 * suc n) (cut cols (λ i. get_or (row ++ others) (unit * i + j) 0)) ∷ x) (rest ∙ ap (block_rows cols low n) d)

-- one row more is a row
pub are_more : (cols low at : ℕ) (f : ℕ → ℕ) (fs : List (ℕ → ℕ)) → at ≡ low + 16 * (length fs + 1) → (w : ℕ → ℕ) × (f ≡ raised at (cut cols w)) → AreRows cols low fs →
    AreRows cols low (f ∷ fs)
are_more cols low at f fs e (w, row) rest = ((w, row ∙ ap (λ n. raised n (cut cols w)) (let k : at ≡ low + 16 * suc (length fs) = omega arith in k)), rest)

-- the first of the rows
pub first_row : (cols low at : ℕ) (f : ℕ → ℕ) (fs : List (ℕ → ℕ)) → at ≡ low + 16 * (length fs + 1) → AreRows cols low (f ∷ fs) →
    (w : ℕ → ℕ) × (f ≡ raised at (cut cols w))
first_row cols low at f fs e ((w, row), rest) = (w, row ∙ ap (λ n. raised n (cut cols w)) (let k : low + 16 * suc (length fs) ≡ at = omega arith in k))

-- the rows of a block are rows
pub are-block_rows : (cols low n : ℕ) (w : ℕ → ℕ) → AreRows cols low (block_rows cols low n w)
are-block_rows cols low zero w = tt
are-block_rows cols low (suc n) w =
    let v : ℕ → ℕ = λ i. w (cols + i) in
    let e : low + 16 * suc n ≡ low + 16 * suc (length (block_rows cols low n v)) = ap (λ k. low + 16 * suc k) (sym (length-block_rows cols low n v)) in
    ((w, ap (λ k. raised k (cut cols w)) e), are-block_rows cols low n (λ i. w (cols + i)))
