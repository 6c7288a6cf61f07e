use Rattle.std.proofs.Common.{rules, arith, ◌≡◌, ◌≤◌, ◌<◌, ◌+◌, ◌*◌, ◌∙◌, ℕ, List, ◌++◌, length, get_or, ap, sym, subst, length-append}
use Rattle.std.specs.Prelude.{slice_range}
use Rattle.std.proofs.lemmas.List.{places, ext_get_or}
use Rattle.mj_inverse_four.specs.Rows.{IsTaken}
use Rattle.mj_inverse_four.proofs.Cases.{of_four}
use Rattle.mj_inverse_four.proofs.Found.{in_slice, slice_long}
use Rattle.mj_inverse_four.proofs.take.take_four.Goals as goal

slice_is : (xs ys : List ℕ) (a n : ℕ) → length ys ≡ n → a + n ≤ length xs → ((k : ℕ) → k < n → get_or xs (a + k) 0 ≡ get_or ys k 0) → slice_range xs a (a + n) ≡ ys
slice_is xs ys a n long fits at =
    let is = slice_long xs a n fits in
    ext_get_or 0 (slice_range xs a (a + n)) ys (is ∙ sym long) (λ k h. let near : k < n = omega arith in in_slice xs a n k fits near ∙ at k near)

front : (xs ys : List ℕ) (i : ℕ) → i < length xs → get_or (xs ++ ys) i 0 ≡ get_or xs i 0
front xs ys i h = search (rules, places)

back : (xs ys : List ℕ) (n i : ℕ) → length xs ≡ n → get_or (xs ++ ys) (n + i) 0 ≡ get_or ys i 0
back xs ys n i h = search (rules, places)

-- four lists of n words one after the other
module _ (a b c d : List ℕ) (n : ℕ) (la : length a ≡ n) (lb : length b ≡ n) (lc : length c ≡ n) (ld : length d ≡ n) where
  all : List ℕ
  all = a ++ (b ++ (c ++ d))

  long : length (a ++ (b ++ (c ++ d))) ≡ 4 * n
  long =
      let x = length-append a (b ++ (c ++ d)) in
      let y = length-append b (c ++ d) in
      let z = length-append c d in
      omega arith

  at_first : (k : ℕ) → k < n → get_or (a ++ (b ++ (c ++ d))) (0 * n + k) 0 ≡ get_or a k 0
  at_first k h = ap (λ x. get_or (a ++ (b ++ (c ++ d))) x 0) (let e : 0 * n + k ≡ k = omega arith in e) ∙ front a (b ++ (c ++ d)) k (omega arith)

  at_second : (k : ℕ) → k < n → get_or (a ++ (b ++ (c ++ d))) (1 * n + k) 0 ≡ get_or b k 0
  at_second k h = ap (λ x. get_or (a ++ (b ++ (c ++ d))) x 0) (let e : 1 * n + k ≡ n + k = omega arith in e) ∙ back a (b ++ (c ++ d)) n k la ∙ front b (c ++ d) k (omega arith)

  at_third : (k : ℕ) → k < n → get_or (a ++ (b ++ (c ++ d))) (2 * n + k) 0 ≡ get_or c k 0
  at_third k h =
      ap (λ x. get_or (a ++ (b ++ (c ++ d))) x 0) (let e : 2 * n + k ≡ n + (n + k) = omega arith in e) ∙ back a (b ++ (c ++ d)) n (n + k) la ∙ back b (c ++ d) n k lb ∙ front c d k (omega arith)

  at_fourth : (k : ℕ) → k < n → get_or (a ++ (b ++ (c ++ d))) (3 * n + k) 0 ≡ get_or d k 0
  at_fourth k h =
      ap (λ x. get_or (a ++ (b ++ (c ++ d))) x 0) (let e : 3 * n + k ≡ n + (n + (n + k)) = omega arith in e) ∙ back a (b ++ (c ++ d)) n (n + (n + k)) la ∙ back b (c ++ d) n (n + k) lb ∙ back c d n k lc

  four_parts : (P : ℕ → List ℕ → Type 0) → P 0 a → P 1 b → P 2 c → P 3 d → (i : ℕ) → i < 4 → P i (slice_range (a ++ (b ++ (c ++ d))) (i * n) (i * n + n))
  four_parts P pa pb pc pd =
      let l = long in
      of_four (λ i. P i (slice_range (a ++ (b ++ (c ++ d))) (i * n) (i * n + n)))
      (subst (P 0) (sym (slice_is (a ++ (b ++ (c ++ d))) a (0 * n) n la (omega arith) at_first)) pa)
      (subst (P 1) (sym (slice_is (a ++ (b ++ (c ++ d))) b (1 * n) n lb (omega arith) at_second)) pb)
      (subst (P 2) (sym (slice_is (a ++ (b ++ (c ++ d))) c (2 * n) n lc (omega arith) at_third)) pc)
      (subst (P 3) (sym (slice_is (a ++ (b ++ (c ++ d))) d (3 * n) n ld (omega arith) at_fourth)) pd)

pub returns : goal.returns
returns c =
    let n : ℕ = c.args.frame.rows * c.args.frame.cols in
    four_parts c.take_apart.new.a c.take_apart.new.b c.take_apart.new.c c.take_apart.new.d (c.args.frame.rows * c.args.frame.cols)
    c.take_apart.ensures.first.full c.take_apart.ensures.second.full c.take_apart.ensures.third.full c.take_apart.ensures.fourth.full
    (λ i ws. IsTaken c.args.frame.rows c.args.frame.cols c.args.frame.reach c.args.grid.now i ws)
    c.take_apart.ensures.first c.take_apart.ensures.second c.take_apart.ensures.third c.take_apart.ensures.fourth
