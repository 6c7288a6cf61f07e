-- The row that is found on the way down.
use Rattle.std.proofs.Common.{◌≡◌, ℕ, suc, ◌+◌, ◌<◌, ◌≤◌, Bool, true, false, cond, List, [], ◌∷◌, ◌++◌, Option, Some, None, take, drop, length, length-append, sym, ap, ◌∙◌, subst, refl, arith, eqb-true}
use Rattle.std.specs.Prelude.{◌==◌, nat_lt}
use Rattle.std.specs.List.{slice_get}
use Rattle.std.specs.Option.{option_or}
use Rattle.std.proofs.lemmas.Bool.{eq-eqb, ne_eqb, ltb-true, ltb-false}
use Rattle.std.proofs.lemmas.List.{take-append-drop, length-take}
use Rattle.std.proofs.lemmas.List.Folds.{find-append}
use Rattle.rz_blocks.specs.declared.row.Row.{Row}
use Rattle.rz_blocks.specs.Rows.{rank, top, row_at, rows_before, IsSmall, IsRising, IsGap, IsThere}
use Rattle.rz_blocks.proofs.Lists.{around}
use Rattle.rz_blocks.proofs.Rising.{spans, lower, higher, front, back}
use Rattle.rz_blocks.proofs.FoundRows.{gap-end, gap-other, is-there}

-- a small row stands below all places that no row has
pub small-fits : (r : Row) → IsSmall r → rank r < top
small-fits r small = omega (arith, small.list, small.fid, small.index)

-- a row that is there stands at a place of the list
pub place-within : (rows : List Row) (at : ℕ) (r : Row) → rows ≡ take at rows ++ r ∷ drop (suc at) rows → at < length rows
place-within rows at r is =
    let size : length rows ≡ length (take at rows ++ r ∷ drop (suc at) rows) = ap length is in
    omega (arith, size, length-take at rows, length-append (take at rows) (r ∷ drop (suc at) rows))

same_row : (x y : Row) → Some x ≡ Some y → x ≡ y
same_row x y h = cc

-- ---- rows of which none stands at the place

none-above : (low high n : ℕ) (rows : List Row) → n < low → IsRising low high rows → row_at n rows ≡ None
none-above low high n [] less h = refl
none-above low high n (x ∷ rows) less h =
    ap (λ b. cond b (Some x) (row_at n rows)) (ne_eqb (rank x) n (λ same. omega (arith, h.1))) ∙ none-above (rank x + 1) high n rows (omega (arith, h.1)) h.2

none-below : (low high n : ℕ) (rows : List Row) → high ≤ n → IsRising low high rows → row_at n rows ≡ None
none-below low high n [] less h = refl
none-below low high n (x ∷ rows) less h =
    let below : rank x < n = omega (arith, spans (rank x + 1) high rows h.2) in
    ap (λ b. cond b (Some x) (row_at n rows)) (ne_eqb (rank x) n (λ same. omega arith)) ∙ none-below (rank x + 1) high n rows less h.2

-- ---- the search, which goes down

-- the rows that are left rise, and have the row at the place where all have it
pub record IsLeft (rows : List Row) (n : ℕ) (rest : List Row) : Type 0 where
  pub rising : IsRising 0 top rest
  pub looked : row_at n rows ≡ row_at n rest

pub starts : (rows : List Row) (n : ℕ) → IsRising 0 top rows → IsLeft rows n rows
starts rows n rising = record { rising = rising; looked = refl }

module _ (n : ℕ) (rest l : List Row) (x : Row) (r : List Row) (is : rest ≡ l ++ x ∷ r) (rising : IsRising 0 top rest) where
  parts : IsRising 0 top (l ++ x ∷ r)
  parts = subst (IsRising 0 top) is rising

  cut-here : row_at n rest ≡ option_or (row_at n l) (row_at n (x ∷ r))
  cut-here = ap (row_at n) is ∙ find-append (λ row. rank row == n) l (x ∷ r)

  or-none : (o : Option Row) → option_or o None ≡ o
  or-none None = refl
  or-none (Some y) = refl

  pub hit : rank x ≡ n → row_at n rest ≡ Some x
  hit same =
      cut-here ∙ ap (λ o. option_or o (row_at n (x ∷ r))) (none-below 0 (rank x) n l (omega arith) (front 0 top l x r parts))
      ∙ ap (λ b. cond b (Some x) (row_at n r)) (eq-eqb (rank x) n same)

  pub in-right : rank x < n → row_at n rest ≡ row_at n r
  in-right less =
      cut-here ∙ ap (λ o. option_or o (row_at n (x ∷ r))) (none-below 0 (rank x) n l (omega arith) (front 0 top l x r parts))
      ∙ ap (λ b. cond b (Some x) (row_at n r)) (ne_eqb (rank x) n (λ same. omega arith))

  pub in-left : n < rank x → row_at n rest ≡ row_at n l
  in-left more =
      cut-here ∙ ap (λ b. option_or (row_at n l) (cond b (Some x) (row_at n r))) (ne_eqb (rank x) n (λ same. omega arith))
      ∙ ap (option_or (row_at n l)) (none-above (rank x + 1) top n r (omega arith) (back 0 top l x r parts)) ∙ or-none (row_at n l)

module _ (rows : List Row) (n : ℕ) (rest : List Row) (left : IsLeft rows n rest) (l : List Row) (x : Row) (r : List Row) (is : rest ≡ l ++ x ∷ r) where
  pub found : (rank x == n) ≡ true → Some x ≡ row_at n rows
  found same = sym (left.looked ∙ hit n rest l x r is left.rising (eqb-true (rank x) n same))

  pub goes-right : nat_lt (rank x) n ≡ true → IsLeft rows n r
  goes-right h = record {
    rising = lower (rank x + 1) top 0 r (omega arith) (back 0 top l x r (subst (IsRising 0 top) is left.rising));
    looked = left.looked ∙ in-right n rest l x r is left.rising (ltb-true (rank x) n h);
  }

  pub goes-left : (rank x == n) ≡ false → nat_lt (rank x) n ≡ false → IsLeft rows n l
  goes-left other h =
      let rises : IsRising 0 top (l ++ x ∷ r) = subst (IsRising 0 top) is left.rising in
      let differs : rank x ≡ n → ⊥ = λ same. let never : true ≡ false = sym (eq-eqb (rank x) n same) ∙ other in cc in
      let least : n ≤ rank x = ltb-false (rank x) n h in
      record {
        rising = higher 0 (rank x) top l (omega (arith, spans (rank x + 1) top r (back 0 top l x r rises))) (front 0 top l x r rises);
        looked = left.looked ∙ in-left n rest l x r is left.rising (omega (arith, differs));
      }

-- ---- what is found, by its place

module _ (rows : List Row) (n : ℕ) (rising : IsRising 0 top rows) (fits : n < top) (at : ℕ) (count : at ≡ rows_before n rows) where
  none-in-gap : IsGap n rows at → row_at n rows ≡ None
  none-in-gap gap =
      sym (ap (row_at n) (take-append-drop at rows)) ∙ find-append (λ row. rank row == n) (take at rows) (drop at rows)
      ∙ ap (λ o. option_or o (row_at n (drop at rows))) (none-below 0 n n (take at rows) (omega arith) gap.0)
      ∙ none-above (n + 1) top n (drop at rows) (omega arith) gap.1

  differs : (x : Row) → (rank x == n) ≡ false → rank x ≡ n → ⊥
  differs x other same = let never : true ≡ false = sym (eq-eqb (rank x) n same) ∙ other in cc

  pub found-gap : row_at n rows ≡ None → IsGap n rows at
  found-gap none = go (slice_get rows at) refl
    where
      go : (o : Option Row) → slice_get rows at ≡ o → IsGap n rows at
      go None is = gap-end rows n at rising fits count is
      go (Some x) is = this (rank x == n) refl
        where
          this : (b : Bool) → (rank x == n) ≡ b → IsGap n rows at
          this true same = let never : None ≡ Some x = sym none ∙ hit n rows (take at rows) x (drop (suc at) rows) (around rows at x is) rising (eqb-true (rank x) n same) in cc
          this false other = gap-other rows n at rising fits count x is (differs x other)

  pub found-there : (r : Row) → row_at n rows ≡ Some r → IsThere n rows at r
  found-there r some = go (slice_get rows at) refl
    where
      nowhere : IsGap n rows at → IsThere n rows at r
      nowhere gap = let never : None ≡ Some r = sym (none-in-gap gap) ∙ some in cc

      go : (o : Option Row) → slice_get rows at ≡ o → IsThere n rows at r
      go None is = nowhere (gap-end rows n at rising fits count is)
      go (Some x) is = this (rank x == n) refl
        where
          this : (b : Bool) → (rank x == n) ≡ b → IsThere n rows at r
          this true same =
              let one : rank x ≡ n = eqb-true (rank x) n same in
              subst (IsThere n rows at) (same_row x r (sym (hit n rows (take at rows) x (drop (suc at) rows) (around rows at x is) rising one) ∙ some)) (is-there rows n at rising fits count x is one)
          this false other = nowhere (gap-other rows n at rising fits count x is (differs x other))
