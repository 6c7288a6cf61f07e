-- What is at the place where a row has to be.
use Rattle.std.proofs.Common.{◌≡◌, ℕ, suc, ◌+◌, ◌-◌, ◌<◌, ◌≤◌, Bool, true, false, cond, List, ◌∷◌, ◌++◌, Some, None, length, take, drop, sym, ap, subst, arith, length-append}
use Rattle.std.specs.Prelude.{nat_lt}
use Rattle.std.specs.List.{slice_get}
use Rattle.std.proofs.lemmas.Bool.{ltb-true, ltb-false}
use Rattle.rz_blocks.specs.declared.row.Row.{Row}
use Rattle.rz_blocks.specs.Rows.{rank, top, rows_before, IsRising, IsGap, IsThere}
use Rattle.rz_blocks.proofs.Lists.{around, from-item, past}
use Rattle.rz_blocks.proofs.Rising.{spans, lower, higher, cut, front, back, none-before, all-before, count-le, count-append}

-- ---- the search, which goes down

-- of the rows before the end, those that are left rise, and all that are not left are known
pub record IsLeft (rows : List Row) (n : ℕ) (rest : List Row) (end : ℕ) : Type 0 where
  pub rising : IsRising 0 top rest
  pub counted : end + rows_before n rest ≡ rows_before n rows + length rest

pub starts : (rows : List Row) (n end : ℕ) → IsRising 0 top rows → end ≡ length rows → IsLeft rows n rows end
starts rows n end rising same = record { rising = rising; counted = omega arith }

module _ (rows : List Row) (n : ℕ) (rest : List Row) (end : ℕ) (left : IsLeft rows n rest end) (l : List Row) (x : Row) (r : List Row) (is : rest ≡ l ++ x ∷ r) where
  parts : IsRising 0 top (l ++ x ∷ r)
  parts = subst (IsRising 0 top) is left.rising

  total : end + rows_before n (l ++ x ∷ r) ≡ rows_before n rows + length (l ++ x ∷ r)
  total = subst (λ xs. end + rows_before n xs ≡ rows_before n rows + length xs) is left.counted

  here : (b : Bool) → nat_lt (rank x) n ≡ b → rows_before n (x ∷ r) ≡ cond b (suc (rows_before n r)) (rows_before n r)
  here b h = ap (λ t. cond t (suc (rows_before n r)) (rows_before n r)) h

  pub goes-right : nat_lt (rank x) n ≡ true → IsLeft rows n r end
  goes-right h = let below : rank x < n = ltb-true (rank x) n h in record {
    rising = lower (rank x + 1) top 0 r (omega arith) (back 0 top l x r parts);
    counted = omega (arith, total, count-append n l (x ∷ r), here true h, all-before 0 (rank x) n l (omega arith) (front 0 top l x r parts), length-append l (x ∷ r));
  }

  pub left-fits : nat_lt (rank x) n ≡ false → length r + 1 ≤ end
  left-fits h = let above : n ≤ rank x = ltb-false (rank x) n h in omega (arith, total, count-append n l (x ∷ r), here false h, none-before (rank x + 1) top n r (omega arith) (back 0 top l x r parts), length-append l (x ∷ r), count-le n l)

  pub goes-left : nat_lt (rank x) n ≡ false → IsLeft rows n l (end - (length r + 1))
  goes-left h = let above : n ≤ rank x = ltb-false (rank x) n h in record {
    rising = higher 0 (rank x) top l (omega (arith, spans (rank x + 1) top r (back 0 top l x r parts))) (front 0 top l x r parts);
    counted = omega (arith, total, left-fits h, count-append n l (x ∷ r), here false h, none-before (rank x + 1) top n r (omega arith) (back 0 top l x r parts), length-append l (x ∷ r));
  }

-- ---- what is there

module _ (rows : List Row) (n at : ℕ) (rising : IsRising 0 top rows) (fits : n < top) (count : at ≡ rows_before n rows) where
  both : IsRising 0 n (take at rows) × IsRising n top (drop at rows)
  both = subst (λ k. IsRising 0 n (take k rows) × IsRising n top (drop k rows)) (sym count) (cut 0 top n rows (omega arith) (omega arith) rising)

  pub within : at ≤ length rows
  within = omega (arith, count-le n rows)

  pub gap-end : slice_get rows at ≡ None → IsGap n rows at
  gap-end none = (both.0, subst (IsRising (n + 1) top) (sym (past rows at none)) (omega arith))

  pub gap-other : (x : Row) → slice_get rows at ≡ Some x → (rank x ≡ n → ⊥) → IsGap n rows at
  gap-other x is other =
      let rest : IsRising n top (x ∷ drop (suc at) rows) = subst (IsRising n top) (from-item rows at x is) both.1 in
      let rest_above : IsRising (n + 1) top (x ∷ drop (suc at) rows) = (rest.0, omega (arith, rest.1, other), rest.2) in
      (both.0, subst (IsRising (n + 1) top) (sym (from-item rows at x is)) rest_above)

  pub is-there : (x : Row) → slice_get rows at ≡ Some x → rank x ≡ n → IsThere n rows at x
  is-there x is same = (same, around rows at x is)
