-- Entries in the order of their keys: what a search by a test finds, and what an edit there does.
use Rattle.std.proofs.Common.{◌≡◌, ℕ, suc, ◌+◌, ◌-◌, ◌≤◌, Bool, true, false, cond, not, ◌&&◌, T, List, [], ◌∷◌, ◌++◌, length, drop, Some, None, is_some, IsTrue, Ordering, sym, ap, ◌∙◌, subst, refl, arith, length-append}
use Rattle.std.specs.declared.cmp.Ordering.TheVariants.{Less, Equal, Greater}
use Rattle.std.specs.List.{insert, remove}
use Rattle.std.specs.Ordering.{is_eq, is_gt, is_lt, eq_by_cmp, ordering_reverse}
use Rattle.std.specs.Cmp.{IsTotalOrder}
use Rattle.rz_names.specs.Entries.{run, value_at}
use Rattle.std.specs.FinMap.Entries.{find, put, is_sorted, below_all, where_key, by_order}
use Rattle.rz_export_model.proofs.Tests.{left, right, both, is_less}

-- where the test holds of a key, it holds of each lesser one
abbrev pub Falls : {K : Type 0} → (K → K → Ordering) → (K → Bool) → Type 0
Falls {K} R p = (a b : K) → R a b ≡ Less → p b ≡ true → p a ≡ true

pub so : (b : Bool) → b ≡ true → T b
so b h = subst T (sym h) tt

pub unso : (b : Bool) → T b → b ≡ true
unso true h = refl
unso false h = absurd h

tied : (r : Ordering) → T (is_eq r) → r ≡ Equal
tied Less h = absurd h
tied Equal h = refl
tied Greater h = absurd h

module _ {K X : Type 0} where
  below_here : (R : K → K → Ordering) (x : K) (l : List (K × X)) (e : K × X) (r : List (K × X)) → T (below_all R x (l ++ e ∷ r)) → R x e.0 ≡ Less
  below_here R x [] e r h = is_less _ (left _ _ h)
  below_here R x (y ∷ l) e r h = below_here R x l e r (right _ _ h)

  below_front : (R : K → K → Ordering) (x : K) (l r : List (K × X)) → T (below_all R x (l ++ r)) → T (below_all R x l)
  below_front R x [] r h = tt
  below_front R x (y ∷ l) r h = both _ _ (left _ _ h) (below_front R x l r (right _ _ h))

  -- the parts of a sorted list are sorted
  pub sorted-front : (R : K → K → Ordering) (l r : List (K × X)) → T (is_sorted R (l ++ r)) → T (is_sorted R l)
  sorted-front R [] r h = tt
  sorted-front R (x ∷ l) r h = both _ _ (below_front R x.0 l r (left _ _ h)) (sorted-front R l r (right _ _ h))

  pub sorted-back : (R : K → K → Ordering) (l : List (K × X)) (e : K × X) (r : List (K × X)) → T (is_sorted R (l ++ e ∷ r)) → T (is_sorted R r)
  sorted-back R [] e r h = right _ _ h
  sorted-back R (x ∷ l) e r h = sorted-back R l e r (right _ _ h)

  -- where a test that falls passes at an entry, it passes at all before it
  pub run-passed : (R : K → K → Ordering) (p : K → Bool) → Falls R p → (l : List (K × X)) (e : K × X) (r : List (K × X)) → T (is_sorted R (l ++ e ∷ r)) → p e.0 ≡ true → run p (l ++ e ∷ r) ≡ length l + suc (run p r)
  run-passed R p falls [] e r h is =
      let here : run p (e ∷ r) ≡ suc (run p r) = ap (λ b. cond b (suc (run p r)) 0) is in omega (arith, here)
  run-passed R p falls (x ∷ l) e r h is =
      let first : run p (x ∷ l ++ e ∷ r) ≡ suc (run p (l ++ e ∷ r)) = ap (λ b. cond b (suc (run p (l ++ e ∷ r))) 0) (falls x.0 e.0 (below_here R x.0 l e r (left _ _ h)) is) in
      omega (arith, first, run-passed R p falls l e r (right _ _ h) is)

  -- where it does not pass at an entry, it ends before it
  pub run-stopped : (p : K → Bool) (l : List (K × X)) (e : K × X) (r : List (K × X)) → p e.0 ≡ false → run p (l ++ e ∷ r) ≡ run p l
  run-stopped p [] e r is = ap (λ b. cond b (suc (run p r)) 0) is
  run-stopped p (x ∷ l) e r is = ap (λ n. cond (p x.0) (suc n) 0) (run-stopped p l e r is)

  pub run_le : (p : K → Bool) (es : List (K × X)) → run p es ≤ length es
  run_le p [] = omega arith
  run_le p (e ∷ es) = elim (p e.0) as (λ b. cond b (suc (run p es)) 0 ≤ suc (length es)) [ true ↦ omega (arith, run_le p es) | false ↦ omega arith ]

-- a search for the run of a test: the run's end is in the rest of the list, which ends at `end`
pub record Search {K X : Type 0} (R : K → K → Ordering) (p : K → Bool) (all rest : List (K × X)) (end : ℕ) : Type 0 where
  pub sorted : IsTrue (is_sorted R rest)
  pub within : length rest ≤ end
  pub place : run p all + length rest ≡ end + run p rest

module _ {K X : Type 0} (R : K → K → Ordering) (p : K → Bool) (all rest l : List (K × X)) (e : K × X) (r : List (K × X)) (end : ℕ) (search_is : Search R p all rest end) (parts : rest ≡ l ++ e ∷ r) where
  sorted_parts : T (is_sorted R (l ++ e ∷ r))
  sorted_parts = so _ (ap (is_sorted R) (sym parts) ∙ search_is.sorted)

  sizes : length rest ≡ length l + suc (length r)
  sizes = ap length parts ∙ length-append l (e ∷ r)

  -- where the test passes at an entry, the end is behind it
  pub search-right : Falls R p → p e.0 ≡ true → Search R p all r end
  search-right falls is =
      let passed : run p rest ≡ length l + suc (run p r) = ap (run p) parts ∙ run-passed R p falls l e r sorted_parts is in
      record {
        sorted = unso _ (sorted-back R l e r sorted_parts);
        within = omega (arith, sizes, search_is.within);
        place = omega (arith, sizes, passed, search_is.place);
      }

  -- where it does not, the end is before it
  pub search-left : (n : ℕ) → n ≡ length r → p e.0 ≡ false → Search R p all l (end - (n + 1))
  search-left n size is =
      let stopped : run p rest ≡ run p l = ap (run p) parts ∙ run-stopped p l e r is in
      record {
        sorted = unso _ (sorted-front R l (e ∷ r) sorted_parts);
        within = omega (arith, size, sizes, search_is.within);
        place = omega (arith, size, sizes, stopped, search_is.within, search_is.place);
      }

is_greater : (r : Ordering) → is_gt r ≡ true → r ≡ Greater
is_greater Less h = cc
is_greater Equal h = cc
is_greater Greater h = refl

module _ {K : Type 0} {R : K → K → Ordering} (o : IsTotalOrder R) where
  pub flipped : (a b : K) → R a b ≡ Less → R b a ≡ Greater
  flipped a b h = o.antisymm b a ∙ ap ordering_reverse h

  pub unflipped : (a b : K) → R a b ≡ Greater → R b a ≡ Less
  unflipped a b h = o.antisymm b a ∙ ap ordering_reverse h

  -- to stand before a key falls
  pub before-falls : (q : K) → Falls R (λ k. is_gt (R q k))
  before-falls q a b less is = ap is_gt (flipped a q (o.trans a b q less (unflipped q b (is_greater (R q b) is))))

module _ {K X : Type 0} {R : K → K → Ordering} (o : IsTotalOrder R) where
  -- nothing is found of a key below all others
  pub unfound : (q x : K) (es : List (K × X)) → R q x ≡ Less → T (below_all R x es) → find R q es ≡ None
  unfound q x [] less h = refl
  unfound q x (e ∷ es) less h =
      ap (λ r. cond (is_eq r) (Some e.1) (find R q es)) (o.trans q x e.0 less (is_less _ (left _ _ h))) ∙ unfound q x es less (right _ _ h)

  find-run_step : (q : K) (e : K × X) (es : List (K × X)) (r : Ordering) → R q e.0 ≡ r → T (below_all R e.0 es) → (n : ℕ) → find R q es ≡ value_at R q (drop n es)
      → cond (is_eq r) (Some e.1) (find R q es) ≡ value_at R q (drop (cond (is_gt r) (suc n) 0) (e ∷ es))
  find-run_step q e es Less is h n rest = unfound q e.0 es is h ∙ sym (ap (λ r. cond (is_eq r) (Some e.1) None) is)
  find-run_step q e es Equal is h n rest = sym (ap (λ r. cond (is_eq r) (Some e.1) None) is)
  find-run_step q e es Greater is h n rest = rest

  -- what is found stands at the end of the run of lesser keys
  pub find-run : (q : K) (es : List (K × X)) → T (is_sorted R es) → find R q es ≡ value_at R q (drop (run (λ k. is_gt (R q k)) es) es)
  find-run q [] h = refl
  find-run q (e ∷ es) h = find-run_step q e es (R q e.0) refl (left _ _ h) _ (find-run q es (right _ _ h))

  insert-run_step : (q : K) (v : X) (e : K × X) (es : List (K × X)) (r : Ordering) (n : ℕ) → cond (is_eq r) (Some e.1) (find R q es) ≡ None → (find R q es ≡ None → insert es n (q, v) ≡ put R q v es)
      → insert (e ∷ es) (cond (is_gt r) (suc n) 0) (q, v) ≡ by_order r ((q, v) ∷ e ∷ es) ((e.0, v) ∷ es) (e ∷ put R q v es)
  insert-run_step q v e es Less n none rest = refl
  insert-run_step q v e es Equal n none rest = cc
  insert-run_step q v e es Greater n none rest = ap (λ more. e ∷ more) (rest none)

  -- a new entry at the end of the run of lesser keys stands in its place
  pub insert-run : (q : K) (v : X) (es : List (K × X)) → find R q es ≡ None → insert es (run (λ k. is_gt (R q k)) es) (q, v) ≡ put R q v es
  insert-run q v [] none = refl
  insert-run q v (e ∷ es) none = insert-run_step q v e es (R q e.0) _ none (insert-run q v es)

  -- all keys are kept above one that is the key
  kept_above : (q x : K) (es : List (K × X)) → R q x ≡ Equal → T (below_all R x es) → where_key R (λ k. not (eq_by_cmp R q k)) es ≡ es
  kept_above q x [] same h = refl
  kept_above q x (e ∷ es) same h =
      ap (λ r. cond (not (is_eq r)) (e ∷ where_key R (λ k. not (eq_by_cmp R q k)) es) (where_key R (λ k. not (eq_by_cmp R q k)) es)) (o.congr q x e.0 same ∙ is_less _ (left _ _ h))
      ∙ ap (λ rest. e ∷ rest) (kept_above q x es same (right _ _ h))

  remove-run_step : (q : K) (e : K × X) (es : List (K × X)) (r : Ordering) → R q e.0 ≡ r → T (below_all R e.0 es) → (n : ℕ) → T (is_some (cond (is_eq r) (Some e.1) (find R q es)))
      → (T (is_some (find R q es)) → remove es n ≡ where_key R (λ k. not (eq_by_cmp R q k)) es)
      → remove (e ∷ es) (cond (is_gt r) (suc n) 0) ≡ cond (not (is_eq r)) (e ∷ where_key R (λ k. not (eq_by_cmp R q k)) es) (where_key R (λ k. not (eq_by_cmp R q k)) es)
  remove-run_step q e es Less is h n there rest = absurd (subst (λ v. T (is_some v)) (unfound q e.0 es is h) there)
  remove-run_step q e es Equal is h n there rest = sym (kept_above q e.0 es is h)
  remove-run_step q e es Greater is h n there rest = ap (λ more. e ∷ more) (rest there)

  -- to remove what stands at the end of the run of lesser keys, where this is the key, is to keep all others
  pub remove-run : (q : K) (es : List (K × X)) → T (is_sorted R es) → T (is_some (find R q es)) → remove es (run (λ k. is_gt (R q k)) es) ≡ where_key R (λ k. not (eq_by_cmp R q k)) es
  remove-run q [] h there = absurd there
  remove-run q (e ∷ es) h there = remove-run_step q e es (R q e.0) refl (left _ _ h) _ there (remove-run q es (right _ _ h))
