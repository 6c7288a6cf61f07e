-- The entries that begin with a path stand together in order.
use Rattle.std.proofs.Common.{◌≡◌, ℕ, suc, ◌-◌, ◌≤◌, Bool, true, false, cond, not, ◌&&◌, ◌||◌, T, [], ◌∷◌, ◌++◌, take, drop, Some, None, Ordering, sym, ap, ◌∙◌, subst, refl, arith}
use Rattle.std.specs.declared.cmp.Ordering.TheVariants.{Less, Equal, Greater}
use Rattle.std.specs.Ordering.{is_eq, is_gt, is_lt, eq_by_cmp}
use Rattle.std.specs.Cmp.{tied_itself}
use Rattle.std.specs.FinMap.Entries.{find, is_sorted, below_all, where_key}
use Rattle.rz_export_model.proofs.Tests.{left, right, both, is_less}
use Rattle.rz_export_model.specs.Paths.{Path, path_cmp, names_total, paths_total, exact_paths, begins_with}
use Rattle.rz_names.specs.Entries.{run}
use Rattle.rz_names.specs.Names.{is_within}
use Rattle.rz_names.proofs.Sorted.{flipped, unflipped}
use Rattle.rz_names.proofs.PathOrder.{begins-not_gt, between}
use Rattle.rz_names.proofs.Names.{Entries}

-- what becomes of entries in order when those that begin with a path are taken out
pub record Block (p : Path) (l : Entries) : Type 0 where
  pub order : run (λ k. is_gt (path_cmp p k)) l ≤ run (is_within p) l
  pub rest : take (run (λ k. is_gt (path_cmp p k)) l) l ++ drop (run (is_within p) l) l ≡ where_key path_cmp (λ k. not (begins_with p k)) l
  pub block : take (run (is_within p) l - run (λ k. is_gt (path_cmp p k)) l) (drop (run (λ k. is_gt (path_cmp p k)) l) l) ≡ where_key path_cmp (begins_with p) l

begins-itself : (p : Path) → begins_with p p ≡ true
begins-itself [] = refl
begins-itself (m ∷ p) = ap (λ r. is_eq r && begins_with p p) (tied_itself names_total m) ∙ begins-itself p

not_begins : (p k : Path) → path_cmp p k ≡ Greater → (b : Bool) → begins_with p k ≡ b → b ≡ false
not_begins p k is true h = let never : true ≡ false = sym (ap is_gt is) ∙ begins-not_gt p k h in cc
not_begins p k is false h = refl

pub below-trans : (b x : Path) (l : Entries) → path_cmp b x ≡ Less → T (below_all path_cmp x l) → T (below_all path_cmp b l)
below-trans b x [] less h = tt
below-trans b x (e ∷ l) less h =
    both _ _ (subst (λ r. T (is_lt r)) (sym (paths_total.trans b x e.0 less (is_less _ (left _ _ h)))) tt) (below-trans b x l less (right _ _ h))

-- past a path and those that begin with it none begins with it
other-later : (p x k : Path) → path_cmp p x ≡ Less → begins_with p x ≡ false → path_cmp x k ≡ Less → (b : Bool) → begins_with p k ≡ b → b ≡ false
other-later p x k less other later true h = let never : false ≡ true = sym other ∙ between p x k less later h in cc
other-later p x k less other later false h = refl

none_begin : (p x : Path) (l : Entries) → path_cmp p x ≡ Less → begins_with p x ≡ false → T (below_all path_cmp x l) → where_key path_cmp (begins_with p) l ≡ []
none_begin p x [] less other h = refl
none_begin p x (e ∷ l) less other h =
    ap (λ b. cond b (e ∷ where_key path_cmp (begins_with p) l) (where_key path_cmp (begins_with p) l)) (other-later p x e.0 less other (is_less _ (left _ _ h)) _ refl)
    ∙ none_begin p x l less other (right _ _ h)

all_other : (p x : Path) (l : Entries) → path_cmp p x ≡ Less → begins_with p x ≡ false → T (below_all path_cmp x l) → where_key path_cmp (λ k. not (begins_with p k)) l ≡ l
all_other p x [] less other h = refl
all_other p x (e ∷ l) less other h =
    ap (λ b. cond (not b) (e ∷ where_key path_cmp (λ k. not (begins_with p k)) l) (where_key path_cmp (λ k. not (begins_with p k)) l)) (other-later p x e.0 less other (is_less _ (left _ _ h)) _ refl)
    ∙ ap (λ r. e ∷ r) (all_other p x l less other (right _ _ h))

-- what comes after one that does not stand before a path does not either
none_before : (p x : Path) (l : Entries) → is_gt (path_cmp p x) ≡ false → T (below_all path_cmp x l) → run (λ k. is_gt (path_cmp p k)) l ≡ 0
none_before p x [] h below = refl
none_before p x (e ∷ l) h below = go (path_cmp p e.0) refl
  where
    later : path_cmp x e.0 ≡ Less
    later = is_less (path_cmp x e.0) (left (is_lt (path_cmp x e.0)) (below_all path_cmp x l) below)

    go : (r : Ordering) → path_cmp p e.0 ≡ r → cond (is_gt (path_cmp p e.0)) (suc (run (λ k. is_gt (path_cmp p k)) l)) 0 ≡ 0
    go Less is = ap (λ r. cond (is_gt r) (suc (run (λ k. is_gt (path_cmp p k)) l)) 0) is
    go Equal is = ap (λ r. cond (is_gt r) (suc (run (λ k. is_gt (path_cmp p k)) l)) 0) is
    go Greater is =
        let x_p : path_cmp x p ≡ Less = paths_total.trans x e.0 p later (unflipped paths_total p e.0 is) in
        let never : true ≡ false = sym (ap is_gt (flipped paths_total x p x_p)) ∙ h in cc

drop-zero : (l : Entries) → drop 0 l ≡ l
drop-zero [] = refl
drop-zero (e ∷ l) = refl

take-zero : (l : Entries) → take 0 l ≡ []
take-zero [] = refl
take-zero (e ∷ l) = refl

minus-suc : (a b : ℕ) → suc a - suc b ≡ a - b
minus-suc a b = omega arith

minus-zero : (a b : ℕ) → b ≡ 0 → a - b ≡ a
minus-zero a b h = omega arith

module _ (p : Path) (x : Path × ℕ) (l : Entries) (h : T (below_all path_cmp x.0 l)) (tail : Block p l) where
  abbrev low : Path → Bool
  low k = is_gt (path_cmp p k)

  abbrev inside : Path → Bool
  inside k = begins_with p k

  abbrev outside : Path → Bool
  outside k = not (begins_with p k)

  -- an entry before the path
  block-before : path_cmp p x.0 ≡ Greater → Block p (x ∷ l)
  block-before is =
      let other : begins_with p x.0 ≡ false = not_begins p x.0 is _ refl in
      let low_x : run low (x ∷ l) ≡ suc (run low l) = ap (λ r. cond (is_gt r) (suc (run low l)) 0) is in
      let near_x : run (is_within p) (x ∷ l) ≡ suc (run (is_within p) l) = ap (λ r. cond (not (is_lt r) || begins_with p x.0) (suc (run (is_within p) l)) 0) is in
      record {
        order = omega (arith, low_x, near_x, tail.order);
        rest = ap (λ n. take n (x ∷ l) ++ drop (run (is_within p) (x ∷ l)) (x ∷ l)) low_x ∙ ap (λ n. take (suc (run low l)) (x ∷ l) ++ drop n (x ∷ l)) near_x
            ∙ ap (λ r. x ∷ r) tail.rest ∙ sym (ap (λ b. cond (not b) (x ∷ where_key path_cmp outside l) (where_key path_cmp outside l)) other);
        block = ap (λ n. take (run (is_within p) (x ∷ l) - n) (drop n (x ∷ l))) low_x ∙ ap (λ n. take (n - suc (run low l)) (drop (suc (run low l)) (x ∷ l))) near_x
            ∙ ap (λ n. take n (drop (run low l) l)) (minus-suc (run (is_within p) l) (run low l))
            ∙ tail.block ∙ sym (ap (λ b. cond b (x ∷ where_key path_cmp inside l) (where_key path_cmp inside l)) other);
      }

  -- an entry that begins with the path
  block-inside : is_gt (path_cmp p x.0) ≡ false → begins_with p x.0 ≡ true → Block p (x ∷ l)
  block-inside high begins =
      let none : run low l ≡ 0 = none_before p x.0 l high h in
      let low_x : run low (x ∷ l) ≡ 0 = ap (λ b. cond b (suc (run low l)) 0) high in
      let near_x : run (is_within p) (x ∷ l) ≡ suc (run (is_within p) l) = ap (λ b. cond (not (is_lt (path_cmp p x.0)) || b) (suc (run (is_within p) l)) 0) begins ∙ or_true (not (is_lt (path_cmp p x.0))) (suc (run (is_within p) l)) in
      record {
        order = omega (arith, low_x, near_x);
        rest = ap (λ n. take n (x ∷ l) ++ drop (run (is_within p) (x ∷ l)) (x ∷ l)) low_x ∙ ap (λ n. take 0 (x ∷ l) ++ drop n (x ∷ l)) near_x
            ∙ sym (ap (λ n. take n l ++ drop (run (is_within p) l) l) none ∙ ap (λ r. r ++ drop (run (is_within p) l) l) (take-zero l))
            ∙ tail.rest ∙ sym (ap (λ b. cond (not b) (x ∷ where_key path_cmp outside l) (where_key path_cmp outside l)) begins);
        block = ap (λ n. take (run (is_within p) (x ∷ l) - n) (drop n (x ∷ l))) low_x ∙ ap (λ n. take (n - 0) (drop 0 (x ∷ l))) near_x
            ∙ ap (λ n. take n (x ∷ l)) (minus-zero (suc (run (is_within p) l)) 0 refl)
            ∙ ap (λ r. x ∷ r) (sym (ap (λ n. take (run (is_within p) l - n) (drop n l)) none ∙ ap (λ n. take n (drop 0 l)) (minus-zero (run (is_within p) l) 0 refl) ∙ ap (take (run (is_within p) l)) (drop-zero l)) ∙ tail.block)
            ∙ sym (ap (λ b. cond b (x ∷ where_key path_cmp inside l) (where_key path_cmp inside l)) begins);
      }
    where
      or_true : (a : Bool) (n : ℕ) → cond (a || true) n 0 ≡ n
      or_true true n = refl
      or_true false n = refl

  -- an entry past them all
  block-past : path_cmp p x.0 ≡ Less → begins_with p x.0 ≡ false → Block p (x ∷ l)
  block-past less other =
      let low_x : run low (x ∷ l) ≡ 0 = ap (λ r. cond (is_gt r) (suc (run low l)) 0) less in
      let near_x : run (is_within p) (x ∷ l) ≡ 0 =
      ap (λ r. cond (not (is_lt r) || begins_with p x.0) (suc (run (is_within p) l)) 0) less ∙ ap (λ b. cond b (suc (run (is_within p) l)) 0) other in
      record {
        order = omega (arith, low_x, near_x);
        rest = ap (λ n. take n (x ∷ l) ++ drop (run (is_within p) (x ∷ l)) (x ∷ l)) low_x ∙ ap (λ n. take 0 (x ∷ l) ++ drop n (x ∷ l)) near_x
            ∙ sym (ap (λ b. cond (not b) (x ∷ where_key path_cmp outside l) (where_key path_cmp outside l)) other ∙ ap (λ r. x ∷ r) (all_other p x.0 l less other h));
        block = ap (λ n. take (run (is_within p) (x ∷ l) - n) (drop n (x ∷ l))) low_x ∙ ap (λ n. take (n - 0) (drop 0 (x ∷ l))) near_x
            ∙ sym (ap (λ b. cond b (x ∷ where_key path_cmp inside l) (where_key path_cmp inside l)) other ∙ none_begin p x.0 l less other h);
      }

block-step : (p : Path) (x : Path × ℕ) (l : Entries) → T (below_all path_cmp x.0 l) → Block p l → (r : Ordering) → path_cmp p x.0 ≡ r → (b : Bool) → begins_with p x.0 ≡ b → Block p (x ∷ l)
block-step p x l h tail Less is true begins = block-inside p x l h tail (ap is_gt is) begins
block-step p x l h tail Less is false other = block-past p x l h tail is other
block-step p x l h tail Equal is b begins = block-inside p x l h tail (ap is_gt is) (ap (begins_with p) (sym (exact_paths p x.0 is)) ∙ begins-itself p)
block-step p x l h tail Greater is b begins = block-before p x l h tail is

pub block-of : (p : Path) (l : Entries) → T (is_sorted path_cmp l) → Block p l
block-of p [] h = record { order = omega arith; rest = refl; block = refl }
block-of p (x ∷ l) h = block-step p x l (left _ _ h) (block-of p l (right _ _ h)) (path_cmp p x.0) refl (begins_with p x.0) refl

where_absent_step : (q : Path) (e : Path × ℕ) (l : Entries) (b : Bool) → cond b (Some e.1) (find path_cmp q l) ≡ None → (find path_cmp q l ≡ None → where_key path_cmp (λ k. not (eq_by_cmp path_cmp q k)) l ≡ l)
    → cond (not b) (e ∷ where_key path_cmp (λ k. not (eq_by_cmp path_cmp q k)) l) (where_key path_cmp (λ k. not (eq_by_cmp path_cmp q k)) l) ≡ e ∷ l
where_absent_step q e l true none rest = cc
where_absent_step q e l false none rest = ap (λ r. e ∷ r) (rest none)

-- what is not there need not be taken out
pub where_absent : (q : Path) (l : Entries) → find path_cmp q l ≡ None → where_key path_cmp (λ k. not (eq_by_cmp path_cmp q k)) l ≡ l
where_absent q [] none = refl
where_absent q (e ∷ l) none = where_absent_step q e l (eq_by_cmp path_cmp q e.0) none (where_absent q l)
