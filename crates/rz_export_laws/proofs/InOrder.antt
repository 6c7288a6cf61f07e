-- A map that is built of its entries one after another, in the order of their keys.
use Rattle.std.proofs.Common.{◌≡◌, ◌+◌, ◌<◌, Bool, true, false, cond, ◌&&◌, T, List, [], ◌∷◌, ◌++◌, length, drop, Some, None, Ordering, sym, ap, ◌∙◌, subst, refl, arith, append_assoc, append-nil}
use Rattle.std.specs.declared.cmp.Ordering.TheVariants.{Less, Equal, Greater}
use Rattle.std.specs.List.{list_all}
use Rattle.std.specs.Ordering.{is_eq, is_lt, ordering_reverse}
use Rattle.std.specs.Cmp.{IsTotalOrder, tied_itself}
use Rattle.std.specs.FinMap as maps
use Rattle.std.specs.FinMap.{FinMap, IsAntisymmetric, get-entries, entries_sorted, same_entries_map, len-entries, len-empty}
use Rattle.std.specs.FinMap.Entries.{find, is_sorted, below_all}
use Rattle.rz_export_model.proofs.Tests.{left, right, is_less}
use Rattle.rz_tree.specs.Added.{is_behind}
use Rattle.rz_tree.proofs.Keys.{not_none, same_some}
use Rattle.rz_tree.proofs.Lasts.{entries-last}

holds : (b : Bool) → T b → b ≡ true
holds true h = refl
holds false h = absurd h

both : (a b : Bool) → a ≡ true → b ≡ true → (a && b) ≡ true
both true b h k = k
both false b h k = absurd (not_true h)
  where
    not_true : false ≡ true → ⊥
    not_true h = cc

no_entries : {Y : Type 0} (es : List Y) → length es ≡ 0 → es ≡ []
no_entries [] h = refl
no_entries (e ∷ es) h = absurd (omega (arith, h))

length-both : {Y : Type 0} (xs ys : List Y) → length (xs ++ ys) ≡ length xs + length ys
length-both [] ys = omega arith
length-both (x ∷ xs) ys = let rest = length-both xs ys in omega (arith, rest)

module _ {K X : Type 0} {R : K → K → Ordering} (o : IsTotalOrder R) where
  abbrev nothing : FinMap R X
  nothing = maps.empty

  pub empty-entries : maps.entries nothing ≡ []
  empty-entries = no_entries (maps.entries nothing) (sym (len-entries nothing) ∙ len-empty R X)

  -- a key in front of one that is less than all of these is not among them
  none-after : (q k : K) (es : List (K × X)) → R q k ≡ Less → T (below_all R k es) → find R q es ≡ None
  none-after q k [] lt h = refl
  none-after q k (e ∷ es) lt h =
      ap (λ r. cond (is_eq r) (Some e.1) (find R q es)) (o.trans q k e.0 lt (is_less _ (left _ _ h))) ∙ none-after q k es lt (right _ _ h)

  below-mid : (k : K) (xs : List (K × X)) (e : K × X) (ys : List (K × X)) → T (below_all R k (xs ++ e ∷ ys)) → T (is_lt (R k e.0))
  below-mid k [] e ys h = left _ _ h
  below-mid k (x ∷ xs) e ys h = below-mid k xs e ys (right _ _ h)

  -- what stands before an entry is less
  before : (xs : List (K × X)) (e : K × X) (ys : List (K × X)) → T (is_sorted R (xs ++ e ∷ ys)) → list_all (λ x. is_lt (R x.0 e.0)) xs ≡ true
  before [] e ys h = refl
  before (x ∷ xs) e ys h =
      both (is_lt (R x.0 e.0)) (list_all (λ y. is_lt (R y.0 e.0)) xs) (holds _ (below-mid x.0 xs e ys (left _ _ h))) (before xs e ys (right _ _ h))

  after : (xs : List (K × X)) (e : K × X) (ys : List (K × X)) → T (is_sorted R (xs ++ e ∷ ys)) → T (below_all R e.0 ys)
  after [] e ys h = left _ _ h
  after (x ∷ xs) e ys h = after xs e ys (right _ _ h)

  pub find-mid : (xs : List (K × X)) (e : K × X) (ys : List (K × X)) → T (is_sorted R (xs ++ e ∷ ys)) → find R e.0 (xs ++ e ∷ ys) ≡ Some e.1
  find-mid [] e ys h = ap (λ r. cond (is_eq r) (Some e.1) (find R e.0 ys)) (tied_itself o e.0)
  find-mid (x ∷ xs) e ys h =
      ap (λ r. cond (is_eq r) (Some x.1) (find R e.0 (xs ++ e ∷ ys))) (o.antisymm e.0 x.0 ∙ ap ordering_reverse (is_less _ (below-mid x.0 xs e ys (left _ _ h))))
      ∙ find-mid xs e ys (right _ _ h)

  find-front : (q : K) (xs : List (K × X)) (e : K × X) (ys : List (K × X)) → R q e.0 ≡ Less → T (below_all R e.0 ys) → find R q xs ≡ find R q (xs ++ e ∷ ys)
  find-front q [] e ys lt h = sym (ap (λ r. cond (is_eq r) (Some e.1) (find R q ys)) lt ∙ none-after q e.0 ys lt h)
  find-front q (x ∷ xs) e ys lt h = ap (cond (is_eq (R q x.0)) (Some x.1)) (find-front q xs e ys lt h)

  -- the least of all keys, if it is there, stands first
  module _ (exact : IsAntisymmetric R) (k : K) (least : (q : K) → R q k ≡ Less → ⊥) where
    first_by : (e : K × X) (es : List (K × X)) (v : X) (r : Ordering) → R k e.0 ≡ r → T (below_all R e.0 es) → cond (is_eq r) (Some e.1) (find R k es) ≡ Some v → e ∷ es ≡ (k, v) ∷ es
    first_by e es v Less is h at = absurd (not_none v (sym at ∙ none-after k e.0 es is h))
    first_by e es v Equal is h at =
        ap (λ x. (x, e.1) ∷ es) (sym (exact k e.0 is)) ∙ ap (λ x. (k, x) ∷ es) (same_some e.1 v at)
    first_by e es v Greater is h at = absurd (least e.0 (o.antisymm e.0 k ∙ ap ordering_reverse is))

    first : (v : X) (es : List (K × X)) → T (is_sorted R es) → find R k es ≡ Some v → es ≡ (k, v) ∷ drop 1 es
    first v [] h at = absurd (not_none v (sym at))
    first v (e ∷ es) h at = first_by e es v (R k e.0) refl (left _ _ h) at

    pub first-entry : (m : FinMap R X) (v : X) → maps.get m k ≡ Some v → maps.entries m ≡ (k, v) ∷ drop 1 (maps.entries m)
    first-entry m v at = first v (maps.entries m) (entries_sorted m) (sym (get-entries m k) ∙ at)

  module _ (full : FinMap R X) where
    -- the entries that are there, and behind them those that are left, are all entries
    abbrev pub IsBegun : FinMap R X → List (K × X) → Type 0
    IsBegun m es = maps.entries m ++ es ≡ maps.entries full

    in_order : (m : FinMap R X) (es : List (K × X)) → IsBegun m es → T (is_sorted R (maps.entries m ++ es))
    in_order m es is = subst (λ (l : List (K × X)). T (is_sorted R l)) (sym is) (entries_sorted full)

    pub none-yet : IsBegun nothing (maps.entries full)
    none-yet = ap (λ l. l ++ maps.entries full) empty-entries

    pub all-there : (m : FinMap R X) → IsBegun m [] → m ≡ full
    all-there m is = same_entries_map m full (sym (append-nil (maps.entries m)) ∙ is)

    module _ (m : FinMap R X) (e : K × X) (es : List (K × X)) (is : IsBegun m (e ∷ es)) where
      -- the next key stands behind those that are there
      pub next-behind : is_behind m e.0 ≡ true
      next-behind = before (maps.entries m) e es (in_order m (e ∷ es) is)

      pub one-more : IsBegun (maps.insert m e.0 e.1) es
      one-more = ap (λ l. l ++ es) (entries-last o m e.0 next-behind e.1) ∙ append_assoc (maps.entries m) (e ∷ []) es ∙ is

      pub next-in : maps.get full e.0 ≡ Some e.1
      next-in = get-entries full e.0 ∙ ap (find R e.0) (sym is) ∙ find-mid (maps.entries m) e es (in_order m (e ∷ es) is)

      -- what the whole map has before the next key is there
      pub before-there : (q : K) → R q e.0 ≡ Less → maps.get m q ≡ maps.get full q
      before-there q lt =
          get-entries m q ∙ find-front q (maps.entries m) e es lt (after (maps.entries m) e es (in_order m (e ∷ es) is))
          ∙ ap (find R q) is ∙ sym (get-entries full q)

      pub fewer : maps.len m < maps.len full
      fewer =
          let own = len-entries m in
          let all = len-entries full in
          let sum = ap length (sym is) in
          let two = length-both (maps.entries m) (e ∷ es) in
          omega (arith, own, all, sum, two)
