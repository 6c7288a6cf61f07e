-- The order of paths, and paths that begin with a path.
use Rattle.std.proofs.Common.{◌≡◌, Bool, true, false, not, ◌&&◌, ◌||◌, ◌⊎◌, [], ◌∷◌, ◌++◌, length, drop, Option, Some, None, Ordering, sym, ap, ◌∙◌, refl, inl, inr}
use Rattle.std.specs.declared.cmp.Ordering.TheVariants.{Less, Equal, Greater}
use Rattle.std.specs.Ordering.{is_eq, is_gt, is_lt, ordering_then}
use Rattle.std.specs.Cmp.{tied_itself, alike_right}
use Rattle.rz_export_model.specs.Paths.{Name, Path, name_cmp, path_cmp, same_name, names_total, paths_total, exact_names, begins_with}
use Rattle.rz_names.specs.Names.{is_after, is_up_to, is_within, by_order}
use Rattle.std.specs.Option.{option_copied}
use Rattle.rz_export_model.proofs.Tests.{eq_true}
use Rattle.rz_names.specs.Cuts.{passes}
use Rattle.rz_names.specs.declared.cuts.PathCut.{PathCut}
use Rattle.rz_names.specs.declared.cuts.PathCut.TheVariants.{Before, Reached, Within, UpTo}
use Rattle.rz_names.proofs.Sorted.{Falls, flipped, unflipped, before-falls}

pub then_less : (r s : Ordering) → ordering_then r s ≡ Less → (r ≡ Less) ⊎ ((r ≡ Equal) × (s ≡ Less))
then_less Less s h = inl refl
then_less Equal s h = inr (refl, h)
then_less Greater s h = cc

pub and_parts : (a b : Bool) → (a && b) ≡ true → (a ≡ true) × (b ≡ true)
and_parts true b h = (refl, h)
and_parts false b h = cc

-- a path that begins with another is that one and more
pub begins-front : (f q : Path) → begins_with f q ≡ true → q ≡ f ++ drop (length f) q
begins-front [] q h = refl
begins-front (m ∷ f) [] h = cc
begins-front (m ∷ f) (n ∷ q) h =
    let parts = and_parts (same_name m n) (begins_with f q) h in
    let same : m ≡ n = exact_names m n (eq_true _ parts.0) in
    let rest : q ≡ f ++ drop (length f) q = begins-front f q parts.1 in
    λ i. sym same i ∷ rest i

pub begins-append : (f r : Path) → begins_with f (f ++ r) ≡ true
begins-append [] r = refl
begins-append (m ∷ f) r = ap (λ b. is_eq b && begins_with f (f ++ r)) (tied_itself names_total m) ∙ begins-append f r

-- a path stands before none that begins with it
pub begins-not_gt : (f q : Path) → begins_with f q ≡ true → is_gt (path_cmp f q) ≡ false
begins-not_gt [] [] h = refl
begins-not_gt [] (n ∷ q) h = refl
begins-not_gt (m ∷ f) [] h = cc
begins-not_gt (m ∷ f) (n ∷ q) h =
    let parts = and_parts (same_name m n) (begins_with f q) h in
    ap (λ r. is_gt (ordering_then r (path_cmp f q))) (eq_true _ parts.0) ∙ begins-not_gt f q parts.1

pub append-cmp : (f a b : Path) → path_cmp (f ++ a) (f ++ b) ≡ path_cmp a b
append-cmp [] a b = refl
append-cmp (m ∷ f) a b = ap (λ r. ordering_then r (path_cmp (f ++ a) (f ++ b))) (tied_itself names_total m) ∙ append-cmp f a b

-- between a path and one that begins with it all begin with it
pub between : (f a b : Path) → path_cmp f a ≡ Less → path_cmp a b ≡ Less → begins_with f b ≡ true → begins_with f a ≡ true
between [] a b fa ab h = refl
between (m ∷ f) [] b fa ab h = cc
between (m ∷ f) (x ∷ a) [] fa ab h = cc
between (m ∷ f) (x ∷ a) (y ∷ b) fa ab h =
    let parts = and_parts (same_name m y) (begins_with f b) h in
    let same : name_cmp m y ≡ Equal = eq_true _ parts.0 in
    elim (then_less (name_cmp m x) (path_cmp f a) fa) [
      | inl less ↦
          let after : name_cmp x y ≡ Greater = sym (alike_right names_total m y x same) ∙ flipped names_total m x less in
          let never : Greater ≡ Less = sym (ap (λ r. ordering_then r (path_cmp a b)) after) ∙ ab in cc
      | inr tie ↦
          let x_y : name_cmp x y ≡ Equal = sym (names_total.congr m x y tie.0) ∙ same in
          let rest : path_cmp a b ≡ Less = sym (ap (λ r. ordering_then r (path_cmp a b)) x_y) ∙ ab in
          ap (λ r. is_eq r && begins_with f a) tie.0 ∙ between f a b tie.1 rest parts.1
    ]

-- a path past one that it does not begin with is past all that begin with it
pub past : (f e x : Path) → path_cmp f e ≡ Less → begins_with f e ≡ false → path_cmp (f ++ x) e ≡ Less
past [] e x less h = cc
past (m ∷ f) [] x less h = cc
past (m ∷ f) (n ∷ e) x less h =
    elim (then_less (name_cmp m n) (path_cmp f e) less) [
      | inl before ↦ ap (λ r. ordering_then r (path_cmp (f ++ x) e)) before
      | inr tie ↦ ap (λ r. ordering_then r (path_cmp (f ++ x) e)) tie.0
          ∙ past f e x tie.1 (sym (ap (λ r. is_eq r && begins_with f e) tie.0) ∙ h)
    ]

-- what stands before a path stands before all that begin with it
pub front-less : (k f x : Path) → path_cmp k f ≡ Less → path_cmp k (f ++ x) ≡ Less
front-less [] [] x less = cc
front-less [] (m ∷ f) x less = refl
front-less (n ∷ k) [] x less = cc
front-less (n ∷ k) (m ∷ f) x less =
    elim (then_less (name_cmp n m) (path_cmp k f) less) [
      | inl before ↦ ap (λ r. ordering_then r (path_cmp k (f ++ x))) before
      | inr tie ↦ ap (λ r. ordering_then r (path_cmp k (f ++ x))) tie.0 ∙ front-less k f x tie.1
    ]

not_less : (r : Ordering) → not (is_lt r) ≡ true → (r ≡ Equal) ⊎ (r ≡ Greater)
not_less Less h = cc
not_less Equal h = inl refl
not_less Greater h = inr refl

or_parts : (a b : Bool) → (a || b) ≡ true → (a ≡ true) ⊎ (b ≡ true)
or_parts true b h = inl refl
or_parts false b h = inr h

or_left : (a b : Bool) → a ≡ true → (a || b) ≡ true
or_left true b h = refl
or_left false b h = cc

or_right : (a b : Bool) → b ≡ true → (a || b) ≡ true
or_right true b h = refl
or_right false b h = h

-- not after f: a path below one at most f
at_most : (f a b : Path) → path_cmp a b ≡ Less → (path_cmp f b ≡ Equal) ⊎ (path_cmp f b ≡ Greater) → not (is_lt (path_cmp f a)) ≡ true
at_most f a b ab (inl same) = ap (λ r. not (is_lt r)) (flipped paths_total a f (alike_right paths_total f b a same ∙ ab))
at_most f a b ab (inr more) = ap (λ r. not (is_lt r)) (flipped paths_total a f (paths_total.trans a b f ab (unflipped paths_total f b more)))

within-step : (f a b : Path) (r : Ordering) → path_cmp f a ≡ r → path_cmp a b ≡ Less → begins_with f b ≡ true → (not (is_lt r) || begins_with f a) ≡ true
within-step f a b Less is ab h = between f a b is ab h
within-step f a b Equal is ab h = refl
within-step f a b Greater is ab h = refl

pub within-falls : (f : Path) → Falls path_cmp (is_within f)
within-falls f a b ab h = elim (or_parts (not (is_lt (path_cmp f b))) (begins_with f b) h) [
  | inl low ↦ or_left _ _ (at_most f a b ab (not_less _ low))
  | inr begins ↦ within-step f a b (path_cmp f a) refl ab begins
]

-- a name not after another stands for the lesser ones too
after-falls : (after : Option Name) (m n : Name) → (name_cmp m n ≡ Less) ⊎ (name_cmp m n ≡ Equal) → not (is_after after n) ≡ true → not (is_after after m) ≡ true
after-falls None m n le h = cc
after-falls (Some x) m n (inl less) h = go (name_cmp x m) refl
  where
    go : (r : Ordering) → name_cmp x m ≡ r → not (is_lt r) ≡ true
    go Less is = let never : not (is_lt Less) ≡ true = sym (ap (λ r. not (is_lt r)) (names_total.trans x m n is less)) ∙ h in never
    go Equal is = refl
    go Greater is = refl
after-falls (Some x) m n (inr same) h = ap (λ r. not (is_lt r)) (alike_right names_total m n x same) ∙ h

by_order-true : (r : Ordering) (b : Bool) → by_order r true b false ≡ true → (r ≡ Less) ⊎ ((r ≡ Equal) × (b ≡ true))
by_order-true Less b h = inl refl
by_order-true Equal b h = inr (refl, h)
by_order-true Greater b h = cc

pub up_to-falls : (path : Path) (after : Option Name) → Falls path_cmp (is_up_to path after)
up_to-falls [] after [] b ab h = refl
up_to-falls [] after (m ∷ a) [] ab h = cc
up_to-falls [] after (m ∷ a) (n ∷ b) ab h =
    elim (then_less (name_cmp m n) (path_cmp a b) ab) [
      | inl less ↦ after-falls after m n (inl less) h
      | inr tie ↦ after-falls after m n (inr tie.0) h
    ]
up_to-falls (p ∷ path) after [] b ab h = refl
up_to-falls (p ∷ path) after (m ∷ a) [] ab h = cc
up_to-falls (p ∷ path) after (m ∷ a) (n ∷ b) ab h =
    let below = by_order-true (name_cmp n p) (is_up_to path after b) h in
    elim (then_less (name_cmp m n) (path_cmp a b) ab) [
      | inl less ↦ elim below [
        | inl n_p ↦ ap (λ r. by_order r true (is_up_to path after a) false) (names_total.trans m n p less n_p)
        | inr tie ↦ ap (λ r. by_order r true (is_up_to path after a) false) (sym (alike_right names_total n p m tie.0) ∙ less)
      ]
      | inr same ↦
          let m_p : name_cmp m p ≡ name_cmp n p = names_total.congr m n p same.0 in
          elim below [
            | inl n_p ↦ ap (λ r. by_order r true (is_up_to path after a) false) (m_p ∙ n_p)
            | inr tie ↦ ap (λ r. by_order r true (is_up_to path after a) false) (m_p ∙ tie.0) ∙ up_to-falls path after a b same.1 tie.1
          ]
    ]

pub not_less-falls : (path : Path) → Falls path_cmp (λ k. not (is_lt (path_cmp path k)))
not_less-falls path a b ab h = at_most path a b ab (not_less _ h)

-- what stands before a cut falls along paths in order
pub passes-falls : (cut : PathCut) → Falls path_cmp (passes cut)
passes-falls (Before names) = before-falls paths_total names.now
passes-falls (Reached names after) = up_to-falls names.now (option_copied after)
passes-falls (Within names) = within-falls names.now
passes-falls (UpTo names) = not_less-falls names.now
