-- The names right under a path rise, and are found one after another.
use Rattle.std.proofs.Common.{◌≡◌, ℕ, zero, suc, ◌+◌, ◌-◌, ◌<◌, Bool, true, false, cond, T, List, [], ◌∷◌, ◌++◌, length, take, map, get_or, Option, Some, None, Ordering, sym, ap, ◌∙◌, refl, arith, slice_get}
use Rattle.std.specs.declared.cmp.Ordering.TheVariants.{Less, Equal, Greater}
use Rattle.std.specs.List as lists
use Rattle.std.specs.List.{filter_map, cons_option, AllByRecursion}
use Rattle.std.specs.List.Sorted.{IsSorted}
use Rattle.std.specs.Ordering.{is_lt, ordering_then}
use Rattle.std.specs.Cmp.{tied_itself}
use Rattle.std.specs.FinMap as maps
use Rattle.std.specs.FinMap.{FinMap, entries_sorted}
use Rattle.std.specs.FinMap.Entries.{is_sorted, below_all}
use Rattle.rz_export_model.proofs.Tests.{left, right, is_less, eq_true}
use Rattle.rz_export_model.specs.Paths.{Name, Path, name_cmp, path_cmp, names_total, exact_names, same_name, right_under}
use Rattle.rz_export_model.specs.Tree.{names_under}
use Rattle.rz_names.specs.Names.{is_after, next_name}
use Rattle.rz_tree.proofs.Keys.{same_some, not_none}
use Rattle.rz_names.proofs.Names.{Entries}
use Rattle.rz_names.proofs.PathOrder.{append-cmp}

-- each name is below those after it
abbrev pub Rises : List Name → Type 0
Rises [] = Unit {0}
Rises (x ∷ xs) = AllByRecursion (λ y. name_cmp x y ≡ Less) xs × Rises xs

-- a path right under another is that one with a name more
pub right-is : (p q : Path) (n : Name) → right_under p q ≡ Some n → q ≡ p ++ n ∷ []
right-is [] [] n h = absurd (not_none n (sym h))
right-is [] (m ∷ []) n h = ap (λ x. x ∷ []) (same_some m n h)
right-is [] (m ∷ k ∷ q) n h = absurd (not_none n (sym h))
right-is (m ∷ p) [] n h = absurd (not_none n (sym h))
right-is (m ∷ p) (k ∷ q) n h = go (same_name m k) refl h (right-is p q n)
  where
    go : (b : Bool) → same_name m k ≡ b → cond b (right_under p q) None ≡ Some n → (right_under p q ≡ Some n → q ≡ p ++ n ∷ []) → k ∷ q ≡ (m ∷ p) ++ n ∷ []
    go true is h more =
        let same : m ≡ k = exact_names m k (eq_true _ is) in
        let rest : q ≡ p ++ n ∷ [] = more h in
        λ i. sym same i ∷ rest i
    go false is h more = absurd (not_none n (sym h))

then_equal : (r : Ordering) → ordering_then r Equal ≡ Less → r ≡ Less
then_equal Less h = refl
then_equal Equal h = cc
then_equal Greater h = cc

right-less : (p a b : Path) (x y : Name) → path_cmp a b ≡ Less → right_under p a ≡ Some x → right_under p b ≡ Some y → name_cmp x y ≡ Less
right-less p a b x y less at_a at_b =
    then_equal (name_cmp x y) (sym (ap (λ q. path_cmp q b) (right-is p a x at_a) ∙ ap (path_cmp (p ++ x ∷ [])) (right-is p b y at_b) ∙ append-cmp p (x ∷ []) (y ∷ [])) ∙ less)

abbrev under : Path → Entries → List Name
under p es = filter_map (right_under p) (map (λ e. e.0) es)

above-all : (p a : Path) (x : Name) (es : Entries) → right_under p a ≡ Some x → T (below_all path_cmp a es) → AllByRecursion (λ y. name_cmp x y ≡ Less) (under p es)
above-all p a x [] at h = tt
above-all p a x (e ∷ es) at h = go (right_under p e.0) refl (above-all p a x es at (right _ _ h))
  where
    go : (o : Option Name) → right_under p e.0 ≡ o → AllByRecursion (λ y. name_cmp x y ≡ Less) (under p es) → AllByRecursion (λ y. name_cmp x y ≡ Less) (cons_option o (under p es))
    go None is rest = rest
    go (Some y) is rest = (right-less p a e.0 x y (is_less _ (left _ _ h)) at is, rest)

rises : (p : Path) (es : Entries) → T (is_sorted path_cmp es) → Rises (under p es)
rises p [] h = tt
rises p (e ∷ es) h = go (right_under p e.0) refl (rises p es (right _ _ h))
  where
    go : (o : Option Name) → right_under p e.0 ≡ o → Rises (under p es) → Rises (cons_option o (under p es))
    go None is rest = rest
    go (Some x) is rest = (above-all p e.0 x es is (left _ _ h), rest)

pub under-rises : (names : FinMap path_cmp ℕ) (p : Path) → Rises (names_under names p)
under-rises names p = rises p (maps.entries names) (entries_sorted names)

-- ---- one after another

first-name : (xs : List Name) → lists.find (λ (x : Name). true) xs ≡ slice_get xs 0
first-name [] = refl
first-name (x ∷ xs) = refl

pub next-first : (names : FinMap path_cmp ℕ) (p : Path) → next_name names p None ≡ slice_get (names_under names p) 0
next-first names p = first-name (names_under names p)

greater-lt : (a b : Name) → name_cmp b a ≡ Less → is_lt (name_cmp a b) ≡ false
greater-lt a b h = ap is_lt (names_total.antisymm a b ∙ ap lists_reverse h)
  where
    lists_reverse : Ordering → Ordering
    lists_reverse Less = Greater
    lists_reverse Equal = Equal
    lists_reverse Greater = Less

before-name : (xs : List Name) (x z : Name) (n : ℕ) → AllByRecursion (λ y. name_cmp x y ≡ Less) xs → slice_get xs n ≡ Some z → name_cmp x z ≡ Less
before-name [] x z n all at = absurd (not_none z (sym at))
before-name (y ∷ xs) x z zero all at = ap (name_cmp x) (sym (same_some y z at)) ∙ all.0
before-name (y ∷ xs) x z (suc n) all at = before-name xs x z n all.1 at

all-after : (xs : List Name) (z : Name) → AllByRecursion (λ y. name_cmp z y ≡ Less) xs → lists.find (is_after (Some z)) xs ≡ slice_get xs 0
all-after [] z all = refl
all-after (x ∷ xs) z all = ap (λ r. cond (is_lt r) (Some x) (lists.find (is_after (Some z)) xs)) all.0

find-next : (xs : List Name) (n : ℕ) (z : Name) → Rises xs → slice_get xs n ≡ Some z → lists.find (is_after (Some z)) xs ≡ slice_get xs (suc n)
find-next [] n z up at = absurd (not_none z (sym at))
find-next (x ∷ xs) zero z up at =
    let same : x ≡ z = same_some x z at in
    ap (λ b. cond b (Some x) (lists.find (is_after (Some z)) xs)) (ap (λ y. is_lt (name_cmp z y)) same ∙ ap is_lt (tied_itself names_total z))
    ∙ ap (λ y. lists.find (is_after (Some y)) xs) (sym same) ∙ all-after xs x up.0
find-next (x ∷ xs) (suc n) z up at =
    ap (λ b. cond b (Some x) (lists.find (is_after (Some z)) xs)) (greater-lt z x (before-name xs x z n up.0 at)) ∙ find-next xs n z up.1 at

-- after a name the one behind it is next
pub next-after : (names : FinMap path_cmp ℕ) (p : Path) (n : ℕ) (z : Name) → slice_get (names_under names p) n ≡ Some z → next_name names p (Some z) ≡ slice_get (names_under names p) (suc n)
next-after names p n z at = find-next (names_under names p) n z (under-rises names p) at

pub one-more : (xs : List Name) (n : ℕ) (z : Name) → slice_get xs n ≡ Some z → take (suc n) xs ≡ take n xs ++ z ∷ []
one-more [] n z at = absurd (not_none z (sym at))
one-more (x ∷ xs) zero z at = ap (λ y. y ∷ take 0 xs) (same_some x z at) ∙ ap (λ r. z ∷ r) (nothing xs)
  where
    nothing : (xs : List Name) → take 0 xs ≡ []
    nothing [] = refl
    nothing (x ∷ xs) = refl
one-more (x ∷ xs) (suc n) z at = ap (λ r. x ∷ r) (one-more xs n z at)

pub within-name : (xs : List Name) (n : ℕ) (z : Name) → slice_get xs n ≡ Some z → n < length xs
within-name [] n z at = absurd (not_none z (sym at))
within-name (x ∷ xs) zero z at = omega arith
within-name (x ∷ xs) (suc n) z at = let rest = within-name xs n z at in omega arith

pub all-taken : (xs : List Name) (n : ℕ) → slice_get xs n ≡ None → take n xs ≡ xs
all-taken [] zero at = refl
all-taken [] (suc n) at = refl
all-taken (x ∷ xs) zero at = absurd (not_none x at)
all-taken (x ∷ xs) (suc n) at = ap (λ r. x ∷ r) (all-taken xs n at)

rises-at : (xs : List Name) (i j : ℕ) (d : Name) → Rises xs → i < j → j < length xs → name_cmp (get_or xs i d) (get_or xs j d) ≡ Less
rises-at [] i j d up lt within = absurd (omega arith)
rises-at (x ∷ xs) i zero d up lt within = absurd (omega arith)
rises-at (x ∷ xs) zero (suc j) d up lt within = at xs j up.0 (omega arith)
  where
    at : (ys : List Name) (k : ℕ) → AllByRecursion (λ y. name_cmp x y ≡ Less) ys → k < length ys → name_cmp x (get_or ys k d) ≡ Less
    at [] k all lt = absurd (omega arith)
    at (y ∷ ys) zero all lt = all.0
    at (y ∷ ys) (suc k) all lt = at ys k all.1 (omega arith)
rises-at (x ∷ xs) (suc i) (suc j) d up lt within = rises-at xs i j d up.1 (omega arith) (omega arith)

pub in-order : (xs : List Name) → Rises xs → IsSorted name_cmp xs
in-order xs up = λ k d low lt. greater-lt (get_or xs (k + 1) d) (get_or xs k d) (rises-at xs k (k + 1) d up (omega arith) lt)

length-more : (xs : List Name) (z : Name) → length (xs ++ z ∷ []) ≡ suc (length xs)
length-more [] z = refl
length-more (x ∷ xs) z = ap suc (length-more xs z)

module _ (xs items next : List Name) (z : Name) (is : next ≡ items ++ z ∷ []) (at : slice_get xs (length items) ≡ Some z) where
  -- one name more is listed
  pub listed-more : take (length items) xs ≡ items → take (length next) xs ≡ next
  listed-more so_far =
      ap (λ n. take n xs) (ap length is ∙ length-more items z) ∙ one-more xs (length items) z at ∙ ap (λ r. r ++ z ∷ []) so_far ∙ sym is

  pub listed-length : length next ≡ suc (length items)
  listed-length = ap length is ∙ length-more items z

  -- and one less is left
  pub listed-less : length xs - length next < length xs - length items
  listed-less = omega (arith, listed-length, within-name xs (length items) z at)

pub take-nothing : (xs : List Name) → take 0 xs ≡ []
take-nothing [] = refl
take-nothing (x ∷ xs) = refl
