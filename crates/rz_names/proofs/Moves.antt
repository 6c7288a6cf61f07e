-- Entries that are moved from one path to another.
use Rattle.std.proofs.Common.{◌≡◌, ℕ, zero, suc, Bool, true, false, cond, not, ◌&&◌, T, [], ◌∷◌, ◌++◌, length, take, drop, map, Some, None, Ordering, sym, ap, ◌∙◌, subst, refl}
use Rattle.std.specs.declared.cmp.Ordering.TheVariants.{Less, Equal, Greater}
use Rattle.std.specs.List.{list_all}
use Rattle.std.specs.Ordering.{is_eq, is_gt, is_lt, eq_by_cmp}
use Rattle.std.specs.FinMap.Entries.{find, is_sorted, below_all}
use Rattle.rz_export_model.proofs.Tests.{left, right, both, eq_true}
use Rattle.rz_export_model.specs.Paths.{Path, path_cmp, paths_total, exact_paths, begins_with, moved_path}
use Rattle.rz_names.proofs.Sorted.{unflipped}
use Rattle.rz_names.proofs.PathOrder.{and_parts, begins-front, begins-append, append-cmp, past, front-less}
use Rattle.rz_names.proofs.Names.{Entries, place, append-[]}
use Rattle.rz_names.proofs.Blocks.{below-trans}

-- the entries with the front `p` changed to `t`
abbrev pub moves : Path → Path → Entries → Entries
moves p t l = map (λ e. (t ++ drop (length p) e.0, e.1)) l

abbrev pub all_begin : Path → Entries → Bool
all_begin p l = list_all (λ e. begins_with p e.0) l

abbrev pub none_begin : Path → Entries → Bool
none_begin p l = list_all (λ e. not (begins_with p e.0)) l

eq-same : (a b c : Path) → a ≡ b → eq_by_cmp path_cmp a c ≡ eq_by_cmp path_cmp b c
eq-same a b c h = ap (λ x. eq_by_cmp path_cmp x c) h

-- a path that begins with another is none that does not
pub unlike : (t q k : Path) → begins_with t q ≡ true → begins_with t k ≡ false → eq_by_cmp path_cmp q k ≡ false
unlike t q k begins other = go (eq_by_cmp path_cmp q k) refl
  where
    go : (b : Bool) → eq_by_cmp path_cmp q k ≡ b → b ≡ false
    go true is = let never : true ≡ false = sym begins ∙ ap (begins_with t) (exact_paths q k (eq_true _ is)) ∙ other in cc
    go false is = refl

pub unlike-back : (t q k : Path) → begins_with t q ≡ false → begins_with t k ≡ true → eq_by_cmp path_cmp q k ≡ false
unlike-back t q k other begins = go (eq_by_cmp path_cmp q k) refl
  where
    go : (b : Bool) → eq_by_cmp path_cmp q k ≡ b → b ≡ false
    go true is = let never : false ≡ true = sym other ∙ ap (begins_with t) (exact_paths q k (eq_true _ is)) ∙ begins in cc
    go false is = refl

pub not_true : (b : Bool) → not b ≡ true → b ≡ false
not_true true h = cc
not_true false h = refl

-- ---- the moved entries

moved-eq : (p t r x : Path) → begins_with p x ≡ true → eq_by_cmp path_cmp (t ++ r) (t ++ drop (length p) x) ≡ eq_by_cmp path_cmp (p ++ r) x
moved-eq p t r x begins =
    ap is_eq (append-cmp t r (drop (length p) x) ∙ sym (append-cmp p r (drop (length p) x))) ∙ ap (eq_by_cmp path_cmp (p ++ r)) (sym (begins-front p x begins))

pub find-moves : (p t r : Path) (l : Entries) → all_begin p l ≡ true → find path_cmp (t ++ r) (moves p t l) ≡ find path_cmp (p ++ r) l
find-moves p t r [] h = refl
find-moves p t r (e ∷ l) h =
    let parts = and_parts (begins_with p e.0) (all_begin p l) h in
    ap (λ b. cond b (Some e.1) (find path_cmp (t ++ r) (moves p t l))) (moved-eq p t r e.0 parts.0)
    ∙ ap (λ o. cond (eq_by_cmp path_cmp (p ++ r) e.0) (Some e.1) o) (find-moves p t r l parts.1)

pub moves-begin : (p t : Path) (l : Entries) → all_begin t (moves p t l) ≡ true
moves-begin p t [] = refl
moves-begin p t (e ∷ l) = ap (λ b. b && all_begin t (moves p t l)) (begins-append t (drop (length p) e.0)) ∙ moves-begin p t l

moved-cmp : (p t a b : Path) → begins_with p a ≡ true → begins_with p b ≡ true → path_cmp (t ++ drop (length p) a) (t ++ drop (length p) b) ≡ path_cmp a b
moved-cmp p t a b ha hb =
    append-cmp t (drop (length p) a) (drop (length p) b) ∙ sym (append-cmp p (drop (length p) a) (drop (length p) b))
    ∙ ap (λ x. path_cmp x (p ++ drop (length p) b)) (sym (begins-front p a ha)) ∙ ap (path_cmp a) (sym (begins-front p b hb))

below-moves : (p t x : Path) (l : Entries) → begins_with p x ≡ true → all_begin p l ≡ true → T (below_all path_cmp x l) → T (below_all path_cmp (t ++ drop (length p) x) (moves p t l))
below-moves p t x [] begins all h = tt
below-moves p t x (e ∷ l) begins all h =
    let parts = and_parts (begins_with p e.0) (all_begin p l) all in
    both _ _ (subst (λ r. T (is_lt r)) (sym (moved-cmp p t x e.0 begins parts.0)) (left _ _ h)) (below-moves p t x l begins parts.1 (right _ _ h))

pub sorted-moves : (p t : Path) (l : Entries) → all_begin p l ≡ true → T (is_sorted path_cmp l) → T (is_sorted path_cmp (moves p t l))
sorted-moves p t [] all h = tt
sorted-moves p t (e ∷ l) all h =
    let parts = and_parts (begins_with p e.0) (all_begin p l) all in
    both _ _ (below-moves p t e.0 l parts.0 parts.1 (left _ _ h)) (sorted-moves p t l parts.1 (right _ _ h))

-- ---- a block that is put in its place

-- entries that begin with `t`, at the place of `t` among others
abbrev pub spliced : Path → Entries → Entries → Entries
spliced t block l = take (place t l) l ++ (block ++ drop (place t l) l)

abbrev pub cut : Path → Entries → Entries → ℕ → Entries
cut t block l n = take n l ++ (block ++ drop n l)

pub below-append : (x : Path) (a b : Entries) → T (below_all path_cmp x a) → T (below_all path_cmp x b) → T (below_all path_cmp x (a ++ b))
below-append x [] b ha hb = hb
below-append x (e ∷ a) b ha hb = both _ _ (left _ _ ha) (below-append x a b (right _ _ ha) hb)

pub below-take : (x : Path) (n : ℕ) (l : Entries) → T (below_all path_cmp x l) → T (below_all path_cmp x (take n l))
below-take x zero [] h = tt
below-take x (suc n) [] h = tt
below-take x zero (e ∷ l) h = tt
below-take x (suc n) (e ∷ l) h = both _ _ (left _ _ h) (below-take x n l (right _ _ h))

pub below-drop : (x : Path) (n : ℕ) (l : Entries) → T (below_all path_cmp x l) → T (below_all path_cmp x (drop n l))
below-drop x zero [] h = tt
below-drop x (suc n) [] h = tt
below-drop x zero (e ∷ l) h = h
below-drop x (suc n) (e ∷ l) h = below-drop x n l (right _ _ h)

-- what stands before `t` stands before a block of paths that begin with it
pub before-block : (t x : Path) (block : Entries) → all_begin t block ≡ true → path_cmp x t ≡ Less → T (below_all path_cmp x block)
before-block t x [] all less = tt
before-block t x (b ∷ block) all less =
    let parts = and_parts (begins_with t b.0) (all_begin t block) all in
    both _ _ (subst (λ r. T (is_lt r)) (sym (ap (path_cmp x) (begins-front t b.0 parts.0) ∙ front-less x t (drop (length t) b.0) less)) tt) (before-block t x block parts.1 less)

-- such a block stands before what is past `t` and does not begin with it
block-before : (t x : Path) (l block : Entries) → all_begin t block ≡ true → T (is_sorted path_cmp block) → path_cmp t x ≡ Less → begins_with t x ≡ false → T (is_sorted path_cmp l) → T (below_all path_cmp x l) → (v : ℕ) → T (is_sorted path_cmp (block ++ (x, v) ∷ l))
block-before t x l [] all sorted less other rest below v = both _ _ below rest
block-before t x l (b ∷ block) all sorted less other rest below v =
    let parts = and_parts (begins_with t b.0) (all_begin t block) all in
    let b_x : path_cmp b.0 x ≡ Less = ap (λ k. path_cmp k x) (begins-front t b.0 parts.0) ∙ past t x (drop (length t) b.0) less other in
    both _ _
    (below-append b.0 block ((x, v) ∷ l) (left _ _ sorted) (both _ _ (subst (λ r. T (is_lt r)) (sym b_x) tt) (below-trans b.0 x l b_x below)))
    (block-before t x l block parts.1 (right _ _ sorted) less other rest below v)

block-alone : (block : Entries) → block ++ [] ≡ block
block-alone [] = refl
block-alone (b ∷ block) = ap (λ r. b ∷ r) (block-alone block)

sorted-spliced_step : (t : Path) (block : Entries) (e : Path × ℕ) (l : Entries) (r : Ordering) → path_cmp t e.0 ≡ r → all_begin t block ≡ true → T (is_sorted path_cmp block)
    → begins_with t e.0 ≡ false → T (below_all path_cmp e.0 l) → T (is_sorted path_cmp l) → (n : ℕ) → T (is_sorted path_cmp (cut t block l n)) → T (is_sorted path_cmp (cut t block (e ∷ l) (cond (is_gt r) (suc n) 0)))
sorted-spliced_step t block e l Less is all sorted other below rest n tail = block-before t e.0 l block all sorted is other rest below e.1
sorted-spliced_step t block e l Equal is all sorted other below rest n tail =
    let never : true ≡ false = sym (begins-append t []) ∙ ap (begins_with t) (append-[] t ∙ exact_paths t e.0 is) ∙ other in cc
sorted-spliced_step t block e l Greater is all sorted other below rest n tail =
    both _ _ (below-append e.0 (take n l) (block ++ drop n l) (below-take e.0 n l below)
    (below-append e.0 block (drop n l) (before-block t e.0 block all (unflipped paths_total t e.0 is)) (below-drop e.0 n l below))) tail

pub sorted-spliced : (t : Path) (block l : Entries) → all_begin t block ≡ true → T (is_sorted path_cmp block) → none_begin t l ≡ true → T (is_sorted path_cmp l) → T (is_sorted path_cmp (spliced t block l))
sorted-spliced t block [] all sorted none h = subst (λ b. T (is_sorted path_cmp b)) (sym (block-alone block)) sorted
sorted-spliced t block (e ∷ l) all sorted none h =
    let parts = and_parts (not (begins_with t e.0)) (none_begin t l) none in
    sorted-spliced_step t block e l (path_cmp t e.0) refl all sorted (not_true _ parts.0) (left _ _ h) (right _ _ h) (place t l) (sorted-spliced t block l all sorted parts.1 (right _ _ h))

-- ---- what is found there

find-append_in : (t q : Path) (block l : Entries) → begins_with t q ≡ true → none_begin t l ≡ true → find path_cmp q (block ++ l) ≡ find path_cmp q block
find-append_in t q [] [] begins none = refl
find-append_in t q [] (e ∷ l) begins none =
    let parts = and_parts (not (begins_with t e.0)) (none_begin t l) none in
    ap (λ b. cond b (Some e.1) (find path_cmp q l)) (unlike t q e.0 begins (not_true _ parts.0)) ∙ find-append_in t q [] l begins parts.1
find-append_in t q (b ∷ block) l begins none = ap (λ o. cond (eq_by_cmp path_cmp q b.0) (Some b.1) o) (find-append_in t q block l begins none)

find-append_out : (t q : Path) (block l : Entries) → begins_with t q ≡ false → all_begin t block ≡ true → find path_cmp q (block ++ l) ≡ find path_cmp q l
find-append_out t q [] l other all = refl
find-append_out t q (b ∷ block) l other all =
    let parts = and_parts (begins_with t b.0) (all_begin t block) all in
    ap (λ c. cond c (Some b.1) (find path_cmp q (block ++ l))) (unlike-back t q b.0 other parts.0) ∙ find-append_out t q block l other parts.1

none-drop : (t : Path) (n : ℕ) (l : Entries) → none_begin t l ≡ true → none_begin t (drop n l) ≡ true
none-drop t zero [] h = refl
none-drop t (suc n) [] h = refl
none-drop t zero (e ∷ l) h = h
none-drop t (suc n) (e ∷ l) h = let parts = and_parts (not (begins_with t e.0)) (none_begin t l) h in none-drop t n l parts.1

pub find-cut_in : (t q : Path) (block : Entries) (n : ℕ) (l : Entries) → begins_with t q ≡ true → none_begin t l ≡ true → find path_cmp q (cut t block l n) ≡ find path_cmp q block
find-cut_in t q block zero [] begins none = find-append_in t q block [] begins refl
find-cut_in t q block (suc n) [] begins none = find-append_in t q block [] begins refl
find-cut_in t q block zero (e ∷ l) begins none = find-append_in t q block (e ∷ l) begins none
find-cut_in t q block (suc n) (e ∷ l) begins none =
    let parts = and_parts (not (begins_with t e.0)) (none_begin t l) none in
    ap (λ b. cond b (Some e.1) (find path_cmp q (cut t block l n))) (unlike t q e.0 begins (not_true _ parts.0)) ∙ find-cut_in t q block n l begins parts.1

pub find-cut_out : (t q : Path) (block : Entries) (n : ℕ) (l : Entries) → begins_with t q ≡ false → all_begin t block ≡ true → find path_cmp q (cut t block l n) ≡ find path_cmp q l
find-cut_out t q block zero [] other all = find-append_out t q block [] other all
find-cut_out t q block (suc n) [] other all = find-append_out t q block [] other all
find-cut_out t q block zero (e ∷ l) other all = find-append_out t q block (e ∷ l) other all
find-cut_out t q block (suc n) (e ∷ l) other all = ap (λ o. cond (eq_by_cmp path_cmp q e.0) (Some e.1) o) (find-cut_out t q block n l other all)

-- ---- what is found where each path is moved by itself

abbrev pub moved_each : Path → Path → Entries → Entries
moved_each p t l = map (λ e. (moved_path p t e.0, e.1)) l

find-each_in_step : (p t r : Path) (e : Path × ℕ) (l : Entries) (b : Bool) → begins_with p e.0 ≡ b → begins_with t e.0 ≡ false
    → eq_by_cmp path_cmp (t ++ r) (cond b (t ++ drop (length p) e.0) e.0) ≡ eq_by_cmp path_cmp (p ++ r) e.0
find-each_in_step p t r e l true begins other = moved-eq p t r e.0 begins
find-each_in_step p t r e l false begins other = unlike t (t ++ r) e.0 (begins-append t r) other ∙ sym (unlike p (p ++ r) e.0 (begins-append p r) begins)

pub find-each_in : (p t r : Path) (l : Entries) → none_begin t l ≡ true → find path_cmp (t ++ r) (moved_each p t l) ≡ find path_cmp (p ++ r) l
find-each_in p t r [] none = refl
find-each_in p t r (e ∷ l) none =
    let parts = and_parts (not (begins_with t e.0)) (none_begin t l) none in
    ap (λ b. cond b (Some e.1) (find path_cmp (t ++ r) (moved_each p t l))) (find-each_in_step p t r e l (begins_with p e.0) refl (not_true _ parts.0))
    ∙ ap (λ o. cond (eq_by_cmp path_cmp (p ++ r) e.0) (Some e.1) o) (find-each_in p t r l parts.1)

find-each_from_step : (p t q : Path) (e : Path × ℕ) (b : Bool) → begins_with p e.0 ≡ b → begins_with t q ≡ false → begins_with p q ≡ true → eq_by_cmp path_cmp q (cond b (t ++ drop (length p) e.0) e.0) ≡ false
find-each_from_step p t q e true is other begins = unlike-back t q (t ++ drop (length p) e.0) other (begins-append t _)
find-each_from_step p t q e false is other begins = unlike p q e.0 begins is

pub find-each_from : (p t q : Path) (l : Entries) → begins_with t q ≡ false → begins_with p q ≡ true → find path_cmp q (moved_each p t l) ≡ None
find-each_from p t q [] other begins = refl
find-each_from p t q (e ∷ l) other begins =
    ap (λ b. cond b (Some e.1) (find path_cmp q (moved_each p t l))) (find-each_from_step p t q e (begins_with p e.0) refl other begins) ∙ find-each_from p t q l other begins

find-each_out_step : (p t q : Path) (e : Path × ℕ) (b : Bool) → begins_with p e.0 ≡ b → begins_with t q ≡ false → begins_with p q ≡ false → eq_by_cmp path_cmp q (cond b (t ++ drop (length p) e.0) e.0) ≡ eq_by_cmp path_cmp q e.0
find-each_out_step p t q e true is other away = unlike-back t q (t ++ drop (length p) e.0) other (begins-append t _) ∙ sym (unlike-back p q e.0 away is)
find-each_out_step p t q e false is other away = refl

pub find-each_out : (p t q : Path) (l : Entries) → begins_with t q ≡ false → begins_with p q ≡ false → find path_cmp q (moved_each p t l) ≡ find path_cmp q l
find-each_out p t q [] other away = refl
find-each_out p t q (e ∷ l) other away =
    ap (λ b. cond b (Some e.1) (find path_cmp q (moved_each p t l))) (find-each_out_step p t q e (begins_with p e.0) refl other away)
    ∙ ap (λ o. cond (eq_by_cmp path_cmp q e.0) (Some e.1) o) (find-each_out p t q l other away)
