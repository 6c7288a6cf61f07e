-- The names after bytes of a file were written.
use Rattle.std.proofs.Common.{ℕ, Bool, true, false, ◌≡◌, ◌⊎◌, inl, inr, ◌+◌, ◌<◌, ◌≤◌, Option, Some, None, cond, refl, sym, ◌∙◌, ap, arith}
use Rattle.std.specs.Option.{option_map_or, option_map, option_and_then}
use Rattle.std.specs.FinMap as maps
use Rattle.std.specs.FinMap.{same_map, nat_cmp-IsAntisymmetric}
use Rattle.std.specs.Ordering.{nat_cmp, is_lt, eq_by_cmp}
use Rattle.std.specs.declared.cmp.Ordering.TheVariants.{Greater}
use Rattle.std.specs.Cmp.{nat_cmp_total, nat_cmp_is, unsigned_tied}
use Rattle.std.proofs.lemmas.Bool.{eq-eqb, eqb-true, cases_lt}
use Rattle.std.proofs.lemmas.Option.{same_Some}
use Rattle.std.proofs.lemmas.Map.Keys.{ge_from_not_lt}
use Rattle.rz_export_model.specs.Paths.{Path}
use Rattle.rz_export_model.specs.Tree.{Tree, Object, Found, found_at, fid_at, grown}
use Rattle.rz_export_model.proofs.Files.{Objects}

-- Of two numbers the greater one.

abbrev top : ℕ → ℕ → ℕ
top a b = cond (is_lt (nat_cmp a b)) b a

top-up : (a b : ℕ) → a ≤ b → top a b ≡ b
top-up a b up = go (is_lt (nat_cmp a b)) refl
  where
    go : (t : Bool) → is_lt (nat_cmp a b) ≡ t → cond t b a ≡ b
    go true is = refl
    go false is = (let low = ge_from_not_lt a b is in omega (arith, low, up))

top-low : (a b : ℕ) → b ≤ a → top a b ≡ a
top-low a b low = go (is_lt (nat_cmp a b)) refl
  where
    over : is_lt (nat_cmp a b) ≡ true → (b < a) ⊎ (a ≤ b) → b ≡ a
    over is (inl l) = (let great : Greater ≡ nat_cmp a b = nat_cmp_is a b Greater l in let no : is_lt Greater ≡ true = ap is_lt great ∙ is in cc)
    over is (inr l) = omega (arith, l, low)

    go : (t : Bool) → is_lt (nat_cmp a b) ≡ t → cond t b a ≡ a
    go true is = over is (cases_lt b a)
    go false is = refl

top-twice : (s a b : ℕ) → a ≤ b → top (top s a) b ≡ top s b
top-twice s a b low = go (cases_lt a s)
  where
    go : (a < s) ⊎ (s ≤ a) → top (top s a) b ≡ top s b
    go (inl under) = ap (λ (n : ℕ). top n b) (top-low s a (omega (arith, under)))
    go (inr over) = ap (λ (n : ℕ). top n b) (top-up s a over) ∙ top-up a b low ∙ sym (top-up s b (omega (arith, over, low)))

-- Objects.

abbrev sized : Object → ℕ → Object
sized o size = record o { size = top o.size size }

abbrev objects_grown : Objects → ℕ → ℕ → Objects
objects_grown m fid size = option_map_or (λ o. maps.insert m fid (sized o size)) (maps.get m fid) m

insert-twice : (m : Objects) (k : ℕ) (x y : Object) → maps.insert (maps.insert m k x) k y ≡ maps.insert m k y
insert-twice m k x y =
    same_map nat_cmp_total nat_cmp-IsAntisymmetric (maps.insert (maps.insert m k x) k y) (maps.insert m k y)
    (λ (q : ℕ).
    maps.get-insert nat_cmp_total (maps.insert m k x) k y q
    ∙ ap (cond (eq_by_cmp nat_cmp q k) (Some y)) (maps.get-insert nat_cmp_total m k x q)
    ∙ either q (eq_by_cmp nat_cmp q k)
    ∙ sym (maps.get-insert nat_cmp_total m k y q))
  where
    either : (q : ℕ) (b : Bool) → cond b (Some y) (cond b (Some x) (maps.get m q)) ≡ cond b (Some y) (maps.get m q)
    either q true = refl
    either q false = refl

inserted : (m : Objects) (k : ℕ) (x : Object) → maps.get (maps.insert m k x) k ≡ Some x
inserted m k x =
    let on : eq_by_cmp nat_cmp k k ≡ true = unsigned_tied k k ∙ eq-eqb k k refl in
    maps.get-insert nat_cmp_total m k x k ∙ ap (λ (b : Bool). cond b (Some x) (maps.get m k)) on

there-grown : (m : Objects) (fid size : ℕ) (o : Object) → maps.get m fid ≡ Some o → objects_grown m fid size ≡ maps.insert m fid (sized o size)
there-grown m fid size o is = ap (λ (p : Option Object). option_map_or (λ z. maps.insert m fid (sized z size)) p m) is

none-grown : (m : Objects) (fid size : ℕ) → maps.get m fid ≡ None → objects_grown m fid size ≡ m
none-grown m fid size is = ap (λ (p : Option Object). option_map_or (λ z. maps.insert m fid (sized z size)) p m) is

objects-twice : (m : Objects) (fid a b : ℕ) → a ≤ b → objects_grown (objects_grown m fid a) fid b ≡ objects_grown m fid b
objects-twice m fid a b low = go (maps.get m fid) refl
  where
    go : (p : Option Object) → maps.get m fid ≡ p → objects_grown (objects_grown m fid a) fid b ≡ objects_grown m fid b
    go None is = ap (λ (z : Objects). objects_grown z fid b) (none-grown m fid a is)
    go (Some o) is =
        ap (λ (z : Objects). objects_grown z fid b) (there-grown m fid a o is)
        ∙ there-grown (maps.insert m fid (sized o a)) fid b (sized o a) (inserted m fid (sized o a))
        ∙ insert-twice m fid (sized o a) (sized (sized o a) b)
        ∙ ap (λ (n : ℕ). maps.insert m fid (record o { size = n })) (top-twice o.size a b low)
        ∙ sym (there-grown m fid b o is)

-- a file that grew twice is as one that grew to the greater size
pub grown-twice : (t : Tree) (fid a b : ℕ) → a ≤ b → grown (grown t fid a) fid b ≡ grown t fid b
grown-twice t fid a b low = ap (λ (m : Objects). record t { objects = m }) (objects-twice t.objects fid a b low)

-- one that reaches so far already stays as it is
pub grown-within : (t : Tree) (fid a b : ℕ) → ((o : Object) → maps.get t.objects fid ≡ Some o → (a ≤ o.size) × (b ≤ o.size)) → grown t fid a ≡ grown t fid b
grown-within t fid a b within = ap (λ (m : Objects). record t { objects = m }) (go (maps.get t.objects fid) refl)
  where
    go : (p : Option Object) → maps.get t.objects fid ≡ p → objects_grown t.objects fid a ≡ objects_grown t.objects fid b
    go None is = none-grown t.objects fid a is ∙ sym (none-grown t.objects fid b is)
    go (Some o) is =
        let low = within o is in
        there-grown t.objects fid a o is
        ∙ ap (λ (n : ℕ). maps.insert t.objects fid (record o { size = n })) (top-low o.size a low.0 ∙ sym (top-low o.size b low.1))
        ∙ sym (there-grown t.objects fid b o is)

insert-again : (m : Objects) (k : ℕ) (x : Object) → maps.get m k ≡ Some x → maps.insert m k x ≡ m
insert-again m k x is =
    same_map nat_cmp_total nat_cmp-IsAntisymmetric (maps.insert m k x) m
    (λ (q : ℕ). maps.get-insert nat_cmp_total m k x q ∙ either q (eq_by_cmp nat_cmp q k) refl)
  where
    either : (q : ℕ) (b : Bool) → eq_by_cmp nat_cmp q k ≡ b → cond b (Some x) (maps.get m q) ≡ maps.get m q
    either q true one = sym (ap (maps.get m) (eqb-true q k (sym (unsigned_tied q k) ∙ one)) ∙ is)
    either q false other = refl

-- one that reaches so far already does not grow
pub grown-still : (t : Tree) (fid a : ℕ) → ((o : Object) → maps.get t.objects fid ≡ Some o → a ≤ o.size) → grown t fid a ≡ t
grown-still t fid a within = ap (λ (m : Objects). record t { objects = m }) (go (maps.get t.objects fid) refl)
  where
    go : (p : Option Object) → maps.get t.objects fid ≡ p → objects_grown t.objects fid a ≡ t.objects
    go None is = none-grown t.objects fid a is
    go (Some o) is =
        there-grown t.objects fid a o is
        ∙ ap (λ (n : ℕ). maps.insert t.objects fid (record o { size = n })) (top-low o.size a (within o is))
        ∙ insert-again t.objects fid o is

-- What stands at a path.

pub fid-there : (t : Tree) (path : Path) (f : Found) → found_at t path ≡ Some f → (fid_at t path ≡ Some f.fid) × (maps.get t.objects f.fid ≡ Some f.object)
fid-there t path f is = go (fid_at t path) refl is
  where
    by-object : (n : ℕ) (p : Option Object) → fid_at t path ≡ Some n → maps.get t.objects n ≡ p → option_map (λ o. record { fid = n; object = o }) p ≡ Some f
        → (fid_at t path ≡ Some f.fid) × (maps.get t.objects f.fid ≡ Some f.object)
    by-object n None at there same = cc
    by-object n (Some o) at there same =
        let whole : record { fid = n; object = o } ≡ f = same_Some (record { fid = n; object = o }) f same in
        let number : n ≡ f.fid = ap (λ (z : Found). z.fid) whole in
        (at ∙ ap Some number, sym (ap (λ (k : ℕ). maps.get t.objects k) number) ∙ there ∙ ap (λ (z : Found). Some z.object) whole)

    go : (p : Option ℕ) → fid_at t path ≡ p → option_and_then (λ fid. option_map (λ o. record { fid = fid; object = o }) (maps.get t.objects fid)) p ≡ Some f
        → (fid_at t path ≡ Some f.fid) × (maps.get t.objects f.fid ≡ Some f.object)
    go None at same = cc
    go (Some n) at same = by-object n (maps.get t.objects n) at refl same

-- the file at a path that grew is still that file
pub found-grown : (t : Tree) (path : Path) (fid size : ℕ) (f g : Found) → found_at t path ≡ Some f → found_at (grown t fid size) path ≡ Some g → g.fid ≡ f.fid
found-grown t path fid size f g was now =
    let before = fid-there t path f was in
    let after = fid-there (grown t fid size) path g now in
    same_Some g.fid f.fid (sym after.0 ∙ before.0)
