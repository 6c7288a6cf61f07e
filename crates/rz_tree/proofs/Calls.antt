-- What the conditions of the steps of calls say of kept names and objects.
use Rattle.std.proofs.Common.{◌≡◌, ℕ, ◌<◌, ◌≤◌, Bool, true, false, cond, ◌&&◌, ◌||◌, [], ◌∷◌, ◌++◌, length, drop, Option, Some, None, is_some, sym, ap, ◌∙◌, refl, arith, eq-eqb, eqb-true, inl, inr, length-append}
use Rattle.std.specs.Prelude.{nat_lt, nat_le, ◌==◌, is_none}
use Rattle.std.proofs.lemmas.Bool.Decides.{nat_tests}
use Rattle.std.specs.Option.{option_map, option_map_or, option_and_then}
use Rattle.std.specs.Ordering.{eq_by_cmp}
use Rattle.std.specs.FinMap as maps
use Rattle.std.specs.FinMap.{FinMap}
use Rattle.rz_events.specs.declared.tree.TreeFault.TheVariants as fault
use Rattle.rz_export_model.specs.Firsts.{first_of, given_if}
use Rattle.rz_export_model.specs.Paths.{Name, Path, path_cmp, paths_total, exact_paths, above, is_root, begins_with, is_below}
use Rattle.rz_export_model.specs.Tree.{Tree, Object, Found, found_at, is_at, is_dir, is_file, info_of, names_under, links_of, paths_to, moved}
use Rattle.rz_export_model.specs.Refusals.{walk, absent, present, dir, not_dir, not_empty, too_many_links, into_itself, not_replaceable, is_same_object}
use Rattle.rz_export_model.specs.TreeCalls.{without_name, renamed, last_name_of}
use Rattle.rz_tree.specs.declared.inodes.Inode.{Inode}
use Rattle.rz_tree.specs.Inodes.{Table, object_of, found_of, objects_of}
use Rattle.rz_tree.specs.Trees.{IsTree, IsKept}
use Rattle.rz_tree.proofs.Keys.{not_none, false-true, held, true-or-false, apart}
use Rattle.rz_tree.proofs.Tables.{get-objects}
use Rattle.rz_tree.proofs.Fronts.{append-nothing, split-above, walked-front}
use Rattle.rz_names.proofs.PathOrder.{begins-front}
use Rattle.rz_tree.proofs.Rules.{from-map, map-some, found-there}
use Rattle.rz_tree.proofs.Names.{empty-under, leaf-under, absent-under}
use Rattle.rz_tree.proofs.Adds.{or_none, given-false, none-from-is, absent-name}
use Rattle.rz_tree.proofs.Walks.{lt-test, not-lt}

pub full-yes : (len n : ℕ) (last : Bool) → len ≡ n → 65536 < len → nat_lt 65536 len ≡ (nat_lt 65536 n || last)
full-yes len n last same lt =
    let yes : nat_lt 65536 len ≡ true = lt-test 65536 len lt in
    yes ∙ sym (ap (λ b. b || last) (ap (nat_lt 65536) (sym same) ∙ yes))

pub full-no : (len n : ℕ) (last : Bool) → len ≡ n → len ≤ 65536 → last ≡ (nat_lt 65536 n || last)
full-no len n last same le = sym (ap (λ b. b || last) (ap (nat_lt 65536) (sym same) ∙ not-lt 65536 len le))

module _ (names : FinMap path_cmp ℕ) (table : Table) (made : ℕ) (kept : IsKept names table made) where
  -- a path leads to a kept object
  pub led : (path : Path) (fid : ℕ) → maps.get names path ≡ Some fid → (i : Inode) × (maps.get table fid ≡ Some i)
  led path fid at = held (maps.get table fid) (sym (map-some object_of (maps.get table fid)) ∙ ap is_some (sym (get-objects table fid)) ∙ kept.tree.leads path fid at)

  -- what is kept of an object that is no directory
  pub leaf-kept : (fid : ℕ) → option_map (λ (o : Object). is_dir o.kind) (maps.get (objects_of table) fid) ≡ Some false
      → (i : Inode) × (maps.get table fid ≡ Some i) × (is_dir i.kind ≡ false)
  leaf-kept fid h =
      let o = from-map (λ (x : Object). is_dir x.kind) (maps.get (objects_of table) fid) false h in
      let i = from-map object_of (maps.get table fid) o.0 (sym (get-objects table fid) ∙ o.1) in
      (i.0, i.1, ap (λ (x : Object). is_dir x.kind) i.2 ∙ o.2)

-- ---- an object that is found at a path

-- whether the path at which an object is found is its last one
pub last-found : (t : Tree) (path : Path) (fid : ℕ) (i : Inode) → Some (found_of fid i) ≡ found_at t path → i.links ≡ links_of t (found_of fid i)
    → given_if (is_file i.kind && (i.links == 1)) (info_of (found_of fid i)) ≡ last_name_of t path
last-found t path fid i is links =
    ap (λ n. given_if (is_file i.kind && (n == 1)) (info_of (found_of fid i))) links
    ∙ ap (option_and_then (λ f. given_if (is_file f.object.kind && (links_of t f == 1)) (info_of f))) is

pub no-last : (t : Tree) (path : Path) → found_at t path ≡ None → None ≡ last_name_of t path
no-last t path none = sym (ap (option_and_then (λ f. given_if (is_file f.object.kind && (links_of t f == 1)) (info_of f))) none)

not-many : (n : ℕ) → nat_le 65535 n ≡ false → n < 65535
not-many n h = grind (arith, nat_tests)

-- a found object that is no directory
module _ (t : Tree) (path : Path) (fid : ℕ) (i : Inode) (is : Some (found_of fid i) ≡ found_at t path) (none : dir t path ≡ None) where
  pub leaf-kind : is_dir i.kind ≡ false
  leaf-kind = ap (λ f. option_map_or is_dir (option_map (λ (x : Found). x.object.kind) f) false) is ∙ given-false (is_at t path is_dir) fault.IsDir none

  pub leaf-object : option_map (λ (o : Object). is_dir o.kind) (maps.get t.objects fid) ≡ Some false
  leaf-object = ap (option_map (λ (o : Object). is_dir o.kind)) (found-there t path (found_of fid i) is).1 ∙ ap Some leaf-kind

  module _ (links : i.links ≡ links_of t (found_of fid i)) where
    pub leaf-count : i.links ≡ paths_to t.names fid
    leaf-count = links ∙ ap (λ b. cond b 1 (paths_to t.names fid)) leaf-kind

    pub leaf-many : given_if (nat_le 65535 i.links) fault.TooManyLinks ≡ too_many_links t path
    leaf-many =
        ap (λ n. given_if (nat_le 65535 n) fault.TooManyLinks) leaf-count
        ∙ sym (ap (λ f. option_map_or (λ x. given_if (nat_le 65535 (paths_to t.names x)) fault.TooManyLinks) f None) (found-there t path (found_of fid i) is).0)

    pub leaf-few : too_many_links t path ≡ None → i.links < 65535
    leaf-few few = not-many i.links (given-false (nat_le 65535 i.links) fault.TooManyLinks (leaf-many ∙ few))

-- ---- a new path of an object

module _ (t : Tree) (p q : Path) (free : first_of (walk t p ∷ absent t p ∷ dir t p ∷ walk t q ∷ present t q ∷ too_many_links t p ∷ []) ≡ None) where
  link_1 : first_of (absent t p ∷ dir t p ∷ walk t q ∷ present t q ∷ too_many_links t p ∷ []) ≡ None
  link_1 = (or_none (walk t p) (first_of (absent t p ∷ dir t p ∷ walk t q ∷ present t q ∷ too_many_links t p ∷ [])) free).1

  link_2 : first_of (dir t p ∷ walk t q ∷ present t q ∷ too_many_links t p ∷ []) ≡ None
  link_2 = (or_none (absent t p) (first_of (dir t p ∷ walk t q ∷ present t q ∷ too_many_links t p ∷ [])) link_1).1

  link_3 : (dir t p ≡ None) × (first_of (walk t q ∷ present t q ∷ too_many_links t p ∷ []) ≡ None)
  link_3 = or_none (dir t p) (first_of (walk t q ∷ present t q ∷ too_many_links t p ∷ [])) link_2

  link_4 : (walk t q ≡ None) × (first_of (present t q ∷ too_many_links t p ∷ []) ≡ None)
  link_4 = or_none (walk t q) (first_of (present t q ∷ too_many_links t p ∷ [])) link_3.1

  link_5 : (present t q ≡ None) × (first_of (too_many_links t p ∷ []) ≡ None)
  link_5 = or_none (present t q) (first_of (too_many_links t p ∷ [])) link_4.1

  pub link-leaf : dir t p ≡ None
  link-leaf = link_3.0

  pub link-walk : walk t q ≡ None
  link-walk = link_4.0

  pub link-absent : found_at t q ≡ None
  link-absent = none-from-is (found_at t q) (given-false (is_some (found_at t q)) fault.Exists link_5.0)

  pub link-few : too_many_links t p ≡ None
  link-few = (or_none (too_many_links t p) None link_5.1).0

-- the last fault of a link, where there is no other
pub link-last : {A : Type 0} (a b c d e f : Option A) → first_of (a ∷ b ∷ c ∷ []) ≡ None → d ≡ None → e ≡ None → first_of (a ∷ b ∷ c ∷ d ∷ e ∷ f ∷ []) ≡ f
link-last (Some x) b c d e f h i j = absurd (not_none x h)
link-last None (Some x) c d e f h i j = absurd (not_none x h)
link-last None None (Some x) d e f h i j = absurd (not_none x h)
link-last None None None (Some x) e f h i j = absurd (not_none x i)
link-last None None None None (Some x) f h i j = absurd (not_none x j)
link-last None None None None None None h i j = refl
link-last None None None None None (Some x) h i j = refl

-- an object that may be no directory is none
pub no-dir : {A : Type 0} (a b c : Option A) → first_of (a ∷ b ∷ c ∷ []) ≡ None → c ≡ None
no-dir a b c h = (or_none c None (or_none b (first_of (c ∷ [])) (or_none a (first_of (b ∷ c ∷ [])) h).1).1).0

-- ---- a rename

-- whether two paths name one object, by the numbers to which they lead
module _ (t : Tree) (p q : Path) (f : ℕ) (at : maps.get t.names p ≡ Some f) where
  by-target : (o : Option ℕ) → maps.get t.names q ≡ o → is_same_object t p q ≡ option_map_or (λ g. f == g) o false
  by-target o at_q =
      ap (λ n. option_map_or (λ x. option_map_or (λ y. x == y) (maps.get t.names q) false) n false) at ∙ ap (λ n. option_map_or (λ y. f == y) n false) at_q

  pub same-object : (g : ℕ) → maps.get t.names q ≡ Some g → f ≡ g → is_same_object t p q ≡ true
  same-object g at_q same = by-target (Some g) at_q ∙ eq-eqb f g same

  pub other-object : (g : ℕ) → maps.get t.names q ≡ Some g → (f ≡ g → ⊥) → is_same_object t p q ≡ false
  other-object g at_q other = by-target (Some g) at_q ∙ elim (true-or-false (f == g)) [
    | inl same ↦ absurd (other (eqb-true f g same))
    | inr is ↦ is
  ]

  pub no-object : maps.get t.names q ≡ None → is_same_object t p q ≡ false
  no-object none = by-target None none

-- what stands above a path is another path
pub above-other : (q : Path) → is_root q ≡ false → eq_by_cmp path_cmp (above q) q ≡ false
above-other q other =
    let parts = split-above q other in
    apart paths_total exact_paths (above q) q (λ same. longer (above q) parts.0 (same ∙ parts.1))
  where
    longer : (a : Path) (n : Name) → a ≡ a ++ n ∷ [] → ⊥
    longer a n h = omega (arith, ap length h, length-append a (n ∷ []))

-- where two paths lead to two objects, a rename is this
pub renamed-two : (t : Tree) (p q : Path) → is_same_object t p q ≡ false → (let s : Tree = record (without_name t q) { names = moved p q (without_name t q).names } in s) ≡ renamed t p q
renamed-two t p q two = sym (ap (λ b. cond b t (let rest : Tree = without_name t q in record rest { names = moved p q rest.names })) two)

-- where nothing stands at a path, nothing is taken away
pub without-none : (t : Tree) (q : Path) → found_at t q ≡ None → without_name t q ≡ t
without-none t q none = ap (λ o. option_map_or (λ (f : Found). (let s : Tree = record t { names = maps.remove t.names q; objects = cond (links_of t f == 1) (maps.remove t.objects f.fid) t.objects } in s)) o t) none

pub name_found : (t : Tree) (p : Path) (f : Option ℕ) → maps.get t.names p ≡ f → is_none (option_and_then (λ n. option_map (λ y. (let x : Found = record { fid = n; object = y } in x)) (maps.get t.objects n)) f) ≡ false → is_some f ≡ true
name_found t p None at h = absurd (false-true (sym h))
name_found t p (Some fid) at h = refl

module _ (t : Tree) (rules : IsTree t) (p q : Path) (free : first_of (walk t p ∷ absent t p ∷ into_itself t p q ∷ walk t q ∷ not_replaceable t p q ∷ []) ≡ None)
    (two : is_same_object t p q ≡ false) (from : is_root p ≡ false) where
  rename_1 : first_of (absent t p ∷ into_itself t p q ∷ walk t q ∷ not_replaceable t p q ∷ []) ≡ None
  rename_1 = (or_none (walk t p) (first_of (absent t p ∷ into_itself t p q ∷ walk t q ∷ not_replaceable t p q ∷ [])) free).1

  rename_2 : (absent t p ≡ None) × (first_of (into_itself t p q ∷ walk t q ∷ not_replaceable t p q ∷ []) ≡ None)
  rename_2 = or_none (absent t p) (first_of (into_itself t p q ∷ walk t q ∷ not_replaceable t p q ∷ [])) rename_1

  rename_3 : (into_itself t p q ≡ None) × (first_of (walk t q ∷ not_replaceable t p q ∷ []) ≡ None)
  rename_3 = or_none (into_itself t p q) (first_of (walk t q ∷ not_replaceable t p q ∷ [])) rename_2.1

  rename_4 : (walk t q ≡ None) × (first_of (not_replaceable t p q ∷ []) ≡ None)
  rename_4 = or_none (walk t q) (first_of (not_replaceable t p q ∷ [])) rename_3.1

  rename_5 : not_replaceable t p q ≡ None
  rename_5 = (or_none (not_replaceable t p q) None rename_4.1).0

  pub rename-walk : walk t q ≡ None
  rename-walk = rename_4.0

  there : is_some (maps.get t.names p) ≡ true
  there = name_found t p (maps.get t.names p) refl (given-false (is_none (found_at t p)) fault.NoEntry rename_2.0)

  itself : (fid : ℕ) → maps.get t.names p ≡ Some fid → is_same_object t p p ≡ true
  itself fid at = same-object t p p fid at fid at refl

  and_true : (a b : Bool) → a ≡ true → b ≡ true → (a && b) ≡ true
  and_true true b ha hb = hb
  and_true false b ha hb = cc

  -- the new path does not begin with the old one
  pub rename-away : begins_with p q ≡ false
  rename-away = elim (true-or-false (begins_with p q)) [
    | inl begins ↦ go (drop (length p) q) (begins-front p q begins) begins
    | inr is ↦ is
  ]
    where
      go : (r : Path) → q ≡ p ++ r → begins_with p q ≡ true → begins_with p q ≡ false
      go [] split begins =
          let fid = held (maps.get t.names p) there in
          let same : q ≡ p = split ∙ append-nothing p in
          absurd (false-true (sym two ∙ ap (is_same_object t p) same ∙ itself fid.0 fid.1))
      go (n ∷ r) split begins =
          let dir_p : is_at t p is_dir ≡ true = walked-front t p n r (ap (walk t) (sym split) ∙ rename-walk) from in
          let longer : length p < length q = omega (arith, ap length split, length-append p (n ∷ r)) in
          let below : is_below p q ≡ true = and_true (begins_with p q) (nat_lt (length p) (length q)) begins (lt-test (length p) (length q) longer) in
          absurd (false-true (sym (given-false (is_at t p is_dir && is_below p q) fault.IntoItself rename_3.0) ∙ and_true (is_at t p is_dir) (is_below p q) dir_p below))

  replace_last : (o : Option Found) → found_at t q ≡ o → (s d : Bool) → s ≡ false
      → cond (is_none o || s) None (cond d (first_of (not_dir t q ∷ not_empty t q ∷ [])) (dir t q)) ≡ None → names_under t.names q ≡ []
  replace_last None is s d apart_s h = absent-under t rules q (absent-name t rules q is)
  replace_last (Some f) is true d apart_s h = absurd (false-true (sym apart_s))
  replace_last (Some f) is false true apart_s h =
      let rest = (or_none (not_dir t q) (first_of (not_empty t q ∷ [])) h).1 in
      empty-under t q (or_none (not_empty t q) None rest).0
  replace_last (Some f) is false false apart_s h = leaf-under t rules q (given-false (is_at t q is_dir) fault.IsDir h)

  -- no name stands below the path that is replaced
  pub rename-last : names_under t.names q ≡ []
  rename-last = replace_last (found_at t q) refl (is_same_object t p q) (is_at t p is_dir) two rename_5

  -- where nothing stands at the new path, all below the old one moves
  pub renamed-new : maps.get t.names q ≡ None → (let s : Tree = record t { names = moved p q t.names } in s) ≡ renamed t p q
  renamed-new none =
      let no_found : found_at t q ≡ None = ap (option_and_then (λ n. option_map (λ y. (let x : Found = record { fid = n; object = y } in x)) (maps.get t.objects n))) none in
      ap (λ (r : Tree). (let s : Tree = record r { names = moved p q r.names } in s)) (sym (without-none t q no_found)) ∙ renamed-two t p q two
