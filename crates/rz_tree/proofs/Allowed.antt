-- The tests of the next part are its rules.
use Rattle.std.proofs.Common.{◌≡◌, ℕ, suc, zero, ◌-◌, Bool, true, false, not, cond, ◌&&◌, ◌↔◌, List, [], ◌∷◌, length, take, Option, Some, None, is_some, is_none, Ordering, sym, ap, ◌∙◌, refl, arith, eqb-true, eq-eqb}
use Rattle.std.specs.Prelude.{◌==◌, nat_lt, nat_le}
use Rattle.std.proofs.lemmas.Bool.{leb-true}
use Rattle.std.specs.declared.cmp.Ordering.TheVariants.{Less, Equal, Greater}
use Rattle.std.specs.declared.ops.Bound.TheVariants.{Included, Unbounded}
use Rattle.std.specs.BTreeMap.Range.{entries_between}
use Rattle.std.specs.List.{list_all}
use Rattle.std.specs.List.Sorted.{IsStrictlySortedBy}
use Rattle.std.specs.Map.{keys_of}
use Rattle.std.specs.Option.{option_map, option_map_or}
use Rattle.std.specs.Ordering.{nat_cmp, is_le, is_lt, ordering_reverse}
use Rattle.std.specs.Cmp.{nat_cmp_total}
use Rattle.std.specs.FinMap as maps
use Rattle.rz_events.specs.declared.files.Kind.{Kind}
use Rattle.rz_events.specs.declared.files.Kind.TheVariants.{File, Dir, Link}
use Rattle.rz_events.specs.declared.tree.TreeFault.{TreeFault}
use Rattle.rz_events.specs.declared.tree.TreeFault.TheVariants as fault
use Rattle.rz_export_model.specs.Firsts.{given_if}
use Rattle.rz_export_model.specs.Paths.{Path, path_cmp, is_name, is_root, above}
use Rattle.rz_export_model.specs.Tree.{Tree, Object, Found, found_at, is_at, is_dir, paths_to}
use Rattle.rz_export_model.specs.Refusals.{no_directory}
use Rattle.rz_names.specs.Names.{below_root, is_behind}
use Rattle.rz_tree.specs.declared.inodes.Inode.{Inode}
use Rattle.rz_tree.specs.Inodes.{Table, object_of, seen_entries, objects_of}
use Rattle.rz_tree.specs.Trees.{tree_of, IsCounted}
use Rattle.rz_tree.specs.Added.{FitsKind, LiesNowhere, IsRoot, IsNextObject, IsNextName, MayBeNamed, most_names}
use Rattle.rz_tree.specs.Allowed.{lies_nowhere, fits_kind, is_next_number, stands_under, may_be_named, is_next_name}
use Rattle.rz_tree.proofs.Keys.{false-true}
use Rattle.rz_tree.proofs.Lasts.{and-left, and-right}
use Rattle.rz_tree.proofs.Tables.{get-objects, entries-objects}
use Rattle.rz_tree.proofs.Rows.{Row, table_of, entries-row}
use Rattle.rz_tree.proofs.Walks.{le-test, lt-test, test-lt}

-- ---- the last number

abbrev pub is_nothing : Row → Bool
is_nothing [] = true
is_nothing (e ∷ es) = false

module _ (fid : ℕ) where
  abbrev pub rest_of : Row → Row
  rest_of es = entries_between nat_cmp (Included fid) Unbounded es

  step : (r : Ordering) (e : ℕ × Inode) (rest : Row) (b : Bool) → is_nothing rest ≡ b → is_nothing (cond (is_le r && true) (e ∷ rest) rest) ≡ (is_lt (ordering_reverse r) && b)
  step Less e rest b h = refl
  step Equal e rest b h = refl
  step Greater e rest b h = h

  rest-none : (es : Row) → is_nothing (rest_of es) ≡ list_all (λ e. is_lt (nat_cmp e.0 fid)) es
  rest-none [] = refl
  rest-none (e ∷ es) =
      step (nat_cmp fid e.0) e (rest_of es) (list_all (λ x. is_lt (nat_cmp x.0 fid)) es) (rest-none es)
      ∙ ap (λ r. is_lt r && list_all (λ x. is_lt (nat_cmp x.0 fid)) es) (sym (nat_cmp_total.antisymm e.0 fid))

  -- nothing is kept from a number on exactly where it stands behind all
  pub behind-row : (es : Row) → IsStrictlySortedBy nat_cmp (keys_of es) → is_nothing (rest_of es) ≡ is_behind (table_of es) fid
  behind-row es ordered = rest-none es ∙ sym (ap (list_all (λ (e : ℕ × Inode). is_lt (nat_cmp e.0 fid))) (entries-row es ordered))

  all-seen : (es : Row) → list_all (λ (e : ℕ × Object). is_lt (nat_cmp e.0 fid)) (seen_entries es) ≡ list_all (λ (e : ℕ × Inode). is_lt (nat_cmp e.0 fid)) es
  all-seen [] = refl
  all-seen (e ∷ es) = ap (λ b. is_lt (nat_cmp e.0 fid) && b) (all-seen es)

  -- the objects have the numbers of the kept ones
  pub behind-objects : (m : Table) → is_behind m fid ≡ is_behind (objects_of m) fid
  behind-objects m = sym (ap (list_all (λ (e : ℕ × Object). is_lt (nat_cmp e.0 fid))) (entries-objects m) ∙ all-seen (maps.entries m))

-- ---- the path above

pub take-above : (path : Path) (n : ℕ) → suc n ≡ length path → take n path ≡ above path
take-above [] n h = absurd (omega (arith, h))
take-above (m ∷ []) zero h = refl
take-above (m ∷ []) (suc n) h = absurd (omega (arith, h))
take-above (m ∷ k ∷ path) zero h = absurd (omega (arith, h))
take-above (m ∷ k ∷ path) (suc n) h = ap (λ p. m ∷ p) (take-above (k ∷ path) n (omega (arith, h)))

-- a path is a directory's exactly where nothing forbids it
pub directory-test : (t : Tree) (path : Path) → is_none (no_directory t path) ≡ is_at t path is_dir
directory-test t path = go (found_at t path)
  where
    given : (b : Bool) → is_none (given_if (not b) fault.NotDir) ≡ b
    given true = refl
    given false = refl

    go : (o : Option Found) → is_none (option_map_or (λ f. given_if (not (is_dir f.object.kind)) fault.NotDir) o (Some fault.NoEntry)) ≡ option_map_or is_dir (option_map (λ f. f.object.kind) o) false
    go None = refl
    go (Some f) = given (is_dir f.object.kind)

pub not-root : (path : Path) → (length path ≡ 0 → ⊥) → is_root path ≡ false
not-root [] h = absurd (h refl)
not-root (m ∷ path) h = refl

-- what is not there is none
pub none-told : {A : Type 0} (o : Option A) (b : Bool) → is_some o ≡ not b → b ≡ is_none o
none-told None true h = refl
none-told None false h = absurd (false-true h)
none-told (Some x) true h = absurd (false-true (sym h))
none-told (Some x) false h = refl

-- whether a path stands under a directory, by the names before its last
pub under-test : (t : Tree) (path names : Path) (x : Option TreeFault) → names ≡ path → (length names ≡ 0 → ⊥) → x ≡ no_directory t (take (length names - 1) path) → is_none x ≡ stands_under t path
under-test t path names x same some is =
    let count : length names ≡ length path = ap length same in
    ap is_none is ∙ directory-test t (take (length names - 1) path)
    ∙ ap (λ p. is_at t p is_dir) (take-above path (length names - 1) (omega (arith, some, count)))
    ∙ sym (ap (λ b. not b && is_at t (above path) is_dir) (not-root path (λ none. some (count ∙ none))))

-- ---- tests and rules

pub and-both : (a b : Bool) → a ≡ true → b ≡ true → (a && b) ≡ true
and-both true b h k = k
and-both false b h k = absurd (false-true h)

no-items : {X : Type 0} (xs : List X) → (length xs == 0) ≡ true → xs ≡ []
no-items [] h = refl
no-items (x ∷ xs) h = let none : suc (length xs) ≡ 0 = eqb-true (suc (length xs)) 0 h in absurd (omega (arith, none))

nothing-test : {X : Type 0} (xs : List X) → xs ≡ [] → (length xs == 0) ≡ true
nothing-test xs h = ap (λ ys. length ys == 0) h

nowhere-rule : (o : Object) → lies_nowhere o.cid o.places ≡ true → LiesNowhere o
nowhere-rule o h = record {
  no_cluster = eqb-true o.cid 0 (and-left _ _ h);
  no_places = no-items o.places (and-right _ _ h);
}

nowhere-test : (o : Object) → LiesNowhere o → lies_nowhere o.cid o.places ≡ true
nowhere-test o h = and-both _ _ (eq-eqb o.cid 0 h.no_cluster) (nothing-test o.places h.no_places)

abbrev pub fits : Kind → Object → Bool
fits k o = fits_kind k o.size o.cid o.places o.target

kind-rule : (k : Kind) (o : Object) → fits k o ≡ true → FitsKind k o
kind-rule File o h = no-items o.target h
kind-rule Dir o h =
    let e = o.size == 0 in
    let n = length o.target == 0 in
    let w = lies_nowhere o.cid o.places in
    let a = and-left (e && n) w h in
    record {
      empty = eqb-true o.size 0 (and-left e n a);
      no_target = no-items o.target (and-right e n a);
      nowhere = nowhere-rule o (and-right (e && n) w h);
    }
kind-rule Link o h =
    let l = nat_le 1 (length o.target) in
    let m = nat_le (length o.target) 1024 in
    let e = o.size == length o.target in
    let w = lies_nowhere o.cid o.places in
    let a = and-left (l && m && e) w h in
    let b = and-left (l && m) e a in
    record {
      some_target = leb-true 1 (length o.target) (and-left l m b);
      short_target = leb-true (length o.target) 1024 (and-right l m b);
      as_long = eqb-true o.size (length o.target) (and-right (l && m) e a);
      nowhere = nowhere-rule o (and-right (l && m && e) w h);
    }

kind-test : (k : Kind) (o : Object) → FitsKind k o → fits k o ≡ true
kind-test File o h = nothing-test o.target h
kind-test Dir o h =
    let e = o.size == 0 in
    let n = length o.target == 0 in
    let w = lies_nowhere o.cid o.places in
    and-both (e && n) w (and-both e n (eq-eqb o.size 0 h.empty) (nothing-test o.target h.no_target)) (nowhere-test o h.nowhere)
kind-test Link o h =
    let l = nat_le 1 (length o.target) in
    let m = nat_le (length o.target) 1024 in
    let e = o.size == length o.target in
    let w = lies_nowhere o.cid o.places in
    and-both (l && m && e) w
    (and-both (l && m) e (and-both l m (le-test 1 (length o.target) h.some_target) (le-test (length o.target) 1024 h.short_target)) (eq-eqb o.size (length o.target) h.as_long))
    (nowhere-test o h.nowhere)

-- the next object
pub object-rules : (t : Tree) (fid : ℕ) (o : Object) → ((is_next_number t fid && fits o.kind o) ≡ true) ↔ IsNextObject t fid o
object-rules t fid o =
    let last = is_behind t.objects fid in
    let given = nat_le fid t.made in
    let few = nat_le (maps.len t.objects) 65536 in
    let bare = length (below_root t.names) == 0 in (
      (λ h.
          let n = and-left (is_next_number t fid) (fits o.kind o) h in
          let a = and-left (last && given && few) bare n in
          let b = and-left (last && given) few a in
          record {
            rising = and-left last given b;
            given = leb-true fid t.made (and-right last given b);
            few = leb-true (maps.len t.objects) 65536 (and-right (last && given) few a);
            before_names = no-items (below_root t.names) (and-right (last && given && few) bare n);
            fits = kind-rule o.kind o (and-right (is_next_number t fid) (fits o.kind o) h);
          }),
      (λ r.
          and-both (is_next_number t fid) (fits o.kind o)
          (and-both (last && given && few) bare
          (and-both (last && given) few (and-both last given r.rising (le-test fid t.made r.given)) (le-test (maps.len t.objects) 65536 r.few))
          (nothing-test (below_root t.names) r.before_names))
          (kind-test o.kind o r.fits)),
    )

-- the root
pub root-rules : (fid : ℕ) (o : Object) → (((fid == 0) && is_dir o.kind && fits o.kind o) ≡ true) ↔ IsRoot fid o
root-rules fid o =
    let zero = fid == 0 in (
      (λ h.
          let own = and-left (zero && is_dir o.kind) (fits o.kind o) h in
          record {
            number = eqb-true fid 0 (and-left zero (is_dir o.kind) own);
            kind = and-right zero (is_dir o.kind) own;
            fits = kind-rule o.kind o (and-right (zero && is_dir o.kind) (fits o.kind o) h);
          }),
      (λ r. and-both (zero && is_dir o.kind) (fits o.kind o) (and-both zero (is_dir o.kind) (eq-eqb fid 0 r.number) r.kind) (kind-test o.kind o r.fits)),
    )

-- what is never allowed
pub never : (false ≡ true) ↔ ⊥
never = ((λ h. false-true h), (λ none. absurd none))

named-rule : (t : Tree) (fid : ℕ) → may_be_named t fid ≡ true → MayBeNamed t fid
named-rule t fid h = go (maps.get t.objects fid) refl h
  where
    go : (x : Option Object) → maps.get t.objects fid ≡ x → option_map_or (λ o. nat_lt (paths_to t.names fid) (most_names o.kind)) x false ≡ true → MayBeNamed t fid
    go None is h = absurd (false-true h)
    go (Some o) is h = (o, is, test-lt (paths_to t.names fid) (most_names o.kind) h)

named-test : (t : Tree) (fid : ℕ) → MayBeNamed t fid → may_be_named t fid ≡ true
named-test t fid h =
    ap (λ x. option_map_or (λ (o : Object). nat_lt (paths_to t.names fid) (most_names o.kind)) x false) h.1 ∙ lt-test (paths_to t.names fid) (most_names h.0.kind) h.2

not-test : (b : Bool) → not b ≡ true → b ≡ false
not-test true h = absurd (false-true h)
not-test false h = refl

-- the next name
pub name-rules : (t : Tree) (path : Path) (fid : ℕ) → (is_next_name t path fid ≡ true) ↔ IsNextName t path fid
name-rules t path fid =
    let spelled = list_all is_name path in
    let last = is_behind t.names path in
    let under = stands_under t path in
    let proper = nat_le 1 fid in
    let named = may_be_named t fid in (
      (λ h.
          let a = and-left (spelled && last && under && proper) named h in
          let b = and-left (spelled && last && under) proper a in
          let c = and-left (spelled && last) under b in
          let stands = and-right (spelled && last) under b in
          record {
            below = not-test (is_root path) (and-left (not (is_root path)) (is_at t (above path) is_dir) stands);
            spelled = and-left spelled last c;
            rising = and-right spelled last c;
            under = and-right (not (is_root path)) (is_at t (above path) is_dir) stands;
            proper = leb-true 1 fid (and-right (spelled && last && under) proper a);
            leads = named-rule t fid (and-right (spelled && last && under && proper) named h);
          }),
      (λ r.
          and-both (spelled && last && under && proper) named
          (and-both (spelled && last && under) proper
          (and-both (spelled && last) under (and-both spelled last r.spelled r.rising)
          (and-both (not (is_root path)) (is_at t (above path) is_dir) (ap not r.below) r.under))
          (le-test 1 fid r.proper))
          (named-test t fid r.leads)),
    )

-- ---- the kept object of a number

pub none-named : (names : maps.FinMap path_cmp ℕ) (table : Table) (made fid : ℕ) → maps.get table fid ≡ None → false ≡ may_be_named (tree_of names table made) fid
none-named names table made fid none =
    sym (ap (λ x. option_map_or (λ (o : Object). nat_lt (paths_to names fid) (most_names o.kind)) x false) (get-objects table fid ∙ ap (option_map object_of) none))

pub some-named : (names : maps.FinMap path_cmp ℕ) (table : Table) (made fid : ℕ) (i : Inode) → IsCounted names table → maps.get table fid ≡ Some i
    → nat_lt i.links (most_names i.kind) ≡ may_be_named (tree_of names table made) fid
some-named names table made fid i counted at =
    ap (λ n. nat_lt n (most_names i.kind)) (counted fid i at)
    ∙ sym (ap (λ x. option_map_or (λ (o : Object). nat_lt (paths_to names fid) (most_names o.kind)) x false) (get-objects table fid ∙ ap (option_map object_of) at))
