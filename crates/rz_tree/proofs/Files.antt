-- The numbers of the files as the kept objects change, and the first file past a number.
use Rattle.std.proofs.Common.{◌≡◌, ℕ, ◌<◌, Bool, true, false, cond, ◌&&◌, T, List, [], ◌∷◌, Option, Some, None, Ordering, sym, ap, ◌∙◌, subst, refl, arith, inl, inr}
use Rattle.std.specs.Option.{option_map_or, option_or}
use Rattle.std.specs.declared.cmp.Ordering.TheVariants.{Less, Equal, Greater}
use Rattle.std.specs.declared.ops.Bound.TheVariants.{Excluded, Unbounded}
use Rattle.std.specs.Ordering.{is_lt, is_gt, nat_cmp, eq_by_cmp}
use Rattle.std.specs.Cmp.{ranked, nat_cmp_is, eq_by_cmp_equiv, nat_cmp_total}
use Rattle.std.specs.List.{slice_get, list_any}
use Rattle.std.specs.Option.{IfSome}
use Rattle.std.specs.BTreeMap.{is_at}
use Rattle.std.specs.BTreeMap.Range.{IsLeBy}
use Rattle.std.specs.BTreeSet.{BTreeSet, contains, IsKeyInRange, IsKeyRangeOf}
use Rattle.std.specs.FinMap as maps
use Rattle.std.specs.FinMap.{get-insert, get-remove, get-empty, get-entries, entries_sorted, nat_cmp-IsAntisymmetric}
use Rattle.std.specs.FinMap.Entries.{find, is_sorted, below_all}
use Rattle.rz_events.specs.declared.files.FileInfo.{FileInfo}
use Rattle.rz_events.specs.declared.files.Kind.{Kind}
use Rattle.rz_events.specs.declared.files.Kind.TheVariants.{File, Dir, Link}
use Rattle.rz_export_model.proofs.Tests.{right}
use Rattle.rz_export_model.specs.Firsts.{first_given, given_if}
use Rattle.rz_export_model.specs.Tree.{file_from, is_file, info_of}
use Rattle.rz_tree.specs.declared.inodes.Inode.{Inode}
use Rattle.rz_tree.specs.Inodes.{Table, object_of, found_of, changed_at, file_past, is_file_at, AreFilesOf}
use Rattle.rz_tree.proofs.Keys.{same_some, not_none, false-true, true-or-false, one-or-two, ties-itself, get-inserted, get-beside}
use Rattle.rz_tree.proofs.Rows.{Row, table_of}

abbrev Numbers : Type 0
Numbers = BTreeSet ℕ

-- whether what is there is a file
abbrev is_file_in : Option Inode → Bool
is_file_in o = option_map_or (λ i. is_file i.kind) o false

file-cond : (b : Bool) (o p : Option Inode) → is_file_in (cond b o p) ≡ cond b (is_file_in o) (is_file_in p)
file-cond true o p = refl
file-cond false o p = refl

-- no objects, no files
pub none-files : (es : Row) (files : Numbers) → es ≡ [] → files.keys ≡ [] → AreFilesOf (table_of es) files
none-files es files none empty q =
    ap (list_any (is_at (nat_cmp q))) empty ∙ sym (ap (λ r. is_file_at (table_of r) q) none ∙ ap is_file_in (get-empty nat_cmp q))

changed-step : (m : Table) (k : ℕ) (f : Inode → Inode) (o : Option Inode) → maps.get m k ≡ o → ((i : Inode) → (f i).kind ≡ i.kind)
    → (q : ℕ) → is_file_at (option_map_or (λ i. maps.insert m k (f i)) o m) q ≡ is_file_at m q
changed-step m k f None at same q = refl
changed-step m k f (Some i) at same q =
    let after : Table = maps.insert m k (f i) in
    elim (one-or-two nat_cmp_total nat_cmp-IsAntisymmetric q k) [
      | inl tied ↦ ap (is_file_at after) tied ∙ ap is_file_in (get-inserted nat_cmp_total nat_cmp-IsAntisymmetric m k (f i)) ∙ ap is_file (same i)
          ∙ sym (ap (is_file_at m) tied ∙ ap is_file_in at)
      | inr other ↦ ap is_file_in (get-beside nat_cmp_total nat_cmp-IsAntisymmetric m k (f i) q other)
    ]

-- a change that keeps the kind
pub changed-files : (m : Table) (k : ℕ) (f : Inode → Inode) (files : Numbers) → ((i : Inode) → (f i).kind ≡ i.kind) → AreFilesOf m files → AreFilesOf (changed_at m k f) files
changed-files m k f files same are q = are q ∙ sym (changed-step m k f (maps.get m k) refl same q)

inserted : (m : Table) (k : ℕ) (i : Inode) (q : ℕ) → is_file_at (maps.insert m k i) q ≡ cond (eq_by_cmp nat_cmp q k) (is_file i.kind) (is_file_at m q)
inserted m k i q = ap is_file_in (get-insert nat_cmp_total m k i q) ∙ file-cond (eq_by_cmp nat_cmp q k) (Some i) (maps.get m q)

-- a kind that is not a file's
pub other-kind : (k : Kind) → (k ≡ File → ⊥) → is_file k ≡ false
other-kind File h = absurd (h refl)
other-kind Dir h = refl
other-kind Link h = refl

-- a new object that is no file
pub other-files : (m : Table) (k : ℕ) (i : Inode) (files : Numbers) → maps.get m k ≡ None → is_file i.kind ≡ false → AreFilesOf m files → AreFilesOf (maps.insert m k i) files
other-files m k i files none other are q = are q ∙ sym (inserted m k i q ∙ elim (one-or-two nat_cmp_total nat_cmp-IsAntisymmetric q k) [
  | inl tied ↦ ap (λ x. cond (eq_by_cmp nat_cmp x k) (is_file i.kind) (is_file_at m x)) tied ∙ ap (λ b. cond b (is_file i.kind) (is_file_at m k)) (ties-itself nat_cmp_total nat_cmp-IsAntisymmetric k)
      ∙ other ∙ sym (ap (is_file_at m) tied ∙ ap is_file_in none)
  | inr apart ↦ ap (λ b. cond b (is_file i.kind) (is_file_at m q)) apart
])

-- a new file
pub added-files : (m : Table) (k : ℕ) (i : Inode) (files after : Numbers) → is_file i.kind ≡ true
    → ((q : ℕ) → contains nat_cmp after q ≡ cond (is_at (nat_cmp k) q) true (contains nat_cmp files q)) → AreFilesOf m files → AreFilesOf (maps.insert m k i) after
added-files m k i files after file there are q =
    there q ∙ ap (cond (is_at (nat_cmp k) q) true) (are q) ∙ ap (λ b. cond b true (is_file_at m q)) ((eq_by_cmp_equiv nat_cmp_total).symm k q)
    ∙ sym (inserted m k i q ∙ ap (λ f. cond (eq_by_cmp nat_cmp q k) f (is_file_at m q)) file)

-- an object that goes
pub gone-files : (m : Table) (k : ℕ) (files after : Numbers)
    → ((q : ℕ) → contains nat_cmp after q ≡ cond (is_at (nat_cmp k) q) false (contains nat_cmp files q)) → AreFilesOf m files → AreFilesOf (maps.remove m k) after
gone-files m k files after there are q =
    there q ∙ ap (cond (is_at (nat_cmp k) q) false) (are q) ∙ ap (λ b. cond b false (is_file_at m q)) ((eq_by_cmp_equiv nat_cmp_total).symm k q)
    ∙ sym (ap is_file_in (get-remove nat_cmp_total m k q) ∙ file-cond (eq_by_cmp nat_cmp q k) None (maps.get m q))

less-than : (a b : ℕ) → nat_cmp a b ≡ Less → a < b
less-than a b h = ranked a b Less (sym h)

less-of : (r : Ordering) → is_lt r ≡ true → r ≡ Less
less-of Less h = refl
less-of Equal h = cc
less-of Greater h = cc

left : (a b : Bool) → T (a && b) → a ≡ true
left true b h = refl
left false b h = absurd h

first-part : (a b : Bool) → T (a && b) → T a
first-part true b h = tt
first-part false b h = absurd h

-- what an entry gives that is past a number
abbrev given_past : ℕ → ℕ × Inode → Option FileInfo
given_past fid e = cond (is_lt (nat_cmp fid e.0)) (file_from e.0 (object_of e.1)) None

past-step : (fid : ℕ) (e : ℕ × Inode) (b : Bool) → is_lt (nat_cmp fid e.0) ≡ b → (fid < e.0 → is_file e.1.kind ≡ false) → cond b (file_from e.0 (object_of e.1)) None ≡ None
past-step fid e true past none = ap (λ f. given_if f (info_of (found_of e.0 e.1))) (none (less-than fid e.0 (less-of (nat_cmp fid e.0) past)))
past-step fid e false past none = refl

not-given : (fid : ℕ) (e : ℕ × Inode) → (fid < e.0 → is_file e.1.kind ≡ false) → given_past fid e ≡ None
not-given fid e none = past-step fid e (is_lt (nat_cmp fid e.0)) refl none

found-first : (e : ℕ × Inode) (es : Row) → find nat_cmp e.0 (e ∷ es) ≡ Some e.1
found-first e es = ap (λ b. cond b (Some e.1) (find nat_cmp e.0 es)) (ties-itself nat_cmp_total nat_cmp-IsAntisymmetric e.0)

below-found : (x q : ℕ) (i : Inode) (es : Row) → T (below_all nat_cmp x es) → find nat_cmp q es ≡ Some i → x < q
below-found x q i [] below at = absurd (not_none i (sym at))
below-found x q i (e ∷ es) below at = elim (one-or-two nat_cmp_total nat_cmp-IsAntisymmetric q e.0) [
  | inl tied ↦ less-than x q (ap (nat_cmp x) tied ∙ less-of (nat_cmp x e.0) (left _ _ below))
  | inr other ↦ below-found x q i es (right _ _ below) (sym (ap (λ b. cond b (Some e.1) (find nat_cmp q es)) other) ∙ at)
]

-- what is found behind an entry is found
found-later : (q : ℕ) (i : Inode) (e : ℕ × Inode) (es : Row) → T (is_sorted nat_cmp (e ∷ es)) → find nat_cmp q es ≡ Some i → find nat_cmp q (e ∷ es) ≡ Some i
found-later q i e es sorted at = elim (one-or-two nat_cmp_total nat_cmp-IsAntisymmetric q e.0) [
  | inl tied ↦ absurd (apart-self q (subst (λ x. x < q) (sym tied) (below-found e.0 q i es (first-part _ _ sorted) at)))
  | inr other ↦ ap (λ b. cond b (Some e.1) (find nat_cmp q es)) other ∙ at
]
  where
    apart-self : (x : ℕ) → x < x → ⊥
    apart-self x h = omega arith

none-past : (fid : ℕ) (es : Row) → T (is_sorted nat_cmp es) → ((q : ℕ) (i : Inode) → fid < q → find nat_cmp q es ≡ Some i → is_file i.kind ≡ false)
    → first_given (given_past fid) es ≡ None
none-past fid [] sorted none = refl
none-past fid (e ∷ es) sorted none =
    ap (λ o. option_or o (first_given (given_past fid) es)) (not-given fid e (λ past. none e.0 e.1 past (found-first e es)))
    ∙ none-past fid es (right _ _ sorted) (λ q i past at. none q i past (found-later q i e es sorted at))

first-past : (fid k : ℕ) (i : Inode) (es : Row) → T (is_sorted nat_cmp es) → nat_cmp fid k ≡ Less → find nat_cmp k es ≡ Some i → is_file i.kind ≡ true
    → ((q : ℕ) (j : Inode) → fid < q → q < k → find nat_cmp q es ≡ Some j → is_file j.kind ≡ false) → first_given (given_past fid) es ≡ Some (info_of (found_of k i))
first-past fid k i [] sorted past at file none = absurd (not_none i (sym at))
first-past fid k i (e ∷ es) sorted past at file none =
    let rest : Option FileInfo = first_given (given_past fid) es in
    elim (one-or-two nat_cmp_total nat_cmp-IsAntisymmetric k e.0) [
      | inl tied ↦
          let own : e.1 ≡ i = same_some e.1 i (sym (found-first e es) ∙ ap (λ x. find nat_cmp x (e ∷ es)) (sym tied) ∙ at) in
          ap (λ x. option_or (given_past fid (x, e.1)) rest) (sym tied) ∙ ap (λ j. option_or (given_past fid (k, j)) rest) own
          ∙ ap (λ r. option_or (cond (is_lt r) (file_from k (object_of i)) None) rest) past
          ∙ ap (λ f. option_or (given_if f (info_of (found_of k i))) rest) file
      | inr other ↦
          let later : find nat_cmp k es ≡ Some i = sym (ap (λ b. cond b (Some e.1) (find nat_cmp k es)) other) ∙ at in
          let before : e.0 < k = below-found e.0 k i es (first-part _ _ sorted) later in
          ap (λ o. option_or o rest) (not-given fid e (λ more. none e.0 e.1 more before (found-first e es)))
          ∙ first-past fid k i es (right _ _ sorted) past later file (λ q j more less there. none q j more less (found-later q j e es sorted there))
    ]

module _ (m : Table) (files : Numbers) (are : AreFilesOf m files) (fid : ℕ) (range : List ℕ) (in_range : IsKeyRangeOf nat_cmp (Excluded fid) Unbounded files range) where
  is-file : (q : ℕ) (i : Inode) → maps.get m q ≡ Some i → contains nat_cmp files q ≡ is_file i.kind
  is-file q i at = are q ∙ ap is_file_in at

  -- no number past this one is a file's
  pub past-none : range ≡ [] → None ≡ file_past m fid
  past-none empty = sym (none-past fid (maps.entries m) (entries_sorted m) (λ q i past at.
      sym (is-file q i (get-entries m q ∙ at)) ∙ in_range.5 empty q (sym (nat_cmp_is fid q Less past), tt)))

  module _ (k : ℕ) (rest : List ℕ) (first : range ≡ k ∷ rest) where
    within : IsKeyInRange nat_cmp (Excluded fid) Unbounded files k
    within = subst (λ r. IfSome (slice_get r 0) (IsKeyInRange nat_cmp (Excluded fid) Unbounded files)) first in_range.1

    least : (q : ℕ) → fid < q → contains nat_cmp files q ≡ true → is_gt (nat_cmp k q) ≡ false
    least q past there = subst (λ r. IfSome (slice_get r 0) (λ x. IsLeBy nat_cmp x q)) first (in_range.2 q (sym (nat_cmp_is fid q Less past), tt) there)

    between : (q : ℕ) (j : Inode) → fid < q → q < k → maps.get m q ≡ Some j → is_file j.kind ≡ false
    between q j past before at = elim (true-or-false (is_file j.kind)) [
      | inl file ↦
          let greater : nat_cmp k q ≡ Greater = sym (nat_cmp_is k q Greater before) in
          absurd (false-true (sym (least q past (is-file q j at ∙ file)) ∙ ap is_gt greater))
      | inr other ↦ other
    ]

    -- the first of the numbers past this one is a file's, the first past it
    pub past-first : (i : Inode) → maps.get m k ≡ Some i → Some (info_of (found_of k i)) ≡ file_past m fid
    past-first i at = sym (first-past fid k i (maps.entries m) (entries_sorted m) within.0.0 (sym (get-entries m k) ∙ at) (sym (is-file k i at) ∙ within.1)
        (λ q j past before there. between q j past before (get-entries m q ∙ there)))

    pub past-there : maps.get m k ≡ None → ⊥
    past-there none = false-true (sym (ap is_file_in none) ∙ sym (are k) ∙ within.1)
