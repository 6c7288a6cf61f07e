-- Each call on names and objects keeps a tree whole.
use Rattle.std.proofs.Common.{◌≡◌, ℕ, ◌≤◌, Bool, true, false, cond, ◌||◌, List, [], ◌∷◌, length, Option, Some, None, is_some, sym, ap, ◌∙◌, subst, refl, arith, inl, inr}
use Rattle.std.specs.Prelude.{nat_lt, ◌==◌}
use Rattle.std.proofs.lemmas.Bool.Decides.{nat_tests}
use Rattle.std.specs.Option.{option_map_or, option_and_then, option_map}
use Rattle.std.specs.List.{list_all}
use Rattle.std.specs.FinMap as maps
use Rattle.rz_events.specs.declared.tree.TreeCall.{TreeCall}
use Rattle.rz_events.specs.declared.tree.TreeCall.TheVariants as call
use Rattle.rz_events.specs.declared.tree.TreeFault.{TreeFault}
use Rattle.rz_events.specs.declared.tree.TreeFault.TheVariants as fault
use Rattle.rz_events.specs.declared.files.Kind.{Kind}
use Rattle.rz_events.specs.declared.files.Kind.TheVariants.{File, Dir, Link}
use Rattle.rz_export_model.specs.Firsts.{first_of, given_if}
use Rattle.rz_export_model.specs.Paths.{Path, above, is_root, begins_with}
use Rattle.rz_export_model.specs.Tree.{Tree, Object, Found, found_at, fid_at, file_of, file_from, grown, is_at, is_dir, is_file, names_under, moved, with_object, new_dir, new_file, new_link}
use Rattle.rz_export_model.specs.Refusals.{path_in, unreadable, unreadable_or_root, bad_target, can_not_make, walk, absent, present, dir, not_dir, not_empty, too_many_links, into_itself, not_replaceable, is_same_object, refusal}
use Rattle.rz_export_model.specs.TreeCalls.{changed_by, with_name, renamed, without_name}
use Rattle.rz_tree.specs.Added.{FitsKind, IsDirectory, IsSymlink}
use Rattle.rz_export_laws.specs.WholeTree.{IsWholeTree, is_plain, CallKeepsTree}
use Rattle.rz_tree.proofs.Keys.{none-or-some, held}
use Rattle.rz_tree.proofs.Calls.{above-other, without-none, link-leaf, link-walk, link-absent, rename-walk, rename-away, rename-last}
use Rattle.rz_tree.proofs.Adds.{or_none, given-false, absent-name, above-dir}
use Rattle.rz_tree.proofs.Names.{empty-under, leaf-under}
use Rattle.rz_export_laws.proofs.Changed.{changed-whole}
use Rattle.rz_export_laws.proofs.Made.{made-whole}
use Rattle.rz_export_laws.proofs.Taken.{taken-whole, taken-dir, taken-gone}
use Rattle.rz_export_laws.proofs.Linked.{linked-whole}
use Rattle.rz_export_laws.proofs.Moved.{moved-whole}
use Rattle.rz_export_laws.proofs.Spelled.{plain-in}
use Rattle.rz_export_laws.proofs.Refused.{at-dir, stands, link-there, link-room}

-- ---- attributes and sizes

-- an object is changed, and stays one of its kind
pub object-whole : (t : Tree) → IsWholeTree t → (fid : ℕ) (change : Object → Object)
    → ((o : Object) → maps.get t.objects fid ≡ Some o → ((change o).kind ≡ o.kind) × FitsKind (change o).kind (change o)) → IsWholeTree (with_object t fid change)
object-whole t w fid change keeps = go (maps.get t.objects fid) refl
  where
    go : (f : Option Object) → maps.get t.objects fid ≡ f → IsWholeTree (record t { objects = option_map_or (λ o. maps.insert t.objects fid (change o)) f t.objects })
    go None is = w
    go (Some o) is = let k = keeps o is in changed-whole t w fid o (change o) is k.0 k.1

fits-dated : (k : Kind) (mode mtime : ℕ) (o : Object) → FitsKind k o → FitsKind k (record o { mode = mode; mtime = mtime })
fits-dated File mode mtime o fits = fits
fits-dated Dir mode mtime o fits = record { empty = fits.empty; no_target = fits.no_target; nowhere = record { no_cluster = fits.nowhere.no_cluster; no_places = fits.nowhere.no_places } }
fits-dated Link mode mtime o fits = record {
  some_target = fits.some_target;
  short_target = fits.short_target;
  as_long = fits.as_long;
  nowhere = record { no_cluster = fits.nowhere.no_cluster; no_places = fits.nowhere.no_places };
}

dated-whole : (t : Tree) → IsWholeTree t → (mode mtime : ℕ) (f : Option ℕ) → IsWholeTree (option_map_or (λ fid. with_object t fid (λ o. record o { mode = mode; mtime = mtime })) f t)
dated-whole t w mode mtime None = w
dated-whole t w mode mtime (Some fid) = object-whole t w fid (λ o. record o { mode = mode; mtime = mtime }) (λ o is. (refl, fits-dated o.kind mode mtime o (w.fits fid o is)))

fits-sized : (k : Kind) (size : ℕ) (o : Object) → is_file k ≡ true → FitsKind k o → FitsKind k (record o { size = size })
fits-sized File size o file fits = fits
fits-sized Dir size o file fits = cc
fits-sized Link size o file fits = cc

given-true : {A : Type 0} (b : Bool) (x : A) → is_some (given_if b x) ≡ true → b ≡ true
given-true true x h = refl
given-true false x h = h

file-kind : (fid : ℕ) (o : Object) → is_some (file_from fid o) ≡ true → is_file o.kind ≡ true
file-kind fid o h = given-true (is_file o.kind) _ h

-- a live file may grow
pub grows-whole : (t : Tree) (fid size : ℕ) → is_some (file_of t fid) ≡ true → IsWholeTree t → IsWholeTree (grown t fid size)
grows-whole t fid size there w =
    object-whole t w fid _ (λ o is. (refl, fits-sized o.kind _ o (file-kind fid o (ap is_some (sym (ap (option_and_then (file_from fid)) is)) ∙ there)) (w.fits fid o is)))

-- ---- a new object

directory : IsDirectory new_dir
directory = record { empty = refl; no_target = refl; nowhere = record { no_cluster = refl; no_places = refl } }

symlink : (target : List ℕ) → bad_target target ≡ None → IsSymlink (new_link target)
symlink target h =
    let sizes = both (length target) (given-false ((length target == 0) || nat_lt 1024 (length target)) fault.BadName h) in
    record { some_target = sizes.0; short_target = sizes.1; as_long = refl; nowhere = record { no_cluster = refl; no_places = refl } }
  where
    both : (n : ℕ) → ((n == 0) || nat_lt 1024 n) ≡ false → (1 ≤ n) × (n ≤ 1024)
    both n h = go (n == 0) (nat_lt 1024 n) refl refl h
      where
        go : (a b : Bool) → (n == 0) ≡ a → nat_lt 1024 n ≡ b → (a || b) ≡ false → (1 ≤ n) × (n ≤ 1024)
        go true b is_a is_b h = cc
        go false true is_a is_b h = cc
        go false false is_a is_b h = (grind (arith, nat_tests), grind (arith, nat_tests))

-- ---- a name that goes

module _ (t : Tree) (w : IsWholeTree t) (p : Path) where
  removed-whole : is_root p ≡ false → absent t p ≡ None → names_under t.names p ≡ [] → IsWholeTree (without_name t p)
  removed-whole other there last = let s = stands t w.rules p there in taken-whole t w p s.0 s.1 s.2 s.3 other last

-- ---- a rename

module _ (t : Tree) (w : IsWholeTree t) (p q : Path) (free : first_of (walk t p ∷ absent t p ∷ into_itself t p q ∷ walk t q ∷ not_replaceable t p q ∷ []) ≡ None)
    (from : is_root p ≡ false) (below : is_root q ≡ false) (plain : list_all is_plain q ≡ true) where
  two-whole : is_same_object t p q ≡ false → IsWholeTree (let rest : Tree = without_name t q in record rest { names = moved p q rest.names })
  two-whole two = elim (none-or-some (maps.get t.names q)) [
    | inl none ↦
        let no_found : found_at t q ≡ None = ap (option_and_then (λ n. option_map (λ y. (let x : Found = record { fid = n; object = y } in x)) (maps.get t.objects n))) none in
        subst (λ (rest : Tree). IsWholeTree (record rest { names = moved p q rest.names })) (sym (without-none t q no_found))
        (moved-whole t w p q away below none parent plain)
    | inr some ↦
        let o = held (maps.get t.objects some.0) (w.rules.leads q some.0 some.1) in
        moved-whole (without_name t q) (taken-whole t w q some.0 o.0 some.1 o.1 below last) p q away below (taken-gone t w q some.0 o.0 some.1 o.1 below last)
        (taken-dir t w q some.0 o.0 some.1 o.1 below last (above q) (above-other q below) parent) plain
  ]
    where
      away : begins_with p q ≡ false
      away = rename-away t w.rules p q free two from

      last : names_under t.names q ≡ []
      last = rename-last t w.rules p q free two from

      parent : is_at t (above q) is_dir ≡ true
      parent = above-dir t w.rules q below (rename-walk t w.rules p q free two from)

  renamed-whole : IsWholeTree (renamed t p q)
  renamed-whole = go (is_same_object t p q) refl
    where
      go : (b : Bool) → is_same_object t p q ≡ b → IsWholeTree (cond b t (let rest : Tree = without_name t q in record rest { names = moved p q rest.names }))
      go true same = w
      go false two = two-whole two

-- ---- the calls

module _ (t : Tree) (w : IsWholeTree t) (cid : ℕ) (places : List ℕ) where
  -- a call that is not refused
  answered : (c : TreeCall) → refusal t c ≡ None → IsWholeTree (changed_by t cid places c)
  answered (call.Lookup path) free = w
  answered (call.Getattr path) free = w
  answered (call.Setattr path mode mtime) free = dated-whole t w mode mtime (fid_at t (path_in path))
  answered (call.Mkdir path) free =
      made-whole t w (path_in path) new_dir (or_none (unreadable path) (first_of (can_not_make t (path_in path))) free).1 directory (plain-in path)
  answered (call.Create path) free =
      made-whole t w (path_in path) (new_file cid places) (or_none (unreadable path) (first_of (can_not_make t (path_in path))) free).1 refl (plain-in path)
  answered (call.Symlink target path) free =
      let p = path_in path in
      let named = or_none (unreadable path) (first_of (bad_target target ∷ can_not_make t p)) free in
      let room = or_none (bad_target target) (first_of (can_not_make t p)) named.1 in
      made-whole t w p (new_link target) room.1 (symlink target room.0) (plain-in path)
  answered (call.Rmdir path) free =
      let p = path_in path in
      let named = or_none (unreadable_or_root path) (first_of (walk t p ∷ absent t p ∷ not_dir t p ∷ not_empty t p ∷ [])) free in
      let walked = or_none (walk t p) (first_of (absent t p ∷ not_dir t p ∷ not_empty t p ∷ [])) named.1 in
      let there = or_none (absent t p) (first_of (not_dir t p ∷ not_empty t p ∷ [])) walked.1 in
      let kind = or_none (not_dir t p) (first_of (not_empty t p ∷ [])) there.1 in
      let clear = or_none (not_empty t p) None kind.1 in
      removed-whole t w p (given-false (is_root p) fault.BadName named.0) there.0 (empty-under t p clear.0)
  answered (call.Unlink path) free =
      let p = path_in path in
      let named = or_none (unreadable_or_root path) (first_of (walk t p ∷ absent t p ∷ dir t p ∷ [])) free in
      let walked = or_none (walk t p) (first_of (absent t p ∷ dir t p ∷ [])) named.1 in
      let there = or_none (absent t p) (first_of (dir t p ∷ [])) walked.1 in
      let leaf = or_none (dir t p) None there.1 in
      removed-whole t w p (given-false (is_root p) fault.BadName named.0) there.0 (leaf-under t w.rules p (given-false (is_at t p is_dir) fault.IsDir leaf.0))
  answered (call.Link path to) free =
      let p = path_in path in
      let q = path_in to in
      let rest = first_of (walk t p ∷ absent t p ∷ dir t p ∷ walk t q ∷ present t q ∷ too_many_links t p ∷ []) in
      let named = or_none (unreadable_or_root path) (first_of (unreadable_or_root to ∷ walk t p ∷ absent t p ∷ dir t p ∷ walk t q ∷ present t q ∷ too_many_links t p ∷ [])) free in
      let both = or_none (unreadable_or_root to) rest named.1 in
      let other : is_root q ≡ false = given-false (is_root q) fault.BadName both.0 in
      let s = stands t w.rules p (link-there t p q both.1) in
      subst (λ f. IsWholeTree (option_map_or (λ fid. with_name t q fid) f t)) (sym s.2)
      (linked-whole t w q s.0 s.1 s.3 (sym (at-dir t p s.0 s.1 s.2 s.3) ∙ given-false (is_at t p is_dir) fault.IsDir (link-leaf t p q both.1)) (link-room t p q both.1 s.0 s.2)
      (absent-name t w.rules q (link-absent t p q both.1)) other (above-dir t w.rules q other (link-walk t p q both.1)) (plain-in to))
  answered (call.Rename path to) free =
      let p = path_in path in
      let q = path_in to in
      let rest = first_of (walk t p ∷ absent t p ∷ into_itself t p q ∷ walk t q ∷ not_replaceable t p q ∷ []) in
      let named = or_none (unreadable_or_root path) (first_of (unreadable_or_root to ∷ walk t p ∷ absent t p ∷ into_itself t p q ∷ walk t q ∷ not_replaceable t p q ∷ [])) free in
      let both = or_none (unreadable_or_root to) rest named.1 in
      renamed-whole t w p q both.1 (given-false (is_root p) fault.BadName named.0) (given-false (is_root q) fault.BadName both.0) (plain-in to)
  answered (call.Readlink path) free = w
  answered (call.Readdir path) free = w
  answered (call.OpenFile path) free = w

pub stays-whole : CallKeepsTree
stays-whole t cid places c w = go (refusal t c) refl
  where
    go : (f : Option TreeFault) → refusal t c ≡ f → IsWholeTree (option_map_or (λ (f : TreeFault). t) f (changed_by t cid places c))
    go None is = answered t w cid places c is
    go (Some f) is = w
