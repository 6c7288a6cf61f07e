-- What a call on the tree changes of its files: which come, which go, and where they lie.
use Rattle.std.proofs.Common.{ℕ, Bool, true, false, ◌==◌, ◌&&◌, not, ◌≡◌, ◌⊎◌, inl, inr, ◌≤◌, ◌<◌, ◌+◌, List, Option, Some, None, cond, refl, sym, ◌∙◌, ap, subst, arith}
use Rattle.std.specs.Option.{option_map, option_map_or, option_and_then, option_or}
use Rattle.std.specs.FinMap as maps
use Rattle.std.specs.FinMap.{FinMap}
use Rattle.std.specs.Ordering.{nat_cmp, is_lt, eq_by_cmp}
use Rattle.std.specs.Cmp.{nat_cmp_total, unsigned_tied}
use Rattle.std.proofs.lemmas.Bool.{eqb-true, cases_lt}
use Rattle.std.proofs.lemmas.Option.{same_Some}
use Rattle.rz_events.specs.declared.files.Kind.{Kind}
use Rattle.rz_events.specs.declared.files.Kind.TheVariants.{File, Dir, Link}
use Rattle.rz_events.specs.declared.tree.TreeCall.{TreeCall}
use Rattle.rz_events.specs.declared.tree.TreeCall.TheVariants as call
use Rattle.rz_events.specs.declared.tree.TreeReply.{TreeReply}
use Rattle.rz_events.specs.declared.tree.TreeReply.TheVariants as reply
use Rattle.rz_events.specs.declared.tree.TreeFault.{TreeFault}
use Rattle.rz_events.specs.declared.tree.TreeFault.TheVariants as fault
use Rattle.rz_export_model.specs.Firsts.{given_if}
use Rattle.rz_export_model.specs.Paths.{Path, path_cmp}
use Rattle.rz_export_model.specs.Tree.{Tree, Object, Found, found_at, fid_at, is_file, is_dir, is_at, links_of, info_of, moved, with_object, grown, new_dir, new_file, new_link}
use Rattle.rz_export_model.specs.Refusals.{path_in, refusal, is_same_object, unreadable_or_root, walk, absent, not_dir, not_empty}
use Rattle.rz_export_model.specs.TreeCalls.{last_name_of, without_name, changed_by, answer_to, tree_after, reply_to}
use Rattle.rz_export_model.specs.Files.{makes, ends}
use Rattle.rz_export_model.proofs.Firsts.{none_first, none_unless}

abbrev pub Objects : Type 0
Objects = FinMap nat_cmp Object

-- where a file lies, of what may be one
abbrev pub seen : Option Object → Option (List ℕ)
seen None = None
seen (Some o) = given_if (is_file o.kind) o.places

-- where the live file of a number lies
abbrev pub view : Objects → ℕ → Option (List ℕ)
view objects fid = seen (maps.get objects fid)

-- where the file lay that the reply ends
abbrev pub ended_at : TreeReply → ℕ → Option (List ℕ)
ended_at (reply.Gone (Some info)) fid = cond (fid == info.fid) (Some info.places) None
ended_at _ fid = None

-- where the file lies that the reply makes
abbrev pub made_at : TreeReply → ℕ → Option (List ℕ)
made_at (reply.MadeFile info) fid = cond (fid == info.fid) (Some info.places) None
made_at _ fid = None

-- no object has a number above the one made last
abbrev pub IsBlank : Tree → Type 0
IsBlank t = (fid : ℕ) → t.made < fid → maps.get t.objects fid ≡ None

-- the files come and go as the reply says
pub record IsStep (t u : Tree) (r : TreeReply) : Type 0 where
  pub rises : t.made ≤ u.made
  pub blank : IsBlank u
  pub new : (fid : ℕ) → makes r fid ≡ true → (t.made < fid) × (fid ≤ u.made)
  pub gone : (fid : ℕ) → ends r fid ≡ true → fid ≤ t.made
  pub views : (fid : ℕ) → view u.objects fid ≡ option_or (made_at r fid) (cond (ends r fid) None (view t.objects fid))
  pub was : (fid : ℕ) → ends r fid ≡ true → view t.objects fid ≡ ended_at r fid

-- a reply with which no file comes or goes
pub record IsQuiet (r : TreeReply) : Type 0 where
  pub at : (fid : ℕ) → made_at r fid ≡ None
  pub makes_none : (fid : ℕ) → makes r fid ≡ false
  pub ends_none : (fid : ℕ) → ends r fid ≡ false

abbrev pub is_quiet : TreeReply → Bool
is_quiet (reply.MadeFile info) = false
is_quiet (reply.Gone (Some info)) = false
is_quiet _ = true

pub quiet : (r : TreeReply) → is_quiet r ≡ true → IsQuiet r
quiet (reply.MadeFile info) q = cc
quiet (reply.Gone (Some info)) q = cc
quiet (_) q = record { at = λ fid. refl; makes_none = λ fid. refl; ends_none = λ fid. refl }

told-quiet : (tell : Found → TreeReply) (o : Option Found) → ((f : Found) → IsQuiet (tell f)) → IsQuiet (option_map_or tell o (reply.Refused fault.NoEntry))
told-quiet tell None q = quiet (reply.Refused fault.NoEntry) refl
told-quiet tell (Some f) q = q f

-- the files stay
pub still : (t u : Tree) (r : TreeReply) → IsBlank t → IsQuiet r → u.made ≡ t.made
    → ((fid : ℕ) → view u.objects fid ≡ view t.objects fid) → ((fid : ℕ) → maps.get t.objects fid ≡ None → maps.get u.objects fid ≡ None) → IsStep t u r
still t u r blank q made same none = record {
  rises = omega (arith, made);
  blank = λ fid up. none fid (blank fid (omega (arith, made, up)));
  new = λ fid m. (let off = q.makes_none fid in cc);
  gone = λ fid m. (let off = q.ends_none fid in cc);
  views = λ fid. same fid ∙ by_reply fid (made_at r fid) (q.at fid) (ends r fid) (q.ends_none fid);
  was = λ fid m. (let off = q.ends_none fid in cc);
}
  where
    by_reply : (fid : ℕ) (m : Option (List ℕ)) → m ≡ None → (e : Bool) → e ≡ false → view t.objects fid ≡ option_or m (cond e None (view t.objects fid))
    by_reply fid m none e off = subst (λ (z : Option (List ℕ)). view t.objects fid ≡ option_or z (cond e None (view t.objects fid))) (sym none)
        (subst (λ (b : Bool). view t.objects fid ≡ cond b None (view t.objects fid)) (sym off) refl)

pub unchanged : (t : Tree) (r : TreeReply) → IsBlank t → IsQuiet r → IsStep t t r
unchanged t r blank q = still t t r blank q refl (λ fid. refl) (λ fid none. none)

-- names alone make no file and end none
renames : (t u : Tree) (names : FinMap path_cmp ℕ) (r : TreeReply) → IsStep t u r → IsStep t (record u { names = names }) r
renames t u names r s = record { rises = s.rises; blank = s.blank; new = s.new; gone = s.gone; views = s.views; was = s.was }

-- numbers, compared in two ways
tied : (n m : ℕ) (t : Bool) → eq_by_cmp nat_cmp n m ≡ t → (n == m) ≡ t
tied n m t q = sym (unsigned_tied n m) ∙ q

pub apart : (n m : ℕ) → (n ≡ m → ⊥) → eq_by_cmp nat_cmp n m ≡ false
apart n m ne = go (eq_by_cmp nat_cmp n m) refl
  where
    go : (t : Bool) → eq_by_cmp nat_cmp n m ≡ t → t ≡ false
    go true q = absurd (ne (eqb-true n m (tied n m true q)))
    go false q = refl

first_none : (o : Option (List ℕ)) → option_or o None ≡ o
first_none None = refl
first_none (Some a) = refl

-- a new object
newly : (t : Tree) (names : FinMap path_cmp ℕ) (o : Object) (r : TreeReply) → IsBlank t
    → ((fid : ℕ) → made_at r fid ≡ cond (fid == t.made + 1) (seen (Some o)) None) → ((fid : ℕ) → makes r fid ≡ true → fid ≡ t.made + 1) → ((fid : ℕ) → ends r fid ≡ false)
    → IsStep t (record { names = names; objects = maps.insert t.objects (t.made + 1) o; made = t.made + 1 }) r
newly t names o r blank at makes ends_none = record {
  rises = omega arith;
  blank = λ fid up. maps.get-insert nat_cmp_total t.objects (t.made + 1) o fid ∙ ap (λ b. cond b (Some o) (maps.get t.objects fid)) (apart fid (t.made + 1) (λ is. omega (arith, is, up))) ∙ blank fid (omega (arith, up));
  new = λ fid m. (let is = makes fid m in (omega (arith, is), omega (arith, is)));
  gone = λ fid m. (let off = ends_none fid in cc);
  views = λ fid. ap seen (maps.get-insert nat_cmp_total t.objects (t.made + 1) o fid)
      ∙ here fid (eq_by_cmp nat_cmp fid (t.made + 1)) refl
      ∙ ap (λ b. option_or (cond (fid == t.made + 1) (seen (Some o)) None) (cond b None (view t.objects fid))) (sym (ends_none fid))
      ∙ ap (λ (z : Option (List ℕ)). option_or z (cond (ends r fid) None (view t.objects fid))) (sym (at fid));
  was = λ fid m. (let off = ends_none fid in cc);
}
  where
    here : (fid : ℕ) (b : Bool) → eq_by_cmp nat_cmp fid (t.made + 1) ≡ b
        → seen (cond b (Some o) (maps.get t.objects fid)) ≡ option_or (cond (fid == t.made + 1) (seen (Some o)) None) (view t.objects fid)
    here fid true on =
        let same = eqb-true fid (t.made + 1) (tied fid (t.made + 1) true on) in
        let none = blank fid (omega (arith, same)) in
        sym (first_none (seen (Some o))) ∙ ap (λ p. option_or (seen (Some o)) (seen p)) (sym none)
        ∙ ap (λ b. option_or (cond b (seen (Some o)) None) (view t.objects fid)) (sym (tied fid (t.made + 1) true on))
    here fid false off = ap (λ b. option_or (cond b (seen (Some o)) None) (view t.objects fid)) (sym (tied fid (t.made + 1) false off))

none_both : (b : Bool) → (let o : Option (List ℕ) = None in o) ≡ cond b None None
none_both true = refl
none_both false = refl

-- an object that changes, and remains a file of its places or none
altered : (t : Tree) (fid : ℕ) (change : Object → Object) (r : TreeReply) → IsBlank t → IsQuiet r → ((o : Object) → seen (Some (change o)) ≡ seen (Some o)) → IsStep t (with_object t fid change) r
altered t fid change r blank q keeps = go (maps.get t.objects fid) refl
  where
    same : (o : Object) → maps.get t.objects fid ≡ Some o → (n : ℕ) (b : Bool) → eq_by_cmp nat_cmp n fid ≡ b → seen (cond b (Some (change o)) (maps.get t.objects n)) ≡ view t.objects n
    same o is n true on = keeps o ∙ ap seen (sym is) ∙ ap (view t.objects) (sym (eqb-true n fid (tied n fid true on)))
    same o is n false off = refl

    none : (o : Object) → maps.get t.objects fid ≡ Some o → (n : ℕ) → maps.get t.objects n ≡ None → (b : Bool) → eq_by_cmp nat_cmp n fid ≡ b → cond b (Some (change o)) (maps.get t.objects n) ≡ None
    none o is n empty true on = let at = ap (λ k. maps.get t.objects k) (eqb-true n fid (tied n fid true on)) in cc
    none o is n empty false off = empty

    go : (p : Option Object) → maps.get t.objects fid ≡ p → IsStep t (record t { objects = option_map_or (λ o. maps.insert t.objects fid (change o)) p t.objects }) r
    go None is = unchanged t r blank q
    go (Some o) is =
        still t (record t { objects = maps.insert t.objects fid (change o) }) r blank q refl
        (λ n. ap seen (maps.get-insert nat_cmp_total t.objects fid (change o) n) ∙ same o is n (eq_by_cmp nat_cmp n fid) refl)
        (λ n empty. maps.get-insert nat_cmp_total t.objects fid (change o) n ∙ none o is n empty (eq_by_cmp nat_cmp n fid) refl)

altered-at : (t : Tree) (o : Option ℕ) (change : Object → Object) (r : TreeReply) → IsBlank t → IsQuiet r → ((o : Object) → seen (Some (change o)) ≡ seen (Some o))
    → IsStep t (option_map_or (λ fid. with_object t fid change) o t) r
altered-at t None change r blank q keeps = unchanged t r blank q
altered-at t (Some fid) change r blank q keeps = altered t fid change r blank q keeps

-- what stands at a path stands under its number
abbrev pub found_by : Objects → Option ℕ → Option Found
found_by objects o = option_and_then (λ fid. option_map (λ x. record { fid = fid; object = x }) (maps.get objects fid)) o

found_object : (objects : Objects) (o : Option ℕ) (f : Found) → found_by objects o ≡ Some f → maps.get objects f.fid ≡ Some f.object
found_object objects None f k = cc
found_object objects (Some n) f k = go (maps.get objects n) refl k
  where
    go : (p : Option Object) → maps.get objects n ≡ p → (let q : Option Found = option_map (λ x. record { fid = n; object = x }) p in q) ≡ Some f → maps.get objects f.fid ≡ Some f.object
    go None q k = cc
    go (Some x) q k =
        let same : (let z : Found = record { fid = n; object = x } in z) ≡ f = same_Some _ f k in
        ap (λ (z : Found). maps.get objects z.fid) (sym same) ∙ q ∙ ap (λ (z : Found). Some z.object) same

-- an object that goes
module _ (t : Tree) (blank : IsBlank t) (f : Found) (there : maps.get t.objects f.fid ≡ Some f.object) where
  abbrev less : Tree
  less = record t { objects = maps.remove t.objects f.fid }

  low : f.fid ≤ t.made
  low = go (cases_lt t.made f.fid)
    where
      go : (t.made < f.fid) ⊎ (f.fid ≤ t.made) → f.fid ≤ t.made
      go (inl up) = let none = blank f.fid up in cc
      go (inr le) = le

  less-none : (fid : ℕ) → maps.get t.objects fid ≡ None → maps.get less.objects fid ≡ None
  less-none fid none = maps.get-remove nat_cmp_total t.objects f.fid fid ∙ go (eq_by_cmp nat_cmp fid f.fid)
    where
      go : (b : Bool) → cond b None (maps.get t.objects fid) ≡ None
      go true = refl
      go false = none

  -- that is no file
  other-goes : (r : TreeReply) → IsQuiet r → is_file f.object.kind ≡ false → IsStep t less r
  other-goes r q no_file = still t less r blank q refl (λ fid. ap seen (maps.get-remove nat_cmp_total t.objects f.fid fid) ∙ go fid (eq_by_cmp nat_cmp fid f.fid) refl) less-none
    where
      go : (fid : ℕ) (b : Bool) → eq_by_cmp nat_cmp fid f.fid ≡ b → seen (cond b None (maps.get t.objects fid)) ≡ view t.objects fid
      go fid true on =
          sym (ap (λ b. given_if b f.object.places) no_file) ∙ ap seen (sym there) ∙ ap (view t.objects) (sym (eqb-true fid f.fid (tied fid f.fid true on)))
      go fid false off = refl

  -- that is a file
  file-goes : is_file f.object.kind ≡ true → IsStep t less (reply.Gone (Some (info_of f)))
  file-goes file = record {
    rises = omega arith;
    blank = λ fid up. less-none fid (blank fid up);
    new = λ fid m. cc;
    gone = λ fid m. (let same = eqb-true fid f.fid m in let le = low in omega (arith, same, le));
    views = λ fid. ap seen (maps.get-remove nat_cmp_total t.objects f.fid fid) ∙ go fid (eq_by_cmp nat_cmp fid f.fid) refl;
    was = λ fid m. (let same = eqb-true fid f.fid m in
        ap (view t.objects) same ∙ ap seen there ∙ ap (λ b. given_if b f.object.places) file ∙ ap (λ b. cond b (Some f.object.places) None) (sym m));
  }
    where
      go : (fid : ℕ) (b : Bool) → eq_by_cmp nat_cmp fid f.fid ≡ b → seen (cond b None (maps.get t.objects fid)) ≡ cond (fid == f.fid) None (view t.objects fid)
      go fid true on = ap (λ b. cond b None (view t.objects fid)) (sym (tied fid f.fid true on))
      go fid false off = ap (λ b. cond b None (view t.objects fid)) (sym (tied fid f.fid false off))

  -- with its last name
  name-goes : (names : FinMap path_cmp ℕ) (last : Bool) → IsStep t (record t { names = names; objects = cond last (maps.remove t.objects f.fid) t.objects }) (reply.Gone (given_if (is_file f.object.kind && last) (info_of f)))
  name-goes names last = go (is_file f.object.kind) refl last
    where
      go : (k : Bool) → is_file f.object.kind ≡ k → (b : Bool) → IsStep t (record t { names = names; objects = cond b (maps.remove t.objects f.fid) t.objects }) (reply.Gone (given_if (k && b) (info_of f)))
      go true file true = renames t less names _ (file-goes file)
      go false other true = renames t less names _ (other-goes (reply.Gone None) (quiet (reply.Gone None) refl) other)
      go true file false = renames t t names _ (unchanged t (reply.Gone None) blank (quiet (reply.Gone None) refl))
      go false other false = renames t t names _ (unchanged t (reply.Gone None) blank (quiet (reply.Gone None) refl))

  other-name-goes : (names : FinMap path_cmp ℕ) (last : Bool) → is_file f.object.kind ≡ false → IsStep t (record t { names = names; objects = cond last (maps.remove t.objects f.fid) t.objects }) reply.Plain
  other-name-goes names true other = renames t less names _ (other-goes reply.Plain (quiet reply.Plain refl) other)
  other-name-goes names false other = renames t t names _ (unchanged t reply.Plain blank (quiet reply.Plain refl))

-- a name goes, and with its last name an object
loses : (t : Tree) (path : Path) → IsBlank t → IsStep t (without_name t path) (reply.Gone (last_name_of t path))
loses t path blank = go (found_at t path) refl
  where
    go : (o : Option Found) → found_at t path ≡ o
        → IsStep t (option_map_or (λ f. record t { names = maps.remove t.names path; objects = cond (links_of t f == 1) (maps.remove t.objects f.fid) t.objects }) o t)
        (reply.Gone (option_and_then (λ f. given_if (is_file f.object.kind && (links_of t f == 1)) (info_of f)) o))
    go None is = unchanged t (reply.Gone None) blank (quiet (reply.Gone None) refl)
    go (Some f) is = name-goes t blank f (found_object t.objects (fid_at t path) f is) (maps.remove t.names path) (links_of t f == 1)

pub dir_no_file : (k : Kind) → is_dir k ≡ true → is_file k ≡ false
dir_no_file File q = cc
dir_no_file Dir q = refl
dir_no_file Link q = cc

-- a directory goes
loses-dir : (t : Tree) (path : Path) → IsBlank t → is_at t path is_dir ≡ true → IsStep t (without_name t path) reply.Plain
loses-dir t path blank dir = go (found_at t path) refl dir
  where
    go : (o : Option Found) → found_at t path ≡ o → option_map_or is_dir (option_map (λ f. f.object.kind) o) false ≡ true
        → IsStep t (option_map_or (λ f. record t { names = maps.remove t.names path; objects = cond (links_of t f == 1) (maps.remove t.objects f.fid) t.objects }) o t) reply.Plain
    go None is dir = cc
    go (Some f) is dir = other-name-goes t blank f (found_object t.objects (fid_at t path) f is) (maps.remove t.names path) (links_of t f == 1) (dir_no_file f.object.kind dir)

-- a rename
turns : (t : Tree) (path to : Path) → IsBlank t → (same : Bool)
    → IsStep t (cond same t (record (without_name t to) { names = moved path to (without_name t to).names })) (reply.Gone (cond same None (last_name_of t to)))
turns t path to blank true = unchanged t (reply.Gone None) blank (quiet (reply.Gone None) refl)
turns t path to blank false = renames t (without_name t to) (moved path to (without_name t to).names) _ (loses t to blank)

links : (t : Tree) (to : Path) (o : Option ℕ) → IsBlank t → IsStep t (option_map_or (λ fid. record t { names = maps.insert t.names to fid }) o t) reply.Plain
links t to None blank = unchanged t reply.Plain blank (quiet reply.Plain refl)
links t to (Some fid) blank = renames t t (maps.insert t.names to fid) _ (unchanged t reply.Plain blank (quiet reply.Plain refl))

-- a directory that may go is one
pub may_go : (t : Tree) (path : List ℕ) → refusal t (call.Rmdir path) ≡ None → is_at t (path_in path) is_dir ≡ true
may_go t path k = let p = path_in path in none_unless (is_at t p is_dir) fault.NotDir (none_first (not_dir t p) (option_or (not_empty t p) None)
    (none_first (absent t p) (option_or (not_dir t p) (option_or (not_empty t p) None))
    (none_first (walk t p) (option_or (absent t p) (option_or (not_dir t p) (option_or (not_empty t p) None)))
    (none_first (unreadable_or_root path) (option_or (walk t p) (option_or (absent t p) (option_or (not_dir t p) (option_or (not_empty t p) None)))) k).1).1).1).0

changes : (t : Tree) (cid : ℕ) (places : List ℕ) (c : TreeCall) → IsBlank t → refusal t c ≡ None → IsStep t (changed_by t cid places c) (answer_to t cid places c)
changes t cid places (call.Lookup path) blank k = unchanged t _ blank (told-quiet (λ f. reply.Found f.fid f.object.kind) (found_at t (path_in path)) (λ f. quiet _ refl))
changes t cid places (call.Getattr path) blank k = unchanged t _ blank (told-quiet _ (found_at t (path_in path)) (λ f. quiet _ refl))
changes t cid places (call.Setattr path mode mtime) blank k =
    altered-at t (fid_at t (path_in path)) (λ o. record o { mode = mode; mtime = mtime }) reply.Plain blank (quiet reply.Plain refl) (λ o. refl)
changes t cid places (call.Mkdir path) blank k =
    newly t _ new_dir (reply.Made (t.made + 1)) blank (λ fid. none_both (fid == t.made + 1)) (λ fid m. cc) (λ fid. refl)
changes t cid places (call.Create path) blank k =
    newly t _ (new_file cid places) (reply.MadeFile (record { fid = t.made + 1; cid = cid; places = places; size = 0 })) blank (λ fid. refl) (λ fid m. eqb-true fid (t.made + 1) m) (λ fid. refl)
changes t cid places (call.Symlink target path) blank k =
    newly t _ (new_link target) (reply.Made (t.made + 1)) blank (λ fid. none_both (fid == t.made + 1)) (λ fid m. cc) (λ fid. refl)
changes t cid places (call.Rmdir path) blank k = loses-dir t (path_in path) blank (may_go t path k)
changes t cid places (call.Unlink path) blank k = loses t (path_in path) blank
changes t cid places (call.Link path to) blank k = links t (path_in to) (fid_at t (path_in path)) blank
changes t cid places (call.Rename path to) blank k = turns t (path_in path) (path_in to) blank (is_same_object t (path_in path) (path_in to))
changes t cid places (call.Readlink path) blank k = unchanged t _ blank (told-quiet _ (found_at t (path_in path)) (λ f. quiet _ refl))
changes t cid places (call.Readdir path) blank k = unchanged t _ blank (quiet _ refl)
changes t cid places (call.OpenFile path) blank k = unchanged t _ blank (told-quiet _ (found_at t (path_in path)) (λ f. quiet _ refl))

-- each call
pub step : (t : Tree) (cid : ℕ) (places : List ℕ) (c : TreeCall) → IsBlank t → IsStep t (tree_after t cid places c) (reply_to t cid places c)
step t cid places c blank = go (refusal t c) refl
  where
    go : (o : Option TreeFault) → refusal t c ≡ o → IsStep t (option_map_or (λ f. t) o (changed_by t cid places c)) (option_map_or reply.Refused o (answer_to t cid places c))
    go (Some why) is = unchanged t (reply.Refused why) blank (quiet (reply.Refused why) refl)
    go None is = changes t cid places c blank is

-- a file grows
pub grows : (t : Tree) (fid size : ℕ) → IsBlank t → IsStep t (grown t fid size) reply.Plain
grows t fid size blank = altered t fid (λ o. record o { size = cond (is_lt (nat_cmp o.size size)) size o.size }) reply.Plain blank (quiet reply.Plain refl) (λ o. refl)
