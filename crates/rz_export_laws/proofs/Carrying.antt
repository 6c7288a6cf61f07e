-- What calls leave of the files: a file that stays is at least as long as before, and each lies in the volume.
use Rattle.std.proofs.Common.{List, ℕ, not, Bool, true, false, ◌==◌, ◌&&◌, ◌≡◌, inl, inr, ◌≤◌, ◌+◌, Option, Some, None, cond, refl, sym, ◌∙◌, ap, subst, arith, eq-eqb}
use Rattle.std.specs.Option.{option_map, option_map_or, option_and_then, option_or}
use Rattle.std.specs.Cmp.{nat_cmp_total}
use Rattle.std.specs.FinMap as maps
use Rattle.std.specs.FinMap.{nat_cmp-IsAntisymmetric}
use Rattle.rz_events.specs.Volume.{Volume}
use Rattle.rz_events.specs.declared.files.Kind.{Kind}
use Rattle.rz_events.specs.declared.files.Kind.TheVariants.{File, Dir, Link}
use Rattle.rz_events.specs.declared.tree.TreeCall.{TreeCall}
use Rattle.rz_events.specs.declared.tree.TreeCall.TheVariants as call
use Rattle.rz_events.specs.declared.tree.TreeReply.TheVariants as reply
use Rattle.rz_events.specs.declared.tree.TreeFault.{TreeFault}
use Rattle.rz_events.specs.declared.tree.TreeFault.TheVariants as fault
use Rattle.rz_export_model.specs.Firsts.{given_if}
use Rattle.rz_export_model.specs.Paths.{Path}
use Rattle.rz_export_model.specs.Tree.{Tree, Object, Found, found_at, fid_at, is_file, is_dir, is_at, links_of, info_of, moved, with_object, new_dir, new_file, new_link}
use Rattle.rz_export_model.specs.Refusals.{path_in, refusal, is_same_object, unreadable_or_root, walk, absent, not_dir, not_empty}
use Rattle.rz_export_model.specs.TreeCalls.{last_name_of, without_name, with_name, changed_by, answer_to, tree_after, reply_to}
use Rattle.rz_tree.proofs.Keys.{false-true, one-or-two, get-inserted, get-beside, get-removed, get-left, same_some, not_none}
use Rattle.rz_export.specs.Building.{LiesIn}
use Rattle.rz_export_model.specs.Files.{ends}
use Rattle.rz_export_model.proofs.Files.{Objects, may_go, dir_no_file}
use Rattle.rz_export_model.proofs.Firsts.{none_first, none_unless}

-- there is a file of this number, at least as long as this
pub record HasFile (os : Objects) (fid size : ℕ) : Type 0 where
  pub object : Object
  pub at : maps.get os fid ≡ Some object
  pub file : is_file object.kind ≡ true
  pub long : size ≤ object.size

-- each file lies in the volume
abbrev pub Lie : Volume → Objects → Type 0
Lie v os = (fid : ℕ) (o : Object) → maps.get os fid ≡ Some o → is_file o.kind ≡ true → LiesIn v o

-- the files that stay are as long, and each that is there lies in the volume
pub record IsCarried (v : Volume) (os after : Objects) (ended : ℕ → Bool) : Type 0 where
  pub stays : (fid size : ℕ) → HasFile os fid size → ended fid ≡ false → HasFile after fid size
  pub lie : Lie v after

module _ (v : Volume) (t : Tree) (lie : Lie v t.objects) where
  abbrev os : Objects
  os = t.objects

  pub same : (ended : ℕ → Bool) → IsCarried v os os ended
  same ended = record { stays = λ fid size has _. has; lie = lie }

  -- an object that changes, stays of its kind, and is as long
  module _ (fid : ℕ) (change : Object → Object) (ended : ℕ → Bool) (kind : (o : Object) → is_file (change o).kind ≡ is_file o.kind)
      (long : (o : Object) → o.size ≤ (change o).size) (lies : (o : Object) → maps.get os fid ≡ Some o → is_file o.kind ≡ true → LiesIn v o → LiesIn v (change o)) where
    changed_to : (old : Object) → maps.get os fid ≡ Some old → IsCarried v os (maps.insert os fid (change old)) ended
    changed_to old at = record {
      stays = λ n size has _. elim (one-or-two nat_cmp_total nat_cmp-IsAntisymmetric n fid) [
        | inl is ↦
            let own : has.object ≡ old = same_some has.object old (sym has.at ∙ ap (maps.get os) is ∙ at) in
            let size_too : has.object.size ≤ (change old).size = subst (λ (o : Object). has.object.size ≤ (change o).size) own (long has.object) in
            let enough = has.long in
            record {
              object = change old;
              at = ap (maps.get (maps.insert os fid (change old))) is ∙ get-inserted nat_cmp_total nat_cmp-IsAntisymmetric os fid (change old);
              file = kind old ∙ ap (λ (o : Object). is_file o.kind) (sym own) ∙ has.file;
              long = omega (arith, enough, size_too);
            }
        | inr other ↦ record { object = has.object; at = get-beside nat_cmp_total nat_cmp-IsAntisymmetric os fid (change old) n other ∙ has.at; file = has.file; long = has.long }
      ];
      lie = λ n o there file. elim (one-or-two nat_cmp_total nat_cmp-IsAntisymmetric n fid) [
        | inl is ↦
            let new : change old ≡ o = same_some (change old) o (sym (ap (maps.get (maps.insert os fid (change old))) is ∙ get-inserted nat_cmp_total nat_cmp-IsAntisymmetric os fid (change old)) ∙ there) in
            let was : is_file old.kind ≡ true = sym (kind old) ∙ ap (λ (x : Object). is_file x.kind) new ∙ file in
            subst (LiesIn v) new (lies old at was (lie fid old at was))
        | inr other ↦ lie n o (sym (get-beside nat_cmp_total nat_cmp-IsAntisymmetric os fid (change old) n other) ∙ there) file
      ];
    }

    changed_if : (o : Option Object) → maps.get os fid ≡ o → IsCarried v os (option_map_or (λ x. maps.insert os fid (change x)) o os) ended
    changed_if None at = same ended
    changed_if (Some old) at = changed_to old at

    pub changed : IsCarried v os (with_object t fid change).objects ended
    changed = changed_if (maps.get os fid) refl

  -- a new object under a number that none has
  pub added : (fid : ℕ) (o : Object) (ended : ℕ → Bool) → maps.get os fid ≡ None → (is_file o.kind ≡ true → LiesIn v o) → IsCarried v os (maps.insert os fid o) ended
  added fid o ended fresh lies = record {
    stays = λ n size has _. elim (one-or-two nat_cmp_total nat_cmp-IsAntisymmetric n fid) [
      | inl is ↦ absurd (not_none has.object (sym has.at ∙ ap (maps.get os) is ∙ fresh))
      | inr other ↦ record { object = has.object; at = get-beside nat_cmp_total nat_cmp-IsAntisymmetric os fid o n other ∙ has.at; file = has.file; long = has.long }
    ];
    lie = λ n x there file. elim (one-or-two nat_cmp_total nat_cmp-IsAntisymmetric n fid) [
      | inl is ↦
          let new : o ≡ x = same_some o x (sym (ap (maps.get (maps.insert os fid o)) is ∙ get-inserted nat_cmp_total nat_cmp-IsAntisymmetric os fid o) ∙ there) in
          subst (LiesIn v) new (lies (ap (λ (y : Object). is_file y.kind) new ∙ file))
      | inr other ↦ lie n x (sym (get-beside nat_cmp_total nat_cmp-IsAntisymmetric os fid o n other) ∙ there) file
    ];
  }

  -- an object that goes, which is no file or ends as one
  removed : (fid : ℕ) (o : Object) (ended : ℕ → Bool) → maps.get os fid ≡ Some o → (is_file o.kind ≡ true → ended fid ≡ true) → IsCarried v os (maps.remove os fid) ended
  removed fid o ended at ends_too = record {
    stays = λ n size has going. elim (one-or-two nat_cmp_total nat_cmp-IsAntisymmetric n fid) [
      | inl is ↦
          let own : has.object ≡ o = same_some has.object o (sym has.at ∙ ap (maps.get os) is ∙ at) in
          absurd (false-true (sym going ∙ ap ended is ∙ ends_too (ap (λ (x : Object). is_file x.kind) (sym own) ∙ has.file)))
      | inr other ↦ record { object = has.object; at = get-left nat_cmp_total nat_cmp-IsAntisymmetric os fid n other ∙ has.at; file = has.file; long = has.long }
    ];
    lie = λ n x there file. elim (one-or-two nat_cmp_total nat_cmp-IsAntisymmetric n fid) [
      | inl is ↦ absurd (not_none x (sym there ∙ ap (maps.get (maps.remove os fid)) is ∙ get-removed nat_cmp_total nat_cmp-IsAntisymmetric os fid))
      | inr other ↦ lie n x (sym (get-left nat_cmp_total nat_cmp-IsAntisymmetric os fid n other) ∙ there) file
    ];
  }

  -- an object that goes with its last name
  removed_if : (fid : ℕ) (o : Object) (last : Bool) (ended : ℕ → Bool) → maps.get os fid ≡ Some o → (is_file o.kind ≡ true → last ≡ true → ended fid ≡ true)
      → IsCarried v os (cond last (maps.remove os fid) os) ended
  removed_if fid o true ended at ends_too = removed fid o ended at (λ file. ends_too file refl)
  removed_if fid o false ended at ends_too = same ended

  found_object : (path : Path) (f : Found) → found_at t path ≡ Some f → maps.get os f.fid ≡ Some f.object
  found_object path f is = by_number (fid_at t path) is
    where
      by_object : (n : ℕ) (x : Option Object) → maps.get os n ≡ x → option_map (λ o. (let z : Found = record { fid = n; object = o } in z)) x ≡ Some f → maps.get os f.fid ≡ Some f.object
      by_object n None at k = cc
      by_object n (Some o) at k =
          let one : (let z : Found = record { fid = n; object = o } in z) ≡ f = same_some _ f k in
          ap (λ (z : Found). maps.get os z.fid) (sym one) ∙ at ∙ ap (λ (z : Found). Some z.object) one

      by_number : (x : Option ℕ) → option_and_then (λ n. option_map (λ o. (let z : Found = record { fid = n; object = o } in z)) (maps.get os n)) x ≡ Some f → maps.get os f.fid ≡ Some f.object
      by_number None k = cc
      by_number (Some n) k = by_object n (maps.get os n) refl k

  given : (f : Found) (last : Bool) → is_file f.object.kind ≡ true → last ≡ true → ends (reply.Gone (given_if (is_file f.object.kind && last) (info_of f))) f.fid ≡ true
  given f last file is =
      ap (λ b. ends (reply.Gone (given_if (b && last) (info_of f))) f.fid) file ∙ ap (λ b. ends (reply.Gone (given_if b (info_of f))) f.fid) is ∙ eq-eqb f.fid f.fid refl

  -- a name that goes
  loses : (path : Path) → IsCarried v os (without_name t path).objects (ends (reply.Gone (last_name_of t path)))
  loses path = go (found_at t path) refl
    where
      go : (o : Option Found) → found_at t path ≡ o
          → IsCarried v os (option_map_or (λ f. record t { names = maps.remove t.names path; objects = cond (links_of t f == 1) (maps.remove os f.fid) os }) o t).objects
          (ends (reply.Gone (option_and_then (λ f. given_if (is_file f.object.kind && (links_of t f == 1)) (info_of f)) o)))
      go None is = same (ends (reply.Gone None))
      go (Some f) is =
          removed_if f.fid f.object (links_of t f == 1) (ends (reply.Gone (given_if (is_file f.object.kind && (links_of t f == 1)) (info_of f))))
          (found_object path f is) (given f (links_of t f == 1))

  -- the name of a directory that goes
  loses_dir : (path : Path) (ended : ℕ → Bool) → is_at t path is_dir ≡ true → IsCarried v os (without_name t path).objects ended
  loses_dir path ended dir = go (found_at t path) refl dir
    where
      go : (o : Option Found) → found_at t path ≡ o → option_map_or is_dir (option_map (λ f. f.object.kind) o) false ≡ true
          → IsCarried v os (option_map_or (λ f. record t { names = maps.remove t.names path; objects = cond (links_of t f == 1) (maps.remove os f.fid) os }) o t).objects ended
      go None is dir = absurd (false-true dir)
      go (Some f) is dir =
          removed_if f.fid f.object (links_of t f == 1) ended (found_object path f is)
          (λ file last. absurd (false-true (sym (dir_no_file f.object.kind dir) ∙ file)))

  turns : (path to : Path) (b : Bool) → IsCarried v os (cond b t (let rest = without_name t to in record rest { names = moved path to rest.names })).objects
      (ends (reply.Gone (cond b None (last_name_of t to))))
  turns path to true = same (ends (reply.Gone None))
  turns path to false = loses to

  linked : (to : Path) (o : Option ℕ) (ended : ℕ → Bool) → IsCarried v os (option_map_or (λ fid. with_name t to fid) o t).objects ended
  linked to None ended = same ended
  linked to (Some fid) ended = same ended

  set : (o : Option ℕ) (mode mtime : ℕ) (ended : ℕ → Bool) → IsCarried v os (option_map_or (λ fid. with_object t fid (λ x. record x { mode = mode; mtime = mtime })) o t).objects ended
  set None mode mtime ended = same ended
  set (Some fid) mode mtime ended =
      changed fid (λ x. record x { mode = mode; mtime = mtime }) ended (λ o. refl) (λ o. omega arith)
      (λ o at file l. record { home = l.home; all_places = l.all_places; distinct = l.distinct; short = l.short })

  module _ (blank : maps.get os (t.made + 1) ≡ None) (cid : ℕ) (places : List ℕ) (new : LiesIn v (new_file cid places)) where
    changes : (c : TreeCall) → refusal t c ≡ None → IsCarried v os (changed_by t cid places c).objects (ends (answer_to t cid places c))
    changes (call.Lookup path) k = same _
    changes (call.Getattr path) k = same _
    changes (call.Setattr path mode mtime) k = set (fid_at t (path_in path)) mode mtime _
    changes (call.Mkdir path) k = added (t.made + 1) new_dir _ blank (λ file. absurd (false-true file))
    changes (call.Create path) k = added (t.made + 1) (new_file cid places) _ blank (λ file. new)
    changes (call.Symlink target path) k = added (t.made + 1) (new_link target) _ blank (λ file. absurd (false-true file))
    changes (call.Rmdir path) k = loses_dir (path_in path) _ (may_go t path k)
    changes (call.Unlink path) k = loses (path_in path)
    changes (call.Link path to) k = linked (path_in to) (fid_at t (path_in path)) _
    changes (call.Rename path to) k = turns (path_in path) (path_in to) (is_same_object t (path_in path) (path_in to))
    changes (call.Readlink path) k = same _
    changes (call.Readdir path) k = same _
    changes (call.OpenFile path) k = same _

    -- each call
    pub carried : (c : TreeCall) → IsCarried v os (tree_after t cid places c).objects (ends (reply_to t cid places c))
    carried c = go (refusal t c) refl
      where
        go : (o : Option TreeFault) → refusal t c ≡ o → IsCarried v os (option_map_or (λ f. t) o (changed_by t cid places c)).objects (ends (option_map_or reply.Refused o (answer_to t cid places c)))
        go (Some why) is = same _
        go None is = changes c is
