-- Sizes of files: no call on names changes one, and a publish raises its own.
use Rattle.std.proofs.Common.{ℕ, Bool, true, false, ◌≡◌, ◌⊎◌, inl, inr, ◌+◌, ◌*◌, ◌<◌, ◌≤◌, ◌==◌, ◌&&◌, ◌||◌, not, List, [], ◌∷◌, length, Option, Some, None, cond, refl, sym, ◌∙◌, ap, subst, arith}
use Rattle.std.specs.Option.{option_map_or, option_and_then}
use Rattle.std.specs.FinMap as maps
use Rattle.std.specs.Ordering.{nat_cmp, is_lt, eq_by_cmp}
use Rattle.std.specs.declared.cmp.Ordering.TheVariants.{Greater}
use Rattle.std.specs.Cmp.{nat_cmp_total, nat_cmp_is, unsigned_tied}
use Rattle.std.proofs.lemmas.Bool.{eqb-true, eq-eqb, cases_lt}
use Rattle.std.proofs.lemmas.Option.{same_Some}
use Rattle.std.proofs.lemmas.Map.Keys.{ge_from_not_lt}
use Rattle.mj_angles.specs.Layout.{block_bytes_of}
use Rattle.rz_events.specs.Volume.{Volume}
use Rattle.rz_events.specs.declared.files.FileInfo.{FileInfo}
use Rattle.rz_events.specs.declared.keys.Key.{Key}
use Rattle.rz_events.specs.declared.keys.Actor.{Actor}
use Rattle.rz_events.specs.declared.tree.TreeCall.{TreeCall}
use Rattle.rz_events.specs.declared.tree.TreeCall.TheVariants as call
use Rattle.rz_events.specs.declared.tree.TreeFault.{TreeFault}
use Rattle.rz_events.specs.declared.events.Event.{Event}
use Rattle.rz_events.specs.declared.events.Event.TheVariants as e
use Rattle.rz_events.specs.Events.{same_key}
use Rattle.rz_export_model.specs.Firsts.{given_if}
use Rattle.rz_export_model.specs.Paths.{Path}
use Rattle.rz_export_model.specs.Tree.{Tree, Object, Found, found_at, fid_at, is_file, links_of, info_of, file_of, file_from, moved, with_object, grown, new_dir, new_file, new_link}
use Rattle.rz_export_model.specs.Refusals.{path_in, refusal, is_same_object}
use Rattle.rz_export_model.specs.TreeCalls.{without_name, changed_by, tree_after}
use Rattle.rz_export_model.specs.Files.{makes}
use Rattle.rz_export_model.specs.Export.{Export as ExportState, new_places}
use Rattle.rz_export_model.proofs.Files.{Objects}
use Rattle.rz_core.specs.History.{Begun, facts, wrote, begun_by, first_some, length_in}
use Rattle.rz_core.specs.ExportWord.{accepted, is_made, is_gone}
use Rattle.rz_core.specs.Legal.{IsLegalInRuns}
use Rattle.rz_core.proofs.EnrollLaws.{export-rows}
use Rattle.rz_core.proofs.NameTies.{names-tied}
use Rattle.rz_core.proofs.Stamps.{export, same_key-true}
use Rattle.rz_log_laws.proofs.Calls.{same-volume}
use Rattle.rz_contents.specs.Contents.{text_begun, text_of, contents}
use Rattle.rz_contents.specs.Model.{export_at}
use Rattle.rz_contents.specs.Sizes.{AreCovered}
use Rattle.rz_contents.proofs.Changing.{changed}
use Rattle.rz_contents.proofs.Stillness.{names}

-- Of two numbers the greater one.

abbrev pub top : ℕ → ℕ → ℕ
top a b = cond (is_lt (nat_cmp a b)) b a

pub top-high : (a b : ℕ) → (a ≤ top a b) × (b ≤ top a b)
top-high a b = go (is_lt (nat_cmp a b)) refl
  where
    over : is_lt (nat_cmp a b) ≡ true → (b < a) ⊎ (a ≤ b) → a ≤ b
    over is (inl l) = (let great : Greater ≡ nat_cmp a b = nat_cmp_is a b Greater l in let no : is_lt Greater ≡ true = ap is_lt great ∙ is in cc)
    over is (inr l) = l

    go : (t : Bool) → is_lt (nat_cmp a b) ≡ t → (a ≤ cond t b a) × (b ≤ cond t b a)
    go true is = (over is (cases_lt b a), omega arith)
    go false is = (omega arith, ge_from_not_lt a b is)

-- What stays of an object.

pub record IsAs (was now : Object) : Type 0 where
  pub kind : now.kind ≡ was.kind
  pub size : was.size ≤ now.size

same-as : (o : Object) → IsAs o o
same-as o = record { kind = refl; size = omega arith }

-- each object up to this number that is there now was there, and has not become smaller
abbrev pub Keeps : ℕ → Objects → Objects → Type 0
Keeps made a b = (fid : ℕ) (now : Object) → fid ≤ made → maps.get b fid ≡ Some now → (was : Object) × (maps.get a fid ≡ Some was) × IsAs was now

tied : (n m : ℕ) (t : Bool) → eq_by_cmp nat_cmp n m ≡ t → (n ≡ m) ⊎ (t ≡ false)
tied n m true q = inl (eqb-true n m (sym (unsigned_tied n m) ∙ q))
tied n m false q = inr refl

keeps-same : (made : ℕ) (a : Objects) → Keeps made a a
keeps-same made a fid now low is = (now, is, same-as now)

keeps-without : (made : ℕ) (a : Objects) (k : ℕ) → Keeps made a (maps.remove a k)
keeps-without made a k fid now low is = go (eq_by_cmp nat_cmp fid k) (sym (maps.get-remove nat_cmp_total a k fid) ∙ is)
  where
    go : (t : Bool) → cond t None (maps.get a fid) ≡ Some now → (was : Object) × (maps.get a fid ≡ Some was) × IsAs was now
    go true there = cc
    go false there = (now, there, same-as now)

keeps-new : (made : ℕ) (a : Objects) (k : ℕ) (o : Object) → made < k → Keeps made a (maps.insert a k o)
keeps-new made a k o up fid now low is = go (eq_by_cmp nat_cmp fid k) refl (sym (maps.get-insert nat_cmp_total a k o fid) ∙ is)
  where
    go : (t : Bool) → eq_by_cmp nat_cmp fid k ≡ t → cond t (Some o) (maps.get a fid) ≡ Some now → (was : Object) × (maps.get a fid ≡ Some was) × IsAs was now
    go true on there = elim (tied fid k true on) [ inl same ↦ absurd (omega (arith, same, low, up)) | inr other ↦ cc ]
    go false off there = (now, there, same-as now)

-- one object is changed
keeps-changed : (made : ℕ) (a : Objects) (k : ℕ) (o z : Object) → maps.get a k ≡ Some o → IsAs o z → Keeps made a (maps.insert a k z)
keeps-changed made a k o z there like fid now low is = go (eq_by_cmp nat_cmp fid k) refl (sym (maps.get-insert nat_cmp_total a k z fid) ∙ is)
  where
    go : (t : Bool) → eq_by_cmp nat_cmp fid k ≡ t → cond t (Some z) (maps.get a fid) ≡ Some now → (was : Object) × (maps.get a fid ≡ Some was) × IsAs was now
    go true on here = elim (tied fid k true on) [
      | inl same ↦ (o, ap (λ (n : ℕ). maps.get a n) same ∙ there, subst (IsAs o) (same_Some z now here) like)
      | inr other ↦ cc
    ]
    go false off here = (now, here, same-as now)

pub keeps-with : (made : ℕ) (t : Tree) (fid : ℕ) (change : Object → Object) → ((o : Object) → IsAs o (change o)) → Keeps made t.objects (with_object t fid change).objects
keeps-with made t fid change like = go (maps.get t.objects fid) refl
  where
    go : (p : Option Object) → maps.get t.objects fid ≡ p → Keeps made t.objects (option_map_or (λ o. maps.insert t.objects fid (change o)) p t.objects)
    go None is = keeps-same made t.objects
    go (Some o) is = keeps-changed made t.objects fid o (change o) is (like o)

-- Calls on names.

keeps-with-at : (t : Tree) (p : Option ℕ) (change : Object → Object) → ((o : Object) → IsAs o (change o)) → Keeps t.made t.objects (let u : Tree = option_map_or (λ fid. with_object t fid change) p t in u.objects)
keeps-with-at t None change like = keeps-same t.made t.objects
keeps-with-at t (Some fid) change like = keeps-with t.made t fid change like

keeps-less : (t : Tree) (path : Path) → Keeps t.made t.objects (without_name t path).objects
keeps-less t path = go (found_at t path)
  where
    either : (f : Found) (last : Bool) → Keeps t.made t.objects (cond last (maps.remove t.objects f.fid) t.objects)
    either f true = keeps-without t.made t.objects f.fid
    either f false = keeps-same t.made t.objects

    go : (p : Option Found) → Keeps t.made t.objects (let u : Tree = option_map_or (λ f. record t { names = maps.remove t.names path; objects = cond (links_of t f == 1) (maps.remove t.objects f.fid) t.objects }) p t in u.objects)
    go None = keeps-same t.made t.objects
    go (Some f) = either f (links_of t f == 1)

keeps-moved : (t : Tree) (path to : Path) (same : Bool)
    → Keeps t.made t.objects (let u : Tree = cond same t (record (without_name t to) { names = moved path to (without_name t to).names }) in u.objects)
keeps-moved t path to true = keeps-same t.made t.objects
keeps-moved t path to false = keeps-less t to

keeps-linked : (t : Tree) (to : Path) (p : Option ℕ) → Keeps t.made t.objects (let u : Tree = option_map_or (λ fid. record t { names = maps.insert t.names to fid }) p t in u.objects)
keeps-linked t to None = keeps-same t.made t.objects
keeps-linked t to (Some fid) = keeps-same t.made t.objects

by-call : (t : Tree) (cid : ℕ) (places : List ℕ) (c : TreeCall) → Keeps t.made t.objects (changed_by t cid places c).objects
by-call t cid places (call.Setattr path mode mtime) = keeps-with-at t (fid_at t (path_in path)) (λ o. record o { mode = mode; mtime = mtime }) (λ o. record { kind = refl; size = omega arith })
by-call t cid places (call.Mkdir path) = keeps-new t.made t.objects (t.made + 1) new_dir (omega arith)
by-call t cid places (call.Create path) = keeps-new t.made t.objects (t.made + 1) (new_file cid places) (omega arith)
by-call t cid places (call.Symlink target path) = keeps-new t.made t.objects (t.made + 1) (new_link target) (omega arith)
by-call t cid places (call.Rmdir path) = keeps-less t (path_in path)
by-call t cid places (call.Unlink path) = keeps-less t (path_in path)
by-call t cid places (call.Link path to) = keeps-linked t (path_in to) (fid_at t (path_in path))
by-call t cid places (call.Rename path to) = keeps-moved t (path_in path) (path_in to) (is_same_object t (path_in path) (path_in to))
by-call t cid places (call.Lookup path) = keeps-same t.made t.objects
by-call t cid places (call.Getattr path) = keeps-same t.made t.objects
by-call t cid places (call.Readlink path) = keeps-same t.made t.objects
by-call t cid places (call.Readdir path) = keeps-same t.made t.objects
by-call t cid places (call.OpenFile path) = keeps-same t.made t.objects

keeps-call : (t : Tree) (cid : ℕ) (places : List ℕ) (c : TreeCall) → Keeps t.made t.objects (tree_after t cid places c).objects
keeps-call t cid places c = go (refusal t c)
  where
    go : (p : Option TreeFault) → Keeps t.made t.objects (let u : Tree = option_map_or (λ (f : TreeFault). t) p (changed_by t cid places c) in u.objects)
    go (Some f) = keeps-same t.made t.objects
    go None = by-call t cid places c

-- A file that grew.

grows : (o : Object) (size : ℕ) → IsAs o (record o { size = top o.size size })
grows o size = record { kind = refl; size = (top-high o.size size).0 }

-- the object of this number has at least this size
grown-high : (t : Tree) (fid size : ℕ) (now : Object) → maps.get (grown t fid size).objects fid ≡ Some now → size ≤ now.size
grown-high t fid size now is = go (maps.get t.objects fid) refl is
  where
    here : (o : Object) (b : Bool) → eq_by_cmp nat_cmp fid fid ≡ b → cond b (Some (record o { size = top o.size size })) (maps.get t.objects fid) ≡ Some now → size ≤ now.size
    here o true on same =
        let like : record o { size = top o.size size } ≡ now = same_Some _ now same in
        subst (λ (z : Object). size ≤ z.size) like (top-high o.size size).1
    here o false off same = (let on : eq_by_cmp nat_cmp fid fid ≡ true = unsigned_tied fid fid ∙ eq-eqb fid fid refl in cc)

    go : (p : Option Object) → maps.get t.objects fid ≡ p → maps.get (option_map_or (λ o. maps.insert t.objects fid (record o { size = top o.size size })) p t.objects) fid ≡ Some now → size ≤ now.size
    go None none same = cc
    go (Some o) some same = here o (eq_by_cmp nat_cmp fid fid) refl (sym (maps.get-insert nat_cmp_total t.objects fid (record o { size = top o.size size }) fid) ∙ same)

-- Files.

-- the object of a file
pub object-of : (objects : Objects) (fid : ℕ) (info : FileInfo) → option_and_then (file_from fid) (maps.get objects fid) ≡ Some info
    → (o : Object) × (maps.get objects fid ≡ Some o) × (is_file o.kind ≡ true) × (info.size ≡ o.size)
object-of objects fid info is = go (maps.get objects fid) refl is
  where
    by-kind : (o : Object) (k : Bool) → is_file o.kind ≡ k → maps.get objects fid ≡ Some o → given_if k (info_of (record { fid = fid; object = o })) ≡ Some info
        → (z : Object) × (maps.get objects fid ≡ Some z) × (is_file z.kind ≡ true) × (info.size ≡ z.size)
    by-kind o true file there same = (o, there, file, ap (λ (i : FileInfo). i.size) (sym (same_Some (info_of (record { fid = fid; object = o })) info same)))
    by-kind o false other there same = cc

    go : (p : Option Object) → maps.get objects fid ≡ p → option_and_then (file_from fid) p ≡ Some info → (o : Object) × (maps.get objects fid ≡ Some o) × (is_file o.kind ≡ true) × (info.size ≡ o.size)
    go None none same = cc
    go (Some o) some same = by-kind o (is_file o.kind) refl some same

abbrev pub sized : Object → ℕ → FileInfo
sized o fid = info_of (record { fid = fid; object = o })

file-there : (objects : Objects) (fid : ℕ) (o : Object) → maps.get objects fid ≡ Some o → is_file o.kind ≡ true → option_and_then (file_from fid) (maps.get objects fid) ≡ Some (sized o fid)
file-there objects fid o there file = ap (option_and_then (file_from fid)) there ∙ ap (λ b. given_if b (sized o fid)) file

-- a file that is there was there, and has not become smaller
pub file-kept : (made : ℕ) (a b : Objects) (fid : ℕ) (info : FileInfo) → Keeps made a b → fid ≤ made → option_and_then (file_from fid) (maps.get b fid) ≡ Some info
    → (was : FileInfo) × (option_and_then (file_from fid) (maps.get a fid) ≡ Some was) × (was.size ≤ info.size)
file-kept made a b fid info keeps low is =
    let now = object-of b fid info is in
    let was = keeps fid now.0 low now.1 in
    let file : is_file was.0.kind ≡ true = ap is_file (sym was.2.kind) ∙ now.2 in
    let size : was.0.size ≤ info.size = (let up = was.2.size in let same = now.3 in omega (arith, up, same)) in
    (sized was.0 fid, file-there a fid was.0 was.1 file, size)

-- Texts.

and-first : (a b : Bool) → (a && b) ≡ true → a ≡ true
and-first true b is = refl
and-first false b is = is

or-second : (a : Bool) → (a || true) ≡ true
or-second true = refl
or-second false = refl

-- a block that contains a text is one of a file that was made
has-made : (v : Volume) (h : List Event) (key : Key) (text : List ℕ) → IsLegalInRuns v h → contents h key ≡ Some text → is_made (export h) key.fid ≡ true
has-made v [] key text legal is = cc
has-made v (e.Publish by at stamp mask None ∷ h) key text legal is = go (has-made v h key text legal.0) (same_key key at) refl (sym (changed v (e.Publish by at stamp mask None) h key legal) ∙ is)
  where
    go : (contents h key ≡ Some text → is_made (export h) key.fid ≡ true) → (b : Bool) → same_key key at ≡ b → cond b (text_begun (wrote h stamp)) (contents h key) ≡ Some text → is_made (export h) key.fid ≡ true
    go next true same there =
        let here : key ≡ at = same_key-true key at same in
        ap (λ (k : Key). is_made (export h) k.fid) here ∙ and-first (is_made (export h) at.fid) (not (is_gone (export h) at.fid)) legal.1.row.publishable.live
    go next false other there = next there
has-made v (e.Meta by c r ∷ h) key text legal is =
    let older = has-made v h key text legal.0 (sym (changed v (e.Meta by c r) h key legal) ∙ is) in
    ap (λ b. makes r key.fid || b) older ∙ or-second (makes r key.fid)
has-made v (x ∷ h) key text legal is = has-made v h key text legal.0 (sym (changed v x h key legal) ∙ is)

made-low : (v : Volume) (h : List Event) (key : Key) (text : List ℕ) → IsLegalInRuns v h → contents h key ≡ Some text → key.fid ≤ (export_at v h).tree.made
made-low v h key text legal is = (names-tied v (facts h) (export h) (export-rows v h legal)).made_low key.fid (has-made v h key text legal is)

-- a write that began has no text longer than a block
begun-short : (v : Volume) (x : Event) (h : List Event) (s : ℕ) (b : Begun) → IsLegalInRuns v (x ∷ h) → begun_by s x ≡ Some b → length b.text ≤ block_bytes_of v.layout
begun-short v (e.Begin by key stamp base text) h s b legal is = go (s == stamp) is
  where
    go : (t : Bool) → cond t (Some (record { by = by; key = key; base = base; text = text })) None ≡ Some b → length b.text ≤ block_bytes_of v.layout
    go true same =
        let whole : record { by = by; key = key; base = base; text = text } ≡ b = same_Some _ b same in
        subst (λ (z : Begun). length z.text ≤ block_bytes_of v.layout) whole legal.1.row.short
    go false same = cc
begun-short v x h s b legal is = cc

wrote-short : (v : Volume) (h : List Event) (s : ℕ) (b : Begun) → IsLegalInRuns v h → wrote h s ≡ Some b → length b.text ≤ block_bytes_of v.layout
wrote-short v [] s b legal is = cc
wrote-short v (x ∷ h) s b legal is = go (wrote-short v h s b legal.0) (wrote h s) refl is
  where
    go : (wrote h s ≡ Some b → length b.text ≤ block_bytes_of v.layout) → (o : Option Begun) → wrote h s ≡ o → first_some o (begun_by s x) ≡ Some b → length b.text ≤ block_bytes_of v.layout
    go next None none same = begun-short v x h s b legal same
    go next (Some z) some same = next (some ∙ same)

begun-text : (o : Option Begun) (text : List ℕ) → text_begun o ≡ Some text → (b : Begun) × (o ≡ Some b) × (b.text ≡ text)
begun-text None text is = cc
begun-text (Some b) text is = (b, refl, same_Some b.text text is)

text-short : (v : Volume) (h : List Event) (key : Key) (text : List ℕ) → IsLegalInRuns v h → contents h key ≡ Some text → length text ≤ block_bytes_of v.layout
text-short v h key text legal is = go (accepted (export h) key) is
  where
    go : (a : Option (ℕ × ℕ)) → text_of (facts h) a ≡ Some text → length text ≤ block_bytes_of v.layout
    go None none = cc
    go (Some a) some =
        let b = begun-text (wrote h a.0) text some in
        subst (λ (t : List ℕ). length t ≤ block_bytes_of v.layout) b.2 (wrote-short v h a.0 b.0 legal b.1)

-- Where texts end.

abbrev IsWithin : Volume → List Event → Key → List ℕ → Type 0
IsWithin v h key text = (info : FileInfo) → file_of (export_at v h).tree key.fid ≡ Some info → key.block * block_bytes_of v.layout + length text ≤ info.size

module _ (v : Volume) (x : Event) (h : List Event) (key : Key) (text : List ℕ) (legal : IsLegalInRuns v (x ∷ h)) (before : IsWithin v h key text) (there : contents h key ≡ Some text) where
  -- where the objects keep their sizes
  kept : Keeps (export_at v h).tree.made (export_at v h).tree.objects (export_at v (x ∷ h)).tree.objects → IsWithin v (x ∷ h) key text
  kept keeps info is =
      let was = file-kept (export_at v h).tree.made (export_at v h).tree.objects (export_at v (x ∷ h)).tree.objects key.fid info keeps (made-low v h key text legal.0 there) is in
      let low = before was.0 was.1 in
      let up = was.2 in
      omega (arith, low, up)

-- a publish
module _ (v : Volume) (by : Actor) (at : Key) (stamp mask : ℕ) (h : List Event) (legal : IsLegalInRuns v (e.Publish by at stamp mask None ∷ h)) where
  abbrev x : Event
  x = e.Publish by at stamp mask None

  abbrev s : ExportState
  s = export_at v h

  abbrev end : ℕ
  end = at.block * block_bytes_of s.volume.layout + length_in (wrote h stamp)

  end-is : (text : List ℕ) → text_begun (wrote h stamp) ≡ Some text → at.block * block_bytes_of v.layout + length text ≡ end
  end-is text is =
      let b = begun-text (wrote h stamp) text is in
      let size : length_in (wrote h stamp) ≡ length text = ap length_in b.1 ∙ ap (λ (t : List ℕ). length t) b.2 in
      ap (λ (n : ℕ). at.block * block_bytes_of v.layout + n) (sym size)
      ∙ ap (λ (u : Volume). at.block * block_bytes_of u.layout + length_in (wrote h stamp)) (sym (same-volume v (facts h) (export h)))

  -- of this block
  own-within : (text : List ℕ) → text_begun (wrote h stamp) ≡ Some text → IsWithin v (x ∷ h) at text
  own-within text is info file =
      let o = object-of (grown s.tree at.fid end).objects at.fid info (ap (λ (t : Tree). file_of t at.fid) (sym (names v x h legal).0) ∙ file) in
      let high = grown-high s.tree at.fid end o.0 o.1 in
      let same = end-is text is in
      let size = o.3 in
      omega (arith, high, same, size)

  published : (key : Key) (text : List ℕ) → (contents h key ≡ Some text → IsWithin v h key text) → (b : Bool) → same_key key at ≡ b → cond b (text_begun (wrote h stamp)) (contents h key) ≡ Some text
      → IsWithin v (x ∷ h) key text
  published key text before true same is = subst (λ (k : Key). IsWithin v (x ∷ h) k text) (sym (same_key-true key at same)) (own-within text is)
  published key text before false other is =
      kept v x h key text legal (before is) is
      (subst (λ (t : Tree). Keeps s.tree.made s.tree.objects t.objects) (sym (names v x h legal).0)
      (keeps-with s.tree.made s.tree at.fid (λ o. record o { size = top o.size end }) (λ o. grows o end)))

within : (v : Volume) (h : List Event) (key : Key) (text : List ℕ) → IsLegalInRuns v h → contents h key ≡ Some text → IsWithin v h key text
within v [] key text legal is = cc
within v (e.Meta by c r ∷ h) key text legal is =
    let x : Event = e.Meta by c r in
    let there : contents h key ≡ Some text = sym (changed v x h key legal) ∙ is in
    let s = export_at v h in
    kept v x h key text legal (within v h key text legal.0 there) there
    (subst (λ (t : Tree). Keeps s.tree.made s.tree.objects t.objects) (sym (names v x h legal).0) (keeps-call s.tree (new_places s).cid (new_places s).places c))
within v (e.Publish by at stamp mask None ∷ h) key text legal is =
    published v by at stamp mask h legal key text (within v h key text legal.0) (same_key key at) refl (sym (changed v (e.Publish by at stamp mask None) h key legal) ∙ is)
within v (x ∷ h) key text legal is =
    let there : contents h key ≡ Some text = sym (changed v x h key legal) ∙ is in
    let s = export_at v h in
    kept v x h key text legal (within v h key text legal.0 there) there
    (subst (λ (t : Tree). Keeps s.tree.made s.tree.objects t.objects) (sym (names v x h legal).0) (keeps-same s.tree.made s.tree.objects))

pub covered : (v : Volume) → AreCovered v
covered v h key text legal is = record { short = text-short v h key text legal is; within = within v h key text legal is }
