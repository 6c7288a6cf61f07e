-- What the events of a legal log say for good.
use Rattle.std.proofs.Common.{◌≡◌, inl, inr, ◌<◌, ◌≤◌, ◌+◌, ℕ, zero, suc, ◌==◌, ◌&&◌, Bool, true, false, cond, List, [], ◌∷◌, length, refl, sym, ◌∙◌, ap, subst, arith, Option, Some, None}
use Rattle.std.proofs.lemmas.Bool.{eq-eqb, eqb-true}
use Rattle.std.specs.Prelude.{slice_get}
use Rattle.rz_events.specs.Volume.{Volume}
use Rattle.rz_events.specs.declared.keys.Key.{Key}
use Rattle.rz_events.specs.declared.keys.Actor.{Actor}
use Rattle.rz_events.specs.declared.files.FileInfo.{FileInfo}
use Rattle.rz_events.specs.declared.tree.TreeCall.{TreeCall}
use Rattle.rz_events.specs.declared.tree.TreeCall.TheVariants as tree
use Rattle.rz_events.specs.declared.tree.TreeReply.{TreeReply}
use Rattle.rz_events.specs.declared.tree.TreeReply.TheVariants as reply
use Rattle.rz_events.specs.declared.events.Event.{Event}
use Rattle.rz_events.specs.declared.events.Event.TheVariants as e
use Rattle.std.specs.FinMap as maps
use Rattle.std.specs.Option.{option_or, option_map, option_map_or, option_and_then}
use Rattle.rz_events.specs.declared.files.Published.{Published}
use Rattle.rz_events.specs.declared.files.Kind.{Kind}
use Rattle.rz_events.specs.declared.files.Kind.TheVariants.{File, Dir, Link}
use Rattle.rz_events.specs.declared.tree.TreeFault.{TreeFault}
use Rattle.rz_events.specs.declared.tree.TreeFault.TheVariants as fault
use Rattle.rz_events.specs.declared.events.Word.TheVariants.{Export}
use Rattle.rz_events.specs.Events.{same_word, word_of}
use Rattle.rz_export_model.specs.Firsts.{given_if}
use Rattle.rz_export_model.specs.Paths.{Path}
use Rattle.rz_export_model.specs.Tree.{Tree, Object, Found, found_at, fid_at, is_at, is_dir, is_file, is_link, info_of, file_from, file_of, links_of}
use Rattle.rz_export_model.specs.Refusals.{is_same_object, path_in, refusal, unreadable, walk, absent, dir, link}
use Rattle.rz_export_model.specs.TreeCalls.{told, attr_of, answer_to, reply_to, last_name_of, replaced}
use Rattle.rz_export_model.specs.Export.{new_places}
use Rattle.rz_core.specs.History.{Facts, Begun, facts, wrote, first_some, IsPlace}
use Rattle.rz_core.specs.ExportWord.{last_drawn, accepted, published, export_of}
use Rattle.rz_core.specs.Legal.{IsLegalInRuns}
use Rattle.rz_core.proofs.Extends.{Extends, Knows, extends-more, some_length, accepted-known}
use Rattle.rz_core.proofs.Locality.{legal-knows, all-filter}
use Rattle.rz_core.proofs.NameTies.{file-places}
use Rattle.rz_core.proofs.NodeSteps.{the_some}
use Rattle.rz_core.proofs.Stamps.{export, drawn, wrote-cases, begun_by-is}
use Rattle.mj_angles.specs.Layout.{block_bytes_of}
use Rattle.rz_events.specs.declared.ends.ReadEnd.TheVariants as read
use Rattle.rz_events.specs.declared.files.Listed.{Listed}
use Rattle.rz_export_model.proofs.Firsts.{none_first, none_if}
use Rattle.rz_operation_model.specs.Rebuild.{position_in, position_of}
use Rattle.rz_play_laws.specs.Own.{IsPlacing, IsOpenReply, IsToldBy}
use Rattle.rz_play_laws.specs.Fine.{IsTelling}
use Rattle.rz_play_laws.proofs.Blocks.{placing-more}
use Rattle.rz_play_laws.proofs.Rebuilds.{listed-more}
use Rattle.rz_log_laws.specs.Places.{IsLaid}

reply-extends : (v : Volume) (f g : Facts) → Extends f g → (c : TreeCall) (r : TreeReply) → IsOpenReply v f c r → IsOpenReply v g c r
reply-extends v f g ext (tree.OpenFile path) (reply.File info) is = placing-more v f g ext info.fid info.places is
reply-extends v f g ext (tree.OpenFile path) (reply.Refused fault) is = tt
reply-extends v f g ext (tree.OpenFile path) (_) is = absurd is
reply-extends v f g ext (_) (reply.File info) is = absurd is
reply-extends v f g ext (_) (reply.Gone (Some info)) is = is
reply-extends v f g ext (_) (reply.Gone None) is = tt
reply-extends v f g ext (_) (_) is = tt

pub told-extends : (v : Volume) (f g : Facts) → Extends f g → (x : Event) → IsToldBy v f x → IsToldBy v g x
told-extends v f g ext (e.Meta by c r) is = reply-extends v f g ext c r is
told-extends v f g ext (e.Begin by key stamp base text) is = ext.wrote stamp _ is
told-extends v f g ext (e.Look by key (Some p)) is = (is.0, ext.wrote p.stamp is.0 is.1)
told-extends v f g ext (e.Fetch by node key position stamp (Some r)) is =
    (is.0, record { found = ext.wrote stamp is.0 is.1.found; stamp = is.1.stamp; length = is.1.length; base = is.1.base })
told-extends v f g ext (e.Next by node after (Some l)) is = listed-more v f g ext node l is
told-extends v f g ext (_) is = is

-- What the tree answers.

-- a file is told to one who opened it, and one that is gone was there
abbrev IsShape : Tree → List ℕ → TreeCall → TreeReply → Type 0
IsShape t places (tree.OpenFile path) (reply.File info) = file_of t info.fid ≡ Some info
IsShape t places (tree.OpenFile path) (reply.Refused fault) = Unit {0}
IsShape t places (tree.OpenFile path) answer = ⊥
IsShape t places c (reply.File info) = ⊥
IsShape t places c (reply.Gone (Some info)) = file_of t info.fid ≡ Some info
IsShape t places c answer = Unit {0}

refused-shape : (t : Tree) (places : List ℕ) (c : TreeCall) (why : TreeFault) → IsShape t places c (reply.Refused why)
refused-shape t places (tree.OpenFile path) why = tt
refused-shape t places (_) why = tt

-- the object at a path
object-at : (t : Tree) (path : Path) (f : Found) → found_at t path ≡ Some f → maps.get t.objects f.fid ≡ Some f.object
object-at t path f is = by_fid (fid_at t path) is
  where
    by_object : (fid : ℕ) (o : Option Object) → maps.get t.objects fid ≡ o → option_map (λ (x : Object). (let y : Found = record { fid = fid; object = x } in y)) o ≡ Some f
        → maps.get t.objects f.fid ≡ Some f.object
    by_object fid None at is = cc
    by_object fid (Some x) at is =
        let y : Found = record { fid = fid; object = x } in
        subst (λ (z : Found). maps.get t.objects z.fid ≡ Some z.object) (the_some y f is) at

    by_fid : (o : Option ℕ) → option_and_then (λ fid. option_map (λ (x : Object). (let y : Found = record { fid = fid; object = x } in y)) (maps.get t.objects fid)) o ≡ Some f
        → maps.get t.objects f.fid ≡ Some f.object
    by_fid None is = cc
    by_fid (Some fid) is = by_object fid (maps.get t.objects fid) refl is

a-file : (k : Kind) → is_dir k ≡ false → is_link k ≡ false → is_file k ≡ true
a-file File d l = refl
a-file Dir d l = cc
a-file Link d l = cc

-- an object that is neither a directory nor a link is a file
open-file : (t : Tree) (path : Path) (f : Found) → found_at t path ≡ Some f → is_at t path is_dir ≡ false → is_at t path is_link ≡ false → file_of t f.fid ≡ Some (info_of f)
open-file t path f is no_dir no_link =
    let d : is_dir f.object.kind ≡ false = sym (ap (λ o. option_map_or is_dir (option_map (λ (z : Found). z.object.kind) o) false) is) ∙ no_dir in
    let l : is_link f.object.kind ≡ false = sym (ap (λ o. option_map_or is_link (option_map (λ (z : Found). z.object.kind) o) false) is) ∙ no_link in
    ap (λ o. option_and_then (file_from f.fid) o) (object-at t path f is) ∙ ap (λ b. given_if b (info_of f)) (a-file f.object.kind d l)

told-shape : (t : Tree) (places : List ℕ) (path : Path) (c : TreeCall) (tell : Found → TreeReply) → ((f : Found) → IsShape t places c (tell f)) → IsShape t places c (told t path tell)
told-shape t places path c tell all = go (found_at t path)
  where
    go : (o : Option Found) → IsShape t places c (option_map_or tell o (reply.Refused fault.NoEntry))
    go None = refused-shape t places c fault.NoEntry
    go (Some f) = all f

open-shape : (t : Tree) (places path : List ℕ) (p : Path) → is_at t p is_dir ≡ false → is_at t p is_link ≡ false
    → IsShape t places (tree.OpenFile path) (told t p (λ f. reply.File (info_of f)))
open-shape t places path p no_dir no_link = go (found_at t p) refl
  where
    go : (o : Option Found) → found_at t p ≡ o → IsShape t places (tree.OpenFile path) (option_map_or (λ f. reply.File (info_of f)) o (reply.Refused fault.NoEntry))
    go None is = tt
    go (Some f) is = open-file t p f is no_dir no_link

some-if : {A : Type 0} (b : Bool) (x y : A) → given_if b x ≡ Some y → (b ≡ true) × (x ≡ y)
some-if true x y is = (refl, the_some x y is)
some-if false x y is = cc

and-first : (a b : Bool) → (a && b) ≡ true → a ≡ true
and-first true b is = refl
and-first false b is = is

-- a file that loses its last name is there
last-file : (t : Tree) (path : Path) (info : FileInfo) → last_name_of t path ≡ Some info → file_of t info.fid ≡ Some info
last-file t path info is = go (found_at t path) refl is
  where
    go : (o : Option Found) → found_at t path ≡ o → option_and_then (λ (f : Found). given_if (is_file f.object.kind && (links_of t f == 1)) (info_of f)) o ≡ Some info
        → file_of t info.fid ≡ Some info
    go None at is = cc
    go (Some f) at is =
        let p = some-if (is_file f.object.kind && (links_of t f == 1)) (info_of f) info is in
        subst (λ (z : FileInfo). file_of t z.fid ≡ Some z) p.1
        (ap (λ o. option_and_then (file_from f.fid) o) (object-at t path f at) ∙ ap (λ b. given_if b (info_of f)) (and-first (is_file f.object.kind) (links_of t f == 1) p.0))

replaced-file : (t : Tree) (path to : Path) (info : FileInfo) → replaced t path to ≡ Some info → file_of t info.fid ≡ Some info
replaced-file t path to info is = go (is_same_object t path to) is
  where
    go : (b : Bool) → cond b None (last_name_of t to) ≡ Some info → file_of t info.fid ≡ Some info
    go true is = cc
    go false is = last-file t to info is

unlinked-shape : (t : Tree) (places path : List ℕ) (o : Option FileInfo) → ((info : FileInfo) → o ≡ Some info → file_of t info.fid ≡ Some info) → IsShape t places (tree.Unlink path) (reply.Gone o)
unlinked-shape t places path None all = tt
unlinked-shape t places path (Some info) all = all info refl

renamed-shape : (t : Tree) (places path to : List ℕ) (o : Option FileInfo) → ((info : FileInfo) → o ≡ Some info → file_of t info.fid ≡ Some info) → IsShape t places (tree.Rename path to) (reply.Gone o)
renamed-shape t places path to None all = tt
renamed-shape t places path to (Some info) all = all info refl

answer-shape : (t : Tree) (cid : ℕ) (places : List ℕ) (c : TreeCall) → refusal t c ≡ None → IsShape t places c (answer_to t cid places c)
answer-shape t cid places (tree.Lookup path) none = told-shape t places (path_in path) (tree.Lookup path) (λ f. reply.Found f.fid f.object.kind) (λ f. tt)
answer-shape t cid places (tree.Getattr path) none = told-shape t places (path_in path) (tree.Getattr path) (λ f. reply.Attr (attr_of t f)) (λ f. tt)
answer-shape t cid places (tree.Setattr path mode mtime) none = tt
answer-shape t cid places (tree.Mkdir path) none = tt
answer-shape t cid places (tree.Create path) none = tt
answer-shape t cid places (tree.Symlink target path) none = tt
answer-shape t cid places (tree.Rmdir path) none = tt
answer-shape t cid places (tree.Unlink path) none = unlinked-shape t places path (last_name_of t (path_in path)) (λ info is. last-file t (path_in path) info is)
answer-shape t cid places (tree.Link path to) none = tt
answer-shape t cid places (tree.Rename path to) none =
    renamed-shape t places path to (replaced t (path_in path) (path_in to)) (λ info is. replaced-file t (path_in path) (path_in to) info is)
answer-shape t cid places (tree.Readlink path) none = told-shape t places (path_in path) (tree.Readlink path) (λ f. reply.Target f.object.target) (λ f. tt)
answer-shape t cid places (tree.Readdir path) none = tt
answer-shape t cid places (tree.OpenFile path) none =
    let p = path_in path in
    let last = option_or (link t p) None in
    let parts = none_first (dir t p) last
    (none_first (absent t p) (option_or (dir t p) last)
    (none_first (walk t p) (option_or (absent t p) (option_or (dir t p) last))
    (none_first (unreadable path) (option_or (walk t p) (option_or (absent t p) (option_or (dir t p) last))) none).1).1).1 in
    open-shape t places path p (none_if (is_at t p is_dir) fault.IsDir parts.0) (none_if (is_at t p is_link) fault.IsLink (none_first (link t p) None parts.1).0)

reply-shape : (t : Tree) (cid : ℕ) (places : List ℕ) (c : TreeCall) → IsShape t places c (reply_to t cid places c)
reply-shape t cid places c = go (refusal t c) refl
  where
    go : (o : Option TreeFault) → refusal t c ≡ o → IsShape t places c (option_map_or reply.Refused o (answer_to t cid places c))
    go None none = answer-shape t cid places c none
    go (Some why) is = refused-shape t places c why

-- The places of files.

meta-shape : (v : Volume) (h : List Event) (by : Actor) (c : TreeCall) (r : TreeReply) → IsLegalInRuns v (e.Meta by c r ∷ h)
    → IsShape (export_of v (facts h) (export h)).tree (new_places (export_of v (facts h) (export h))).places c r
meta-shape v h by c r legal =
    let s = export_of v (facts h) (export h) in
    subst (λ z. IsShape s.tree (new_places s).places c z) (sym legal.1.row.told) (reply-shape s.tree (new_places s).cid (new_places s).places c)

-- each file lies on distinct nodes of the volume
abbrev pub IsLaidOut : Volume → Type 0
IsLaidOut v = (h : List Event) → IsLegalInRuns v h → (fid : ℕ) (places : List ℕ) → (facts h).places fid ≡ Some places → IsLaid v places

-- Each event of a legal log says what is so for good.

placing : (v : Volume) → IsLaidOut v → (h : List Event) → IsLegalInRuns v h → (x : Event) (fid : ℕ) (info : FileInfo) → file_of (export_of v (facts h) (export h)).tree fid ≡ Some info
    → IsPlacing v (facts (x ∷ h)) fid info.places
placing v laid h legal x fid info is =
    let at = file-places v h legal fid info is in
    let ps = laid h legal fid info.places at in
    record { placed = (extends-more (x ∷ []) h).places fid info.places at; many = ps.many; apart = ps.apart; nodes = ps.of_volume }

shape-reply : (v : Volume) → IsLaidOut v → (h : List Event) → IsLegalInRuns v h → (x : Event) (places : List ℕ) (c : TreeCall) (r : TreeReply)
    → IsShape (export_of v (facts h) (export h)).tree places c r → IsOpenReply v (facts (x ∷ h)) c r
shape-reply v laid h legal x places (tree.OpenFile path) (reply.File info) is = placing v laid h legal x info.fid info is
shape-reply v laid h legal x places (tree.OpenFile path) (reply.Refused fault) is = tt
shape-reply v laid h legal x places (tree.OpenFile path) (_) is = absurd is
shape-reply v laid h legal x places (_) (reply.File info) is = absurd is
shape-reply v laid h legal x places (_) (reply.Gone (Some info)) is = (placing v laid h legal x info.fid info is).nodes
shape-reply v laid h legal x places (_) (_) is = tt

first-begun : (a : Option Begun) (b : Bool) (x : Begun) → a ≡ None → b ≡ true → first_some a (cond b (Some x) None) ≡ Some x
first-begun None true x p q = refl
first-begun None false x p q = cc
first-begun (Some y) b x p q = cc

unwritten : (v : Volume) (h : List Event) → IsLegalInRuns v h → (s : ℕ) → last_drawn (export h) < s → wrote h s ≡ None
unwritten v h legal s above = go (wrote h s) refl
  where
    go : (o : Option Begun) → wrote h s ≡ o → o ≡ None
    go None is = refl
    go (Some b) is = let low = drawn v h legal s b is in absurd (omega (arith, low, above))

looked-known : (v : Volume) (h : List Event) → IsLegalInRuns v h → (key : Key) (p : Published) → Some p ≡ published (facts h) (export h) key → (b : Begun) × ((facts h).wrote p.stamp ≡ Some b)
looked-known v h legal key p told =
    let kw = all-filter (Knows (facts h)) (λ y. same_word Export (word_of y)) h (legal-knows v h legal) in
    let a = some_length (facts h) (accepted (export h) key) p told in
    let b = accepted-known (facts h) (export h) key kw a.0 a.1 in
    (b.0, ap (facts h).wrote a.2 ∙ b.1)

-- the position of a node among places where it stands
at-position : (n i : ℕ) (places : List ℕ) (q : ℕ) → slice_get places q ≡ Some n → (r : ℕ) × (position_in n i places ≡ i + r) × (slice_get places r ≡ Some n)
at-position n i [] q is = cc
at-position n i (m ∷ places) q is = go (m == n) refl (λ k at. at-position n (i + 1) places k at)
  where
    tail : (p : ℕ) → slice_get (m ∷ places) p ≡ Some n → (m == n) ≡ false → (k : ℕ) × (slice_get places k ≡ Some n)
    tail zero at apart = (let same : (m == n) ≡ true = eq-eqb m n (the_some m n at) in cc)
    tail (suc p) at apart = (p, at)

    go : (b : Bool) → (m == n) ≡ b → ((k : ℕ) → slice_get places k ≡ Some n → (r : ℕ) × (position_in n (i + 1) places ≡ (i + 1) + r) × (slice_get places r ≡ Some n))
        → (r : ℕ) × (cond b i (position_in n (i + 1) places) ≡ i + r) × (slice_get (m ∷ places) r ≡ Some n)
    go true same rest = (0, omega arith, ap Some (eqb-true m n same))
    go false apart rest =
        let k = tail q is apart in
        let found = rest k.0 k.1 in
        let one = found.1 in
        (suc found.0, omega (arith, one), found.2)

node-at : (f : Facts) (l : Listed) (node : ℕ) → f.places l.key.fid ≡ Some l.info.places → (q : ℕ) → IsPlace f l.key.fid q node → slice_get l.info.places (position_of node l) ≡ Some node
node-at f l node is_placed q place =
    let same : l.info.places ≡ place.0 = the_some _ _ (sym is_placed ∙ place.1) in
    let r = at-position node 0 l.info.places q (ap (λ (ps : List ℕ). slice_get ps q) same ∙ place.2) in
    let z = r.1 in
    subst (λ p. slice_get l.info.places p ≡ Some node) (sym (let k : position_of node l ≡ r.0 = omega (arith, z) in k)) r.2

-- each text that began is no longer than a block
pub wrote-short : (v : Volume) (h : List Event) → IsLegalInRuns v h → (s : ℕ) (b : Begun) → wrote h s ≡ Some b → length b.text ≤ block_bytes_of v.layout
wrote-short v [] legal s b is = cc
wrote-short v (x ∷ h) legal s b is =
    elim (wrote-cases x h s b is) [
      | inl old ↦ wrote-short v h legal.0 s b old
      | inr new ↦ begun-short x legal (begun_by-is s x b new)
    ]
  where
    begun-short : (y : Event) → IsLegalInRuns v (y ∷ h) → y ≡ e.Begin b.by b.key s b.base b.text → length b.text ≤ block_bytes_of v.layout
    begun-short y legal is = (subst (λ z. IsLegalInRuns v (z ∷ h)) is legal).1.row.short

pub telling : (v : Volume) → IsLaidOut v → IsTelling v
telling v laid h (e.Meta by c r) legal =
    let s = export_of v (facts h) (export h) in
    shape-reply v laid h legal.0 (e.Meta by c r) (new_places s).places c r (meta-shape v h by c r legal)
telling v laid h (e.Begin by key stamp base text) legal =
    let next = legal.1.row.next in
    first-begun (wrote h stamp) (stamp == stamp) (record { by = by; key = key; base = base; text = text })
    (unwritten v h legal.0 stamp (omega (arith, next))) (eq-eqb stamp stamp refl)
telling v laid h (e.Publish by key stamp mask (Some refused)) legal = legal.1.row.named
telling v laid h (e.Look by key (Some p)) legal =
    let k = looked-known v h legal.0 key p legal.1.row.told in
    (k.0, (extends-more (e.Look by key (Some p) ∷ []) h).wrote p.stamp k.0 k.1)
telling v laid h (e.Fetch by node key position stamp (Some r)) legal =
    let t = legal.1.row.told.1 in
    (t.0, record { found = (extends-more (e.Fetch by node key position stamp (Some r) ∷ []) h).wrote stamp t.0 t.1.found; stamp = t.1.stamp; length = t.1.length; base = t.1.base })
telling v laid h (e.Next by node after (Some l)) legal =
    let row = legal.1.row in
    let k = looked-known v h legal.0 l.key l.published row.listed.told in
    let place = placing v laid h legal.0 (e.Next by node after (Some l)) l.key.fid l.info row.file in
    let named = row.listed.named in
    record {
      placing = place;
      known = (k.0, (extends-more (e.Next by node after (Some l) ∷ []) h).wrote l.published.stamp k.0 k.1);
      at = node-at (facts h) l node (file-places v h legal.0 l.key.fid l.info row.file) named.0 named.2;
    }
telling v laid h (e.Got by number key part (read.Found stamp text)) legal =
    let w = legal.1.row.0.wrote in
    subst (λ (t : List ℕ). length t ≤ block_bytes_of v.layout) w.2 (wrote-short v h legal.0 stamp w.0 w.1)
telling v laid h (_) legal = tt
