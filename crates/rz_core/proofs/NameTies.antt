-- The names of the export and the log: which files are live, and where they lie.
use Rattle.std.proofs.Common.{ℕ, Bool, true, false, ◌==◌, ◌&&◌, ◌||◌, not, ◌≡◌, ◌⊎◌, inl, inr, ◌≤◌, ◌+◌, List, [], ◌∷◌, Option, Some, None, is_some, cond, refl, sym, ◌∙◌, ap, subst, arith}
use Rattle.std.specs.Option.{option_and_then, option_or}
use Rattle.std.specs.FinMap as maps
use Rattle.std.specs.Ordering.{nat_cmp, eq_by_cmp}
use Rattle.std.specs.Cmp.{nat_cmp_total}
use Rattle.std.proofs.lemmas.Bool.{eqb-true, eq-eqb, or_cases, or_parts, and_right, false_from_ne_true}
use Rattle.std.proofs.lemmas.Option.{same_Some}
use Rattle.rz_events.specs.Volume.{Volume}
use Rattle.rz_events.specs.declared.keys.Actor.{Actor}
use Rattle.rz_events.specs.declared.files.FileInfo.{FileInfo}
use Rattle.rz_events.specs.declared.tree.TreeCall.{TreeCall}
use Rattle.rz_events.specs.declared.tree.TreeReply.{TreeReply}
use Rattle.rz_events.specs.declared.tree.TreeReply.TheVariants as reply
use Rattle.rz_events.specs.declared.events.Word.TheVariants.{Export}
use Rattle.rz_events.specs.declared.events.Event.{Event}
use Rattle.rz_events.specs.declared.events.Event.TheVariants as e
use Rattle.rz_events.specs.Events.{word_of, same_word}
use Rattle.rz_export_model.specs.Firsts.{given_if}
use Rattle.rz_export_model.specs.Tree.{Tree, Object, empty_tree, new_dir, file_of, file_from, is_file, info_of}
use Rattle.rz_export_model.specs.Export.{Export as ExportState, new_places, after_tree, after_enroll, draws}
use Rattle.rz_core.specs.History.{Facts, facts, places_of, placed_by, first_some, Has}
use Rattle.rz_export_model.specs.Files.{makes, ends}
use Rattle.rz_core.specs.ExportWord.{is_made, is_gone, is_live, export_of}
use Rattle.rz_core.specs.ExportRows.{names_reply}
use Rattle.rz_core.specs.Legal.{IsLegalInRuns}
use Rattle.rz_core.proofs.NodeLaws.{IsRows, filter-has}
use Rattle.rz_core.proofs.Stamps.{export}
use Rattle.rz_core.proofs.EnrollLaws.{export-rows}
use Rattle.rz_export_model.proofs.Files.{Objects, seen, view, made_at, IsBlank, IsStep, quiet, unchanged, apart, step, grows}

-- an event of the word made the file, which lies there
abbrev pub HasMade : List Event → ℕ → List ℕ → Type 0
HasMade w fid places = (by : Actor) × (c : TreeCall) × (info : FileInfo) × Has w (e.Meta by c (reply.MadeFile info)) × (info.fid ≡ fid) × (info.places ≡ places)

-- the tree has the files of the log
pub record AreNames (w : List Event) (t : Tree) : Type 0 where
  pub blank : IsBlank t
  pub made_low : (fid : ℕ) → is_made w fid ≡ true → fid ≤ t.made
  pub gone_low : (fid : ℕ) → is_gone w fid ≡ true → fid ≤ t.made
  pub live : (fid : ℕ) → is_some (view t.objects fid) ≡ is_live w fid
  pub placed : (fid : ℕ) (places : List ℕ) → view t.objects fid ≡ Some places → HasMade w fid places

makes-at : (r : TreeReply) (fid : ℕ) → makes r fid ≡ is_some (made_at r fid)
makes-at (reply.MadeFile info) fid = go (fid == info.fid)
  where
    go : (b : Bool) → b ≡ is_some (cond b (Some info.places) None)
    go true = refl
    go false = refl
makes-at (_) fid = refl

-- a reply that makes a file
made-reply : (r : TreeReply) (fid : ℕ) (places : List ℕ) → made_at r fid ≡ Some places → (info : FileInfo) × (r ≡ reply.MadeFile info) × (info.fid ≡ fid) × (info.places ≡ places)
made-reply (reply.MadeFile info) fid places k = go (fid == info.fid) refl k
  where
    go : (b : Bool) → (fid == info.fid) ≡ b → cond b (Some info.places) None ≡ Some places
        → (i : FileInfo) × (reply.MadeFile info ≡ reply.MadeFile i) × (i.fid ≡ fid) × (i.places ≡ places)
    go true on k = (info, refl, sym (eqb-true fid info.fid on), same_Some _ _ k)
    go false off k = cc
made-reply (_) fid places k = cc

view_cases : (m : Option (List ℕ)) (gone : Bool) (old : Option (List ℕ)) (places : List ℕ) → option_or m (cond gone None old) ≡ Some places → (m ≡ Some places) ⊎ (old ≡ Some places)
view_cases None true old places k = cc
view_cases None false old places k = inr k
view_cases (Some p) gone old places k = inl k

more-made : (w : List Event) (x : Event) (fid : ℕ) (places : List ℕ) → HasMade w fid places → HasMade (x ∷ w) fid places
more-made w x fid places (by, c, info, has, is, at) = (by, c, info, inr has, is, at)

-- after a call on names
module _ (w : List Event) (t u : Tree) (by : Actor) (c : TreeCall) (r : TreeReply) (s : IsStep t u r) (n : AreNames w t) where
  after-live : (fid : ℕ) (m : Option (List ℕ)) → makes r fid ≡ is_some m → (gone : Bool) → ends r fid ≡ gone
      → is_some (option_or m (cond gone None (view t.objects fid))) ≡ ((is_some m || is_made w fid) && not (gone || is_gone w fid))
  after-live fid (Some p) new true ended = let up = (s.new fid new).0 in let low = s.gone fid ended in absurd (omega (arith, up, low))
  after-live fid (Some p) new false ended =
      let never = false_from_ne_true (is_gone w fid) (λ g. (let up = (s.new fid new).0 in let low = n.gone_low fid g in omega (arith, up, low))) in
      ap not (sym never)
  after-live fid None new true ended = sym (and_right (is_made w fid) false refl)
  after-live fid None new false ended = n.live fid

  pub after-call : AreNames (e.Meta by c r ∷ w) u
  after-call = record {
    blank = s.blank;
    made_low = λ fid m. made fid (or_cases (makes r fid) (is_made w fid) m);
    gone_low = λ fid g. gone fid (or_cases (ends r fid) (is_gone w fid) g);
    live = λ fid. ap is_some (s.views fid) ∙ after-live fid (made_at r fid) (makes-at r fid) (ends r fid) refl
        ∙ ap (λ b. (b || is_made w fid) && not (ends r fid || is_gone w fid)) (sym (makes-at r fid));
    placed = λ fid places k. placed fid places (view_cases (made_at r fid) (ends r fid) (view t.objects fid) places (sym (s.views fid) ∙ k));
  }
    where
      made : (fid : ℕ) → (makes r fid ≡ true) ⊎ (is_made w fid ≡ true) → fid ≤ u.made
      made fid (inl new) = (s.new fid new).1
      made fid (inr old) = let low = n.made_low fid old in let up = s.rises in omega (arith, low, up)

      gone : (fid : ℕ) → (ends r fid ≡ true) ⊎ (is_gone w fid ≡ true) → fid ≤ u.made
      gone fid (inl new) = let low = s.gone fid new in let up = s.rises in omega (arith, low, up)
      gone fid (inr old) = let low = n.gone_low fid old in let up = s.rises in omega (arith, low, up)

      placed : (fid : ℕ) (places : List ℕ) → (made_at r fid ≡ Some places) ⊎ (view t.objects fid ≡ Some places) → HasMade (e.Meta by c r ∷ w) fid places
      placed fid places (inl new) = let m = made-reply r fid places new in (by, c, m.0, inl (ap (λ z. e.Meta by c z) m.1), m.2, m.3)
      placed fid places (inr old) = more-made w (e.Meta by c r) fid places (n.placed fid places old)

-- after any other event
after-other : (x : Event) (w : List Event) (t u : Tree) → IsStep t u reply.Plain → ((fid : ℕ) → is_made (x ∷ w) fid ≡ is_made w fid) → ((fid : ℕ) → is_gone (x ∷ w) fid ≡ is_gone w fid)
    → AreNames w t → AreNames (x ∷ w) u
after-other x w t u s made gone n = record {
  blank = s.blank;
  made_low = λ fid m. (let low = n.made_low fid (sym (made fid) ∙ m) in let up = s.rises in omega (arith, low, up));
  gone_low = λ fid g. (let low = n.gone_low fid (sym (gone fid) ∙ g) in let up = s.rises in omega (arith, low, up));
  live = λ fid. ap is_some (s.views fid) ∙ n.live fid ∙ ap (λ b. b && not (is_gone w fid)) (sym (made fid)) ∙ ap (λ b. is_made (x ∷ w) fid && not b) (sym (gone fid));
  placed = λ fid places k. more-made w x fid places (n.placed fid places (sym (s.views fid) ∙ k));
}

by-call : (s : ExportState) (w : List Event) (by : Actor) (c : TreeCall) (r : TreeReply) → r ≡ names_reply s c → AreNames w s.tree → AreNames (e.Meta by c r ∷ w) (after_tree s c).tree
by-call s w by c r told n =
    subst (λ z. AreNames (e.Meta by c z ∷ w) (after_tree s c).tree) (sym told)
    (after-call w s.tree (after_tree s c).tree by c (names_reply s c) (step s.tree (new_places s).cid (new_places s).places c n.blank) n)

enrolled-tree : (s : ExportState) (node loss : ℕ) → (after_enroll s node loss).tree ≡ s.tree
enrolled-tree s node loss = go (draws s loss (maps.get s.enrolled node))
  where
    go : (b : Bool) → (cond b (record s { enrolled = maps.insert s.enrolled node (record { loss = loss; fence = s.last + 1 }); last = s.last + 1 }) s).tree ≡ s.tree
    go true = refl
    go false = refl

blank-first : IsBlank empty_tree
blank-first fid up =
    maps.get-insert nat_cmp_total maps.empty 0 new_dir fid
    ∙ ap (λ b. cond b (Some new_dir) (maps.get (let m : Objects = maps.empty in m) fid)) (apart fid 0 (λ is. omega (arith, is, up)))
    ∙ maps.get-empty {X = Object} nat_cmp fid

no-file-first : (fid : ℕ) → view empty_tree.objects fid ≡ None
no-file-first fid = ap seen (maps.get-insert nat_cmp_total maps.empty 0 new_dir fid) ∙ go (eq_by_cmp nat_cmp fid 0)
  where
    go : (b : Bool) → seen (cond b (Some new_dir) (maps.get (let m : Objects = maps.empty in m) fid)) ≡ None
    go true = refl
    go false = ap seen (maps.get-empty {X = Object} nat_cmp fid)

pub names-tied : (v : Volume) (f : Facts) (w : List Event) → IsRows v f w → AreNames w (export_of v f w).tree
names-tied v f [] r = record {
  blank = blank-first;
  made_low = λ fid m. cc;
  gone_low = λ fid g. cc;
  live = λ fid. ap is_some (no-file-first fid);
  placed = λ fid places k. (let none = no-file-first fid in cc);
}
names-tied v f (e.Meta by c r ∷ w) rows = by-call (export_of v f w) w by c r rows.1.2.told (names-tied v f w rows.0)
names-tied v f (e.Publish by key stamp mask None ∷ w) rows =
    let n = names-tied v f w rows.0 in
    after-other (e.Publish by key stamp mask None) w (export_of v f w).tree _ (grows (export_of v f w).tree key.fid _ n.blank) (λ fid. refl) (λ fid. refl) n
names-tied v f (e.Enroll by node loss fence ∷ w) rows =
    let n = names-tied v f w rows.0 in
    subst (AreNames (e.Enroll by node loss fence ∷ w)) (sym (enrolled-tree (export_of v f w) node loss))
    (after-other (e.Enroll by node loss fence) w (export_of v f w).tree (export_of v f w).tree (unchanged (export_of v f w).tree reply.Plain n.blank (quiet reply.Plain refl)) (λ fid. refl) (λ fid. refl) n)
names-tied v f (x ∷ w) rows =
    let n = names-tied v f w rows.0 in
    after-other x w (export_of v f w).tree (export_of v f w).tree (unchanged (export_of v f w).tree reply.Plain n.blank (quiet reply.Plain refl)) (λ fid. refl) (λ fid. refl) n

-- what is told of a file
file-view : (t : Tree) (fid : ℕ) → is_some (file_of t fid) ≡ is_some (view t.objects fid)
file-view t fid = go (maps.get t.objects fid)
  where
    by_kind : (b : Bool) (info : FileInfo) (places : List ℕ) → is_some (given_if b info) ≡ is_some (given_if b places)
    by_kind true info places = refl
    by_kind false info places = refl

    go : (p : Option Object) → is_some (option_and_then (file_from fid) p) ≡ is_some (seen p)
    go None = refl
    go (Some o) = by_kind (is_file o.kind) (info_of (record { fid = fid; object = o })) o.places

file-info : (t : Tree) (fid : ℕ) (info : FileInfo) → file_of t fid ≡ Some info → (info.fid ≡ fid) × (view t.objects fid ≡ Some info.places)
file-info t fid info is = go (maps.get t.objects fid) is
  where
    by_kind : (o : Object) (b : Bool) → given_if b (info_of (record { fid = fid; object = o })) ≡ Some info → (info.fid ≡ fid) × (given_if b o.places ≡ Some info.places)
    by_kind o true is =
        let same = same_Some (info_of (record { fid = fid; object = o })) info is in
        (ap (λ (i : FileInfo). i.fid) (sym same), ap (λ (i : FileInfo). Some i.places) same)
    by_kind o false is = cc

    go : (p : Option Object) → option_and_then (file_from fid) p ≡ Some info → (info.fid ≡ fid) × (seen p ≡ Some info.places)
    go None is = cc
    go (Some o) is = by_kind o (is_file o.kind) is

-- the export's files are the live ones of the log
pub live-file : (v : Volume) (f : Facts) (w : List Event) → IsRows v f w → (fid : ℕ) → is_some (file_of (export_of v f w).tree fid) ≡ is_live w fid
live-file v f w r fid = let n = names-tied v f w r in file-view (export_of v f w).tree fid ∙ n.live fid

-- a file has its own number
pub file-number : (v : Volume) (f : Facts) (w : List Event) (fid : ℕ) (info : FileInfo) → file_of (export_of v f w).tree fid ≡ Some info → info.fid ≡ fid
file-number v f w fid info is = (file-info (export_of v f w).tree fid info is).0

-- a file that was never made is nowhere
unplaced : (h : List Event) (fid : ℕ) → is_made (export h) fid ≡ false → places_of h fid ≡ None
unplaced [] fid k = refl
unplaced (e.Meta by c r ∷ h) fid k =
    let none = or_parts (makes r fid) (is_made (export h) fid) k in
    ap (λ o. first_some o (placed_by fid (e.Meta by c r))) (unplaced h fid none.1) ∙ by_reply r none.0
  where
    by_reply : (r : TreeReply) → makes r fid ≡ false → placed_by fid (e.Meta by c r) ≡ None
    by_reply (reply.MadeFile info) off = ap (λ b. cond b (Some info.places) None) off
    by_reply (_) off = refl
unplaced (x ∷ h) fid k = ap (λ o. first_some o None) (unplaced h fid k)

-- where a file lies is what the event says that makes it
new-places : (v : Volume) (h : List Event) (by : Actor) (c : TreeCall) (info : FileInfo) → IsLegalInRuns v (e.Meta by c (reply.MadeFile info) ∷ h)
    → places_of (e.Meta by c (reply.MadeFile info) ∷ h) info.fid ≡ Some info.places
new-places v h by c info legal =
    let s = export_of v (facts h) (export h) in
    let n = names-tied v (facts h) (export h) (export-rows v h legal.0) in
    let made = step s.tree (new_places s).cid (new_places s).places c n.blank in
    let here = eq-eqb info.fid info.fid refl in
    let up = (made.new info.fid (ap (λ z. makes z info.fid) (sym legal.1.row.told) ∙ here)).0 in
    let never = false_from_ne_true (is_made (export h) info.fid) (λ m. (let low = n.made_low info.fid m in omega (arith, up, low))) in
    ap (λ o. first_some o (cond (info.fid == info.fid) (Some info.places) None)) (unplaced h info.fid never) ∙ ap (λ b. cond b (Some info.places) None) here

made-places : (v : Volume) (h : List Event) → IsLegalInRuns v h → (by : Actor) (c : TreeCall) (info : FileInfo) → Has h (e.Meta by c (reply.MadeFile info)) → places_of h info.fid ≡ Some info.places
made-places v [] legal by c info has = absurd has
made-places v (x ∷ h) legal by c info (inl is) =
    subst (λ z. IsLegalInRuns v (z ∷ h) → places_of (z ∷ h) info.fid ≡ Some info.places) (sym is) (λ l. new-places v h by c info l) legal
made-places v (x ∷ h) legal by c info (inr has) = ap (λ o. first_some o (placed_by info.fid x)) (made-places v h legal.0 by c info has)

-- a file lies where the log says
pub file-places : (v : Volume) (h : List Event) → IsLegalInRuns v h → (fid : ℕ) (info : FileInfo)
    → file_of (export_of v (facts h) (export h)).tree fid ≡ Some info → (facts h).places fid ≡ Some info.places
file-places v h legal fid info is = go (n.placed fid info.places (file-info (export_of v (facts h) (export h)).tree fid info is).1)
  where
    n : AreNames (export h) (export_of v (facts h) (export h)).tree
    n = names-tied v (facts h) (export h) (export-rows v h legal)

    go : HasMade (export h) fid info.places → places_of h fid ≡ Some info.places
    go (by, c, i, has, number, at) =
        subst (λ k. places_of h k ≡ Some info.places) number
        (subst (λ (ps : List ℕ). places_of h i.fid ≡ Some ps) at
        (made-places v h legal by c i (filter-has (λ y. same_word Export (word_of y)) h _ has)))
