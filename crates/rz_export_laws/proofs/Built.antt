-- A tree that parts make is whole at the end.
use Rattle.std.proofs.Common.{◌≡◌, ℕ, ◌+◌, ◌≤◌, ◌<◌, true, false, cond, List, [], ◌∷◌, ◌++◌, length, Some, None, is_some, sym, ap, ◌∙◌, subst, refl, arith, inl, inr, append_assoc}
use Rattle.std.specs.Ordering.{nat_cmp, eq_by_cmp}
use Rattle.std.specs.Cmp.{nat_cmp_total}
use Rattle.std.specs.List.{list_all, AllByRecursion}
use Rattle.std.specs.FinMap as maps
use Rattle.std.specs.FinMap.{FinMap, nat_cmp-IsAntisymmetric, len-insert}
use Rattle.rz_events.specs.Volume.{Volume}
use Rattle.rz_events.specs.declared.files.Kind.{Kind}
use Rattle.rz_events.specs.declared.files.Kind.TheVariants.{File, Dir, Link}
use Rattle.rz_export_model.specs.Paths.{Path, path_cmp, paths_total, exact_paths, above, is_root}
use Rattle.rz_export_model.specs.Tree.{Tree, Object, is_at, is_dir, paths_to, empty_tree, new_dir}
use Rattle.rz_export_model.specs.TreeCalls.{with_name}
use Rattle.rz_export_model.specs.Export.{Export, new_export}
use Rattle.rz_tree.specs.Trees.{IsTree}
use Rattle.rz_tree.specs.declared.parts.Part.{Part}
use Rattle.rz_tree.specs.declared.parts.Part.TheVariants as part
use Rattle.rz_tree.specs.Added.{FitsKind, AreNamed, IsRoot, IsNextObject, IsNextName, most_names, with_given}
use Rattle.rz_tree.proofs.Lasts.{behind-none}
use Rattle.rz_tree.proofs.Counts.{count-insert, one_if-same, one_if-other, no-path}
use Rattle.rz_export.specs.Building.{ArePartsOf, AllFollow, MayBeNext, made_of, with_part, with_parts}
use Rattle.rz_export_laws.specs.WholeTree.{IsWholeTree, IsPlainPart, is_plain}
use Rattle.rz_tree.proofs.Keys.{same_some, not_none, false-true, one-or-two, ties-itself, apart, get-inserted, get-beside}
use Rattle.rz_tree.proofs.Fronts.{above-append}
use Rattle.rz_tree.proofs.Rules.{dir-found, dir-is}
use Rattle.rz_export_laws.proofs.Changed.{changed-whole}
use Rattle.rz_export_laws.proofs.Empty.{empty-whole, number}

-- a tree that parts made so far: whole, but for names that are to come
pub record SoFar (t : Tree) : Type 0 where
  pub rules : IsTree t
  pub root : maps.get t.names [] ≡ Some 0
  pub root_alone : (path : Path) → maps.get t.names path ≡ Some 0 → path ≡ []
  pub few : maps.len t.objects ≤ 65537
  pub fits : (fid : ℕ) (o : Object) → maps.get t.objects fid ≡ Some o → FitsKind o.kind o
  pub few_names : (fid : ℕ) (o : Object) → maps.get t.objects fid ≡ Some o → paths_to t.names fid ≤ most_names o.kind
  pub spelled : (path : Path) (fid : ℕ) → maps.get t.names path ≡ Some fid → list_all is_plain path ≡ true

so-far : (t : Tree) → IsWholeTree t → SoFar t
so-far t w = record { rules = w.rules; root = w.root; root_alone = w.root_alone; few = w.few; fits = w.fits; few_names = w.few_names; spelled = w.spelled }

whole-at-end : (t : Tree) → SoFar t → AreNamed t → IsWholeTree t
whole-at-end t x named =
    record { rules = x.rules; root = x.root; root_alone = x.root_alone; few = x.few; fits = x.fits; named = named; few_names = x.few_names; spelled = x.spelled }

-- ---- the next object

module _ (t : Tree) (x : SoFar t) (fid : ℕ) (o : Object) (next : IsNextObject t fid o) where
  objects : FinMap nat_cmp Object
  objects = maps.insert t.objects fid o

  blank : maps.get t.objects fid ≡ None
  blank = behind-none nat_cmp_total t.objects fid next.rising

  low : (f : ℕ) → is_some (maps.get t.objects f) ≡ true → eq_by_cmp nat_cmp f fid ≡ false
  low f there = apart nat_cmp_total nat_cmp-IsAntisymmetric f fid (λ same. false-true (sym (ap is_some blank) ∙ ap (λ n. is_some (maps.get t.objects n)) (sym same) ∙ there))

  no-paths : paths_to t.names fid ≡ 0
  no-paths = no-path t.names fid (λ q at. false-true (sym (ap is_some blank) ∙ x.rules.leads q fid at))

  old : (f : ℕ) → eq_by_cmp nat_cmp f fid ≡ false → maps.get (maps.insert t.objects fid o) f ≡ maps.get t.objects f
  old f other = get-beside nat_cmp_total nat_cmp-IsAntisymmetric t.objects fid o f other

  own : (f : ℕ) (y : Object) → f ≡ fid → maps.get (maps.insert t.objects fid o) f ≡ Some y → o ≡ y
  own f y same at = same_some o y (sym (ap (maps.get (maps.insert t.objects fid o)) same ∙ get-inserted nat_cmp_total nat_cmp-IsAntisymmetric t.objects fid o) ∙ at)

  dir_stays : (q : Path) → is_at t q is_dir ≡ true → is_at (with_given t fid o) q is_dir ≡ true
  dir_stays q h =
      let d = dir-found t q h in
      dir-is (with_given t fid o) q (record { fid = d.fid; object = d.object; at = d.at; is = old d.fid (low d.fid (ap is_some d.is)) ∙ d.is; dir = d.dir })

  paths-of : (f : ℕ) → f ≡ fid → paths_to t.names f ≡ 0
  paths-of f same = ap (paths_to t.names) same ∙ no-paths

  given-rules : IsTree (with_given t fid o)
  given-rules = record {
    root = dir_stays [] x.rules.root;
    leads = λ q f at. let there = x.rules.leads q f at in ap is_some (old f (low f there)) ∙ there;
    under = λ q n there. dir_stays q (x.rules.under q n there);
    single = λ f y at dir. elim (one-or-two nat_cmp_total nat_cmp-IsAntisymmetric f fid) [
      | inl same ↦ let none = paths-of f same in omega (arith, none)
      | inr other ↦ x.rules.single f y (sym (old f other) ∙ at) dir
    ];
    drawn = λ f there. elim (one-or-two nat_cmp_total nat_cmp-IsAntisymmetric f fid) [
      | inl same ↦ let most : fid ≤ t.made = next.given in omega (arith, same, most)
      | inr other ↦ x.rules.drawn f (sym (ap is_some (old f other)) ∙ there)
    ];
  }

  given-few : maps.len (maps.insert t.objects fid o) ≤ 65537
  given-few =
      let more : maps.len (maps.insert t.objects fid o) ≡ maps.len t.objects + 1 =
      len-insert nat_cmp_total t.objects fid o ∙ ap (λ b. cond b (maps.len t.objects) (maps.len t.objects + 1)) (ap is_some blank) in
      let most : maps.len t.objects ≤ 65536 = next.few in
      omega (arith, more, most)

  pub given-so-far : SoFar (with_given t fid o)
  given-so-far = record {
    rules = given-rules;
    root = x.root;
    root_alone = x.root_alone;
    few = given-few;
    fits = λ f y at. elim (one-or-two nat_cmp_total nat_cmp-IsAntisymmetric f fid) [
      | inl same ↦ subst (λ (z : Object). FitsKind z.kind z) (own f y same at) next.fits
      | inr other ↦ x.fits f y (sym (old f other) ∙ at)
    ];
    few_names = λ f y at. elim (one-or-two nat_cmp_total nat_cmp-IsAntisymmetric f fid) [
      | inl same ↦ subst (λ n. n ≤ most_names y.kind) (sym (paths-of f same)) (zero-least (most_names y.kind))
      | inr other ↦ x.few_names f y (sym (old f other) ∙ at)
    ];
    spelled = x.spelled;
  }
    where
      zero-least : (n : ℕ) → 0 ≤ n
      zero-least n = omega arith

-- ---- the next name

module _ (t : Tree) (x : SoFar t) (to : Path) (fid : ℕ) (next : IsNextName t to fid) (plain : list_all is_plain to ≡ true) where
  abbrev names : FinMap path_cmp ℕ
  names = maps.insert t.names to fid

  free : maps.get t.names to ≡ None
  free = behind-none paths_total t.names to next.rising

  name-own : maps.get names to ≡ Some fid
  name-own = get-inserted paths_total exact_paths t.names to fid

  name-old : (q : Path) → eq_by_cmp path_cmp q to ≡ false → maps.get names q ≡ maps.get t.names q
  name-old q other = get-beside paths_total exact_paths t.names to fid q other

  dir_still : (q : Path) → is_at t q is_dir ≡ true → is_at (with_name t to fid) q is_dir ≡ true
  dir_still q h =
      let d = dir-found t q h in
      dir-is (with_name t to fid) q (record {
        fid = d.fid;
        object = d.object;
        at = name-old q (apart paths_total exact_paths q to (λ same. not_none d.fid (sym d.at ∙ ap (maps.get t.names) same ∙ free))) ∙ d.at;
        is = d.is;
        dir = d.dir;
      })

  count-own : paths_to names fid ≡ 1 + paths_to t.names fid
  count-own = count-insert t.names to fid fid free ∙ ap (λ n. n + paths_to t.names fid) (one_if-same fid)

  count-old : (f : ℕ) → eq_by_cmp nat_cmp f fid ≡ false → paths_to names f ≡ paths_to t.names f
  count-old f other = count-insert t.names to fid f free
      ∙ ap (λ n. n + paths_to t.names f) (one_if-other fid f (λ same. false-true (sym other ∙ ap (λ n. eq_by_cmp nat_cmp n fid) (sym same) ∙ ties-itself nat_cmp_total nat_cmp-IsAntisymmetric fid)))
      ∙ zero_plus (paths_to t.names f)
    where
      zero_plus : (n : ℕ) → 0 + n ≡ n
      zero_plus n = omega arith

  room : (f : ℕ) (y : Object) → f ≡ fid → maps.get t.objects f ≡ Some y → paths_to names f ≤ most_names y.kind
  room f y same at =
      let is : next.leads.0 ≡ y = same_some next.leads.0 y (sym next.leads.1 ∙ ap (maps.get t.objects) (sym same) ∙ at) in
      let less : paths_to t.names fid < most_names y.kind = subst (λ (z : Object). paths_to t.names fid < most_names z.kind) is next.leads.2 in
      subst (λ n. n ≤ most_names y.kind) (sym (ap (paths_to names) same ∙ count-own)) (next-most (paths_to t.names fid) (most_names y.kind) less)
    where
      next-most : (a b : ℕ) → a < b → 1 + a ≤ b
      next-most a b h = omega (arith, h)

  few-now : (f : ℕ) (y : Object) → maps.get t.objects f ≡ Some y → paths_to names f ≤ most_names y.kind
  few-now f y at = elim (one-or-two nat_cmp_total nat_cmp-IsAntisymmetric f fid) [
    | inl same ↦ room f y same at
    | inr other ↦ subst (λ n. n ≤ most_names y.kind) (sym (count-old f other)) (x.few_names f y at)
  ]

  named-rules : IsTree (with_name t to fid)
  named-rules = record {
    root = dir_still [] x.rules.root;
    leads = λ q f at. elim (one-or-two paths_total exact_paths q to) [
      | inl same ↦ ap (λ n. is_some (maps.get t.objects n)) (sym (same_some fid f (sym (ap (maps.get names) same ∙ name-own) ∙ at))) ∙ ap is_some next.leads.1
      | inr other ↦ x.rules.leads q f (sym (name-old q other) ∙ at)
    ];
    under = λ q n there. elim (one-or-two paths_total exact_paths (q ++ n ∷ []) to) [
      | inl same ↦ dir_still q (ap (λ z. is_at t z is_dir) (sym (ap above (sym same) ∙ above-append q n)) ∙ next.under)
      | inr other ↦ dir_still q (x.rules.under q n (ap is_some (sym (name-old (q ++ n ∷ []) other)) ∙ there))
    ];
    single = λ f y at dir. subst (λ b. paths_to names f ≤ cond b 1 65535) dir (few-now f y at);
    drawn = x.rules.drawn;
  }

  pub named-so-far : SoFar (with_name t to fid)
  named-so-far = record {
    rules = named-rules;
    root = name-old [] (apart paths_total exact_paths [] to (λ same. false-true (sym next.below ∙ ap is_root (sym same)))) ∙ x.root;
    root_alone = λ q at. elim (one-or-two paths_total exact_paths q to) [
      | inl same ↦
          let none : fid ≡ 0 = same_some fid 0 (sym (ap (maps.get names) same ∙ name-own) ∙ at) in
          let some : 1 ≤ fid = next.proper in
          absurd (omega (arith, none, some))
      | inr other ↦ x.root_alone q (sym (name-old q other) ∙ at)
    ];
    few = x.few;
    fits = x.fits;
    few_names = few-now;
    spelled = λ q f at. elim (one-or-two paths_total exact_paths q to) [
      | inl same ↦ ap (list_all is_plain) same ∙ plain
      | inr other ↦ x.spelled q f (sym (name-old q other) ∙ at)
    ];
  }

-- ---- all parts

numbered : (made : ℕ) → IsWholeTree (record empty_tree { made = made })
numbered made = record {
  rules = record {
    root = empty-whole.rules.root;
    leads = empty-whole.rules.leads;
    under = empty-whole.rules.under;
    single = empty-whole.rules.single;
    drawn = λ fid there. let none : fid ≡ 0 = number fid there in omega (arith, none);
  };
  root = empty-whole.root;
  root_alone = empty-whole.root_alone;
  few = empty-whole.few;
  fits = empty-whole.fits;
  named = empty-whole.named;
  few_names = empty-whole.few_names;
  spelled = empty-whole.spelled;
}

dir-kind : (k : Kind) → is_dir k ≡ true → k ≡ Dir
dir-kind File h = cc
dir-kind Dir h = refl
dir-kind Link h = cc

pub rooted : (made fid : ℕ) (o : Object) → IsRoot fid o → SoFar (record empty_tree { made = made; objects = maps.insert empty_tree.objects fid o })
rooted made fid o root =
    let whole = changed-whole (record empty_tree { made = made }) (numbered made) 0 new_dir o (get-inserted nat_cmp_total nat_cmp-IsAntisymmetric maps.empty 0 new_dir) (dir-kind o.kind root.kind) root.fits in
    subst (λ n. SoFar (record empty_tree { made = made; objects = maps.insert empty_tree.objects n o })) (sym root.number)
    (so-far (record empty_tree { made = made; objects = maps.insert empty_tree.objects 0 o }) whole)

pub step : (s : Export) (p : Part) → SoFar s.tree → MayBeNext s p → IsPlainPart p → SoFar (with_part s p).tree
step s (part.Counters last made) x may plain = absurd may
step s (part.Object fid kind mode mtime size cid places target) x may plain = given-so-far s.tree x fid _ may.next
step s (part.Name path fid) x may plain = named-so-far s.tree x path fid may.next plain
step s (part.Block key latest published) x may plain = x
step s (part.Enrolled node loss fence) x may plain = x

with-last : (s : Export) (ps : List Part) (p : Part) → with_parts s (ps ++ p ∷ []) ≡ with_part (with_parts s ps) p
with-last s [] p = refl
with-last s (q ∷ ps) p = with-last (with_part s q) ps p

append-nothing : (ps : List Part) → ps ++ [] ≡ ps
append-nothing [] = refl
append-nothing (p ∷ ps) = ap (λ rest. p ∷ rest) (append-nothing ps)

-- what holds of the export of counters and a root, and of one more part, holds of the export of all parts
module _ (volume : Volume) (Q : Export → Type 0)
    (start : (last made fid : ℕ) (o : Object) → IsRoot fid o
    → Q (made_of volume (part.Counters last made ∷ part.Object fid o.kind o.mode o.mtime o.size o.cid o.places o.target ∷ [])))
    (next : (s : Export) (p : Part) → Q s → MayBeNext s p → IsPlainPart p → Q (with_part s p)) where
  on : (first second : Part) (before ps : List Part) → AllFollow volume (first ∷ second ∷ before) ps → AllByRecursion IsPlainPart ps → Q (made_of volume (first ∷ second ∷ before))
      → Q (made_of volume (first ∷ second ∷ (before ++ ps)))
  on first second before [] follow plain x = subst (λ l. Q (made_of volume (first ∷ second ∷ l))) (sym (append-nothing before)) x
  on first second before (p ∷ ps) follow plain x =
      subst (λ l. Q (made_of volume (first ∷ second ∷ l))) (append_assoc before (p ∷ []) ps)
      (on first second (before ++ p ∷ []) ps follow.1 plain.1
      (subst Q (sym (with-last (new_export volume 0) (first ∷ second ∷ before) p))
      (next (made_of volume (first ∷ second ∷ before)) p x follow.0 plain.0)))

  pub all-parts : (parts : List Part) → AllFollow volume [] parts → 2 ≤ length parts → AllByRecursion IsPlainPart parts → Q (made_of volume parts)
  all-parts [] each two plain = absurd (omega arith)
  all-parts (p ∷ []) each two plain = absurd (omega arith)
  all-parts (part.Counters last made ∷ part.Object fid kind mode mtime size cid places target ∷ ps) each two plain =
      on (part.Counters last made) (part.Object fid kind mode mtime size cid places target) [] ps each.1.1 plain.1.1
      (start last made fid (record { kind = kind; mode = mode; mtime = mtime; target = target; size = size; cid = cid; places = places }) each.1.0)
  all-parts (part.Counters last made ∷ part.Counters a b ∷ ps) each two plain = absurd each.1.0
  all-parts (part.Counters last made ∷ part.Name path fid ∷ ps) each two plain = absurd each.1.0
  all-parts (part.Counters last made ∷ part.Block key latest published ∷ ps) each two plain = absurd each.1.0
  all-parts (part.Counters last made ∷ part.Enrolled node loss fence ∷ ps) each two plain = absurd each.1.0
  all-parts (part.Object fid kind mode mtime size cid places target ∷ p ∷ ps) each two plain = absurd each.0
  all-parts (part.Name path fid ∷ p ∷ ps) each two plain = absurd each.0
  all-parts (part.Block key latest published ∷ p ∷ ps) each two plain = absurd each.0
  all-parts (part.Enrolled node loss fence ∷ p ∷ ps) each two plain = absurd each.0

pub builds-whole : (volume : Volume) (parts : List Part) → ArePartsOf volume parts → AllByRecursion IsPlainPart parts → IsWholeTree (made_of volume parts).tree
builds-whole volume parts are plain =
    whole-at-end (made_of volume parts).tree
    (all-parts volume (λ s. SoFar s.tree) (λ last made fid o root. rooted made fid o root) (λ s p x may named. step s p x may named) parts are.each are.rooted plain)
    are.named
