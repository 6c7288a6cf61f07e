-- The parts of a whole export keep the rules of parts, and make it again.
use Rattle.std.proofs.Common.{◌≡◌, ◌==◌, ℕ, zero, suc, ◌≤◌, ◌<◌, true, false, ◌&&◌, not, List, [], ◌∷◌, ◌++◌, length, drop, map, Option, Some, None, is_some, IfSome, sym, ap, ◌∙◌, subst, refl, arith}
use Rattle.std.specs.declared.cmp.Ordering.TheVariants.{Less}
use Rattle.std.specs.List.{list_all, list_any}
use Rattle.std.specs.Ordering.{nat_cmp, is_eq}
use Rattle.std.specs.Cmp.{nat_cmp_total, ranked, tied_itself}
use Rattle.std.specs.FinMap as maps
use Rattle.std.specs.FinMap.{FinMap, nat_cmp-IsAntisymmetric, entries-insert}
use Rattle.rz_events.specs.Volume.{Volume}
use Rattle.rz_events.specs.Keys.{keys_total}
use Rattle.rz_events.specs.declared.keys.Key.{Key}
use Rattle.rz_events.specs.declared.files.Published.{Published}
use Rattle.rz_export_model.specs.Paths.{Path, Name, path_cmp, names_total, paths_total, exact_paths, is_name, is_root, above}
use Rattle.rz_export_model.specs.Tree.{Tree, Object, is_at, is_dir, paths_to, empty_tree, new_dir}
use Rattle.rz_export_model.specs.Export.{Export, Block, Blocks, Enrolled, new_export}
use Rattle.rz_names.specs.Names.{below_root, root_alone}
use Rattle.rz_tree.specs.declared.parts.Part.{Part}
use Rattle.rz_tree.specs.Parts.{object_part, name_part}
use Rattle.rz_tree.specs.Added.{MayBeNamed, AreNamed}
use Rattle.std.proofs.lemmas.Bool.{and_parts}
use Rattle.std.specs.Ordering.{ordering_then}
use Rattle.rz_tree.proofs.Keys.{held, same_some, get-inserted, get-beside}
use Rattle.rz_tree.proofs.Fronts.{split-above}
use Rattle.rz_tree.proofs.Lasts.{behind-less}
use Rattle.rz_tree.proofs.Rules.{dir-found, dir-is}
use Rattle.rz_tree.proofs.Counts.{count_to, cons-count, one_if-same}
use Rattle.rz_export.specs.Parts.{counters, block_part, enrolled_part, export_parts}
use Rattle.rz_export.specs.Building.{with_part, with_parts, made_of, MayBeNext, AllFollow, ArePartsOf, MayBePublished, IsRootPart}
use Rattle.rz_export_laws.specs.WholeTree.{is_plain}
use Rattle.rz_export_laws.specs.Whole.{IsWhole, PartsMakeIt}
use Rattle.rz_export_laws.proofs.InOrder.{IsBegun, none-yet, all-there, next-behind, one-more, next-in, before-there, fewer, first-entry, empty-entries}

-- ---- one part after another

-- each of these parts may be the next one
abbrev AllNext : Export → List Part → Type 0
AllNext s [] = Unit {0}
AllNext s (p ∷ ps) = MayBeNext s p × AllNext (with_part s p) ps

with-both : (s : Export) (ps qs : List Part) → with_parts s (ps ++ qs) ≡ with_parts (with_parts s ps) qs
with-both s [] qs = refl
with-both s (p ∷ ps) qs = with-both (with_part s p) ps qs

next-both : (s : Export) (ps qs : List Part) → AllNext s ps → AllNext (with_parts s ps) qs → AllNext s (ps ++ qs)
next-both s [] qs all more = more
next-both s (p ∷ ps) qs all more = (all.0, next-both (with_part s p) ps qs all.1 more)

-- behind the counters and the root each part that may be next follows
all-follow : (volume : Volume) (first root : Part) (so_far ps : List Part) → AllNext (made_of volume (first ∷ root ∷ so_far)) ps → AllFollow volume (first ∷ root ∷ so_far) ps
all-follow volume first root so_far [] all = tt
all-follow volume first root so_far (p ∷ ps) all = (
  all.0,
  all-follow volume first root (so_far ++ p ∷ []) ps
      (subst (λ (x : Export). AllNext x ps) (sym (with-both (new_export volume 0) (first ∷ root ∷ so_far) (p ∷ []))) all.1),
)

-- ---- paths

-- a path comes before those right under it
prefix-less : (q : Path) (n : Name) → path_cmp q (q ++ n ∷ []) ≡ Less
prefix-less [] n = refl
prefix-less (m ∷ q) n = ap (λ r. ordering_then r (path_cmp q (q ++ n ∷ []))) (tied_itself names_total m) ∙ prefix-less q n

-- none comes before the root's
no_less : (q : Path) → path_cmp q [] ≡ Less → ⊥
no_less [] lt = cc
no_less (n ∷ q) lt = cc

below-root : (q : Path) → path_cmp [] q ≡ Less → is_root q ≡ false
below-root [] lt = cc
below-root (n ∷ q) lt = refl

not_root : (q : Path) → is_root q ≡ false → q ≡ [] → ⊥
not_root q below is = let never : false ≡ true = sym below ∙ ap is_root is in cc

all-names : (q : Path) → list_all is_plain q ≡ true → list_all is_name q ≡ true
all-names [] h = refl
all-names (n ∷ q) h =
    let plain = and_parts (is_plain n) (list_all is_plain q) h in
    let name = and_parts (is_name n) (not (list_any (λ b. b == 47) n)) plain.0 in
    ap (λ b. b && list_all is_name q) name.0 ∙ all-names q plain.1

root_there : maps.get root_alone [] ≡ Some 0
root_there = get-inserted paths_total exact_paths maps.empty [] 0

-- one more entry makes more paths that lead to its object
count-less : (xs : List (Path × ℕ)) (e : Path × ℕ) (ys : List (Path × ℕ)) → count_to xs e.1 < count_to (xs ++ e ∷ ys) e.1
count-less [] e ys = let one = one_if-same e.1 in let more = cons-count e ys e.1 in omega (arith, one, more)
count-less (x ∷ xs) e ys =
    let old = cons-count x xs e.1 in
    let new = cons-count x (xs ++ e ∷ ys) e.1 in
    let rest = count-less xs e ys in
    omega (arith, old, new, rest)

abbrev with_tree : Volume → ℕ → Tree → Export
with_tree volume last t = record { volume = volume; tree = t; blocks = maps.empty; enrolled = maps.empty; last = last }

module _ (s : Export) (whole : IsWhole s) where
  abbrev t : Tree
  t = s.tree

  -- ---- the objects behind the root

  abbrev with_objects : FinMap nat_cmp Object → Export
  with_objects m = with_tree s.volume s.last (record { names = root_alone; objects = m; made = t.made })

  no_names : below_root root_alone ≡ []
  no_names = ap (drop 1) (entries-insert paths_total maps.empty [] 0 ∙ ap (maps.put path_cmp [] 0) (empty-entries paths_total))

  objects-next : (m : FinMap nat_cmp Object) (es : List (ℕ × Object)) → IsBegun nat_cmp_total t.objects m es → AllNext (with_objects m) (map object_part es)
  objects-next m [] is = tt
  objects-next m (e ∷ es) is =
      let there = next-in nat_cmp_total t.objects m e es is in
      let less = fewer nat_cmp_total t.objects m e es is in
      let few = whole.tree.few in (
        record {
          next = record {
            rising = next-behind nat_cmp_total t.objects m e es is;
            given = whole.tree.rules.drawn e.0 (ap is_some there);
            few = omega (arith, less, few);
            before_names = no_names;
            fits = whole.tree.fits e.0 e.1 there;
          };
          lies = whole.files e.0 e.1 there;
          before_blocks = record { no_blocks = refl; no_enrolments = refl };
        },
        objects-next (maps.insert m e.0 e.1) es (one-more nat_cmp_total t.objects m e es is),
      )

  objects-made : (m : FinMap nat_cmp Object) (es : List (ℕ × Object)) → IsBegun nat_cmp_total t.objects m es → with_parts (with_objects m) (map object_part es) ≡ with_objects t.objects
  objects-made m [] is = ap with_objects (all-there nat_cmp_total t.objects m is)
  objects-made m (e ∷ es) is = objects-made (maps.insert m e.0 e.1) es (one-more nat_cmp_total t.objects m e es is)

  -- ---- the names below the root

  abbrev with_names : FinMap path_cmp ℕ → Export
  with_names m = with_tree s.volume s.last (record { names = m; objects = t.objects; made = t.made })

  names-made : (m : FinMap path_cmp ℕ) (es : List (Path × ℕ)) → IsBegun paths_total t.names m es → with_parts (with_names m) (map name_part es) ≡ with_names t.names
  names-made m [] is = ap with_names (all-there paths_total t.names m is)
  names-made m (e ∷ es) is = names-made (maps.insert m e.0 e.1) es (one-more paths_total t.names m e es is)

  -- the tree with the names that came so far
  abbrev named : FinMap path_cmp ℕ → Tree
  named m = record { names = m; objects = t.objects; made = t.made }

  -- the path above the next one leads to a directory already
  under : (m : FinMap path_cmp ℕ) (e : Path × ℕ) (es : List (Path × ℕ)) → IsBegun paths_total t.names m (e ∷ es) → is_root e.0 ≡ false → is_at (named m) (above e.0) is_dir ≡ true
  under m e es is below =
      let there = next-in paths_total t.names m e es is in
      let last = split-above e.0 below in
      let d = dir-found t (above e.0) (whole.tree.rules.under (above e.0) last.0 (ap (λ p. is_some (maps.get t.names p)) (sym last.1) ∙ ap is_some there)) in
      let less : path_cmp (above e.0) e.0 ≡ Less = ap (path_cmp (above e.0)) last.1 ∙ prefix-less (above e.0) last.0 in
      dir-is (named m) (above e.0) (record {
        fid = d.fid;
        object = d.object;
        at = before-there paths_total t.names m e es is (above e.0) less ∙ d.at;
        is = d.is;
        dir = d.dir;
      })

  proper : (path : Path) (fid : ℕ) → maps.get t.names path ≡ Some fid → is_root path ≡ false → 1 ≤ fid
  proper path zero at below = absurd (not_root path below (whole.tree.root_alone path at))
  proper path (suc n) at below = omega arith

  leads : (m : FinMap path_cmp ℕ) (e : Path × ℕ) (es : List (Path × ℕ)) → IsBegun paths_total t.names m (e ∷ es) → MayBeNamed (named m) e.1
  leads m e es is =
      let there = next-in paths_total t.names m e es is in
      let object = held (maps.get t.objects e.1) (whole.tree.rules.leads e.0 e.1 there) in
      let most = whole.tree.few_names e.1 object.0 object.1 in
      let less : paths_to m e.1 < paths_to t.names e.1 = subst (λ l. paths_to m e.1 < count_to l e.1) is (count-less (maps.entries m) e es) in
      (object.0, object.1, omega (arith, most, less))

  next_name : (m : FinMap path_cmp ℕ) (e : Path × ℕ) (es : List (Path × ℕ)) → maps.get m [] ≡ Some 0 → IsBegun paths_total t.names m (e ∷ es) → MayBeNext (with_names m) (name_part e)
  next_name m e es rooted is =
      let there = next-in paths_total t.names m e es is in
      let rising = next-behind paths_total t.names m e es is in
      let below = below-root e.0 (behind-less paths_total m e.0 rising [] 0 rooted) in
      record {
        next = record {
          below = below;
          spelled = all-names e.0 (whole.tree.spelled e.0 e.1 there);
          rising = rising;
          under = under m e es is below;
          proper = proper e.0 e.1 there below;
          leads = leads m e es is;
        };
        before_blocks = record { no_blocks = refl; no_enrolments = refl };
      }

  names-next : (m : FinMap path_cmp ℕ) (es : List (Path × ℕ)) → maps.get m [] ≡ Some 0 → IsBegun paths_total t.names m es → AllNext (with_names m) (map name_part es)
  names-next m [] rooted is = tt
  names-next m (e ∷ es) rooted is =
      let less = behind-less paths_total m e.0 (next-behind paths_total t.names m e es is) [] 0 rooted in (
        next_name m e es rooted is,
        names-next (maps.insert m e.0 e.1) es (get-beside paths_total exact_paths m e.0 e.1 [] (ap is_eq less) ∙ rooted) (one-more paths_total t.names m e es is),
      )

  -- ---- the blocks

  abbrev with_blocks : Blocks → Export
  with_blocks m = record { volume = s.volume; tree = t; blocks = m; enrolled = maps.empty; last = s.last }

  -- what may be published of a block does not hang on other blocks
  public-too : (m : Blocks) (key : Key) (b : Block) → IfSome b.published (MayBePublished s key) → IfSome b.published (MayBePublished (with_blocks m) key)
  public-too m key b may = go b.published may
    where
      go : (o : Option Published) → IfSome o (MayBePublished s key) → IfSome o (MayBePublished (with_blocks m) key)
      go None may = tt
      go (Some p) may = record { drawn = may.drawn; mask = may.mask; fits = may.fits; within = may.within }

  blocks-next : (m : Blocks) (es : List (Key × Block)) → IsBegun keys_total s.blocks m es → AllNext (with_blocks m) (map block_part es)
  blocks-next m [] is = tt
  blocks-next m (e ∷ es) is =
      let own = whole.blocks e.0 e.1 (next-in keys_total s.blocks m e es is) in (
        record {
          rising = next-behind keys_total s.blocks m e es is;
          live = own.live;
          near = own.near;
          begun = own.begun;
          public = public-too m e.0 e.1 own.public;
          before_enrolments = refl;
        },
        blocks-next (maps.insert m e.0 e.1) es (one-more keys_total s.blocks m e es is),
      )

  blocks-made : (m : Blocks) (es : List (Key × Block)) → IsBegun keys_total s.blocks m es → with_parts (with_blocks m) (map block_part es) ≡ with_blocks s.blocks
  blocks-made m [] is = ap with_blocks (all-there keys_total s.blocks m is)
  blocks-made m (e ∷ es) is = blocks-made (maps.insert m e.0 e.1) es (one-more keys_total s.blocks m e es is)

  -- ---- the enrolments

  abbrev with_enrolled : FinMap nat_cmp Enrolled → Export
  with_enrolled m = record { volume = s.volume; tree = t; blocks = s.blocks; enrolled = m; last = s.last }

  enrolled-next : (m : FinMap nat_cmp Enrolled) (es : List (ℕ × Enrolled)) → IsBegun nat_cmp_total s.enrolled m es → AllNext (with_enrolled m) (map enrolled_part es)
  enrolled-next m [] is = tt
  enrolled-next m (e ∷ es) is =
      let own = whole.enrolments e.0 e.1 (next-in nat_cmp_total s.enrolled m e es is) in (
        record { rising = next-behind nat_cmp_total s.enrolled m e es is; known = own.known; drawn = own.drawn },
        enrolled-next (maps.insert m e.0 e.1) es (one-more nat_cmp_total s.enrolled m e es is),
      )

  enrolled-made : (m : FinMap nat_cmp Enrolled) (es : List (ℕ × Enrolled)) → IsBegun nat_cmp_total s.enrolled m es → with_parts (with_enrolled m) (map enrolled_part es) ≡ s
  enrolled-made m [] is = ap with_enrolled (all-there nat_cmp_total s.enrolled m is)
  enrolled-made m (e ∷ es) is = enrolled-made (maps.insert m e.0 e.1) es (one-more nat_cmp_total s.enrolled m e es is)

  -- ---- all of them

  abbrev root_first : Type 0
  root_first = (root : Object) × (maps.get t.objects 0 ≡ Some root) × (is_dir root.kind ≡ true)

  the_root : root_first
  the_root =
      let d = dir-found t [] whole.tree.rules.root in
      let zero : d.fid ≡ 0 = same_some d.fid 0 (sym d.at ∙ whole.tree.root) in
      (d.object, ap (maps.get t.objects) (sym zero) ∙ d.is, d.dir)

  abbrev root : Object
  root = the_root.0

  abbrev more_objects : List (ℕ × Object)
  more_objects = drop 1 (maps.entries t.objects)

  root_object : maps.entries t.objects ≡ (0, root) ∷ more_objects
  root_object = first-entry nat_cmp_total nat_cmp-IsAntisymmetric 0 (λ q lt. (let low : q < 0 = ranked q 0 Less (sym lt) in omega (arith, low))) t.objects root the_root.1

  root_name : maps.entries t.names ≡ ([], 0) ∷ below_root t.names
  root_name = first-entry paths_total exact_paths [] no_less t.names 0 whole.tree.root

  abbrev root_given : FinMap nat_cmp Object
  root_given = maps.insert empty_tree.objects 0 root

  objects_begun : IsBegun nat_cmp_total t.objects root_given more_objects
  objects_begun =
      ap (λ es. es ++ more_objects) (entries-insert nat_cmp_total empty_tree.objects 0 root
      ∙ ap (maps.put nat_cmp 0 root) (entries-insert nat_cmp_total maps.empty 0 new_dir ∙ ap (maps.put nat_cmp 0 new_dir) (empty-entries nat_cmp_total)))
      ∙ sym root_object

  names_begun : IsBegun paths_total t.names root_alone (below_root t.names)
  names_begun =
      ap (λ es. es ++ below_root t.names) (entries-insert paths_total maps.empty [] 0 ∙ ap (maps.put path_cmp [] 0) (empty-entries paths_total))
      ∙ sym root_name

  abbrev objects : List Part
  objects = map object_part more_objects

  abbrev names : List Part
  names = map name_part (below_root t.names)

  abbrev blocks : List Part
  blocks = map block_part (maps.entries s.blocks)

  abbrev enrolments : List Part
  enrolments = map enrolled_part (maps.entries s.enrolled)

  parts_are : export_parts s ≡ counters s ∷ object_part (0, root) ∷ ((objects ++ names) ++ (blocks ++ enrolments))
  parts_are = ap (λ es. counters s ∷ ((map object_part es ++ names) ++ (blocks ++ enrolments))) root_object

  tree_made : with_parts (with_objects root_given) (objects ++ names) ≡ with_blocks maps.empty
  tree_made =
      with-both (with_objects root_given) objects names
      ∙ ap (λ x. with_parts x names) (objects-made root_given more_objects objects_begun)
      ∙ names-made root_alone (below_root t.names) names_begun

  blocks_made : with_parts (with_blocks maps.empty) blocks ≡ with_enrolled maps.empty
  blocks_made = blocks-made maps.empty (maps.entries s.blocks) (none-yet keys_total s.blocks)

  all_made : with_parts (with_objects root_given) ((objects ++ names) ++ (blocks ++ enrolments)) ≡ s
  all_made =
      with-both (with_objects root_given) (objects ++ names) (blocks ++ enrolments)
      ∙ ap (λ x. with_parts x (blocks ++ enrolments)) tree_made
      ∙ with-both (with_blocks maps.empty) blocks enrolments
      ∙ ap (λ x. with_parts x enrolments) blocks_made
      ∙ enrolled-made maps.empty (maps.entries s.enrolled) (none-yet nat_cmp_total s.enrolled)

  pub made-again : made_of s.volume (export_parts s) ≡ s
  made-again = ap (made_of s.volume) parts_are ∙ all_made

  tree_next : AllNext (with_objects root_given) (objects ++ names)
  tree_next =
      next-both (with_objects root_given) objects names (objects-next root_given more_objects objects_begun)
      (subst (λ x. AllNext x names) (sym (objects-made root_given more_objects objects_begun)) (names-next root_alone (below_root t.names) root_there names_begun))

  flat_next : AllNext (with_blocks maps.empty) (blocks ++ enrolments)
  flat_next =
      next-both (with_blocks maps.empty) blocks enrolments (blocks-next maps.empty (maps.entries s.blocks) (none-yet keys_total s.blocks))
      (subst (λ x. AllNext x enrolments) (sym blocks_made) (enrolled-next maps.empty (maps.entries s.enrolled) (none-yet nat_cmp_total s.enrolled)))

  all_next : AllNext (with_objects root_given) ((objects ++ names) ++ (blocks ++ enrolments))
  all_next = next-both (with_objects root_given) (objects ++ names) (blocks ++ enrolments) tree_next (subst (λ x. AllNext x (blocks ++ enrolments)) (sym tree_made) flat_next)

  root_part : IsRootPart (object_part (0, root))
  root_part = record { number = refl; kind = the_root.2; fits = whole.tree.fits 0 root the_root.1 }

  each_follows : AllFollow s.volume [] (counters s ∷ object_part (0, root) ∷ ((objects ++ names) ++ (blocks ++ enrolments)))
  each_follows = (tt, (root_part, all-follow s.volume (counters s) (object_part (0, root)) [] ((objects ++ names) ++ (blocks ++ enrolments)) all_next))

  pub are-parts : ArePartsOf s.volume (export_parts s)
  are-parts = record {
    each = subst (AllFollow s.volume []) (sym parts_are) each_follows;
    rooted = subst (λ ps. 2 ≤ length ps) (sym parts_are) (omega arith);
    named = subst (λ (x : Export). AreNamed x.tree) (sym made-again) whole.tree.named;
  }

pub parts-make-it : (s : Export) → PartsMakeIt s
parts-make-it s whole = record { parts = are-parts s whole; again = made-again s whole }
