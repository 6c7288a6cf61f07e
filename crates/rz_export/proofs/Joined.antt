-- Parts one after another, and the export that they make.
use Rattle.std.proofs.Common.{◌≡◌, ℕ, ◌+◌, ◌<◌, ◌≤◌, Bool, true, false, cond, List, [], ◌∷◌, ◌++◌, drop, get_or, length, map, Some, is_some, eqb-true, eq-eqb, sym, ap, ◌∙◌, subst, refl, arith, inl, inr, append_assoc}
use Rattle.std.proofs.lemmas.List.{map-append, append-nil, drop_more}
use Rattle.std.specs.Prelude.{◌==◌}
use Rattle.std.specs.declared.cmp.Ordering.{Ordering}
use Rattle.std.specs.Ordering.{nat_cmp, eq_by_cmp}
use Rattle.std.specs.Cmp.{nat_cmp_total}
use Rattle.std.specs.FinMap as maps
use Rattle.std.specs.FinMap.{FinMap, get-insert, entries-insert, len-empty, len-entries}
use Rattle.std.specs.FinMap.Entries.{put}
use Rattle.rz_events.specs.Volume.{Volume}
use Rattle.rz_events.specs.Keys.{keys_total}
use Rattle.rz_events.specs.declared.files.Kind.{Kind}
use Rattle.rz_events.specs.declared.files.Kind.TheVariants.{Dir}
use Rattle.rz_export_model.specs.Paths.{path_cmp, paths_total}
use Rattle.rz_export_model.specs.Tree.{Object, empty_tree, new_dir, paths_to}
use Rattle.rz_export_model.specs.Export.{Export, Block, Enrolled, new_export}
use Rattle.rz_names.specs.Names.{below_root}
use Rattle.rz_tree.specs.declared.parts.Part.{Part}
use Rattle.rz_tree.specs.declared.parts.Part.TheVariants as part
use Rattle.rz_tree.specs.Parts.{object_part, name_part, tree_parts}
use Rattle.rz_tree.specs.Added.{IsRoot}
use Rattle.rz_tree.proofs.Counts.{some-path}
use Rattle.rz_tree.proofs.Lasts.{entries-last}
use Rattle.rz_tree.proofs.PartLaws.{object-added, name-added}
use Rattle.rz_export.specs.Parts.{counters, block_part, enrolled_part, flat_parts, export_parts}
use Rattle.rz_export.proofs.Built.{root-only}
use Rattle.rz_export_model.proofs.Files.{apart}
use Rattle.rz_export.specs.Building.{with_part, with_parts, made_of, IsBlockless, MayBeNext, AllFollow, ArePartsOf, MayAdd, AllAdd}

-- a part more is added last
pub made-more : (s : Export) (ps : List Part) (p : Part) → with_parts s (ps ++ p ∷ []) ≡ with_part (with_parts s ps) p
made-more s [] p = refl
made-more s (q ∷ ps) p = made-more (with_part s q) ps p

-- ---- parts that keep the rules may be added one after another

next-add : (s : Export) (p : Part) → MayBeNext s p → MayAdd s p
next-add s (part.Counters last made) may = absurd may
next-add s (part.Object fid kind mode mtime size cid places target) may = (inr may.next, may.before_blocks.no_blocks)
next-add s (part.Name path fid) may = (may.next, may.before_blocks.no_blocks)
next-add s (part.Block key latest published) may = may
next-add s (part.Enrolled node loss fence) may = may

rest-add : (volume : Volume) (c r : Part) (before rest : List Part) → AllFollow volume (c ∷ r ∷ before) rest → AllAdd (made_of volume (c ∷ r ∷ before)) rest
rest-add volume c r before [] all = tt
rest-add volume c r before (p ∷ rest) all = (
  next-add (made_of volume (c ∷ r ∷ before)) p all.0,
  subst (λ s. AllAdd s rest) (made-more (new_export volume 0) (c ∷ r ∷ before) p) (rest-add volume c r (before ++ p ∷ []) rest all.1),
)

root-add : (volume : Volume) (last made : ℕ) (parts : List Part) → AllFollow volume (part.Counters last made ∷ []) parts
    → AllAdd (made_of volume (part.Counters last made ∷ [])) parts
root-add volume last made [] all = tt
root-add volume last made (part.Counters l m ∷ rest) all = absurd all.0
root-add volume last made (part.Object fid kind mode mtime size cid places target ∷ rest) all =
    ((inl (refl, all.0), refl), rest-add volume (part.Counters last made) (part.Object fid kind mode mtime size cid places target) [] rest all.1)
root-add volume last made (part.Name path fid ∷ rest) all = absurd all.0
root-add volume last made (part.Block key latest published ∷ rest) all = absurd all.0
root-add volume last made (part.Enrolled node loss fence ∷ rest) all = absurd all.0

pub all-add : (volume : Volume) (parts : List Part) → AllFollow volume [] parts → AllAdd (new_export volume 0) parts
all-add volume [] all = tt
all-add volume (part.Counters last made ∷ rest) all = (refl, root-add volume last made rest all.1)
all-add volume (part.Object fid kind mode mtime size cid places target ∷ rest) all = absurd all.0
all-add volume (part.Name path fid ∷ rest) all = absurd all.0
all-add volume (part.Block key latest published ∷ rest) all = absurd all.0
all-add volume (part.Enrolled node loss fence ∷ rest) all = absurd all.0

-- ---- the parts of an export to which a part is added

no_items : {X : Type 0} (xs : List X) → length xs ≡ 0 → xs ≡ []
no_items [] h = refl
no_items (x ∷ xs) h = absurd (omega arith)

pub no-entries : {K X : Type 0} {R : K → K → Ordering} (m : FinMap R X) → m ≡ maps.empty → maps.entries m ≡ []
no-entries {X = X} {R = R} m none = no_items (maps.entries m) (sym (len-entries m) ∙ ap maps.len none ∙ len-empty R X)

no-flat : (s : Export) → IsBlockless s → flat_parts s ≡ []
no-flat s none =
    ap (λ bs. map block_part bs ++ map enrolled_part (maps.entries s.enrolled)) (no-entries s.blocks none.no_blocks)
    ∙ ap (map enrolled_part) (no-entries s.enrolled none.no_enrolments)

behind_tree : (c x : Part) (tree flat : List Part) → flat ≡ [] → c ∷ ((tree ++ x ∷ []) ++ flat) ≡ (c ∷ (tree ++ flat)) ++ x ∷ []
behind_tree c x tree flat none =
    ap (λ f. c ∷ ((tree ++ x ∷ []) ++ f)) none ∙ ap (λ l. c ∷ l) (append-nil (tree ++ x ∷ []))
    ∙ ap (λ l. c ∷ (l ++ x ∷ [])) (sym (append-nil tree)) ∙ ap (λ f. c ∷ ((tree ++ f) ++ x ∷ [])) (sym none)

behind_all : (c x : Part) (tree flat : List Part) → c ∷ (tree ++ (flat ++ x ∷ [])) ≡ (c ∷ (tree ++ flat)) ++ x ∷ []
behind_all c x tree flat = ap (λ l. c ∷ l) (sym (append_assoc tree flat (x ∷ [])))

flat_block : (x : Part) (blocks enrolled : List Part) → enrolled ≡ [] → (blocks ++ x ∷ []) ++ enrolled ≡ (blocks ++ enrolled) ++ x ∷ []
flat_block x blocks enrolled none =
    ap (λ l. (blocks ++ x ∷ []) ++ l) none ∙ append-nil (blocks ++ x ∷ []) ∙ ap (λ l. l ++ x ∷ []) (sym (append-nil blocks))
    ∙ ap (λ l. (blocks ++ l) ++ x ∷ []) (sym none)

-- it is the last part
pub next-last : (s : Export) (p : Part) → MayBeNext s p → export_parts (with_part s p) ≡ export_parts s ++ p ∷ []
next-last s (part.Counters last made) may = absurd may
next-last s (part.Object fid kind mode mtime size cid places target) may =
    let o : Object = record { kind = kind; mode = mode; mtime = mtime; target = target; size = size; cid = cid; places = places } in
    ap (λ l. counters s ∷ (l ++ flat_parts s)) (object-added s.tree fid o may.next.rising may.next.before_names)
    ∙ behind_tree (counters s) (object_part (fid, o)) (tree_parts s.tree) (flat_parts s) (no-flat s may.before_blocks)
next-last s (part.Name path fid) may =
    ap (λ l. counters s ∷ (l ++ flat_parts s)) (name-added s.tree path fid may.next.rising may.next.under)
    ∙ behind_tree (counters s) (name_part (path, fid)) (tree_parts s.tree) (flat_parts s) (no-flat s may.before_blocks)
next-last s (part.Block key latest published) may =
    let b : Block = record { latest = latest; published = published } in
    let x : Part = block_part (key, b) in
    let more : map block_part (maps.entries (maps.insert s.blocks key b)) ≡ map block_part (maps.entries s.blocks) ++ x ∷ [] =
    ap (map block_part) (entries-last keys_total s.blocks key may.rising b) ∙ map-append block_part (maps.entries s.blocks) ((key, b) ∷ []) in
    ap (λ l. counters s ∷ (tree_parts s.tree ++ (l ++ map enrolled_part (maps.entries s.enrolled)))) more
    ∙ ap (λ l. counters s ∷ (tree_parts s.tree ++ l)) (flat_block x (map block_part (maps.entries s.blocks)) (map enrolled_part (maps.entries s.enrolled)) (ap (map enrolled_part) (no-entries s.enrolled may.before_enrolments)))
    ∙ behind_all (counters s) x (tree_parts s.tree) (flat_parts s)
next-last s (part.Enrolled node loss fence) may =
    let e : Enrolled = record { loss = loss; fence = fence } in
    let x : Part = enrolled_part (node, e) in
    let more : map enrolled_part (maps.entries (maps.insert s.enrolled node e)) ≡ map enrolled_part (maps.entries s.enrolled) ++ x ∷ [] =
    ap (map enrolled_part) (entries-last nat_cmp_total s.enrolled node may.rising e) ∙ map-append enrolled_part (maps.entries s.enrolled) ((node, e) ∷ []) in
    ap (λ l. counters s ∷ (tree_parts s.tree ++ (map block_part (maps.entries s.blocks) ++ l))) more
    ∙ ap (λ l. counters s ∷ (tree_parts s.tree ++ l)) (sym (append_assoc (map block_part (maps.entries s.blocks)) (map enrolled_part (maps.entries s.enrolled)) (x ∷ [])))
    ∙ behind_all (counters s) x (tree_parts s.tree) (flat_parts s)

-- ---- the parts of an export that is made of parts

-- at first there are the counters and the root
two-parts : (volume : Volume) (last made : ℕ) (kind : Kind) (mode mtime size cid : ℕ) (places target : List ℕ)
    → export_parts (made_of volume (part.Counters last made ∷ part.Object 0 kind mode mtime size cid places target ∷ []))
    ≡ part.Counters last made ∷ part.Object 0 kind mode mtime size cid places target ∷ []
two-parts volume last made kind mode mtime size cid places target =
    let o : Object = record { kind = kind; mode = mode; mtime = mtime; target = target; size = size; cid = cid; places = places } in
    let s : Export = made_of volume (part.Counters last made ∷ part.Object 0 kind mode mtime size cid places target ∷ []) in
    let one : maps.entries empty_tree.objects ≡ (0, new_dir) ∷ [] = entries-insert nat_cmp_total maps.empty 0 new_dir ∙ ap (put nat_cmp 0 new_dir) (no-entries maps.empty refl) in
    let objects : maps.entries s.tree.objects ≡ (0, o) ∷ [] = entries-insert nat_cmp_total empty_tree.objects 0 o ∙ ap (put nat_cmp 0 o) one in
    let names : below_root s.tree.names ≡ [] = ap (drop 1) (entries-insert paths_total maps.empty [] 0 ∙ ap (put path_cmp [] 0) (no-entries maps.empty refl)) in
    let flat : flat_parts s ≡ [] = no-flat s (record { no_blocks = refl; no_enrolments = refl }) in
    ap (λ l. part.Counters last made ∷ ((map object_part l ++ map name_part (below_root s.tree.names)) ++ flat_parts s)) objects
    ∙ ap (λ l. part.Counters last made ∷ ((object_part (0, o) ∷ map name_part l) ++ flat_parts s)) names
    ∙ ap (λ l. part.Counters last made ∷ object_part (0, o) ∷ l) flat

rest-parts : (volume : Volume) (c r : Part) (before rest : List Part) → export_parts (made_of volume (c ∷ r ∷ before)) ≡ c ∷ r ∷ before → AllFollow volume (c ∷ r ∷ before) rest
    → export_parts (made_of volume (c ∷ r ∷ (before ++ rest))) ≡ c ∷ r ∷ (before ++ rest)
rest-parts volume c r before [] so all =
    ap (λ l. export_parts (made_of volume (c ∷ r ∷ l))) (append-nil before) ∙ so ∙ ap (λ l. c ∷ r ∷ l) (sym (append-nil before))
rest-parts volume c r before (p ∷ rest) so all =
    let more : export_parts (made_of volume (c ∷ r ∷ (before ++ p ∷ []))) ≡ c ∷ r ∷ (before ++ p ∷ []) =
    ap export_parts (made-more (new_export volume 0) (c ∷ r ∷ before) p) ∙ next-last (made_of volume (c ∷ r ∷ before)) p all.0 ∙ ap (λ l. l ++ p ∷ []) so in
    let regroup : (before ++ p ∷ []) ++ rest ≡ before ++ p ∷ rest = append_assoc before (p ∷ []) rest in
    ap (λ l. export_parts (made_of volume (c ∷ r ∷ l))) (sym regroup)
    ∙ rest-parts volume c r (before ++ p ∷ []) rest more all.1
    ∙ ap (λ l. c ∷ r ∷ l) regroup

root-parts : (volume : Volume) (last made : ℕ) (parts : List Part) → 2 ≤ length (part.Counters last made ∷ parts) → AllFollow volume (part.Counters last made ∷ []) parts
    → export_parts (made_of volume (part.Counters last made ∷ parts)) ≡ part.Counters last made ∷ parts
root-parts volume last made [] two all = absurd (omega arith)
root-parts volume last made (part.Counters l m ∷ rest) two all = absurd all.0
root-parts volume last made (part.Object fid kind mode mtime size cid places target ∷ rest) two all =
    let root : IsRoot fid (record { kind = kind; mode = mode; mtime = mtime; target = target; size = size; cid = cid; places = places }) = all.0 in
    rest-parts volume (part.Counters last made) (part.Object fid kind mode mtime size cid places target) [] rest
    (subst (λ n. export_parts (made_of volume (part.Counters last made ∷ part.Object n kind mode mtime size cid places target ∷ [])) ≡ part.Counters last made ∷ part.Object n kind mode mtime size cid places target ∷ [])
    (sym root.number) (two-parts volume last made kind mode mtime size cid places target))
    all.1
root-parts volume last made (part.Name path fid ∷ rest) two all = absurd all.0
root-parts volume last made (part.Block key latest published ∷ rest) two all = absurd all.0
root-parts volume last made (part.Enrolled node loss fence ∷ rest) two all = absurd all.0

-- the parts that make an export are its parts
pub made-parts : (volume : Volume) (parts : List Part) → ArePartsOf volume parts → export_parts (made_of volume parts) ≡ parts
made-parts volume [] are = (let two = are.rooted in absurd (omega (arith, two)))
made-parts volume (part.Counters last made ∷ rest) are = root-parts volume last made rest are.rooted are.each.1
made-parts volume (part.Object fid kind mode mtime size cid places target ∷ rest) are = absurd are.each.0
made-parts volume (part.Name path fid ∷ rest) are = absurd are.each.0
made-parts volume (part.Block key latest published ∷ rest) are = absurd are.each.0
made-parts volume (part.Enrolled node loss fence ∷ rest) are = absurd are.each.0

-- ---- the parts that are left

pub rest-at : (ps : List Part) (i : ℕ) (p : Part) → i < length ps → p ≡ get_or ps i p → drop i ps ≡ p ∷ drop (i + 1) ps
rest-at ps i p low is = drop_more ps i p low ∙ ap (λ x. x ∷ drop (i + 1) ps) (sym is)

-- ---- the least list of parts

only_root : (o : Object) (fid : ℕ) → is_some (maps.get (maps.insert empty_tree.objects 0 o) fid) ≡ true → fid ≡ 0
only_root o fid there = go (fid == 0) refl
  where
    go : (b : Bool) → (fid == 0) ≡ b → fid ≡ 0
    go true is = eqb-true fid 0 is
    go false is =
        let other : eq_by_cmp nat_cmp fid 0 ≡ false = apart fid 0 (λ same. (let yes : (fid == 0) ≡ true = eq-eqb fid 0 same in let never : true ≡ false = sym yes ∙ is in cc)) in
        let low : maps.get (maps.insert empty_tree.objects 0 o) fid ≡ maps.get empty_tree.objects fid =
        get-insert nat_cmp_total empty_tree.objects 0 o fid ∙ ap (λ b. cond b (Some o) (maps.get empty_tree.objects fid)) other in
        let made : fid ≤ 0 = root-only 0 fid (sym (ap is_some low) ∙ there) in
        omega (arith, made)

one_name : 1 ≤ paths_to empty_tree.names 0
one_name = some-path empty_tree.names [] 0 (get-insert paths_total maps.empty [] 0 [])

-- the counters and the root alone are the parts of an export
pub two-are : (volume : Volume) (last made mode mtime : ℕ) → ArePartsOf volume (part.Counters last made ∷ part.Object 0 Dir mode mtime 0 0 [] [] ∷ [])
two-are volume last made mode mtime = record {
  each = (tt, (record { number = refl; kind = refl; fits = record { empty = refl; no_target = refl; nowhere = record { no_cluster = refl; no_places = refl } } }, tt));
  rooted = omega arith;
  named = λ fid there. subst (λ n. 1 ≤ paths_to empty_tree.names n) (sym (only_root (record { kind = Dir; mode = mode; mtime = mtime; target = []; size = 0; cid = 0; places = [] }) fid there)) one_name;
}
