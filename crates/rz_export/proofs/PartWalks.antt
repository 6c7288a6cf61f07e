-- A walk over the parts of an export: what stands behind each.
use Rattle.std.proofs.Common.{◌≡◌, ℕ, zero, suc, ◌-◌, Bool, true, false, T, List, [], ◌∷◌, ◌++◌, map, drop, Option, Some, None, Ordering, sym, ap, ◌∙◌, refl, arith, eq-eqb, slice_get}
use Rattle.std.proofs.lemmas.Option.{slice_get-map}
use Rattle.std.specs.Prelude.{◌==◌}
use Rattle.std.specs.List as lists
use Rattle.std.specs.Option.{option_map, option_or}
use Rattle.std.specs.Ordering.{nat_cmp, is_lt}
use Rattle.std.specs.Cmp.{IsTotalOrder, nat_cmp_total}
use Rattle.std.specs.FinMap as maps
use Rattle.std.specs.FinMap.{entries_sorted}
use Rattle.std.specs.FinMap.Entries.{is_sorted}
use Rattle.rz_events.specs.Keys.{keys_total}
use Rattle.rz_events.specs.declared.files.Kind.{Kind}
use Rattle.rz_events.specs.declared.files.Published.{Published}
use Rattle.rz_events.specs.declared.keys.Key.{Key}
use Rattle.rz_export_model.specs.Paths.{Path, path_cmp, paths_total}
use Rattle.rz_export_model.specs.Export.{Export, is_after}
use Rattle.rz_names.specs.Names.{below_root}
use Rattle.rz_tree.specs.declared.parts.Part.{Part}
use Rattle.rz_tree.specs.declared.parts.Part.TheVariants as part
use Rattle.rz_tree.specs.Parts.{object_part, name_part, tree_parts, after_object, after_name}
use Rattle.rz_tree.proofs.Walks.{lt-same, next-past}
use Rattle.rz_export.specs.Parts.{counters, block_part, enrolled_part, flat_parts, export_parts, is_past, first_past, IsBefore, or_flat, after_block, after_enrolled}

same_some : {A : Type 0} (x y : A) → Some x ≡ Some y → x ≡ y
same_some x y h = cc

not_none : {A : Type 0} (x : A) → None ≡ Some x → ⊥
not_none x h = cc

-- ---- lists one behind another

-- the part stands nowhere in the list
abbrev Lacks : Part → List Part → Type 0
Lacks p xs = (n : ℕ) → slice_get xs n ≡ Some p → ⊥

-- wherever the part stands in the list, the next one stands behind it
abbrev Goes : Part → Option Part → List Part → Type 0
Goes p next xs = (n : ℕ) → slice_get xs n ≡ Some p → next ≡ slice_get xs (suc n)

same-next : (p : Part) (a b : Option Part) (xs : List Part) → a ≡ b → Goes p b xs → Goes p a xs
same-next p a b xs same goes n at = same ∙ goes n at

first-joined : (xs ys : List Part) → option_or (slice_get xs 0) (slice_get ys 0) ≡ slice_get (xs ++ ys) 0
first-joined [] ys = refl
first-joined (x ∷ xs) ys = refl

lacks-both : (p : Part) (xs ys : List Part) → Lacks p xs → Lacks p ys → Lacks p (xs ++ ys)
lacks-both p [] ys a b n at = b n at
lacks-both p (x ∷ xs) ys a b zero at = a zero at
lacks-both p (x ∷ xs) ys a b (suc n) at = lacks-both p xs ys (λ m. a (suc m)) b n at

goes-left : (p : Part) (next : Option Part) (xs ys : List Part) → Goes p next xs → Lacks p ys → Goes p (option_or next (slice_get ys 0)) (xs ++ ys)
goes-left p next [] ys goes lacks n at = absurd (lacks n at)
goes-left p next (x ∷ xs) ys goes lacks zero at = ap (λ o. option_or o (slice_get ys 0)) (goes zero at) ∙ first-joined xs ys
goes-left p next (x ∷ xs) ys goes lacks (suc n) at = goes-left p next xs ys (λ m. goes (suc m)) lacks n at

goes-right : (p : Part) (next : Option Part) (xs ys : List Part) → Lacks p xs → Goes p next ys → Goes p next (xs ++ ys)
goes-right p next [] ys lacks goes n at = goes n at
goes-right p next (x ∷ xs) ys lacks goes zero at = absurd (lacks zero at)
goes-right p next (x ∷ xs) ys lacks goes (suc n) at = goes-right p next xs ys (λ m. lacks (suc m)) goes n at

goes-alone : (p x : Part) → Goes p None (x ∷ [])
goes-alone p x zero at = refl
goes-alone p x (suc n) at = absurd (not_none p at)

-- ---- parts of one kind

abbrev kind_of : Part → ℕ
kind_of (part.Counters last made) = 0
kind_of (part.Object fid kind mode mtime size cid places target) = 1
kind_of (part.Name path fid) = 2
kind_of (part.Block key latest published) = 3
kind_of (part.Enrolled node loss fence) = 4

other-kind : (p q : Part) → (kind_of q == kind_of p) ≡ false → q ≡ p → ⊥
other-kind p q other same = let never : true ≡ false = sym (eq-eqb (kind_of q) (kind_of p) (ap kind_of same)) ∙ other in cc

lacks-kind : {E : Type 0} (f : E → Part) (p : Part) → ((e : E) → (kind_of (f e) == kind_of p) ≡ false) → (es : List E) → Lacks p (map f es)
lacks-kind f p other [] n at = not_none p at
lacks-kind f p other (e ∷ es) zero at = other-kind p (f e) (other e) (same_some (f e) p at)
lacks-kind f p other (e ∷ es) (suc n) at = lacks-kind f p other es n at

lacks-one : (p x : Part) → (kind_of x == kind_of p) ≡ false → Lacks p (x ∷ [])
lacks-one p x other zero at = other-kind p x other (same_some x p at)
lacks-one p x other (suc n) at = not_none p at

-- the entry of which a part is made
entry-of : {E : Type 0} (f : E → Part) (p : Part) (es : List E) (n : ℕ) → slice_get (map f es) n ≡ Some p → (e : E) × (slice_get es n ≡ Some e) × (f e ≡ p)
entry-of f p [] n at = absurd (not_none p at)
entry-of f p (e ∷ es) zero at = (e, refl, same_some (f e) p at)
entry-of f p (e ∷ es) (suc n) at = entry-of f p es n at

first-made : {E : Type 0} (f : E → Part) (es : List E) → option_map f (lists.find (λ e. true) es) ≡ slice_get (map f es) 0
first-made f [] = refl
first-made f (e ∷ es) = refl

module _ {K X : Type 0} {R : K → K → Ordering} (o : IsTotalOrder R) (f : K × X → Part) (p : Part) (past : K → Bool)
    (is : (e : K × X) → f e ≡ p → (q : K) → past q ≡ is_lt (R e.0 q)) where
  -- behind the part of an entry stands that of the first entry past it
  goes-past : (es : List (K × X)) → T (is_sorted R es) → Goes p (option_map f (lists.find (λ e. past e.0) es)) (map f es)
  goes-past es sorted n at =
      let e = entry-of f p es n at in
      ap (option_map f) (next-past o past e.0 (is e.0 e.2) es n sorted e.1) ∙ sym (slice_get-map f es (suc n))

  drop-one : (es : List (K × X)) (n : ℕ) → slice_get (drop 1 es) n ≡ slice_get es (suc n)
  drop-one [] n = refl
  drop-one (e ∷ es) n = refl

  -- the same, but for the first entry
  goes-past-first : (es : List (K × X)) → T (is_sorted R es) → Goes p (option_map f (lists.find (λ e. past e.0) es)) (map f (drop 1 es))
  goes-past-first es sorted n at =
      let e = entry-of f p (drop 1 es) n at in
      ap (option_map f) (next-past o past e.0 (is e.0 e.2) es (suc n) sorted (sym (drop-one es n) ∙ e.1) ∙ sym (drop-one es (suc n)))
      ∙ sym (slice_get-map f (drop 1 es) (suc n))

-- ---- the keys of parts

abbrev number_of : Part → ℕ
number_of (part.Counters last made) = 0
number_of (part.Object fid kind mode mtime size cid places target) = fid
number_of (part.Name path fid) = fid
number_of (part.Block key latest published) = latest
number_of (part.Enrolled node loss fence) = node

abbrev path_in : Part → Path
path_in (part.Counters last made) = []
path_in (part.Object fid kind mode mtime size cid places target) = []
path_in (part.Name path fid) = path
path_in (part.Block key latest published) = []
path_in (part.Enrolled node loss fence) = []

abbrev key_in : Part → Key
key_in (part.Counters last made) = record { fid = 0; block = 0 }
key_in (part.Object fid kind mode mtime size cid places target) = record { fid = 0; block = 0 }
key_in (part.Name path fid) = record { fid = 0; block = 0 }
key_in (part.Block key latest published) = key
key_in (part.Enrolled node loss fence) = record { fid = 0; block = 0 }

-- ---- the next part

-- what stands behind a part stands at the place of which it is the part before
at-place : (p : Part) (next : Option Part) (parts : List Part) → Goes p next parts → (i : ℕ) → IsBefore (Some p) parts i → next ≡ slice_get parts i
at-place p next parts goes i before =
    let place : suc (i - 1) ≡ i = omega (arith, before.0) in
    goes (i - 1) before.1 ∙ ap (slice_get parts) place

module _ (s : Export) where
  abbrev objects : List Part
  objects = map object_part (maps.entries s.tree.objects)

  abbrev names : List Part
  names = map name_part (below_root s.tree.names)

  abbrev blocks : List Part
  blocks = map block_part (maps.entries s.blocks)

  abbrev enrolled : List Part
  enrolled = map enrolled_part (maps.entries s.enrolled)

  first-flat : after_block s None ≡ slice_get (flat_parts s) 0
  first-flat =
      ap (λ o. option_or o (after_enrolled s None)) (first-made block_part (maps.entries s.blocks))
      ∙ ap (option_or (slice_get blocks 0)) (first-made enrolled_part (maps.entries s.enrolled)) ∙ first-joined blocks enrolled

  first-name : option_map name_part (slice_get (below_root s.tree.names) 0) ≡ slice_get names 0
  first-name = sym (slice_get-map name_part (below_root s.tree.names) 0)

  first-of-tree : after_object s.tree None ≡ slice_get (tree_parts s.tree) 0
  first-of-tree =
      ap (λ o. option_or o (option_map name_part (slice_get (below_root s.tree.names) 0))) (first-made object_part (maps.entries s.tree.objects))
      ∙ ap (option_or (slice_get objects 0)) first-name ∙ first-joined objects names

  -- what stands behind a part of the tree, with the flat parts behind it
  goes-tree : (p : Part) (next : Option Part) → Lacks p (counters s ∷ []) → Goes p next (tree_parts s.tree) → Lacks p blocks → Lacks p enrolled → Goes p (or_flat s next) (export_parts s)
  goes-tree p next none goes no_block no_enrolment =
      same-next p (or_flat s next) (option_or next (slice_get (flat_parts s) 0)) (export_parts s) (ap (option_or next) first-flat)
      (goes-right p _ (counters s ∷ []) (tree_parts s.tree ++ flat_parts s) none
      (goes-left p next (tree_parts s.tree) (flat_parts s) goes (lacks-both p blocks enrolled no_block no_enrolment)))

  goes-flat : (p : Part) (next : Option Part) → Lacks p (counters s ∷ []) → Lacks p objects → Lacks p names → Goes p next (flat_parts s) → Goes p next (export_parts s)
  goes-flat p next none no_object no_name goes =
      goes-right p next (counters s ∷ []) (tree_parts s.tree ++ flat_parts s) none
      (goes-right p next (tree_parts s.tree) (flat_parts s) (lacks-both p objects names no_object no_name) goes)

  pub first-place : (i : ℕ) → i ≡ 0 → Some (counters s) ≡ slice_get (export_parts s) i
  first-place i none = sym (ap (slice_get (export_parts s)) none)

  pub after-counters : (last made i : ℕ) → IsBefore (Some (part.Counters last made)) (export_parts s) i → or_flat s (after_object s.tree None) ≡ slice_get (export_parts s) i
  after-counters last made =
      let p : Part = part.Counters last made in
      let rest : List Part = tree_parts s.tree ++ flat_parts s in
      let first : or_flat s (after_object s.tree None) ≡ slice_get rest 0 =
      ap (option_or (after_object s.tree None)) first-flat ∙ ap (λ o. option_or o (slice_get (flat_parts s) 0)) first-of-tree ∙ first-joined (tree_parts s.tree) (flat_parts s) in
      at-place p _ (export_parts s) (same-next p (or_flat s (after_object s.tree None)) (slice_get rest 0) (export_parts s) first
      (goes-left p None (counters s ∷ []) rest (goes-alone p (counters s))
      (lacks-both p (tree_parts s.tree) (flat_parts s)
      (lacks-both p objects names (lacks-kind object_part p (λ e. refl) (maps.entries s.tree.objects)) (lacks-kind name_part p (λ e. refl) (below_root s.tree.names)))
      (lacks-both p blocks enrolled (lacks-kind block_part p (λ e. refl) (maps.entries s.blocks)) (lacks-kind enrolled_part p (λ e. refl) (maps.entries s.enrolled))))))

  pub after-object : (fid : ℕ) (kind : Kind) (mode mtime size cid : ℕ) (places target : List ℕ) (i : ℕ) → IsBefore (Some (part.Object fid kind mode mtime size cid places target)) (export_parts s) i
      → or_flat s (after_object s.tree (Some fid)) ≡ slice_get (export_parts s) i
  after-object fid kind mode mtime size cid places target =
      let p : Part = part.Object fid kind mode mtime size cid places target in
      let es = maps.entries s.tree.objects in
      let next : Option Part = option_map object_part (first_past (Some fid) es) in
      let goes = goes-left p next objects names
      (goes-past nat_cmp_total object_part p (is_past (Some fid)) (λ e made q. lt-same fid q ∙ ap (λ (n : ℕ). is_lt (nat_cmp n q)) (sym (ap number_of made))) es (entries_sorted s.tree.objects))
      (lacks-kind name_part p (λ e. refl) (below_root s.tree.names)) in
      at-place p _ (export_parts s) (goes-tree p (after_object s.tree (Some fid)) (lacks-one p (counters s) refl)
      (same-next p (after_object s.tree (Some fid)) (option_or next (slice_get names 0)) (tree_parts s.tree) (ap (option_or next) first-name) goes)
      (lacks-kind block_part p (λ e. refl) (maps.entries s.blocks)) (lacks-kind enrolled_part p (λ e. refl) (maps.entries s.enrolled)))

  pub after-name : (path : Path) (fid i : ℕ) → IsBefore (Some (part.Name path fid)) (export_parts s) i → or_flat s (after_name s.tree path) ≡ slice_get (export_parts s) i
  after-name path fid =
      let p : Part = part.Name path fid in
      let es = maps.entries s.tree.names in
      let goes = goes-right p (after_name s.tree path) objects names (lacks-kind object_part p (λ e. refl) (maps.entries s.tree.objects))
      (goes-past-first paths_total name_part p (λ q. is_lt (path_cmp path q)) (λ e made q. ap (λ (n : Path). is_lt (path_cmp n q)) (sym (ap path_in made))) es (entries_sorted s.tree.names)) in
      at-place p _ (export_parts s) (goes-tree p (after_name s.tree path) (lacks-one p (counters s) refl) goes
      (lacks-kind block_part p (λ e. refl) (maps.entries s.blocks)) (lacks-kind enrolled_part p (λ e. refl) (maps.entries s.enrolled)))

  pub after-block : (key : Key) (latest : ℕ) (published : Option Published) (i : ℕ) → IsBefore (Some (part.Block key latest published)) (export_parts s) i
      → after_block s (Some key) ≡ slice_get (export_parts s) i
  after-block key latest published =
      let p : Part = part.Block key latest published in
      let es = maps.entries s.blocks in
      let next : Option Part = option_map block_part (lists.find (λ e. is_after (Some key) e.0) es) in
      let goes = goes-left p next blocks enrolled
      (goes-past keys_total block_part p (is_after (Some key)) (λ e made q. ap (λ (k : Key). is_after (Some k) q) (sym (ap key_in made))) es (entries_sorted s.blocks))
      (lacks-kind enrolled_part p (λ e. refl) (maps.entries s.enrolled)) in
      at-place p _ (export_parts s) (goes-flat p (after_block s (Some key)) (lacks-one p (counters s) refl)
      (lacks-kind object_part p (λ e. refl) (maps.entries s.tree.objects)) (lacks-kind name_part p (λ e. refl) (below_root s.tree.names))
      (same-next p (after_block s (Some key)) (option_or next (slice_get enrolled 0)) (flat_parts s) (ap (option_or next) (first-made enrolled_part (maps.entries s.enrolled))) goes))

  pub after-enrolled : (node loss fence i : ℕ) → IsBefore (Some (part.Enrolled node loss fence)) (export_parts s) i → after_enrolled s (Some node) ≡ slice_get (export_parts s) i
  after-enrolled node loss fence =
      let p : Part = part.Enrolled node loss fence in
      let es = maps.entries s.enrolled in
      at-place p _ (export_parts s) (goes-flat p (after_enrolled s (Some node)) (lacks-one p (counters s) refl)
      (lacks-kind object_part p (λ e. refl) (maps.entries s.tree.objects)) (lacks-kind name_part p (λ e. refl) (below_root s.tree.names))
      (goes-right p (after_enrolled s (Some node)) blocks enrolled (lacks-kind block_part p (λ e. refl) (maps.entries s.blocks))
      (goes-past nat_cmp_total enrolled_part p (is_past (Some node)) (λ e made q. lt-same node q ∙ ap (λ (n : ℕ). is_lt (nat_cmp n q)) (sym (ap number_of made))) es (entries_sorted s.enrolled))))
