-- The enrolments that the parts of an export say.
use Rattle.std.proofs.lemmas.Bool.{cases_lt}
use Rattle.std.proofs.Common.{◌≡◌, ⊎_elim, ℕ, ◌+◌, ◌-◌, ◌<◌, ◌≤◌, Bool, true, false, cond, List, [], ◌∷◌, ◌++◌, length, map, drop, get_or, Option, Some, None, Result, Ok, IfOk, refl, sym, ◌∙◌, ap, subst, arith, append_assoc, eqb-true, eq-eqb}
use Rattle.std.proofs.lemmas.List.{drop_all, drop_more, append-nil}
use Rattle.std.proofs.lemmas.List.Elements.{filter_map-append}
use Rattle.std.proofs.lemmas.Option.{slice_get_within, get_or_from_slice_get, slice_get-get_or}
use Rattle.std.specs.Prelude.{◌==◌}
use Rattle.std.specs.declared.alloc.AllocError.{AllocError}
use Rattle.std.specs.List.{slice_get}
use Rattle.std.specs.Option.{option_map_or}
use Rattle.std.specs.Ordering.{nat_cmp, eq_by_cmp}
use Rattle.std.specs.Cmp.{unsigned_tied}
use Rattle.std.specs.FinMap as maps
use Rattle.std.specs.FinMap.{get-entries}
use Rattle.std.specs.FinMap.Entries.{find}
use Rattle.rz_events.specs.declared.keys.Key.{Key}
use Rattle.rz_export_model.specs.Export.{Export, Block, Enrolled, fence_of}
use Rattle.rz_export_model.specs.Paths.{Path}
use Rattle.rz_export_model.specs.Tree.{Object}
use Rattle.rz_names.specs.Names.{below_root}
use Rattle.rz_tree.specs.Parts.{object_part, name_part}
use Rattle.rz_tree.specs.declared.parts.Part.{Part}
use Rattle.rz_export.specs.Parts.{IsBefore, export_parts, flat_parts, block_part, enrolled_part}
use Rattle.rz_metadata.specs.declared.enrolments.NodeEnrolment.{NodeEnrolment}
use Rattle.rz_metadata.specs.Enrolled.{among, loss_among, fence_among, loss_of, enrolment_of, enrolments, said_in}

-- ---- the parts, one by one

-- what the parts so far and those to come say, and the part at the place of the count
pub record Walk (parts : List Part) (i : ℕ) (said : List NodeEnrolment) (next : Option Part) : Type 0 where
  pub so_far : said ++ said_in (drop i parts) ≡ said_in parts
  pub here : next ≡ slice_get parts i

-- the part that is found from the one before it
pub first-next : (parts : List Part) (found : Result (Option Part) AllocError) (next : Option Part) → found ≡ Ok next → ((i : ℕ) → IsBefore None parts i → IfOk found (λ part. part ≡ slice_get parts i)) → next ≡ slice_get parts 0
first-next parts found next is each = subst (λ (r : Result (Option Part) AllocError). IfOk r (λ part. part ≡ slice_get parts 0)) is (each 0 refl)

pub later-next : (parts : List Part) (i : ℕ) (part : Part) (found : Result (Option Part) AllocError) (next : Option Part) → slice_get parts i ≡ Some part → found ≡ Ok next
    → ((k : ℕ) → IsBefore (Some part) parts k → IfOk found (λ part. part ≡ slice_get parts k)) → next ≡ slice_get parts (i + 1)
later-next parts i part found next at is each =
    let less : i + 1 - 1 ≡ i = omega arith in
    subst (λ (r : Result (Option Part) AllocError). IfOk r (λ part. part ≡ slice_get parts (i + 1))) is
    (each (i + 1) (omega arith, ap (slice_get parts) less ∙ at))

part-here : (parts : List Part) (i : ℕ) (part : Part) → slice_get parts i ≡ Some part → drop i parts ≡ part ∷ drop (i + 1) parts
part-here parts i part at =
    drop_more parts i part (slice_get_within parts i part at) ∙ ap (λ (p : Part). p ∷ drop (i + 1) parts) (get_or_from_slice_get parts i part part at)

-- one part more
pub goes-on : (parts : List Part) (i : ℕ) (part : Part) (said new : List NodeEnrolment) → slice_get parts i ≡ Some part → said ++ said_in (drop i parts) ≡ said_in parts → new ≡ said ++ said_in (part ∷ [])
    → new ++ said_in (drop (i + 1) parts) ≡ said_in parts
goes-on parts i part said new at so_far is =
    ap (λ (r : List NodeEnrolment). r ++ said_in (drop (i + 1) parts)) is
    ∙ append_assoc said (said_in (part ∷ [])) (said_in (drop (i + 1) parts))
    ∙ ap (λ (r : List NodeEnrolment). said ++ r) (sym (said-append (part ∷ []) (drop (i + 1) parts)) ∙ ap said_in (sym (part-here parts i part at)))
    ∙ so_far
  where
    said-append : (xs ys : List Part) → said_in (xs ++ ys) ≡ said_in xs ++ said_in ys
    said-append xs ys = filter_map-append _ xs ys

none-past : (parts : List Part) (i : ℕ) → slice_get parts i ≡ None → length parts ≤ i
none-past parts i none = ⊎_elim
    (λ (lt : i < length parts). none_within parts i lt none)
    (λ (le : length parts ≤ i). le)
    (cases_lt i (length parts))
  where
    none_within : (ps : List Part) (k : ℕ) → k < length ps → slice_get ps k ≡ None → length ps ≤ k
    none_within [] k lt none = absurd (omega arith)
    none_within (p ∷ ps) k lt none = (let some = slice_get-get_or (p ∷ ps) k p lt in let wrong : None ≡ Some (get_or (p ∷ ps) k p) = sym none ∙ some in absurd (cc))

-- ---- what all parts say

none-of-objects : (es : List (ℕ × Object)) (more : List Part) → said_in (map object_part es ++ more) ≡ said_in more
none-of-objects [] more = refl
none-of-objects (e ∷ es) more = none-of-objects es more

none-of-names : (es : List (Path × ℕ)) (more : List Part) → said_in (map name_part es ++ more) ≡ said_in more
none-of-names [] more = refl
none-of-names (e ∷ es) more = none-of-names es more

none-of-blocks : (es : List (Key × Block)) (more : List Part) → said_in (map block_part es ++ more) ≡ said_in more
none-of-blocks [] more = refl
none-of-blocks (e ∷ es) more = none-of-blocks es more

of-enrolments : (es : List (ℕ × Enrolled)) → said_in (map enrolled_part es) ≡ map enrolment_of es
of-enrolments [] = refl
of-enrolments (e ∷ es) = ap (λ (ls : List NodeEnrolment). enrolment_of e ∷ ls) (of-enrolments es)

-- the parts of an export say its enrolments
pub all-said : (s : Export) → said_in (export_parts s) ≡ enrolments s
all-said s =
    ap said_in (append_assoc (map object_part (maps.entries s.tree.objects)) (map name_part (below_root s.tree.names)) (flat_parts s))
    ∙ none-of-objects (maps.entries s.tree.objects) (map name_part (below_root s.tree.names) ++ flat_parts s)
    ∙ none-of-names (below_root s.tree.names) (flat_parts s)
    ∙ none-of-blocks (maps.entries s.blocks) (map enrolled_part (maps.entries s.enrolled))
    ∙ of-enrolments (maps.entries s.enrolled)

pub ends-with : (s : Export) (i : ℕ) (said : List NodeEnrolment) → slice_get (export_parts s) i ≡ None → said ++ said_in (drop i (export_parts s)) ≡ said_in (export_parts s) → said ≡ enrolments s
ends-with s i said none so_far =
    sym (append-nil said) ∙ ap (λ (ps : List Part). said ++ said_in ps) (sym (drop_all i (export_parts s) (none-past (export_parts s) i none))) ∙ so_far ∙ all-said s

-- ---- the enrolment of a node

abbrev given : Option Enrolled → ℕ → Option NodeEnrolment
given None q = None
given (Some e) q = Some (enrolment_of (q, e))

among-entries : (q : ℕ) (es : List (ℕ × Enrolled)) → among q (map enrolment_of es) ≡ given (find nat_cmp q es) q
among-entries q [] = refl
among-entries q (e ∷ es) = go (among-entries q es) (e.0 == q) refl
  where
    tied : (t : Bool) → (e.0 == q) ≡ t → eq_by_cmp nat_cmp q e.0 ≡ t
    tied true is = unsigned_tied q e.0 ∙ eq-eqb q e.0 (sym (eqb-true e.0 q is))
    tied false is = unsigned_tied q e.0 ∙ other (q == e.0) refl
      where
        other : (t : Bool) → (q == e.0) ≡ t → t ≡ false
        other true on = let same : (e.0 == q) ≡ true = eq-eqb e.0 q (sym (eqb-true q e.0 on)) in cc
        other false off = refl

    go : among q (map enrolment_of es) ≡ given (find nat_cmp q es) q → (t : Bool) → (e.0 == q) ≡ t → among q (enrolment_of e ∷ map enrolment_of es) ≡ given (find nat_cmp q (e ∷ es)) q
    go later true is =
        ap (λ t. cond t (Some (enrolment_of e)) (among q (map enrolment_of es))) is
        ∙ ap (λ n. Some (enrolment_of (n, e.1))) (eqb-true e.0 q is)
        ∙ sym (ap (λ t. given (cond t (Some e.1) (find nat_cmp q es)) q) (tied true is))
    go later false is =
        ap (λ t. cond t (Some (enrolment_of e)) (among q (map enrolment_of es))) is
        ∙ later
        ∙ sym (ap (λ t. given (cond t (Some e.1) (find nat_cmp q es)) q) (tied false is))

among-enrolled : (s : Export) (q : ℕ) → among q (enrolments s) ≡ given (maps.get s.enrolled q) q
among-enrolled s q = among-entries q (maps.entries s.enrolled) ∙ ap (λ (o : Option Enrolled). given o q) (sym (get-entries s.enrolled q))

pub loss-enrolled : (s : Export) (q : ℕ) → loss_among q (enrolments s) ≡ loss_of s q
loss-enrolled s q = ap (λ (o : Option NodeEnrolment). option_map_or (λ (e : NodeEnrolment). e.loss) o 0) (among-enrolled s q) ∙ go (maps.get s.enrolled q)
  where
    go : (o : Option Enrolled) → option_map_or (λ (e : NodeEnrolment). e.loss) (given o q) 0 ≡ option_map_or (λ (e : Enrolled). e.loss) o 0
    go None = refl
    go (Some e) = refl

pub fence-enrolled : (s : Export) (q : ℕ) → fence_among q (enrolments s) ≡ fence_of s q
fence-enrolled s q = ap (λ (o : Option NodeEnrolment). option_map_or (λ (e : NodeEnrolment). e.fence) o 0) (among-enrolled s q) ∙ go (maps.get s.enrolled q)
  where
    go : (o : Option Enrolled) → option_map_or (λ (e : NodeEnrolment). e.fence) (given o q) 0 ≡ option_map_or (λ (e : Enrolled). e.fence) o 0
    go None = refl
    go (Some e) = refl

pub map-alike : {X Y : Type 0} (f g : X → Y) → ((x : X) → f x ≡ g x) → (xs : List X) → map f xs ≡ map g xs
map-alike f g same [] = refl
map-alike f g same (x ∷ xs) = ap (λ y. y ∷ map f xs) (same x) ∙ ap (λ ys. g x ∷ ys) (map-alike f g same xs)
