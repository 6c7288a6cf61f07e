-- The parts of a tree by their places.
use Rattle.std.proofs.Common.{◌≡◌, ℕ, zero, suc, ◌+◌, ◌<◌, List, [], ◌∷◌, ◌++◌, length, map, sym, ap, ◌∙◌, refl, arith, length-append, slice_get}
use Rattle.std.proofs.lemmas.Option.{slice_get-map}
use Rattle.std.specs.Option.{option_map}
use Rattle.std.specs.FinMap as maps
use Rattle.std.specs.FinMap.{len-entries}
use Rattle.rz_export_model.specs.Tree.{Tree}
use Rattle.rz_names.specs.Names.{below_root}
use Rattle.rz_tree.specs.declared.inodes.Inode.{Inode}
use Rattle.rz_tree.specs.Inodes.{Table, object_of, objects_of}
use Rattle.rz_tree.specs.Parts.{object_part, name_part, tree_parts}
use Rattle.rz_tree.proofs.Tables.{entries-objects}

pub get-left : {X : Type 0} (xs ys : List X) (i : ℕ) → i < length xs → slice_get (xs ++ ys) i ≡ slice_get xs i
get-left [] ys i h = absurd (omega arith)
get-left (x ∷ xs) ys zero h = refl
get-left (x ∷ xs) ys (suc i) h = get-left xs ys i (omega arith)

pub get-right : {X : Type 0} (xs ys : List X) (i n : ℕ) → i ≡ length xs + n → slice_get (xs ++ ys) i ≡ slice_get ys n
get-right [] ys i n h = let same : i ≡ n = omega (arith, h) in ap (slice_get ys) same
get-right (x ∷ xs) ys zero n h = absurd (omega arith)
get-right (x ∷ xs) ys (suc i) n h = get-right xs ys i n (omega arith)

pub length-mapped : {X Y : Type 0} (f : X → Y) (xs : List X) → length (map f xs) ≡ length xs
length-mapped f [] = refl
length-mapped f (x ∷ xs) = ap suc (length-mapped f xs)

-- the object at a place is the kept one there
pub object-at : (m : Table) (i : ℕ) → slice_get (maps.entries (objects_of m)) i ≡ option_map (λ e. (e.0, object_of e.1)) (slice_get (maps.entries m) i)
object-at m i = ap (λ es. slice_get es i) (entries-objects m) ∙ slice_get-map (λ (e : ℕ × Inode). (e.0, object_of e.1)) (maps.entries m) i

module _ (t : Tree) where
  count-objects : length (map object_part (maps.entries t.objects)) ≡ maps.len t.objects
  count-objects = length-mapped object_part (maps.entries t.objects) ∙ sym (len-entries t.objects)

  pub parts-length : length (tree_parts t) ≡ maps.len t.objects + length (below_root t.names)
  parts-length =
      length-append (map object_part (maps.entries t.objects)) (map name_part (below_root t.names))
      ∙ ap (λ (n : ℕ). n + length (map name_part (below_root t.names))) count-objects
      ∙ ap (λ (n : ℕ). maps.len t.objects + n) (length-mapped name_part (below_root t.names))

  pub object-parts : (i : ℕ) → i < maps.len t.objects → option_map object_part (slice_get (maps.entries t.objects) i) ≡ slice_get (tree_parts t) i
  object-parts i h = sym (get-left (map object_part (maps.entries t.objects)) (map name_part (below_root t.names)) i (omega (arith, count-objects)) ∙ slice_get-map object_part (maps.entries t.objects) i)

  pub name-parts : (i n : ℕ) → i ≡ maps.len t.objects + n → option_map name_part (slice_get (below_root t.names) n) ≡ slice_get (tree_parts t) i
  name-parts i n h = sym (get-right (map object_part (maps.entries t.objects)) (map name_part (below_root t.names)) i n (omega (arith, count-objects)) ∙ slice_get-map name_part (below_root t.names) n)
