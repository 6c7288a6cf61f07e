-- The parts of an export, and the order of its enrolments.
use Rattle.std.specs.Prelude.{ℕ, ◌≡◌, ◌≤◌, ◌-◌, nat_lt, cond, List, ◌∷◌, ◌++◌, map, Option, Some, None}
use Rattle.std.specs.List as lists
use Rattle.std.specs.List.{slice_get}
use Rattle.std.specs.Option.{option_map, option_or}
use Rattle.std.specs.FinMap as maps
use Rattle.rz_events.specs.declared.keys.Key.{Key}
use Rattle.rz_export_model.specs.Export.{Export, Block, Enrolled, is_after}
use Rattle.rz_tree.specs.declared.parts.Part.{Part}
use Rattle.rz_tree.specs.declared.parts.Part.TheVariants as part
pub use Rattle.rz_tree.specs.Inodes.{is_past, first_past}
use Rattle.rz_tree.specs.Parts.{tree_parts}
use Rattle.rz_export.specs.declared.nodes.Enrolment.{Enrolment}
use Rattle.rz_export.specs.Nodes.{enrolled_of}

abbrev pub counters : Export → Part
counters s = part.Counters s.last s.tree.made

abbrev pub block_part : Key × Block → Part
block_part e = part.Block e.0 e.1.latest e.1.published

abbrev pub enrolled_part : ℕ × Enrolled → Part
enrolled_part e = part.Enrolled e.0 e.1.loss e.1.fence

-- the blocks by their keys, and then the enrolments by their nodes
abbrev pub flat_parts : Export → List Part
flat_parts s = map block_part (maps.entries s.blocks) ++ map enrolled_part (maps.entries s.enrolled)

-- all parts: the counters, the objects, the names, the blocks, the enrolments
abbrev pub export_parts : Export → List Part
export_parts s = counters s ∷ (tree_parts s.tree ++ flat_parts s)

-- the part before a place, or none before the first
abbrev pub IsBefore : Option Part → List Part → ℕ → Type 0
IsBefore None parts i = i ≡ 0
IsBefore (Some part) parts i = (1 ≤ i) × (slice_get parts (i - 1) ≡ Some part)

-- the enrolment of the node past a number, where this is given
abbrev pub after_enrolled : Export → Option ℕ → Option Part
after_enrolled s node = option_map enrolled_part (first_past node (maps.entries s.enrolled))

-- the block behind a key, where this is given, or else the first enrolment
abbrev pub after_block : Export → Option Key → Option Part
after_block s key =
    option_or (option_map block_part (lists.find (λ e. is_after key e.0) (maps.entries s.blocks))) (after_enrolled s None)

-- a part, or else the first block or enrolment
abbrev pub or_flat : Export → Option Part → Option Part
or_flat s part = option_or part (after_block s None)

-- a node's enrolment, as a call sees it
abbrev pub enrolled_pair : ℕ × Enrolment → ℕ × Enrolled
enrolled_pair e = (e.0, enrolled_of e.1)

-- the lesser one by the numbers, or the new one where there is none
abbrev pub lesser_of : {X : Type 0} → ℕ × X → Option (ℕ × X) → Option (ℕ × X)
lesser_of e None = Some e
lesser_of e (Some least) = cond (nat_lt least.0 e.0) (Some least) (Some e)

-- the same, where the new one is past `after`
abbrev pub with_lesser : {X : Type 0} → Option ℕ → ℕ × X → Option (ℕ × X) → Option (ℕ × X)
with_lesser after e least = cond (is_past after e.0) (lesser_of e least) least
