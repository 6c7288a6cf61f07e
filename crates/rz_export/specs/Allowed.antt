-- The rules of the next part, as tests.
use Rattle.std.specs.Prelude.{ℕ, Bool, true, false, ◌==◌, ◌&&◌, ◌||◌, ◌+◌, ◌*◌, not, nat_lt, nat_le, List, [], ◌∷◌, length, Option}
use Rattle.std.specs.List.{list_any}
use Rattle.std.specs.Option.{option_map_or}
use Rattle.std.specs.FinMap as maps
use Rattle.mj_angles.specs.Layout.{block_bytes_of, safe_of}
use Rattle.rz_events.specs.Volume.{Volume}
use Rattle.rz_events.specs.declared.keys.Key.{Key}
use Rattle.rz_events.specs.declared.files.Published.{Published}
use Rattle.rz_events.specs.declared.files.Kind.{Kind}
use Rattle.rz_export_model.specs.Tree.{file_of, is_file}
use Rattle.rz_export_model.specs.Export.{Export, file_blocks, is_mask, is_drawn, is_node}
use Rattle.rz_tree.specs.Added.{is_behind}
use Rattle.rz_export.specs.Building.{is_home}

-- whether no number stands twice
abbrev pub are_distinct : List ℕ → Bool
are_distinct [] = true
are_distinct (n ∷ ns) = not (list_any (λ m. m == n) ns) && are_distinct ns

-- whether a file of this size may lie so
abbrev pub lies_in : Volume → ℕ → List ℕ → ℕ → Bool
lies_in volume cid places size =
    list_any (is_home cid places) volume.clusters && (length places == safe_of volume.layout) && are_distinct places
    && nat_le size (file_blocks * block_bytes_of volume.layout)

-- whether an object may lie so, which only of a file is asked
abbrev pub may_lie : Export → Kind → ℕ → List ℕ → ℕ → Bool
may_lie s kind cid places size = not (is_file kind) || lies_in s.volume cid places size

-- whether neither a block nor an enrolment stands among the parts so far
abbrev pub is_blockless : Export → Bool
is_blockless s = (maps.len s.blocks == 0) && (maps.len s.enrolled == 0)

-- whether a block of a file of this size may be published so
abbrev pub may_be_published : Export → Key → ℕ → Published → Bool
may_be_published s key size p =
    is_drawn s p.stamp && is_mask s.volume.layout p.mask && nat_le p.length (block_bytes_of s.volume.layout)
    && nat_le (key.block * block_bytes_of s.volume.layout + p.length) size

-- whether the block may be next
abbrev pub is_next_block : Export → Key → ℕ → Option Published → Bool
is_next_block s key latest published =
    option_map_or
    (λ info. nat_lt key.block file_blocks && is_behind s.blocks key && is_drawn s latest && (maps.len s.enrolled == 0)
    && option_map_or (may_be_published s key info.size) published true)
    (file_of s.tree key.fid)
    false

-- whether the enrolment may be next
abbrev pub is_next_enrolment : Export → ℕ → ℕ → Bool
is_next_enrolment s node fence = is_behind s.enrolled node && is_node s node && is_drawn s fence
