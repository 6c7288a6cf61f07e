-- When the marks say of each block whether it is published.
use Rattle.std.specs.Prelude.{◌≡◌, ◌<◌, ◌^◌, Bool, true, false, List, Option, is_some}
use Rattle.std.specs.Option.{option_map_or}
use Rattle.std.specs.Map.{lookup}
use Rattle.std.specs.BTreeMap.{is_at}
use Rattle.rz_events.specs.Keys.{key_cmp}
use Rattle.rz_events.specs.declared.keys.Key.{Key}
use Rattle.rz_blocks.specs.declared.row.Row.{Row}
use Rattle.rz_blocks.specs.Marks.{is_marked, has_room}
use Rattle.rz_blocks.specs.declared.blocks.BlockEntry.{BlockEntry}

-- the entry of a key
abbrev pub kept_at : List (Key × BlockEntry) → Key → Option BlockEntry
kept_at entries key = lookup (is_at (key_cmp key)) entries

-- whether an entry is there and published
abbrev pub is_public : Option BlockEntry → Bool
is_public entry = option_map_or (λ e. is_some e.published) entry false

-- the published keys are those that list 0 marks; each entry has room for its mark, and the block's
-- number has 64 bits
pub record AreMarked (entries : List (Key × BlockEntry)) (marks : List Row) : Type 0 where
  pub marked : (key : Key) → is_marked marks 0 key ≡ is_public (kept_at entries key)
  pub room : (key : Key) → is_some (kept_at entries key) ≡ true → has_room marks 0 key ≡ true
  pub small : (key : Key) → is_some (kept_at entries key) ≡ true → key.block < 2 ^ 64
