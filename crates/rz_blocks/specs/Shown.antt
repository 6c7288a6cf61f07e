-- What the kept entries of blocks stand for.
use Rattle.std.specs.Prelude.{ℕ, ◌≡◌, ◌<◌, true, false, cond, List, map, Option, None}
use Rattle.std.specs.List as lists
use Rattle.std.specs.Option.{option_map}
use Rattle.std.specs.declared.ops.Bound.{Bound}
use Rattle.std.specs.declared.ops.Bound.TheVariants.{Included, Excluded, Unbounded}
use Rattle.std.specs.BTreeMap.Range.{is_from_start, is_past_end}
use Rattle.std.specs.FinMap as maps
use Rattle.rz_events.specs.Keys.{key_cmp}
use Rattle.rz_events.specs.declared.keys.Key.{Key}
use Rattle.rz_events.specs.declared.files.Published.{Published}
use Rattle.rz_blocks.specs.declared.blocks.BlockEntry.{BlockEntry}
use Rattle.rz_export_model.specs.Firsts.{first_given}
use Rattle.rz_export_model.specs.Export.{Block, Blocks, is_after}

-- an entry, as the map has it
abbrev pub shown : BlockEntry → Block
shown entry = record { latest = entry.latest; published = entry.published }

abbrev pub shown_entries : List (Key × BlockEntry) → List (Key × Block)
shown_entries entries = map (λ e. (e.0, shown e.1)) entries

-- the map with one more entry
abbrev pub added : Blocks → Key → ℕ → Option Published → Blocks
added blocks key latest published = maps.insert blocks key (record { latest = latest; published = published })

-- the least published key above `after`
abbrev pub first_published : Blocks → Option Key → Option (Key × Published)
first_published blocks after =
    first_given (λ e. cond (is_after after e.0) (option_map (λ p. (e.0, p)) e.1.published) None) (maps.entries blocks)

-- the least entry above a key, where this is given
abbrev pub entry_above : Blocks → Option Key → Option (Key × ℕ × Option Published)
entry_above blocks key =
    option_map (λ e. (e.0, e.1.latest, e.1.published)) (lists.find (λ e. is_after key e.0) (maps.entries blocks))

-- an entry by its place in the order of the keys
abbrev pub nth_entry : Blocks → ℕ → Option (Key × ℕ × Option Published)
nth_entry blocks at = option_map (λ e. (e.0, e.1.latest, e.1.published)) (lists.slice_get (maps.entries blocks) at)

-- a bound from which on all keys stand that are above `after`
abbrev pub IsStartAbove : Bound Key → Option Key → Type 0
IsStartAbove start after = (key : Key) → is_from_start key_cmp start key ≡ is_after after key

-- a bound from which on the keys of a file stand
abbrev pub IsStartOf : Bound Key → ℕ → Type 0
IsStartOf start file = (key : Key) → key.fid ≡ file → is_from_start key_cmp start key ≡ true

-- a bound that is past the keys of a file
abbrev pub IsEndOf : Bound Key → ℕ → Type 0
IsEndOf end file = (key : Key) → key.fid ≡ file → is_past_end key_cmp end key ≡ false

-- a bound at a key of the file
abbrev pub IsWithin : Bound Key → ℕ → Type 0
IsWithin (Included key) file = key.fid ≡ file
IsWithin (Excluded key) file = key.fid ≡ file
IsWithin Unbounded file = ⊥

-- no bound, or one that leaves a key of a later file out
abbrev pub IsPast : Bound Key → ℕ → Type 0
IsPast (Included key) file = ⊥
IsPast (Excluded key) file = file < key.fid
IsPast Unbounded file = Unit {0}
