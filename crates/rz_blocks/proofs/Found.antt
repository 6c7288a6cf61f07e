-- What the calls find is what the map has.
use Rattle.std.proofs.Common.{◌≡◌, ℕ, true, Option, sym, ap, ◌∙◌}
use Rattle.std.specs.List as lists
use Rattle.std.specs.List.Sorted.{IsStrictlySortedBy}
use Rattle.std.specs.Map.{keys_of}
use Rattle.std.specs.Option.{option_map}
use Rattle.std.specs.declared.ops.Bound.{Bound}
use Rattle.std.specs.declared.ops.Bound.TheVariants.{Unbounded}
use Rattle.std.specs.BTreeMap.Range.{entries_between}
use Rattle.rz_events.specs.Keys.{key_cmp}
use Rattle.rz_events.specs.declared.keys.Key.{Key}
use Rattle.rz_events.specs.declared.files.Published.{Published}
use Rattle.rz_export_model.specs.Export.{Block, Blocks, is_after}
use Rattle.rz_blocks.specs.Shown.{shown, entry_above, IsStartAbove}
use Rattle.rz_blocks.proofs.Shows.{Kept, map_of, entries-shown}
use Rattle.rz_blocks.proofs.Ranges.{first-above}

module _ (es : Kept) (ordered : IsStrictlySortedBy key_cmp (keys_of es)) (m : Blocks) (view : map_of es ≡ m) (range : Kept) where
  pub first-entry : (lo : Bound Key) (key : Option Key) → IsStartAbove lo key → range ≡ entries_between key_cmp lo Unbounded es
      → option_map (λ (x : Key × Block). (x.0, x.1.latest, x.1.published)) (option_map (λ x. (x.0, shown x.1)) (lists.find (λ x. true) range)) ≡ entry_above m key
  first-entry lo key start between =
      let read : Option (Key × Block) → Option (Key × ℕ × Option Published) = option_map (λ (x : Key × Block). (x.0, x.1.latest, x.1.published)) in
      ap (λ r. read (option_map (λ x. (x.0, shown x.1)) (lists.find (λ x. true) r))) between ∙ ap read (sym (first-above lo key start es))
      ∙ sym (ap (λ l. read (lists.find (λ x. is_after key x.0) l)) (entries-shown es ordered)) ∙ ap (λ b. entry_above b key) view
