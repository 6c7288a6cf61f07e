-- The bins of a block's records, by position.
use Rattle.std.specs.Prelude.{ℕ, ◌≡◌, Bool, List, Option, Some, None, length, replicate, slice_index_or, slice_set, count_by, is_some, IfSome}
use Rattle.std.specs.List.{range_with_len}
use Rattle.mj_angles.specs.declared.layout.Layout.{Layout}
use Rattle.mj_angles.specs.Layout.{safe_of, bins_at_of}

-- for each position the bins that were added there, or none
pub record Records : Type 0 where
  pub layout : Layout
  pub bins : List (Option (List ℕ))

abbrev pub positions : Records → List ℕ
positions s = range_with_len 0 (length s.bins)

-- the bins at a position
abbrev pub bins_at : Records → ℕ → Option (List ℕ)
bins_at s position = slice_index_or s.bins position None

abbrev pub has_bins : Records → ℕ → Bool
has_bins s position = is_some (bins_at s position)

-- how many positions have bins
abbrev pub added : Records → ℕ
added s = count_by (has_bins s) (positions s)

-- no bins at any position of the layout
abbrev pub no_records : Layout → Records
no_records layout = record { layout = layout; bins = replicate (safe_of layout) None }

-- these bins at a position, and the others as they were
abbrev pub with_bins : Records → ℕ → List ℕ → Records
with_bins s position bins = record { layout = s.layout; bins = slice_set s.bins position (Some bins) }

-- a place for each position of the layout, and as many bins as a projection there has
pub record IsRecords (s : Records) : Type 0 where
  pub places : length s.bins ≡ safe_of s.layout
  pub sizes : (position : ℕ) → IfSome (bins_at s position) (λ bins. length bins ≡ bins_at_of s.layout position)
