use Rattle.std.proofs.Common.{length}
use Rattle.rz_export_model.specs.Paths.{path_cmp}
use Rattle.rz_names.specs.Cuts.{passes}
use Rattle.rz_names.proofs.Sorted.{Search}
use Rattle.rz_names.proofs.entries.place.Given as goal

-- the cut is in the rest, which ends at `end`
abbrev pub invariant-down : goal.invariant-down
invariant-down l = Search path_cmp (passes l.cut) l.entries l.rest l.end

-- the entries that are left
abbrev pub decreases-down : goal.decreases-down
decreases-down l = length l.rest
