use Rattle.std.proofs.Common.{◌≡◌}
use Rattle.std.specs.Prelude.{count_by}
use Rattle.std.specs.List.{range_with_len}
use Rattle.rz_scrub.specs.Records.{has_bins}
use Rattle.rz_scrub.proofs.slots.Slots.added.Given as goal

abbrev pub invariant-loop-position : goal.invariant-loop-position
invariant-loop-position l = l.count ≡ count_by (has_bins l.self) (range_with_len 0 l.position)
