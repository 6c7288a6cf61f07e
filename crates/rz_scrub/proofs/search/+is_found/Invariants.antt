use Rattle.std.proofs.Common.{◌-◌}
use Rattle.rz_scrub.proofs.search.+is_found.Given as goal

abbrev pub decreases-is_found : goal.decreases-is_found
decreases-is_found l = 256 - l.from
