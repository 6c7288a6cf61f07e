use Rattle.std.proofs.Common.{length}
use Rattle.rz_export.proofs.homes.+has_all.Given as goal

-- the places that are left
abbrev pub decreases-has_all : goal.decreases-has_all
decreases-has_all l = length l.places.now
