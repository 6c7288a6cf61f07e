use Rattle.std.proofs.Common.{length}
use Rattle.rz_names.proofs.cuts.+reaches.Given as goal

-- the names that are left
abbrev pub decreases-reaches : goal.decreases-reaches
decreases-reaches l = length l.names.now
