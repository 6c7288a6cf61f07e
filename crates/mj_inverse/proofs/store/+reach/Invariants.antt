use Rattle.std.proofs.Common.{length}
use Rattle.mj_inverse.proofs.store.+reach.Given as goal

abbrev pub decreases-reach : goal.decreases-reach
decreases-reach l = length l.all.now
