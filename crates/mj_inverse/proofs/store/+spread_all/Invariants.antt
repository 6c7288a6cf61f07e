use Rattle.std.proofs.Common.{length}
use Rattle.mj_inverse.proofs.store.+spread_all.Given as goal

abbrev pub decreases-spread_all : goal.decreases-spread_all
decreases-spread_all l = length l.all.now
