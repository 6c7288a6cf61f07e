use Rattle.std.proofs.Common.{length}
use Rattle.mj_inverse.proofs.store.+wipe_all.Given as goal

abbrev pub decreases-wipe_all : goal.decreases-wipe_all
decreases-wipe_all l = length l.all.now
