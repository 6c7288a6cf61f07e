use Rattle.rz_shared_locked.proofs.Lasting as laws
use Rattle.rz_shared_locked.proofs.laws.arming.Goals as goal

pub returns : goal.returns
returns c = λ v. laws.arm-law v (c.next_run.ensures v) (c.arming.ensures v) (c.node_kept.ensures v) c.words_kept.ensures
