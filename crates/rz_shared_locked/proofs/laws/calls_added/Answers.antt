use Rattle.rz_shared_locked.proofs.Journaled as laws
use Rattle.rz_shared_locked.proofs.laws.calls_added.Goals as goal

pub returns : goal.returns
returns c = λ v. laws.calls-added v (c.next_run.ensures v) c.permanent.ensures (c.told.ensures v) (c.calls_kept.ensures v)
