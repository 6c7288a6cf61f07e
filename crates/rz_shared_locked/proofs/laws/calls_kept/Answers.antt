use Rattle.rz_shared_locked.proofs.Journaled as laws
use Rattle.rz_shared_locked.proofs.laws.calls_kept.Goals as goal

pub returns : goal.returns
returns c = λ v. laws.calls-kept v (c.next_run.ensures v) (c.untold.ensures v) c.words_kept.ensures
