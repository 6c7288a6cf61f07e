use Rattle.rz_shared_locked.proofs.LockedExportLaws as laws
use Rattle.rz_shared_locked.proofs.laws.caller_kept.Goals as goal

pub returns : goal.returns
returns c = λ v. laws.caller-kept v (c.next_run.ensures v) (c.call_kept.ensures v) c.actors_kept.ensures
