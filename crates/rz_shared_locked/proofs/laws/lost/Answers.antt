use Rattle.rz_shared_locked.proofs.Lasting as laws
use Rattle.rz_shared_locked.proofs.laws.lost.Goals as goal

pub returns : goal.returns
returns c = λ v. laws.lost-law v (c.next_run.ensures v)
