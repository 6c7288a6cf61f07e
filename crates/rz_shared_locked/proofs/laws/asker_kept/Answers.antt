use Rattle.rz_shared_locked.proofs.Lasting as laws
use Rattle.rz_shared_locked.proofs.laws.asker_kept.Goals as goal

pub returns : goal.returns
returns c = λ v. laws.asker-kept v (c.next_run.ensures v) (c.ask_kept.ensures v) c.permanent.ensures c.actors_kept.ensures
