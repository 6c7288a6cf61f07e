use Rattle.rz_restart_laws.proofs.Fences as laws
use Rattle.rz_restart_laws.proofs.stale_told.Goals as goal

pub returns : goal.returns
returns c = λ v. laws.stale-told v (c.losses_enrolled.ensures v)
