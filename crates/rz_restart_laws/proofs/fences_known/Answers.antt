use Rattle.rz_restart_laws.proofs.Fences as laws
use Rattle.rz_restart_laws.proofs.fences_known.Goals as goal

pub returns : goal.returns
returns c = λ v. laws.fences-known v (c.losses_known.ensures v)
