use Rattle.rz_restart_laws.proofs.Fences as laws
use Rattle.rz_restart_laws.proofs.fences_given.Goals as goal

pub returns : goal.returns
returns c = λ v. laws.fences-given v (c.losses_enrolled.ensures v)
