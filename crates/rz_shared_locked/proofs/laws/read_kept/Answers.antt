use Rattle.rz_shared_locked.proofs.Lasting as laws
use Rattle.rz_shared_locked.proofs.laws.read_kept.Goals as goal

pub returns : goal.returns
returns c = λ v. laws.read-kept v c.permanent.ensures
