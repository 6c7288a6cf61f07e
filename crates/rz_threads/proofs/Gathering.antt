-- Passes that are gathered by one that goes on.
use Rattle.std.proofs.Common.{[], ◌∷◌, List}
use Rattle.std.specs.List.{AllByRecursion}
use Rattle.rz_chronicle.specs.Rules.{PassView}
use Rattle.rz_threads_workers.specs.Gathered.{PassGoesOn, HoldsPass, IsHeldLaw}

-- what it holds it still holds
pub held-all : IsHeldLaw → (ps : List PassView) (mid new : PassView) → PassGoesOn mid new → AllByRecursion (HoldsPass mid) ps → AllByRecursion (HoldsPass new) ps
held-all lasts [] mid new goes all = tt
held-all lasts (p ∷ ps) mid new goes all = (lasts p mid new goes all.0, held-all lasts ps mid new goes all.1)
