use Rattle.rz_core.proofs.Extends as laws
use Rattle.rz_core.proofs.permanent.Goals as goal

pub returns : goal.returns
returns c = λ h more. record { wrote = laws.wrote-more more h; places = laws.places-more more h }
