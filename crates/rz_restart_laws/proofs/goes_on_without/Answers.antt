use Rattle.rz_restart_laws.proofs.Returns as laws
use Rattle.rz_restart_laws.proofs.goes_on_without.Goals as goal

pub returns : goal.returns
returns c = λ v rules. laws.may-go-on-without v rules (c.returning.ensures v rules) (c.exported.ensures v) (c.losses_enrolled.ensures v) (c.losses_known.ensures v)
