use Rattle.rz_restart_laws.proofs.CanGoOn as laws
use Rattle.rz_restart_laws.proofs.goes_on.Goals as goal

pub returns : goal.returns
returns c = λ v rules.
    laws.may-go-on v rules (c.restarting.ensures v rules) (c.exported.ensures v) (c.beginning.ensures v) (c.losses_enrolled.ensures v) (c.losses_known.ensures v)
