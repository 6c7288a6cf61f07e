use Rattle.rz_restart_laws.proofs.CanGoOn as laws
use Rattle.rz_restart_laws.proofs.afterwards.Goals as goal

pub returns : goal.returns
returns c = λ v. laws.afterwards v (c.facts_told.ensures v) (c.next_run.ensures v) (c.sound.ensures v) (c.answering.ensures v) (c.written.ensures v) (c.rebuilt.ensures v)
