use Rattle.std.proofs.Common.{inl, inr}
use Rattle.rz_run.proofs.telling.tell.Goals as goal

pub returns-then-ended : goal.returns-then-ended
returns-then-ended g c = elim c.tell_log.ensures [ inl ends ↦ inl (c.if-ended.true, ends) | inr lacks ↦ inr lacks ]
