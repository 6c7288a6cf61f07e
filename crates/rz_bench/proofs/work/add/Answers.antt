use Rattle.rz_bench.proofs.Dishonest.{not-honest, not-on}
use Rattle.rz_bench.proofs.work.add.Goals as goal

pub finish-requires-clause-legal : goal.finish-requires-clause-legal
finish-requires-clause-legal g c = λ honest. absurd (not-honest g.J.Naming.kind c.requires.kind honest)

pub finish-requires-clause-after : goal.finish-requires-clause-after
finish-requires-clause-after g c = λ on. absurd (not-on g.J.Naming.kind c.requires.kind on)
