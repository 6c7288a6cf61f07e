use Rattle.rz_bench.proofs.Dishonest.{not-on}
use Rattle.rz_bench.proofs.book_runs.run_in.Goals as goal

pub named-requires-clause-legal : goal.named-requires-clause-legal
named-requires-clause-legal g c = λ on. absurd (not-on g.J.Naming.kind c.requires.kind on)
