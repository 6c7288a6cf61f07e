-- A read gives nothing exactly at the end.
use Rattle.std.proofs.Common.{arith}
use Rattle.rz_ports.proofs.Ends.{ended}
use Rattle.rz_ports.proofs.adapter.StdSourceSource.read.Goals as goal

pub returns-in-Ok-clause-ended : goal.returns-in-Ok-clause-ended
returns-in-Ok-clause-ended g c =
    let told = c.in-Ok.ensures in
    ended _ _ _ c.in-Ok.n _ c.attempt.new.out (omega arith) (omega arith)
    c.loop.invariant.nothing_read told.moved (λ none some. told.ended none (omega arith))
