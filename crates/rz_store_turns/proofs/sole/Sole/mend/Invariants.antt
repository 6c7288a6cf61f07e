use Rattle.std.proofs.Common.{◌≡◌}
use Rattle.rz_store_turns.specs.Sole.{IsInHand, IsSameTurn}
use Rattle.rz_store_turns.specs.Rebuilt.{HasGone}
use Rattle.rz_store_turns.proofs.sole.Sole.mend.Given as goal

abbrev pub invariant-loop : goal.invariant-loop
invariant-loop g l = record {
  same : IsSameTurn l.fn.self l.self;
  hand : IsInHand g.J.Naming.kind g.J.Naming.earlier l.self l.machine;
  gone : HasGone g.J.Naming.kind l.fn.self.number l.fn.self.pass l.self.pass l.fn.machine l.machine;
}
