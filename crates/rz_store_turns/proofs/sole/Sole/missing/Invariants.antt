use Rattle.std.proofs.Common.{◌≡◌, ◌++◌, IsTrue}
use Rattle.rz_chronicle.specs.Kinds.{keeps_legal, volume_in}
use Rattle.rz_store_turns.proofs.Counted.{AreCounted}
use Rattle.rz_store_turns.proofs.sole.Sole.missing.Given as goal

abbrev pub invariant-loop : goal.invariant-loop
invariant-loop g l = record {
  same : l.self ≡ l.fn.self;
  counted : IsTrue (keeps_legal g.J.Naming.kind) → AreCounted (volume_in g.J.Naming.kind) (l.fn.self.pass.log ++ g.J.Naming.earlier) l.node l.after l.count;
}
