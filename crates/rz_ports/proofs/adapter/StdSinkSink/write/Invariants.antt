-- So far nothing was taken, and no fault was forgotten.
use Rattle.std.proofs.Common.{◌≤◌}
use Rattle.std.specs.Io.KnownBytes.{Keeps}
use Rattle.rz_ports.proofs.adapter.StdSinkSink.write.Given as goal

abbrev pub invariant-loop : goal.invariant-loop
invariant-loop g l = record {
  nothing_taken : Keeps (g.W.Write.contents l.initial.self.writer) (g.W.Write.contents l.self.writer);
  none_forgotten : l.initial.self.faults ≤ l.self.faults;
}
