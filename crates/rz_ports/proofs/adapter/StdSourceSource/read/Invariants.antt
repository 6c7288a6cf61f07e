-- So far nothing was read, and no fault was forgotten.
use Rattle.std.proofs.Common.{◌≤◌}
use Rattle.std.specs.Io.KnownBytes.{Keeps}
use Rattle.rz_ports.proofs.adapter.StdSourceSource.read.Given as goal

abbrev pub invariant-loop : goal.invariant-loop
invariant-loop g l = record {
  nothing_read : Keeps (g.R.Read.remaining l.initial.self.reader) (g.R.Read.remaining l.self.reader);
  none_forgotten : l.initial.self.faults ≤ l.self.faults;
}
