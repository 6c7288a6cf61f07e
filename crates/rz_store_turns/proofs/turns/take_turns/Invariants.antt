use Rattle.std.proofs.Common.{◌≡◌}
use Rattle.rz_threads_steps.specs.Acted.{IsWorkRight}
use Rattle.rz_store_turns.specs.Runs.{GoesAlone, HasRun}
use Rattle.rz_store_turns.proofs.turns.take_turns.Given as goal

abbrev pub invariant-loop : goal.invariant-loop
invariant-loop g l = record {
  alone : GoesAlone l.fn.pass l.pass;
  ran : HasRun g.J.Naming.kind l.number l.fn.pass l.pass l.fn.machine l.machine;
  layout : l.machine.layout ≡ l.fn.machine.layout;
  right : IsWorkRight g.J.Naming.kind g.J.Naming.earlier l.pass l.number l.machine;
}
