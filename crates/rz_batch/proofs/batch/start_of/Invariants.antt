use Rattle.std.proofs.Common.{◌≡◌, ◌≤◌, ◌*◌}
use Rattle.mj_forward.specs.Forward.{start_of}
use Rattle.rz_batch.proofs.batch.start_of.Given as goal

abbrev pub invariant-loop-j : goal.invariant-loop-j
invariant-loop-j l = record {
  sum : l.start ≡ start_of l.layout l.j;
  small : l.start ≤ 2104 * l.j;
}
