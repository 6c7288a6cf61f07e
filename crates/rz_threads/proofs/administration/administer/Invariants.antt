use Rattle.std.proofs.Common.{◌≡◌, take}
use Rattle.rz_chronicle.specs.Kinds.{IsFit}
use Rattle.rz_threads.specs.Orders.{AreDone}
use Rattle.rz_threads.proofs.administration.administer.Given as goal

-- the lines so far are done
abbrev pub invariant-loop-line : goal.invariant-loop-line
invariant-loop-line g l = record {
  actor : l.pass.actor ≡ l.fn.pass.actor;
  keys : l.pass.keys ≡ l.fn.pass.keys;
  done : AreDone g.J.Naming.kind (take l.line-index l.fn.lines) l.fn.pass.log l.pass.log;
  fit : IsFit g.J.Naming.kind l.pass.log;
}
