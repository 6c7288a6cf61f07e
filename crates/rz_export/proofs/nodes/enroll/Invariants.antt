use Rattle.std.proofs.Common.{◌≡◌, ◌++◌, map, take, drop}
use Rattle.rz_export.specs.Nodes.{with_enrolment}
use Rattle.rz_export.proofs.nodes.enroll.Given as goal

abbrev pub invariant-loop-kept : goal.invariant-loop-kept
invariant-loop-kept l = l.nodes ≡ map (with_enrolment l.node l.enrolment) (take l.kept-index l.initial.nodes) ++ drop l.kept-index l.initial.nodes
