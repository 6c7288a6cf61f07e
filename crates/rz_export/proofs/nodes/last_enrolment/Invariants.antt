use Rattle.std.proofs.Common.{◌≡◌, drop}
use Rattle.rz_export.proofs.Enrolled.{found}
use Rattle.rz_export.proofs.nodes.last_enrolment.Given as goal

-- what is found among the nodes to come is what is found among all
abbrev pub invariant-loop-kept : goal.invariant-loop-kept
invariant-loop-kept l = found l.node (drop l.kept-index l.nodes) ≡ found l.node l.nodes
