use Rattle.std.proofs.Common.{◌≡◌, drop}
use Rattle.rz_metadata.specs.Enrolled.{among}
use Rattle.rz_metadata.proofs.enrolments.among.Given as goal

-- what is found among the enrolments to come is what is found among all
abbrev pub invariant-loop-enrolment : goal.invariant-loop-enrolment
invariant-loop-enrolment l = among l.node (drop l.enrolment-index l.enrolled) ≡ among l.node l.enrolled
