use Rattle.rz_export.specs.Parts.{export_parts}
use Rattle.rz_metadata.proofs.PartEnrolments.{Walk}
use Rattle.rz_metadata.proofs.enrolments.enrolled.Given as goal

-- the enrolments of the parts so far, and the part at the place of the count
abbrev pub invariant-loop : goal.invariant-loop
invariant-loop l = Walk (export_parts l.export) l.counter l.said.items l.next
