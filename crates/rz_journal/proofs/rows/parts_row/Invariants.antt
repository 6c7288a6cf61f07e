use Rattle.rz_export.specs.Parts.{export_parts}
use Rattle.rz_journal.proofs.PartRows.{Walk}
use Rattle.rz_journal.proofs.rows.parts_row.Given as goal

-- the row of the parts so far, and the part at the place of the count
abbrev pub invariant-loop : goal.invariant-loop
invariant-loop l = Walk (export_parts l.export) l.counter l.row.items l.next
