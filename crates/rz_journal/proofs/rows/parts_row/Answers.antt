-- The row of the parts so far, and then that of all.
use Rattle.std.proofs.Common.{sym, ◌∙◌}
use Rattle.rz_export.specs.Parts.{export_parts}
use Rattle.rz_journal.proofs.PartRows.{first_next, later_next, row_begins, row_goes, row_ends}
use Rattle.rz_journal.proofs.Wholes.{part_stands}
use Rattle.rz_journal.proofs.rows.parts_row.Goals as goal

pub loop-init : goal.loop-init
loop-init c = record {
  so_far = row_begins (export_parts c.args.export.now) c.new-row.result.items c.new-row.ensures.items;
  here = first_next (export_parts c.args.export.now) c.part_after.result c.in_ok-next.next c.in_ok-next.was c.part_after.ensures;
}

pub loop-preserved : goal.loop-preserved
loop-preserved c =
    let parts = export_parts c.args.export.now in
    let at = sym c.loop.invariant.here ∙ c.in-Some.is in
    record {
      so_far = row_goes parts c.loop.counter c.in-Some.part c.loop.row.items c.push_part.new.row.items at c.loop.invariant.so_far c.in_ok-push_part.ensures.row c.in_ok-push_part.ensures.spelled;
      here = later_next parts c.loop.counter c.in-Some.part c.part_after-in-loop.result c.in_ok-next-2.next at c.in_ok-next-2.was c.part_after-in-loop.ensures;
    }

pub returns-in_default : goal.returns-in_default
returns-in_default c =
    row_ends (export_parts c.args.export.now) c.loop.counter c.loop.row.items c.close_row.new.row.items (sym c.loop.invariant.here ∙ c.in_default.is) c.loop.invariant.so_far
    c.in_ok-close_row.ensures

pub push_part-requires : goal.push_part-requires
push_part-requires c = part_stands c.paths_written.ensures c.args.export.now c.requires c.loop.counter c.in-Some.part (sym c.loop.invariant.here ∙ c.in-Some.is)
