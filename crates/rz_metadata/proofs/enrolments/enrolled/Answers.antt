-- The enrolments of the parts so far, and then those of all.
use Rattle.std.proofs.Common.{◌++◌, sym, ◌∙◌, ap}
use Rattle.rz_export.specs.Parts.{export_parts}
use Rattle.rz_metadata.specs.Enrolled.{said_in}
use Rattle.rz_metadata.proofs.PartEnrolments.{first-next, later-next, goes-on, ends-with}
use Rattle.rz_metadata.proofs.enrolments.enrolled.Goals as goal

pub loop-init : goal.loop-init
loop-init c = record {
  so_far = ap (λ r. r ++ said_in (export_parts c.args.export.now)) c.new-said.ensures.items;
  here = first-next (export_parts c.args.export.now) c.part_after.result c.in_ok-next.next c.in_ok-next.was c.part_after.ensures;
}

pub loop-preserved : goal.loop-preserved
loop-preserved c =
    let parts = export_parts c.args.export.now in
    let at = sym c.loop.invariant.here ∙ c.in-Some.is in
    record {
      so_far = goes-on parts c.loop.counter c.in-Some.part c.loop.said.items c.note_part.new.said.items at c.loop.invariant.so_far c.in_ok-note_part.ensures;
      here = later-next parts c.loop.counter c.in-Some.part c.part_after-in-loop.result c.in_ok-next-2.next at c.in_ok-next-2.was c.part_after-in-loop.ensures;
    }

pub returns-in_default : goal.returns-in_default
returns-in_default c = ends-with c.args.export.now c.loop.counter c.loop.said.items (sym c.loop.invariant.here ∙ c.in_default.is) c.loop.invariant.so_far
