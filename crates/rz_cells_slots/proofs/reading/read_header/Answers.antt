-- The bytes that were read are those of the text.
use Rattle.std.proofs.Common.{rules, IsTrue, refl, arith}
use Rattle.rz_disk.proofs.Passes.{took_failed, took_one}
use Rattle.rz_cells_slots.specs.Opening.{HeaderFault}
use Rattle.rz_cells_slots.proofs.Opened.{read_front, formatted, header_of, field_fault}
use Rattle.rz_cells_slots.proofs.reading.read_header.Goals as goal

pub returns-in_err-check_fields-clause-refused : goal.returns-in_err-check_fields-clause-refused
returns-in_err-check_fields-clause-refused g c =
    let s = c.args.geometry.now in
    let text = g.D.Disk.text c.args.disk.now in
    let header = c.read.new.out in
    let bad : IsTrue g.D.Disk.tells → HeaderFault c.args.version s text c.in_err-check_fields.field-0.0 = λ told.
    let same = read_front 33 header text (c.in-Ok.ensures.gives told) in
    field_fault s header text same c.args.version (formatted s header text same (omega arith)) c.in_err-check_fields.field-0.0 c.in_err-check_fields.ensures.err in
    search rules

pub returns-clause-ok : goal.returns-clause-ok
returns-clause-ok g c told =
    let s = c.args.geometry.now in
    let text = g.D.Disk.text c.args.disk.now in
    let header = c.read.new.out in
    let same = read_front 33 header text (c.in-Ok.ensures.gives told) in
    (header_of s header text same c.args.version c.u64_at.result c.in_ok-check_fields.ensures.ok c.u64_at.ensures, formatted s header text same (omega arith))

pub returns-in_default-clause-took : goal.returns-in_default-clause-took
returns-in_default-clause-took g c =
    let a = g.D.Disk.meter c.args.disk.now in
    let b = g.D.Disk.meter c.read.new.self in
    took_failed 1 1 c.read.result _ a b (omega arith) refl (took_one c.read.result a b c.read.ensures.meter)
