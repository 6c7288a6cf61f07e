-- Each cell is read and its key noted before the next.
use Rattle.std.proofs.Common.{rules, ◌≡◌, ℕ, ◌<◌, Ok, is_ok, IsErr, Option, List, length, length-set, IsTrue, refl, ap, ◌∙◌, subst, arith}
use Rattle.rz_events.specs.declared.records.Head.{Head}
use Rattle.rz_cells_slots.specs.Opening.{IsFirst, ReadsHead}
use Rattle.rz_cells_slots.specs.Old.{old_slot}
use Rattle.rz_cells_slots.specs.OldOpening.{OldCellsFault}
use Rattle.rz_disk.specs.Meter.{Took}
use Rattle.rz_disk.proofs.Passes.{took_then}
use Rattle.rz_cells_slots.proofs.Meters.{read_then, went, took_under, took_up_to}
use Rattle.rz_cells_slots.proofs.OldOpened.{firsts_next, old_fine_of, old_fit_more, old_read_more, old_twice}
use Rattle.rz_cells_slots.proofs.old.read_old_heads.Goals as goal

pub returns-in_err-note_once-clause-refused : goal.returns-in_err-note_once-clause-refused
returns-in_err-note_once-clause-refused g c =
    let s = c.args.geometry.now in
    let text = g.D.Disk.text c.args.disk.now in
    let i = c.loop-cell.invariant in
    let bad : IsTrue g.D.Disk.tells → OldCellsFault s text c.in_err-note_once.field-0.0 = λ told.
    let reads = subst (λ (t : List ℕ). ReadsHead s (old_slot s t c.loop-cell.cell) c.in_ok-head.head) i.read.same (c.in_ok-head.ensures.reads told) in
    let w = c.in_err-note_once.ensures.twice in
    let is = subst (λ (o : Option Head). ReadsHead s (old_slot s text c.loop-cell.cell) o) w.2 reads in
    old_twice s text c.loop-cell.heads.items c.loop-cell.cell w.1 w.0 (old_fine_of s text c.loop-cell.heads.items c.loop-cell.cell i.fits (i.reads told)) (omega arith) is
    (subst (IsFirst c.loop-cell.heads.items c.loop-cell.cell w.0.key) w.3 (i.firsts w.0.key)) c.in_err-note_once.field-0.0 w.4 in
    search rules

pub returns-in_err-head-clause-took : goal.returns-in_err-head-clause-took
returns-in_err-head-clause-took g c =
    let failed : IsErr c.from_residual.result = search rules in
    took_up_to c.loop-cell.cell 1 c.args.geometry.now.cells c.read_old_head.result c.from_residual.result (g.D.Disk.meter c.args.disk.now) (g.D.Disk.meter c.loop-cell.disk) (g.D.Disk.meter c.read_old_head.new.disk)
    (omega arith) failed c.loop-cell.invariant.took c.read_old_head.ensures.took

pub returns-in_err-note_once-clause-took : goal.returns-in_err-note_once-clause-took
returns-in_err-note_once-clause-took g c =
    let failed : IsErr c.from_residual-in_err-note_once.result = search rules in
    took_up_to c.loop-cell.cell 1 c.args.geometry.now.cells c.read_old_head.result c.from_residual-in_err-note_once.result (g.D.Disk.meter c.args.disk.now) (g.D.Disk.meter c.loop-cell.disk) (g.D.Disk.meter c.read_old_head.new.disk)
    (omega arith) failed c.loop-cell.invariant.took c.read_old_head.ensures.took

pub returns-clause-took : goal.returns-clause-took
returns-clause-took g c =
    let a = g.D.Disk.meter c.args.disk.now in
    let b = g.D.Disk.meter c.loop-cell.disk in
    let all : c.loop-cell.cell ≡ c.args.geometry.now.cells = omega arith in
    took_under c.args.geometry.now.cells went (Ok tt) a b (λ _. refl) (subst (λ (k : ℕ). Took k went a b) all c.loop-cell.invariant.took)

pub loop-cell-preserved : goal.loop-cell-preserved
loop-cell-preserved g c =
    let s = c.args.geometry.now in
    let text = g.D.Disk.text c.args.disk.now in
    let i = c.loop-cell.invariant in
    let heads = c.loop-cell.heads.items in
    let k = c.loop-cell.cell in
    let head = c.in_ok-head.head in
    let noted = c.in_ok-note_once.ensures in
    let in_range : c.loop-cell.cell < length c.loop-cell.heads.items = omega (arith, i.count) in
    record {
      read = read_then text (g.D.Disk.text c.loop-cell.disk) (g.D.Disk.text c.read_old_head.new.disk) (g.D.Disk.image c.args.disk.now) (g.D.Disk.image c.loop-cell.disk) (g.D.Disk.image c.read_old_head.new.disk) (g.D.Disk.meter c.args.disk.now) (g.D.Disk.meter c.loop-cell.disk) (g.D.Disk.meter c.read_old_head.new.disk) i.read c.read_old_head.ensures.read;
      took = took_then k 1 went went (g.D.Disk.meter c.args.disk.now) (g.D.Disk.meter c.loop-cell.disk) (g.D.Disk.meter c.read_old_head.new.disk) refl i.took (took_under 1 c.read_old_head.result went (g.D.Disk.meter c.loop-cell.disk) (g.D.Disk.meter c.read_old_head.new.disk) (λ _. ap is_ok c.in_ok-head.was) c.read_old_head.ensures.took);
      count = length-set heads k head ∙ i.count;
      firsts = firsts_next c.loop-cell.firsts c.note_once.new.firsts heads k head in_range i.firsts noted.none noted.some;
      room = omega (arith, i.room, c.note_once.ensures.spare);
      fits = old_fit_more s heads k head in_range i.fits (λ h is. subst (IsFirst heads k h.key) (noted.some h is).0 (i.firsts h.key)) c.in_ok-head.ensures.valid;
      reads = λ told. old_read_more s heads k head in_range text (i.reads told) (subst (λ (t : List ℕ). ReadsHead s (old_slot s t c.loop-cell.cell) c.in_ok-head.head) i.read.same (c.in_ok-head.ensures.reads told));
    }
