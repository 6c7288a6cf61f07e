-- Each cell is read and judged before the next.
use Rattle.std.proofs.Common.{rules, ℕ, ◌+◌, ◌*◌, ◌<◌, ◌≡◌, Ok, IsErr, Option, List, length, length-set, refl, sym, is_ok, IsTrue, ap, ◌∙◌, subst, arith}
use Rattle.rz_events.specs.declared.records.Head.{Head}
use Rattle.rz_cells_slots.specs.Shape.{picked}
use Rattle.rz_cells_slots.specs.Opening.{CellsFault, FitTo, KnowsFirsts, ReadTo, ReadsHead}
use Rattle.rz_disk.specs.Meter.{Took}
use Rattle.rz_disk.proofs.Passes.{took_then}
use Rattle.rz_cells_slots.proofs.Meters.{read_then, went, took_nothing, took_under, took_up_to}
use Rattle.rz_cells_slots.proofs.Firsts.{firsts_start, fits_next}
use Rattle.rz_cells_slots.proofs.Opened.{fine_of, fit_more, fit_none, read_more, wrong_fault}
use Rattle.rz_cells_slots.proofs.reading.read_heads.Goals as goal

pub loop-cell-init : goal.loop-cell-init
loop-cell-init g c = record {
  read = record { same = refl; within = λ image left. left; lasts = record { planned = omega arith; own = omega arith } };
  took = took_nothing (g.D.Disk.meter c.args.disk.now);
  count = c.requires.heads;
  firsts = firsts_start c.args.firsts.now c.args.heads.now c.requires.firsts;
  room = omega (arith, c.requires.spare);
  fits = fit_none c.args.geometry.now c.args.heads.now c.requires.empty;
  reads = λ told d lt. absurd (omega arith);
}

pub set-requires-clause-key : goal.set-requires-clause-key
set-requires-clause-key g c = fits_next c.args.geometry.now c.loop-cell.heads c.loop-cell.cell c.in_ok-head.head c.loop-cell.invariant.fits c.in_ok-admit.ensures.ok

pub returns-in_err-admit-clause-refused : goal.returns-in_err-admit-clause-refused
returns-in_err-admit-clause-refused g c =
    let s = c.args.geometry.now in
    let text = g.D.Disk.text c.args.disk.now in
    let i = c.loop-cell.invariant in
    let bad : IsTrue g.D.Disk.tells → CellsFault s text c.in_err-admit.field-0.0 = λ told.
    let reads = subst (λ (t : List ℕ). ReadsHead s (picked s t c.loop-cell.cell) c.in_ok-head.head) i.read.same (c.in_ok-head.ensures.reads told) in
    let w = c.in_err-admit.ensures.wrong in
    let is = subst (λ (o : Option Head). ReadsHead s (picked s text c.loop-cell.cell) o) w.1 reads in
    wrong_fault s text c.loop-cell.heads c.loop-cell.cell (fine_of s text c.loop-cell.heads c.loop-cell.cell i.fits (i.reads told)) (omega arith) w.0 is c.in_err-admit.field-0.0
    w.2 in
    search rules

pub returns-in_err-head-clause-took : goal.returns-in_err-head-clause-took
returns-in_err-head-clause-took g c =
    let failed : IsErr c.from_residual.result = search rules in
    took_up_to c.loop-cell.cell 1 (2 * c.args.geometry.now.cells) c.read_head.result c.from_residual.result (g.D.Disk.meter c.args.disk.now) (g.D.Disk.meter c.loop-cell.disk) (g.D.Disk.meter c.read_head.new.disk)
    (omega arith) failed c.loop-cell.invariant.took c.read_head.ensures.took

pub returns-in_err-admit-clause-took : goal.returns-in_err-admit-clause-took
returns-in_err-admit-clause-took g c =
    let failed : IsErr c.from_residual-in_err-admit.result = search rules in
    took_up_to c.loop-cell.cell 1 (2 * c.args.geometry.now.cells) c.read_head.result c.from_residual-in_err-admit.result (g.D.Disk.meter c.args.disk.now) (g.D.Disk.meter c.loop-cell.disk) (g.D.Disk.meter c.read_head.new.disk)
    (omega arith) failed c.loop-cell.invariant.took c.read_head.ensures.took

pub returns-clause-took : goal.returns-clause-took
returns-clause-took g c =
    let a = g.D.Disk.meter c.args.disk.now in
    let b = g.D.Disk.meter c.loop-cell.disk in
    let all : c.loop-cell.cell ≡ 2 * c.args.geometry.now.cells = omega arith in
    took_under (2 * c.args.geometry.now.cells) went (Ok tt) a b (λ _. refl) (subst (λ (k : ℕ). Took k went a b) all c.loop-cell.invariant.took)

pub loop-cell-preserved : goal.loop-cell-preserved
loop-cell-preserved g c =
    let s = c.args.geometry.now in
    let text = g.D.Disk.text c.args.disk.now in
    let i = c.loop-cell.invariant in
    let heads = c.loop-cell.heads in
    let k = c.loop-cell.cell in
    let in_range : c.loop-cell.cell < length c.loop-cell.heads = omega (arith, i.count) in
    record {
      read = read_then text (g.D.Disk.text c.loop-cell.disk) (g.D.Disk.text c.read_head.new.disk) (g.D.Disk.image c.args.disk.now) (g.D.Disk.image c.loop-cell.disk) (g.D.Disk.image c.read_head.new.disk) (g.D.Disk.meter c.args.disk.now) (g.D.Disk.meter c.loop-cell.disk) (g.D.Disk.meter c.read_head.new.disk) i.read c.read_head.ensures.read;
      took = took_then k 1 went went (g.D.Disk.meter c.args.disk.now) (g.D.Disk.meter c.loop-cell.disk) (g.D.Disk.meter c.read_head.new.disk) refl i.took (took_under 1 c.read_head.result went (g.D.Disk.meter c.loop-cell.disk) (g.D.Disk.meter c.read_head.new.disk) (λ _. ap is_ok c.in_ok-head.was) c.read_head.ensures.took);
      count = ap length c.set.ensures ∙ length-set heads k c.in_ok-head.head ∙ i.count;
      firsts = subst (λ (l : List (Option Head)). KnowsFirsts c.admit.new.firsts l (c.loop-cell.cell + 1)) (sym c.set.ensures) c.in_ok-admit.ensures.firsts;
      room = omega (arith, i.room, c.admit.ensures.spare);
      fits = subst (λ (l : List (Option Head)). FitTo c.args.geometry.now l (c.loop-cell.cell + 1)) (sym c.set.ensures)
          (fit_more s heads k c.in_ok-head.head in_range i.fits c.in_ok-admit.ensures.ok c.in_ok-head.ensures.valid);
      reads = λ told. subst (λ (l : List (Option Head)). ReadTo c.args.geometry.now (g.D.Disk.text c.args.disk.now) l (c.loop-cell.cell + 1)) (sym c.set.ensures)
          (read_more s heads k c.in_ok-head.head in_range text (i.reads told) (subst (λ (t : List ℕ). ReadsHead s (picked s t c.loop-cell.cell) c.in_ok-head.head) i.read.same (c.in_ok-head.ensures.reads told)));
    }
