-- Each record is copied into its pair, and an empty cell leaves its pair empty.
use Rattle.std.proofs.Common.{rules, ◌≡◌, ℕ, ◌+◌, ◌*◌, ◌%◌, ◌<◌, Option, Some, None, is_ok, IsErr, List, length, take, slice_index, refl, sym, ◌∙◌, ap, subst, arith}
use Rattle.std.proofs.lemmas.List.{get_or_read, take_all}
use Rattle.rz_disk.specs.Meter.{Took, Lasts, Rises}
use Rattle.rz_events.specs.declared.records.Head.{Head}
use Rattle.rz_record.specs.Slot.{Reads}
use Rattle.rz_cells_slots.specs.Held.{count_held, in_cell}
use Rattle.rz_cells_slots.specs.Shape.{gate_at}
use Rattle.rz_cells_slots.specs.Opening.{OnlyRead}
use Rattle.rz_cells_slots.specs.Old.{old_slot}
use Rattle.rz_cells_slots.specs.Copied.{AllShut, CopiesTo}
use Rattle.rz_cells_slots.proofs.Copies.{copies_none, copies_put}
use Rattle.rz_cells_slots.proofs.Counts.{held_more, held_next, held_same, took_cell}
use Rattle.rz_cells_slots.proofs.Made.{stands_there}
use Rattle.rz_cells_slots.proofs.Meters.{went, lasts_then, own_after, passes_left, read_then, took_under, took_up_to}
use Rattle.rz_cells_slots.proofs.copying.copy_records.Goals.{in-Some+in_ok-copy_record, in_default}
use Rattle.rz_cells_slots.proofs.copying.copy_records.Goals as goal

pub copy_record-requires-clause-layout : goal.copy_record-requires-clause-layout
copy_record-requires-clause-layout g c =
    let heads = c.args.cells.now.heads.items in
    c.requires.layout c.loop-cell.cell c.in-Some.head
    (stands_there heads c.loop-cell.cell c.args.geometry.now.cells c.index.result.now c.in-Some.head c.loop-cell-test.true c.requires.heads c.index.ensures c.in-Some.is)

pub loop-cell-preserved : goal.loop-cell-preserved
loop-cell-preserved g c =
    let s = c.args.geometry.now in
    let fence = c.args.cells.now.fence in
    let heads = c.args.cells.now.heads.items in
    let gates = c.args.cells.now.gates.items in
    let k = c.loop-cell.cell in
    let i = c.loop-cell.invariant in
    let o = c.args.old.now in
    let n = c.args.new.now in
    let text = g.D.Disk.text c.args.old.now in
    let lt = c.loop-cell-test.true in
    let in_range : c.loop-cell.cell < length c.args.cells.now.heads.items = omega (arith, lt, c.requires.heads) in
    elim c.match-index.branch [
      | in-Some+in_ok-copy_record w ↦
          let e = w.copy_record.ensures in
          let head = w.in-Some.head in
          let here : in_cell c.args.cells.now.heads.items c.loop-cell.cell ≡ Some w.in-Some.head =
          stands_there heads k s.cells c.index.result.now w.in-Some.head lt c.requires.heads c.index.ensures w.in-Some.is in
          record {
            read = subst (λ (d : g.row.D.Denot). OnlyRead (g.D.Disk.text c.args.old.now) (g.D.Disk.text d) (g.D.Disk.image c.args.old.now) (g.D.Disk.image d) (g.D.Disk.meter c.args.old.now) (g.D.Disk.meter d)) (sym w.old-is)
                (read_then (g.D.Disk.text o) (g.D.Disk.text c.loop-cell.old) (g.D.Disk.text w.copy_record.new.old) (g.D.Disk.image o) (g.D.Disk.image c.loop-cell.old) (g.D.Disk.image w.copy_record.new.old) (g.D.Disk.meter o) (g.D.Disk.meter c.loop-cell.old) (g.D.Disk.meter w.copy_record.new.old) i.read e.read);
            meter = subst (λ (d : g.row.D.Denot). Lasts (g.D.Disk.meter c.args.new.now) (g.D.Disk.meter d)) (sym w.new-is)
                (lasts_then (g.D.Disk.meter n) (g.D.Disk.meter c.loop-cell.new) (g.D.Disk.meter w.copy_record.new.new) i.meter e.meter);
            old_took = subst (λ (d : g.row.D.Denot). Took (count_held (take (c.loop-cell.cell + 1) c.args.cells.now.heads.items)) went (g.D.Disk.meter c.args.old.now) (g.D.Disk.meter d)) (sym w.old-is)
                (took_cell (count_held (take k heads)) (count_held (take (k + 1) heads)) w.copy_record.result (g.D.Disk.meter o) (g.D.Disk.meter c.loop-cell.old) (g.D.Disk.meter w.copy_record.new.old) (held_more heads k head in_range here) (ap is_ok w.in_ok-copy_record.was) i.old_took e.old_took);
            took = subst (λ (d : g.row.D.Denot). Took (count_held (take (c.loop-cell.cell + 1) c.args.cells.now.heads.items)) went (g.D.Disk.meter c.args.new.now) (g.D.Disk.meter d)) (sym w.new-is)
                (took_cell (count_held (take k heads)) (count_held (take (k + 1) heads)) w.copy_record.result (g.D.Disk.meter n) (g.D.Disk.meter c.loop-cell.new) (g.D.Disk.meter w.copy_record.new.new) (held_more heads k head in_range here) (ap is_ok w.in_ok-copy_record.was) i.took e.took);
            size = ap (λ (d : g.row.D.Denot). length (g.D.Disk.text d)) w.new-is ∙ e.size ∙ i.size;
            shut = subst (λ (d : g.row.D.Denot). AllShut (g.D.Disk.image d)) (sym w.new-is) e.shut;
            buffer = ap (λ b. length b.items) w.buffer-is ∙ e.buffer ∙ i.buffer;
            bins = ap (λ (m : ℕ). 48 + 8 * m) c.match-index.auto.bins ∙ i.bins;
            copies = λ told.
                let gate = w.index-gate.result.now in
                let known : w.index-gate.result.now % 2 ≡ slice_index (g.D.Disk.text c.loop-cell.old) (gate_at c.loop-cell.cell) % 2 =
                ap (λ (b : ℕ). b % 2) (get_or_read gates k gate (omega (arith, lt, c.requires.gates)) w.index-gate.ensures 0) ∙ c.requires.known told k lt
                ∙ ap (λ (t : List ℕ). slice_index t (gate_at c.loop-cell.cell) % 2) (sym i.read.same) in
                subst (λ (d : g.row.D.Denot). CopiesTo c.args.geometry.now c.args.cells.now.fence (g.D.Disk.text c.args.old.now) c.args.cells.now.heads.items (g.D.Disk.text d) (c.loop-cell.cell + 1)) (sym w.new-is)
                (copies_put s fence text heads (g.D.Disk.text c.loop-cell.new) k lt (i.copies told) w.in-Some.head here (g.D.Disk.text w.copy_record.new.new)
                (λ r reads same. w.in_ok-copy_record.ensures.copied told known r (subst (λ (t : List ℕ). Reads (old_slot c.args.geometry.now t c.loop-cell.cell) (Some r)) (sym i.read.same) reads) same));
          }
      | in_default w ↦
          let none : in_cell c.args.cells.now.heads.items c.loop-cell.cell ≡ None =
          sym (get_or_read heads k c.index.result.now (omega (arith, lt, c.requires.heads)) c.index.ensures None) ∙ w.in_default.is in
          record {
            read = subst (λ (d : g.row.D.Denot). OnlyRead (g.D.Disk.text c.args.old.now) (g.D.Disk.text d) (g.D.Disk.image c.args.old.now) (g.D.Disk.image d) (g.D.Disk.meter c.args.old.now) (g.D.Disk.meter d)) (sym w.old-is) i.read;
            meter = subst (λ (d : g.row.D.Denot). Lasts (g.D.Disk.meter c.args.new.now) (g.D.Disk.meter d)) (sym w.new-is) i.meter;
            old_took = subst (λ (d : g.row.D.Denot). Took (count_held (take (c.loop-cell.cell + 1) c.args.cells.now.heads.items)) went (g.D.Disk.meter c.args.old.now) (g.D.Disk.meter d)) (sym w.old-is)
                (subst (λ (m : ℕ). Took m went (g.D.Disk.meter c.args.old.now) (g.D.Disk.meter c.loop-cell.old)) (sym (held_same heads k in_range none)) i.old_took);
            took = subst (λ (d : g.row.D.Denot). Took (count_held (take (c.loop-cell.cell + 1) c.args.cells.now.heads.items)) went (g.D.Disk.meter c.args.new.now) (g.D.Disk.meter d)) (sym w.new-is)
                (subst (λ (m : ℕ). Took m went (g.D.Disk.meter c.args.new.now) (g.D.Disk.meter c.loop-cell.new)) (sym (held_same heads k in_range none)) i.took);
            size = ap (λ (d : g.row.D.Denot). length (g.D.Disk.text d)) w.new-is ∙ i.size;
            shut = subst (λ (d : g.row.D.Denot). AllShut (g.D.Disk.image d)) (sym w.new-is) i.shut;
            buffer = ap (λ b. length b.items) w.buffer-is ∙ i.buffer;
            bins = ap (λ (m : ℕ). 48 + 8 * m) c.match-index.auto.bins ∙ i.bins;
            copies = λ told. subst (λ (d : g.row.D.Denot). CopiesTo c.args.geometry.now c.args.cells.now.fence (g.D.Disk.text c.args.old.now) c.args.cells.now.heads.items (g.D.Disk.text d) (c.loop-cell.cell + 1)) (sym w.new-is)
                (copies_none s fence text heads (g.D.Disk.text c.loop-cell.new) k lt (i.copies told) none);
          }
    ]

pub returns-clause-copies : goal.returns-clause-copies
returns-clause-copies g c told =
    let all : c.loop-cell.cell ≡ c.args.geometry.now.cells = omega (arith, c.loop-cell-test.false, c.loop-cell.auto.cell-end) in
    subst (λ (m : ℕ). CopiesTo c.args.geometry.now c.args.cells.now.fence (g.D.Disk.text c.args.old.now) c.args.cells.now.heads.items (g.D.Disk.text c.loop-cell.new) m) all (c.loop-cell.invariant.copies told)

pub returns-in_err-copy_record-clause-old_took : goal.returns-in_err-copy_record-clause-old_took
returns-in_err-copy_record-clause-old_took g c =
    let heads = c.args.cells.now.heads.items in
    let k = c.loop-cell.cell in
    let failed : IsErr c.from_residual.result = search rules in
    let here : in_cell c.args.cells.now.heads.items c.loop-cell.cell ≡ Some c.in-Some.head =
    stands_there heads k c.args.geometry.now.cells c.index.result.now c.in-Some.head c.loop-cell-test.true c.requires.heads c.index.ensures c.in-Some.is in
    took_up_to (count_held (take k heads)) 1 (count_held heads) c.copy_record.result c.from_residual.result (g.D.Disk.meter c.args.old.now) (g.D.Disk.meter c.loop-cell.old) (g.D.Disk.meter c.copy_record.new.old)
    (held_next heads k c.in-Some.head (omega (arith, c.loop-cell-test.true, c.requires.heads)) here) failed c.loop-cell.invariant.old_took c.copy_record.ensures.old_took

pub returns-in_err-copy_record-clause-old_own_risen : goal.returns-in_err-copy_record-clause-old_own_risen
returns-in_err-copy_record-clause-old_own_risen g c is has =
    let heads = c.args.cells.now.heads.items in
    let k = c.loop-cell.cell in
    let a = g.D.Disk.meter c.args.old.now in
    let b = g.D.Disk.meter c.loop-cell.old in
    let d = g.D.Disk.meter c.copy_record.new.old in
    let here : in_cell c.args.cells.now.heads.items c.loop-cell.cell ≡ Some c.in-Some.head =
    stands_there heads k c.args.geometry.now.cells c.index.result.now c.in-Some.head c.loop-cell-test.true c.requires.heads c.index.ensures c.in-Some.is in
    let left = passes_left (count_held (take k heads)) 1 (count_held heads) a b (held_next heads k c.in-Some.head (omega (arith, c.loop-cell-test.true, c.requires.heads)) here) c.loop-cell.invariant.old_took has in
    let rose : Rises b.own d.own = search rules in
    own_after a b d c.loop-cell.invariant.read.lasts rose

pub returns-clause-old_took : goal.returns-clause-old_took
returns-clause-old_took g c =
    let heads = c.args.cells.now.heads.items in
    let a = g.D.Disk.meter c.args.old.now in
    let b = g.D.Disk.meter c.loop-cell.old in
    let all : take c.loop-cell.cell c.args.cells.now.heads.items ≡ c.args.cells.now.heads.items = take_all c.loop-cell.cell heads (omega (arith, c.requires.heads, c.loop-cell-test.false)) in
    took_under (count_held heads) went _ a b (λ _. refl) (subst (λ (hs : List (Option Head)). Took (count_held hs) went (g.D.Disk.meter c.args.old.now) (g.D.Disk.meter c.loop-cell.old)) all c.loop-cell.invariant.old_took)

pub returns-in_err-copy_record-clause-took : goal.returns-in_err-copy_record-clause-took
returns-in_err-copy_record-clause-took g c =
    let heads = c.args.cells.now.heads.items in
    let k = c.loop-cell.cell in
    let failed : IsErr c.from_residual.result = search rules in
    let here : in_cell c.args.cells.now.heads.items c.loop-cell.cell ≡ Some c.in-Some.head =
    stands_there heads k c.args.geometry.now.cells c.index.result.now c.in-Some.head c.loop-cell-test.true c.requires.heads c.index.ensures c.in-Some.is in
    took_up_to (count_held (take k heads)) 1 (count_held heads) c.copy_record.result c.from_residual.result (g.D.Disk.meter c.args.new.now) (g.D.Disk.meter c.loop-cell.new) (g.D.Disk.meter c.copy_record.new.new)
    (held_next heads k c.in-Some.head (omega (arith, c.loop-cell-test.true, c.requires.heads)) here) failed c.loop-cell.invariant.took c.copy_record.ensures.took

pub returns-in_err-copy_record-clause-own_risen : goal.returns-in_err-copy_record-clause-own_risen
returns-in_err-copy_record-clause-own_risen g c is has =
    let heads = c.args.cells.now.heads.items in
    let k = c.loop-cell.cell in
    let a = g.D.Disk.meter c.args.new.now in
    let b = g.D.Disk.meter c.loop-cell.new in
    let d = g.D.Disk.meter c.copy_record.new.new in
    let here : in_cell c.args.cells.now.heads.items c.loop-cell.cell ≡ Some c.in-Some.head =
    stands_there heads k c.args.geometry.now.cells c.index.result.now c.in-Some.head c.loop-cell-test.true c.requires.heads c.index.ensures c.in-Some.is in
    let left = passes_left (count_held (take k heads)) 1 (count_held heads) a b (held_next heads k c.in-Some.head (omega (arith, c.loop-cell-test.true, c.requires.heads)) here) c.loop-cell.invariant.took has in
    let rose : Rises b.own d.own = search rules in
    own_after a b d c.loop-cell.invariant.meter rose

pub returns-clause-took : goal.returns-clause-took
returns-clause-took g c =
    let heads = c.args.cells.now.heads.items in
    let a = g.D.Disk.meter c.args.new.now in
    let b = g.D.Disk.meter c.loop-cell.new in
    let all : take c.loop-cell.cell c.args.cells.now.heads.items ≡ c.args.cells.now.heads.items = take_all c.loop-cell.cell heads (omega (arith, c.requires.heads, c.loop-cell-test.false)) in
    took_under (count_held heads) went _ a b (λ _. refl) (subst (λ (hs : List (Option Head)). Took (count_held hs) went (g.D.Disk.meter c.args.new.now) (g.D.Disk.meter c.loop-cell.new)) all c.loop-cell.invariant.took)
