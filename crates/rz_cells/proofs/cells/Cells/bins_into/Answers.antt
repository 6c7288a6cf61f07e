-- The record of the cell fits its slot.
use Rattle.std.proofs.Common.{rules, IsErr, OnErr, Result, Ok, Err, refl, ◌≡◌, ◌+◌, ◌*◌, ◌%◌, ℕ, Option, Some, List, ◌++◌, length, drop, get_or, sym, ◌∙◌, ap, subst, arith}
use Rattle.std.proofs.lemmas.List.{get_or_read, length-take-le, take_at, take-append-drop}
use Rattle.byteorder.specs.Endian.{IsRead, little_number}
use Rattle.mj_angles.specs.Layout.{bins_at_of}
use Rattle.rz_disk.specs.Images.{window}
use Rattle.rz_events.specs.declared.records.Head.{Head}
use Rattle.rz_record.specs.Record.{bins_of}
use Rattle.rz_cells_slots.specs.Held.{in_cell}
use Rattle.rz_cells_slots.proofs.Bins.{bins_here}
use Rattle.rz_cells_slots.proofs.Made.{has_head}
use Rattle.rz_cells_slots.proofs.Lifts.{fits_slot, heads_are, open_same}
use Rattle.rz_cells.proofs.cells.Cells.bins_into.Goals as goal

on_err : {T E : Type 0} {P : Type 0} (result : Result T E) → P → OnErr result P
on_err (Ok x) p = tt
on_err (Err e) p = p

count_is : (h : Head) (n : ℕ) → n ≡ bins_at_of h.layout h.position → n ≡ bins_of h
unfolding bins_of
count_is h n is = is

pub overflow_add-at : goal.overflow_add-at
overflow_add-at g c =
    omega (arith, c.slot_at.ensures.few)

pub slice_bounds-read_bins-end : goal.slice_bounds-read_bins-end
slice_bounds-read_bins-end g c =
    let s = c.args.self.now in
    let held = sym c.get.ensures ∙ c.in-Some.is in
    let count = count_is c.in-Some.head c.bins_at-count.result c.bins_at-count.ensures.value in
    let room = c.requires.held c.in-Some.head held in
    omega (arith, room, count)

pub slice_bounds-read_bins-end-2 : goal.slice_bounds-read_bins-end-2
slice_bounds-read_bins-end-2 g c =
    let s = c.args.self.now in
    let held = sym c.get.ensures ∙ c.in-Some.is in
    let count = count_is c.in-Some.head c.bins_at-count.result c.bins_at-count.ensures.value in
    let room = c.requires.held c.in-Some.head held in
    let taken = length-take-le c.bins_at-count.result c.args.out.now (omega (arith, room, count)) in
    sym taken

pub read_bins-requires-clause-range : goal.read_bins-requires-clause-range
read_bins-requires-clause-range g c =
    let s = c.args.self.now in
    let held = sym c.get.ensures ∙ c.in-Some.is in
    let count = count_is c.in-Some.head c.bins_at-count.result c.bins_at-count.ensures.value in
    let fits = fits_slot s.geometry c.in-Some.head (c.requires.open.valid c.args.cell c.in-Some.head held) (c.requires.open.layout c.args.cell c.in-Some.head held) in
    let room = c.requires.held c.in-Some.head held in
    let taken = length-take-le c.bins_at-count.result c.args.out.now (omega (arith, room, count)) in
    omega (arith, taken, count, fits, c.slot_at.ensures.within, c.requires.open.size)

pub read_bins-requires-clause-room : goal.read_bins-requires-clause-room
read_bins-requires-clause-room g c =
    let s = c.args.self.now in
    let held = sym c.get.ensures ∙ c.in-Some.is in
    let count = count_is c.in-Some.head c.bins_at-count.result c.bins_at-count.ensures.value in
    let fits = fits_slot s.geometry c.in-Some.head (c.requires.open.valid c.args.cell c.in-Some.head held) (c.requires.open.layout c.args.cell c.in-Some.head held) in
    let room = c.requires.held c.in-Some.head held in
    let taken = length-take-le c.bins_at-count.result c.args.out.now (omega (arith, room, count)) in
    omega (arith, taken, count, fits, s.buffer_fits)

pub returns-in_err-read_bins-clause-err : goal.returns-in_err-read_bins-clause-err
returns-in_err-read_bins-clause-err g c =
    let stays : c.read_bins.new.out ++ drop c.bins_at-count.result c.args.out.now ≡ c.args.out.now = ap (λ (l : List ℕ). l ++ drop c.bins_at-count.result c.args.out.now) c.in_err-read_bins.ensures.err ∙ take-append-drop c.bins_at-count.result c.args.out.now in
    on_err c.from_residual.result stays

pub returns-in_err-read_bins-clause-open : goal.returns-in_err-read_bins-clause-open
returns-in_err-read_bins-clause-open g c =
    let s = c.args.self.now in
    open_same g.D.Disk.tells (g.D.Disk.text s.disk) (g.D.Disk.text c.read_bins.new.disk) (g.D.Disk.image s.disk) (g.D.Disk.image c.read_bins.new.disk) s.geometry s.fence s.gates.items s.heads c.read_bins.ensures.text c.read_bins.ensures.within c.requires.open

pub returns-in_err-read_bins-clause-meter : goal.returns-in_err-read_bins-clause-meter
returns-in_err-read_bins-clause-meter g c =
    let m = c.in_err-read_bins.ensures.meter in
    let failed : IsErr c.from_residual.result = search rules in
    record { fuse = m.fuse; planned = m.planned; own = m.own; planned_only = m.planned_only; blown = λ _. failed; risen = λ _. m.risen refl; own_risen = λ _. m.own_risen refl }

pub returns-clause-count : goal.returns-clause-count
returns-clause-count g c h is =
    let s = c.args.self.now in
    let held = sym c.get.ensures ∙ c.in-Some.is in
    let count = count_is c.in-Some.head c.bins_at-count.result c.bins_at-count.ensures.value in
    let one : c.in-Some.head ≡ h = cc in
    count ∙ ap bins_of one

pub returns-clause-open : goal.returns-clause-open
returns-clause-open g c =
    let s = c.args.self.now in
    open_same g.D.Disk.tells (g.D.Disk.text s.disk) (g.D.Disk.text c.read_bins.new.disk) (g.D.Disk.image s.disk) (g.D.Disk.image c.read_bins.new.disk) s.geometry s.fence s.gates.items s.heads c.read_bins.ensures.text c.read_bins.ensures.within c.requires.open

pub returns-clause-bins : goal.returns-clause-bins
returns-clause-bins g c told cells r holds is =
    let s = c.args.self.now in
    let held = sym c.get.ensures ∙ c.in-Some.is in
    let count = count_is c.in-Some.head c.bins_at-count.result c.bins_at-count.ensures.value in
    let room = c.requires.held c.in-Some.head held in
    let taken = length-take-le c.bins_at-count.result c.args.out.now (omega (arith, room, count)) in
    let text = g.D.Disk.text s.disk in
    let dst = c.read_bins.new.out in
    let gate = c.index.result.now in
    let rest = drop c.bins_at-count.result c.args.out.now in
    let here : in_cell s.heads c.args.cell ≡ Some r.head = ap (λ (hs : List (Option Head)). in_cell hs c.args.cell) (sym (heads_are s.geometry s.fence text s.heads (c.requires.open.holds told) cells holds)) ∙ has_head cells c.args.cell r is in
    let one : c.in-Some.head ≡ r.head = cc in
    let long : length dst ≡ c.bins_at-count.result = c.read_bins.auto.out ∙ taken in
    let known : gate % 2 ≡ get_or text (64 + c.args.cell) 0 % 2 = ap (λ (b : ℕ). b % 2) (get_or_read s.gates.items c.args.cell gate (omega (arith, s.gates_fit)) c.index.ensures 0) ∙ c.requires.open.known told c.args.cell c.requires.cell in
    let read = subst (λ (at : ℕ). IsRead little_number 8 (window (at + 48) (8 * length dst) text) dst) c.slot_at.ensures.value (subst (λ (n : ℕ). IsRead little_number 8 (window (c.slot_at.result + 48) (8 * n) text) dst) (sym c.read_bins.auto.out) (c.in_ok-read_bins.ensures.gives told)) in
    take_at dst rest c.bins_at-count.result long ∙ bins_here s.geometry s.fence text cells c.args.cell gate dst r holds c.requires.cell known is (long ∙ count ∙ ap bins_of one) read
