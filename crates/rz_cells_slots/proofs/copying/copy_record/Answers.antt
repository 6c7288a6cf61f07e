-- The record that was read is spelled in its slot.
use Rattle.std.proofs.Common.{inl, inr, refl, ◌≡◌, ℕ, ◌+◌, ◌*◌, ◌≤◌, ◌++◌, Some, is_ok, length, take, drop, sym, ◌∙◌, ap, subst, arith, length-append}
use Rattle.std.proofs.lemmas.List.{length-take-le, take_at}
use Rattle.byteorder.specs.Endian.{IsRead, little_number}
use Rattle.mj_angles.specs.Layout.{bins_at_of}
use Rattle.rz_disk.specs.Images.{window, Written}
use Rattle.rz_disk.proofs.Passes.{took_failed, took_one}
use Rattle.rz_events.specs.declared.records.Head.{Head}
use Rattle.rz_record.specs.Record.{bins_of}
use Rattle.rz_record.specs.Slot.{Rec, Spells}
use Rattle.rz_cells_slots.specs.Shape.{slot_of}
use Rattle.rz_cells_slots.proofs.Lifts.{fits_slot, spelled}
use Rattle.rz_cells_slots.proofs.Copies.{old_bins_here, shut_kept}
use Rattle.rz_cells_slots.proofs.Counts.{took_none}
use Rattle.rz_cells_slots.proofs.Meters.{lasts_same, lasts_one, read_one, took_under}
use Rattle.rz_cells_slots.proofs.copying.copy_record.Goals as goal

count_is : (h : Head) (n : ℕ) → n ≡ bins_at_of h.layout h.position → n ≡ bins_of h
unfolding bins_of
count_is h n is = is

fewer : (n count bins slot : ℕ) → count ≡ n → 48 + 8 * n ≤ slot → 48 + 8 * bins ≡ slot → count ≤ bins
fewer n count bins slot is fits room = omega (arith, is, fits, room)

pub slice_bounds-read_bins-end : goal.slice_bounds-read_bins-end
slice_bounds-read_bins-end g c =
    let h = c.args.head.now in
    fewer (bins_of h) c.bins_at-count.result (length c.args.bins.now) (slot_of c.args.geometry.now) (count_is h c.bins_at-count.result c.bins_at-count.ensures.value)
    (fits_slot c.args.geometry.now h c.requires.valid c.requires.layout) c.requires.bins

pub slice_bounds-read_bins-end-2 : goal.slice_bounds-read_bins-end-2
slice_bounds-read_bins-end-2 g c =
    let h = c.args.head.now in
    let few = fewer (bins_of h) c.bins_at-count.result (length c.args.bins.now) (slot_of c.args.geometry.now) (count_is h c.bins_at-count.result c.bins_at-count.ensures.value)
    (fits_slot c.args.geometry.now h c.requires.valid c.requires.layout) c.requires.bins in
    sym (length-take-le c.bins_at-count.result c.args.bins.now few)

pub slice_bounds-spell-end : goal.slice_bounds-spell-end
slice_bounds-spell-end g c =
    let h = c.args.head.now in
    let few = fewer (bins_of h) c.bins_at-count.result (length c.args.bins.now) (slot_of c.args.geometry.now) (count_is h c.bins_at-count.result c.bins_at-count.ensures.value)
    (fits_slot c.args.geometry.now h c.requires.valid c.requires.layout) c.requires.bins in
    let dst = c.read_bins.new.out in
    let rest = drop c.bins_at-count.result c.args.bins.now in
    omega (arith, c.read_bins.auto.out, length-take-le c.bins_at-count.result c.args.bins.now few, length-append dst rest)

pub slice_bounds-spell-end-2 : goal.slice_bounds-spell-end-2
slice_bounds-spell-end-2 g c =
    let h = c.args.head.now in
    let few = fewer (bins_of h) c.bins_at-count.result (length c.args.bins.now) (slot_of c.args.geometry.now) (count_is h c.bins_at-count.result c.bins_at-count.ensures.value)
    (fits_slot c.args.geometry.now h c.requires.valid c.requires.layout) c.requires.bins in
    let dst = c.read_bins.new.out in
    let rest = drop c.bins_at-count.result c.args.bins.now in
    let long : length dst ≡ c.bins_at-count.result = c.read_bins.auto.out ∙ length-take-le c.bins_at-count.result c.args.bins.now few in
    sym (ap length (take_at dst rest c.bins_at-count.result long) ∙ long)

pub spell-size-requires-clause-bins : goal.spell-size-requires-clause-bins
spell-size-requires-clause-bins g c =
    let h = c.args.head.now in
    let count = count_is h c.bins_at-count.result c.bins_at-count.ensures.value in
    let few = fewer (bins_of h) c.bins_at-count.result (length c.args.bins.now) (slot_of c.args.geometry.now) count (fits_slot c.args.geometry.now h c.requires.valid c.requires.layout) c.requires.bins in
    let dst = c.read_bins.new.out in
    let rest = drop c.bins_at-count.result c.args.bins.now in
    let long : length dst ≡ c.bins_at-count.result = c.read_bins.auto.out ∙ length-take-le c.bins_at-count.result c.args.bins.now few in
    ap length (take_at dst rest c.bins_at-count.result long) ∙ long ∙ count

pub spell-size-requires-clause-room : goal.spell-size-requires-clause-room
spell-size-requires-clause-room g c =
    let fits = fits_slot c.args.geometry.now c.args.head.now c.requires.valid c.requires.layout in
    omega (arith, fits, c.requires.buffer, c.read_bins.ensures.buffer)

pub returns-in_default-write_at-clause-shut : goal.returns-in_default-write_at-clause-shut
returns-in_default-write_at-clause-shut g c t left =
    let d = c.write_at.ensures.crash t left in
    shut_kept c.slot_at.result _ d.0 t (omega (arith, c.slot_at.ensures.value)) d.2 (c.requires.shut d.0 d.1)

pub returns-clause-copied : goal.returns-clause-copied
returns-clause-copied g c told known r reads same =
    let s = c.args.geometry.now in
    let text = g.D.Disk.text c.args.old.now in
    let h = c.args.head.now in
    let count = count_is h c.bins_at-count.result c.bins_at-count.ensures.value in
    let fits = fits_slot s h c.requires.valid c.requires.layout in
    let few = fewer (bins_of h) c.bins_at-count.result (length c.args.bins.now) (slot_of s) count fits c.requires.bins in
    let dst = c.read_bins.new.out in
    let rest = drop c.bins_at-count.result c.args.bins.now in
    let long : length dst ≡ c.bins_at-count.result = c.read_bins.auto.out ∙ length-take-le c.bins_at-count.result c.args.bins.now few in
    let front : take c.bins_at-count.result (dst ++ rest) ≡ dst = take_at dst rest c.bins_at-count.result long in
    let read = subst (λ (at : ℕ). IsRead little_number 8 (window (at + 40) (8 * length dst) text) dst) c.old_slot_at.ensures.value
    (subst (λ (n : ℕ). IsRead little_number 8 (window (c.old_slot_at.result + 40) (8 * n) text) dst) (sym c.read_bins.auto.out) (c.in-Ok.ensures.gives told)) in
    let bins : dst ≡ r.bins = old_bins_here s text c.args.cell c.args.gate dst r c.requires.old_size c.requires.cell known reads (long ∙ count ∙ ap bins_of (sym same)) read in
    let mine : Rec = record { head = c.args.head.now; bins = take c.bins_at-count.result (dst ++ rest) } in
    let one : mine ≡ r = λ i. record { head = (sym same) i; bins = (front ∙ bins) i } in
    let bytes = c.deref.result.now in
    let size = c.spell-size.result in
    let spells = spelled s mine c.spell-size.result c.spell-size.new.buffer.items c.deref.result.now c.requires.valid c.requires.layout c.spell-size.ensures.size (c.spell-size.ensures.length ∙ c.read_bins.ensures.buffer ∙ c.requires.buffer) c.spell-size.ensures.record c.deref.ensures.value in
    let short : length (take c.spell-size.result c.deref.result.now) ≡ c.spell-size.result = length-take-le c.spell-size.result c.deref.result.now
    (omega (arith, fits, c.spell-size.ensures.size, ap length c.deref.ensures.value, c.spell-size.ensures.length, c.read_bins.ensures.buffer, c.requires.buffer)) in (
      take c.spell-size.result c.deref.result.now,
      omega (arith, short, fits, c.spell-size.ensures.size),
      subst (λ (q : Rec). Spells (slot_of s) (take c.spell-size.result c.deref.result.now) (Some q)) one spells,
      subst (λ (at : ℕ). Written at (take c.spell-size.result c.deref.result.now) (g.D.Disk.text c.args.new.now) (g.D.Disk.text c.write_at.new.self)) c.slot_at.ensures.value (c.in-Ok-write_at.ensures.written told),
    )

pub returns-in_default-clause-copied : goal.returns-in_default-clause-copied
returns-in_default-clause-copied g c = tt

pub returns-in_default-clause-size : goal.returns-in_default-clause-size
returns-in_default-clause-size g c = refl

pub returns-in_default-clause-shut : goal.returns-in_default-clause-shut
returns-in_default-clause-shut g c = c.requires.shut

pub returns-in_default-clause-buffer : goal.returns-in_default-clause-buffer
returns-in_default-clause-buffer g c = c.read_bins.ensures.buffer

pub returns-in_default-clause-read : goal.returns-in_default-clause-read
returns-in_default-clause-read g c = read_one c.read_bins.result (g.D.Disk.text c.args.old.now) (g.D.Disk.text c.read_bins.new.disk) (g.D.Disk.image c.args.old.now) (g.D.Disk.image c.read_bins.new.disk) (g.D.Disk.meter c.args.old.now) (g.D.Disk.meter c.read_bins.new.disk) c.read_bins.ensures.text c.read_bins.ensures.within c.read_bins.ensures.meter

pub returns-in_default-clause-meter : goal.returns-in_default-clause-meter
returns-in_default-clause-meter g c = lasts_same (g.D.Disk.meter c.args.new.now)

pub returns-in_default-clause-faults : goal.returns-in_default-clause-faults
returns-in_default-clause-faults g c = inl refl

pub returns-in_default-clause-old_risen : goal.returns-in_default-clause-old_risen
returns-in_default-clause-old_risen g c is = c.in_default.ensures.meter.risen refl

pub returns-in_default-clause-risen : goal.returns-in_default-clause-risen
returns-in_default-clause-risen g c is = absurd (cc)

pub returns-in_default-write_at-clause-copied : goal.returns-in_default-write_at-clause-copied
returns-in_default-write_at-clause-copied g c = tt

pub returns-in_default-write_at-clause-size : goal.returns-in_default-write_at-clause-size
returns-in_default-write_at-clause-size g c = c.write_at.ensures.size

pub returns-in_default-write_at-clause-buffer : goal.returns-in_default-write_at-clause-buffer
returns-in_default-write_at-clause-buffer g c = c.spell-size.ensures.length ∙ c.read_bins.ensures.buffer

pub returns-in_default-write_at-clause-read : goal.returns-in_default-write_at-clause-read
returns-in_default-write_at-clause-read g c = read_one c.read_bins.result (g.D.Disk.text c.args.old.now) (g.D.Disk.text c.read_bins.new.disk) (g.D.Disk.image c.args.old.now) (g.D.Disk.image c.read_bins.new.disk) (g.D.Disk.meter c.args.old.now) (g.D.Disk.meter c.read_bins.new.disk) c.read_bins.ensures.text c.read_bins.ensures.within c.read_bins.ensures.meter

pub returns-in_default-write_at-clause-meter : goal.returns-in_default-write_at-clause-meter
returns-in_default-write_at-clause-meter g c = lasts_one c.write_at.result (g.D.Disk.meter c.args.new.now) (g.D.Disk.meter c.write_at.new.self) c.write_at.ensures.meter

pub returns-in_default-write_at-clause-faults : goal.returns-in_default-write_at-clause-faults
returns-in_default-write_at-clause-faults g c = inr refl

pub returns-in_default-write_at-clause-old_risen : goal.returns-in_default-write_at-clause-old_risen
returns-in_default-write_at-clause-old_risen g c is = absurd (cc)

pub returns-in_default-write_at-clause-risen : goal.returns-in_default-write_at-clause-risen
returns-in_default-write_at-clause-risen g c is = c.in_default-write_at.ensures.meter.risen refl

pub returns-clause-size : goal.returns-clause-size
returns-clause-size g c = c.write_at.ensures.size

pub returns-clause-buffer : goal.returns-clause-buffer
returns-clause-buffer g c = c.spell-size.ensures.length ∙ c.read_bins.ensures.buffer

pub returns-clause-shut : goal.returns-clause-shut
returns-clause-shut g c t left =
    let d = c.write_at.ensures.crash t left in
    shut_kept c.slot_at.result _ d.0 t (omega (arith, c.slot_at.ensures.value)) d.2 (c.requires.shut d.0 d.1)

pub returns-clause-read : goal.returns-clause-read
returns-clause-read g c = read_one c.read_bins.result (g.D.Disk.text c.args.old.now) (g.D.Disk.text c.read_bins.new.disk) (g.D.Disk.image c.args.old.now) (g.D.Disk.image c.read_bins.new.disk) (g.D.Disk.meter c.args.old.now) (g.D.Disk.meter c.read_bins.new.disk) c.read_bins.ensures.text c.read_bins.ensures.within c.read_bins.ensures.meter

pub returns-clause-meter : goal.returns-clause-meter
returns-clause-meter g c = lasts_one c.write_at.result (g.D.Disk.meter c.args.new.now) (g.D.Disk.meter c.write_at.new.self) c.write_at.ensures.meter

pub returns-clause-faults : goal.returns-clause-faults
returns-clause-faults g c = tt

pub returns-clause-old_risen : goal.returns-clause-old_risen
returns-clause-old_risen g c is = absurd (cc)

pub returns-clause-risen : goal.returns-clause-risen
returns-clause-risen g c is = absurd (cc)

pub returns-in_default-clause-old_took : goal.returns-in_default-clause-old_took
returns-in_default-clause-old_took g c = took_failed 1 1 c.read_bins.result _ (g.D.Disk.meter c.args.old.now) (g.D.Disk.meter c.read_bins.new.disk) (omega arith) refl (took_one c.read_bins.result (g.D.Disk.meter c.args.old.now) (g.D.Disk.meter c.read_bins.new.disk) c.read_bins.ensures.meter)

pub returns-in_default-clause-old_own_risen : goal.returns-in_default-clause-old_own_risen
returns-in_default-clause-old_own_risen g c is has = c.in_default.ensures.meter.own_risen refl has

pub returns-in_default-clause-took : goal.returns-in_default-clause-took
returns-in_default-clause-took g c = took_none 1 _ (g.D.Disk.meter c.args.new.now) refl

pub returns-in_default-clause-own_risen : goal.returns-in_default-clause-own_risen
returns-in_default-clause-own_risen g c is has = absurd (cc)

pub returns-in_default-write_at-clause-old_took : goal.returns-in_default-write_at-clause-old_took
returns-in_default-write_at-clause-old_took g c = took_failed 1 1 c.read_bins.result _ (g.D.Disk.meter c.args.old.now) (g.D.Disk.meter c.read_bins.new.disk) (omega arith) refl (took_one c.read_bins.result (g.D.Disk.meter c.args.old.now) (g.D.Disk.meter c.read_bins.new.disk) c.read_bins.ensures.meter)

pub returns-in_default-write_at-clause-old_own_risen : goal.returns-in_default-write_at-clause-old_own_risen
returns-in_default-write_at-clause-old_own_risen g c is has = absurd (cc)

pub returns-in_default-write_at-clause-took : goal.returns-in_default-write_at-clause-took
returns-in_default-write_at-clause-took g c = took_failed 1 1 c.write_at.result _ (g.D.Disk.meter c.args.new.now) (g.D.Disk.meter c.write_at.new.self) (omega arith) refl (took_one c.write_at.result (g.D.Disk.meter c.args.new.now) (g.D.Disk.meter c.write_at.new.self) c.write_at.ensures.meter)

pub returns-in_default-write_at-clause-own_risen : goal.returns-in_default-write_at-clause-own_risen
returns-in_default-write_at-clause-own_risen g c is has = c.in_default-write_at.ensures.meter.own_risen refl has

pub returns-clause-old_took : goal.returns-clause-old_took
returns-clause-old_took g c = took_under 1 c.read_bins.result _ (g.D.Disk.meter c.args.old.now) (g.D.Disk.meter c.read_bins.new.disk) (λ _. ap is_ok c.in-Ok.is) (took_one c.read_bins.result (g.D.Disk.meter c.args.old.now) (g.D.Disk.meter c.read_bins.new.disk) c.read_bins.ensures.meter)

pub returns-clause-old_own_risen : goal.returns-clause-old_own_risen
returns-clause-old_own_risen g c is has = absurd (cc)

pub returns-clause-took : goal.returns-clause-took
returns-clause-took g c = took_under 1 c.write_at.result _ (g.D.Disk.meter c.args.new.now) (g.D.Disk.meter c.write_at.new.self) (λ _. ap is_ok c.in-Ok-write_at.is) (took_one c.write_at.result (g.D.Disk.meter c.args.new.now) (g.D.Disk.meter c.write_at.new.self) c.write_at.ensures.meter)

pub returns-clause-own_risen : goal.returns-clause-own_risen
returns-clause-own_risen g c is has = absurd (cc)
