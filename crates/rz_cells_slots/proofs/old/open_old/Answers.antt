-- What was read of the gates and the heads is what the text has.
use Rattle.std.proofs.Common.{rules, inl, refl, ◌≡◌, ℕ, Err, is_ok, IsErr, List, length, sym, ◌∙◌, ap, subst, arith}
use Rattle.std.proofs.lemmas.List.{with_items_is}
use Rattle.rz_disk.specs.Images.{window}
use Rattle.rz_disk.specs.Meter.{Rises}
use Rattle.rz_disk.proofs.Passes.{took_failed, took_one, took_then}
use Rattle.rz_cells_slots.specs.declared.geometry.DiskVersion.TheVariants.{One}
use Rattle.rz_cells_slots.specs.Stands.{IsFormatted, IsHeaderOf}
use Rattle.rz_cells_slots.specs.Old.{old_disk_bytes}
use Rattle.rz_cells_slots.specs.OldOpening.{OldCellsFault, OldKnows, old_opening_calls}
use Rattle.rz_cells_slots.proofs.Based.{old_gates_read}
use Rattle.rz_cells_slots.proofs.Opened.{agrees_of}
use Rattle.rz_cells_slots.proofs.OldOpened.{old_cells_refuse}
use Rattle.rz_cells_slots.proofs.Meters.{went, read_one, read_then, lasts_then, took_nothing, took_under, took_more, took_up_to, passes_left, own_after}
use Rattle.rz_cells_slots.proofs.Refused.{on_fault}
use Rattle.rz_cells_slots.proofs.old.open_old.Goals as goal

pub read_old_heads-requires-clause-known : goal.read_old_heads-requires-clause-known
read_old_heads-requires-clause-known g c told =
    let s = c.args.geometry.now in
    let out = c.read.new.out in
    let middle = g.D.Disk.text c.read_header.new.disk in
    let long : length c.deref_mut.result.now ≡ c.args.geometry.now.cells = ap length c.deref_mut.ensures.value ∙ c.requires.gates in
    let gives = subst (λ (n : ℕ). out ≡ window 64 n middle) long (c.in-Ok-read.ensures.gives told) in
    let items = with_items_is c.args.room.now.gates out (c.read.auto.out ∙ c.deref_mut.ensures.len) in
    subst (λ (t : List ℕ). OldKnows s c.deref.result.now t) (sym c.read.ensures.text)
    (subst (λ (l : List ℕ). OldKnows s l middle) (sym (c.deref.ensures.value ∙ items)) (old_gates_read s middle out gives))

pub returns-in_err-read_old_heads-clause-refused : goal.returns-in_err-read_old_heads-clause-refused
returns-in_err-read_old_heads-clause-refused g c =
    let s = c.args.geometry.now in
    let text = g.D.Disk.text c.args.disk.now in
    let size : length text ≡ old_disk_bytes s = omega (arith, c.size-have.ensures, c.old_disk_bytes-need.ensures) in
    let e = c.in_err-read_old_heads.field-0.0 in
    let gave : c.from_residual-in_err-read_old_heads.result ≡ Err e = search rules in
    on_fault _ _ _ gave (λ told.
    let header = subst (λ (t : List ℕ). IsHeaderOf One s c.in_ok-fence.fence t × IsFormatted t) c.sync.ensures.text (c.in_ok-fence.ensures.ok told) in
    let same = c.read.ensures.text ∙ c.read_header.ensures.read.same ∙ c.sync.ensures.text in
    old_cells_refuse s text size header.1 (agrees_of One s c.in_ok-fence.fence text header.0) c.in_err-read_old_heads.field-0.0
    (subst (λ (t : List ℕ). OldCellsFault s t c.in_err-read_old_heads.field-0.0) same (c.in_err-read_old_heads.ensures.refused told)))

pub returns-clause-known : goal.returns-clause-known
returns-clause-known g c told =
    let s = c.args.geometry.now in
    let text = g.D.Disk.text c.args.disk.now in
    let out = c.read.new.out in
    let long : length c.deref_mut.result.now ≡ c.args.geometry.now.cells = ap length c.deref_mut.ensures.value ∙ c.requires.gates in
    let gives = subst (λ (n : ℕ). out ≡ window 64 n (g.D.Disk.text c.read_header.new.disk)) long (c.in-Ok-read.ensures.gives told) in
    let items = with_items_is c.args.room.now.gates out (c.read.auto.out ∙ c.deref_mut.ensures.len) in
    subst (λ (l : List ℕ). OldKnows s l text) (sym items)
    (old_gates_read s text out (subst (λ (t : List ℕ). out ≡ window 64 c.args.geometry.now.cells t) (c.read_header.ensures.read.same ∙ c.sync.ensures.text) gives))

pub returns-in_default-clause-size : goal.returns-in_default-clause-size
returns-in_default-clause-size g c = tt

pub returns-in_default-clause-header : goal.returns-in_default-clause-header
returns-in_default-clause-header g c = tt

pub returns-in_default-clause-gates : goal.returns-in_default-clause-gates
returns-in_default-clause-gates g c = tt

pub returns-in_default-clause-known : goal.returns-in_default-clause-known
returns-in_default-clause-known g c = tt

pub returns-in_default-clause-heads : goal.returns-in_default-clause-heads
returns-in_default-clause-heads g c = tt

pub returns-in_default-clause-fits : goal.returns-in_default-clause-fits
returns-in_default-clause-fits g c = tt

pub returns-in_default-clause-reads : goal.returns-in_default-clause-reads
returns-in_default-clause-reads g c = tt

pub returns-in_default-clause-refused : goal.returns-in_default-clause-refused
returns-in_default-clause-refused g c told = omega (arith, c.size-have.ensures, c.old_disk_bytes-need.ensures)

pub returns-in_default-clause-wrong_size : goal.returns-in_default-clause-wrong_size
returns-in_default-clause-wrong_size g c = inl tt

pub returns-in_default-clause-fits_size : goal.returns-in_default-clause-fits_size
returns-in_default-clause-fits_size g c not_size = omega (arith, c.size-have.ensures, c.old_disk_bytes-need.ensures)

pub returns-in_default-clause-read : goal.returns-in_default-clause-read
returns-in_default-clause-read g c = read_one c.sync.result (g.D.Disk.text c.args.disk.now) (g.D.Disk.text c.sync.new.self) (g.D.Disk.image c.args.disk.now) (g.D.Disk.image c.sync.new.self) (g.D.Disk.meter c.args.disk.now) (g.D.Disk.meter c.sync.new.self) c.sync.ensures.text c.sync.ensures.crash c.sync.ensures.meter

pub returns-in_default-clause-fault : goal.returns-in_default-clause-fault
returns-in_default-clause-fault g c is = c.in_default.ensures.meter.risen refl

pub returns-in_default-read-clause-size : goal.returns-in_default-read-clause-size
returns-in_default-read-clause-size g c = tt

pub returns-in_default-read-clause-header : goal.returns-in_default-read-clause-header
returns-in_default-read-clause-header g c = tt

pub returns-in_default-read-clause-gates : goal.returns-in_default-read-clause-gates
returns-in_default-read-clause-gates g c = tt

pub returns-in_default-read-clause-known : goal.returns-in_default-read-clause-known
returns-in_default-read-clause-known g c = tt

pub returns-in_default-read-clause-heads : goal.returns-in_default-read-clause-heads
returns-in_default-read-clause-heads g c = tt

pub returns-in_default-read-clause-fits : goal.returns-in_default-read-clause-fits
returns-in_default-read-clause-fits g c = tt

pub returns-in_default-read-clause-reads : goal.returns-in_default-read-clause-reads
returns-in_default-read-clause-reads g c = tt

pub returns-in_default-read-clause-refused : goal.returns-in_default-read-clause-refused
returns-in_default-read-clause-refused g c told = omega (arith, c.size-have.ensures, c.old_disk_bytes-need.ensures)

pub returns-in_default-read-clause-wrong_size : goal.returns-in_default-read-clause-wrong_size
returns-in_default-read-clause-wrong_size g c = inl tt

pub returns-in_default-read-clause-fits_size : goal.returns-in_default-read-clause-fits_size
returns-in_default-read-clause-fits_size g c not_size = omega (arith, c.size-have.ensures, c.old_disk_bytes-need.ensures)

pub returns-in_default-read-clause-read : goal.returns-in_default-read-clause-read
returns-in_default-read-clause-read g c = read_then (g.D.Disk.text c.args.disk.now) (g.D.Disk.text c.read_header.new.disk) (g.D.Disk.text c.read.new.self) (g.D.Disk.image c.args.disk.now) (g.D.Disk.image c.read_header.new.disk) (g.D.Disk.image c.read.new.self) (g.D.Disk.meter c.args.disk.now) (g.D.Disk.meter c.read_header.new.disk) (g.D.Disk.meter c.read.new.self) (read_then (g.D.Disk.text c.args.disk.now) (g.D.Disk.text c.sync.new.self) (g.D.Disk.text c.read_header.new.disk) (g.D.Disk.image c.args.disk.now) (g.D.Disk.image c.sync.new.self) (g.D.Disk.image c.read_header.new.disk) (g.D.Disk.meter c.args.disk.now) (g.D.Disk.meter c.sync.new.self) (g.D.Disk.meter c.read_header.new.disk) (read_one c.sync.result (g.D.Disk.text c.args.disk.now) (g.D.Disk.text c.sync.new.self) (g.D.Disk.image c.args.disk.now) (g.D.Disk.image c.sync.new.self) (g.D.Disk.meter c.args.disk.now) (g.D.Disk.meter c.sync.new.self) c.sync.ensures.text c.sync.ensures.crash c.sync.ensures.meter) (c.read_header.ensures.read)) (read_one c.read.result (g.D.Disk.text c.read_header.new.disk) (g.D.Disk.text c.read.new.self) (g.D.Disk.image c.read_header.new.disk) (g.D.Disk.image c.read.new.self) (g.D.Disk.meter c.read_header.new.disk) (g.D.Disk.meter c.read.new.self) c.read.ensures.text c.read.ensures.crash c.read.ensures.meter)

pub returns-clause-refused : goal.returns-clause-refused
returns-clause-refused g c = tt

pub returns-clause-wrong_size : goal.returns-clause-wrong_size
returns-clause-wrong_size g c = tt

pub returns-clause-fits_size : goal.returns-clause-fits_size
returns-clause-fits_size g c = tt

pub returns-clause-read : goal.returns-clause-read
returns-clause-read g c = read_then (g.D.Disk.text c.args.disk.now) (g.D.Disk.text c.read.new.self) (g.D.Disk.text c.read_old_heads.new.disk) (g.D.Disk.image c.args.disk.now) (g.D.Disk.image c.read.new.self) (g.D.Disk.image c.read_old_heads.new.disk) (g.D.Disk.meter c.args.disk.now) (g.D.Disk.meter c.read.new.self) (g.D.Disk.meter c.read_old_heads.new.disk) (read_then (g.D.Disk.text c.args.disk.now) (g.D.Disk.text c.read_header.new.disk) (g.D.Disk.text c.read.new.self) (g.D.Disk.image c.args.disk.now) (g.D.Disk.image c.read_header.new.disk) (g.D.Disk.image c.read.new.self) (g.D.Disk.meter c.args.disk.now) (g.D.Disk.meter c.read_header.new.disk) (g.D.Disk.meter c.read.new.self) (read_then (g.D.Disk.text c.args.disk.now) (g.D.Disk.text c.sync.new.self) (g.D.Disk.text c.read_header.new.disk) (g.D.Disk.image c.args.disk.now) (g.D.Disk.image c.sync.new.self) (g.D.Disk.image c.read_header.new.disk) (g.D.Disk.meter c.args.disk.now) (g.D.Disk.meter c.sync.new.self) (g.D.Disk.meter c.read_header.new.disk) (read_one c.sync.result (g.D.Disk.text c.args.disk.now) (g.D.Disk.text c.sync.new.self) (g.D.Disk.image c.args.disk.now) (g.D.Disk.image c.sync.new.self) (g.D.Disk.meter c.args.disk.now) (g.D.Disk.meter c.sync.new.self) c.sync.ensures.text c.sync.ensures.crash c.sync.ensures.meter) (c.read_header.ensures.read)) (read_one c.read.result (g.D.Disk.text c.read_header.new.disk) (g.D.Disk.text c.read.new.self) (g.D.Disk.image c.read_header.new.disk) (g.D.Disk.image c.read.new.self) (g.D.Disk.meter c.read_header.new.disk) (g.D.Disk.meter c.read.new.self) c.read.ensures.text c.read.ensures.crash c.read.ensures.meter)) (c.read_old_heads.ensures.read)

pub returns-clause-fault : goal.returns-clause-fault
returns-clause-fault g c is = absurd (cc)

pub returns-clause-size : goal.returns-clause-size
returns-clause-size g c = omega (arith, c.size-have.ensures, c.old_disk_bytes-need.ensures)

pub returns-in_err-fence-clause-read : goal.returns-in_err-fence-clause-read
returns-in_err-fence-clause-read g c = read_then (g.D.Disk.text c.args.disk.now) (g.D.Disk.text c.sync.new.self) (g.D.Disk.text c.read_header.new.disk) (g.D.Disk.image c.args.disk.now) (g.D.Disk.image c.sync.new.self) (g.D.Disk.image c.read_header.new.disk) (g.D.Disk.meter c.args.disk.now) (g.D.Disk.meter c.sync.new.self) (g.D.Disk.meter c.read_header.new.disk) (read_one c.sync.result (g.D.Disk.text c.args.disk.now) (g.D.Disk.text c.sync.new.self) (g.D.Disk.image c.args.disk.now) (g.D.Disk.image c.sync.new.self) (g.D.Disk.meter c.args.disk.now) (g.D.Disk.meter c.sync.new.self) c.sync.ensures.text c.sync.ensures.crash c.sync.ensures.meter) (c.read_header.ensures.read)

pub returns-in_err-read_old_heads-clause-read : goal.returns-in_err-read_old_heads-clause-read
returns-in_err-read_old_heads-clause-read g c = read_then (g.D.Disk.text c.args.disk.now) (g.D.Disk.text c.read.new.self) (g.D.Disk.text c.read_old_heads.new.disk) (g.D.Disk.image c.args.disk.now) (g.D.Disk.image c.read.new.self) (g.D.Disk.image c.read_old_heads.new.disk) (g.D.Disk.meter c.args.disk.now) (g.D.Disk.meter c.read.new.self) (g.D.Disk.meter c.read_old_heads.new.disk) (read_then (g.D.Disk.text c.args.disk.now) (g.D.Disk.text c.read_header.new.disk) (g.D.Disk.text c.read.new.self) (g.D.Disk.image c.args.disk.now) (g.D.Disk.image c.read_header.new.disk) (g.D.Disk.image c.read.new.self) (g.D.Disk.meter c.args.disk.now) (g.D.Disk.meter c.read_header.new.disk) (g.D.Disk.meter c.read.new.self) (read_then (g.D.Disk.text c.args.disk.now) (g.D.Disk.text c.sync.new.self) (g.D.Disk.text c.read_header.new.disk) (g.D.Disk.image c.args.disk.now) (g.D.Disk.image c.sync.new.self) (g.D.Disk.image c.read_header.new.disk) (g.D.Disk.meter c.args.disk.now) (g.D.Disk.meter c.sync.new.self) (g.D.Disk.meter c.read_header.new.disk) (read_one c.sync.result (g.D.Disk.text c.args.disk.now) (g.D.Disk.text c.sync.new.self) (g.D.Disk.image c.args.disk.now) (g.D.Disk.image c.sync.new.self) (g.D.Disk.meter c.args.disk.now) (g.D.Disk.meter c.sync.new.self) c.sync.ensures.text c.sync.ensures.crash c.sync.ensures.meter) (c.read_header.ensures.read)) (read_one c.read.result (g.D.Disk.text c.read_header.new.disk) (g.D.Disk.text c.read.new.self) (g.D.Disk.image c.read_header.new.disk) (g.D.Disk.image c.read.new.self) (g.D.Disk.meter c.read_header.new.disk) (g.D.Disk.meter c.read.new.self) c.read.ensures.text c.read.ensures.crash c.read.ensures.meter)) (c.read_old_heads.ensures.read)

pub returns-in_err-fence-clause-took : goal.returns-in_err-fence-clause-took
returns-in_err-fence-clause-took g c =
    let a = g.D.Disk.meter c.args.disk.now in
    let b = g.D.Disk.meter c.sync.new.self in
    let m = g.D.Disk.meter c.read_header.new.disk in
    let one = took_more 0 c.sync.result a a b (ap is_ok c.in-Ok.is) (took_nothing a) (took_one c.sync.result a b c.sync.ensures.meter) in
    let failed : IsErr c.from_residual.result = search rules in
    took_up_to 1 1 (old_opening_calls c.args.geometry.now) c.read_header.result c.from_residual.result a b m (omega arith) failed one c.read_header.ensures.took

pub returns-in_default-read-clause-took : goal.returns-in_default-read-clause-took
returns-in_default-read-clause-took g c =
    let a = g.D.Disk.meter c.args.disk.now in
    let b = g.D.Disk.meter c.sync.new.self in
    let m = g.D.Disk.meter c.read_header.new.disk in
    let r = g.D.Disk.meter c.read.new.self in
    let one = took_more 0 c.sync.result a a b (ap is_ok c.in-Ok.is) (took_nothing a) (took_one c.sync.result a b c.sync.ensures.meter) in
    let two = took_more 1 c.read_header.result a b m (ap is_ok c.in_ok-fence.was) one c.read_header.ensures.took in
    took_up_to 2 1 (old_opening_calls c.args.geometry.now) c.read.result _ a m r (omega arith) refl two (took_one c.read.result m r c.read.ensures.meter)

pub returns-in_err-read_old_heads-clause-took : goal.returns-in_err-read_old_heads-clause-took
returns-in_err-read_old_heads-clause-took g c =
    let a = g.D.Disk.meter c.args.disk.now in
    let b = g.D.Disk.meter c.sync.new.self in
    let m = g.D.Disk.meter c.read_header.new.disk in
    let r = g.D.Disk.meter c.read.new.self in
    let one = took_more 0 c.sync.result a a b (ap is_ok c.in-Ok.is) (took_nothing a) (took_one c.sync.result a b c.sync.ensures.meter) in
    let two = took_more 1 c.read_header.result a b m (ap is_ok c.in_ok-fence.was) one c.read_header.ensures.took in
    let h = g.D.Disk.meter c.read_old_heads.new.disk in
    let three = took_more 2 c.read.result a m r (ap is_ok c.in-Ok-read.is) two (took_one c.read.result m r c.read.ensures.meter) in
    let failed : IsErr c.from_residual-in_err-read_old_heads.result = search rules in
    took_up_to 3 c.args.geometry.now.cells (old_opening_calls c.args.geometry.now) c.read_old_heads.result c.from_residual-in_err-read_old_heads.result a r h (omega arith) failed three c.read_old_heads.ensures.took

pub returns-in_err-read_old_heads-clause-own_fault : goal.returns-in_err-read_old_heads-clause-own_fault
returns-in_err-read_old_heads-clause-own_fault g c fault has =
    let a = g.D.Disk.meter c.args.disk.now in
    let b = g.D.Disk.meter c.sync.new.self in
    let m = g.D.Disk.meter c.read_header.new.disk in
    let r = g.D.Disk.meter c.read.new.self in
    let one = took_more 0 c.sync.result a a b (ap is_ok c.in-Ok.is) (took_nothing a) (took_one c.sync.result a b c.sync.ensures.meter) in
    let two = took_more 1 c.read_header.result a b m (ap is_ok c.in_ok-fence.was) one c.read_header.ensures.took in
    let h = g.D.Disk.meter c.read_old_heads.new.disk in
    let three = took_more 2 c.read.result a m r (ap is_ok c.in-Ok-read.is) two (took_one c.read.result m r c.read.ensures.meter) in
    let lasts = lasts_then a m r (lasts_then a b m (record { planned = c.sync.ensures.meter.planned; own = c.sync.ensures.meter.own }) c.read_header.ensures.read.lasts)
    (record { planned = c.read.ensures.meter.planned; own = c.read.ensures.meter.own }) in
    let left = passes_left 3 c.args.geometry.now.cells (old_opening_calls c.args.geometry.now) a r (omega arith) three has in
    let rose : Rises r.own h.own = search rules in
    own_after a r h lasts rose

pub returns-clause-took : goal.returns-clause-took
returns-clause-took g c =
    let a = g.D.Disk.meter c.args.disk.now in
    let b = g.D.Disk.meter c.sync.new.self in
    let m = g.D.Disk.meter c.read_header.new.disk in
    let r = g.D.Disk.meter c.read.new.self in
    let one = took_more 0 c.sync.result a a b (ap is_ok c.in-Ok.is) (took_nothing a) (took_one c.sync.result a b c.sync.ensures.meter) in
    let two = took_more 1 c.read_header.result a b m (ap is_ok c.in_ok-fence.was) one c.read_header.ensures.took in
    let h = g.D.Disk.meter c.read_old_heads.new.disk in
    let three = took_more 2 c.read.result a m r (ap is_ok c.in-Ok-read.is) two (took_one c.read.result m r c.read.ensures.meter) in
    took_under (old_opening_calls c.args.geometry.now) c.read_old_heads.result _ a h (λ _. ap is_ok c.in_ok-read_old_heads.was)
    (took_then 3 c.args.geometry.now.cells went c.read_old_heads.result a r h refl three c.read_old_heads.ensures.took)

pub returns-in_default-clause-untouched : goal.returns-in_default-clause-untouched
returns-in_default-clause-untouched g c = inl tt

pub returns-in_default-clause-took : goal.returns-in_default-clause-took
returns-in_default-clause-took g c = took_failed 1 (old_opening_calls c.args.geometry.now) c.sync.result _ (g.D.Disk.meter c.args.disk.now) (g.D.Disk.meter c.sync.new.self) (omega arith) refl (took_one c.sync.result (g.D.Disk.meter c.args.disk.now) (g.D.Disk.meter c.sync.new.self) c.sync.ensures.meter)

pub returns-in_default-clause-own_fault : goal.returns-in_default-clause-own_fault
returns-in_default-clause-own_fault g c is has = c.in_default.ensures.meter.own_risen refl (λ n armed. let enough = has n armed in omega arith)

pub returns-in_default-read-clause-untouched : goal.returns-in_default-read-clause-untouched
returns-in_default-read-clause-untouched g c = inl tt

pub returns-clause-untouched : goal.returns-clause-untouched
returns-clause-untouched g c = tt

pub returns-clause-own_fault : goal.returns-clause-own_fault
returns-clause-own_fault g c is = absurd (cc)
