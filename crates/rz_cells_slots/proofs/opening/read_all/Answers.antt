-- What was read makes open cells.
use Rattle.std.proofs.Common.{rules, inl, ◌≡◌, ℕ, ◌*◌, IsTrue, IsErr, is_ok, List, length, refl, sym, ◌∙◌, ap, subst, arith}
use Rattle.std.proofs.lemmas.List.{with_items_is}
use Rattle.rz_disk.specs.Images.{window}
use Rattle.rz_disk.specs.Meter.{Rises}
use Rattle.rz_disk.proofs.Passes.{took_failed, took_one, took_then}
use Rattle.rz_cells_slots.specs.declared.geometry.DiskVersion.TheVariants.{Two}
use Rattle.rz_cells_slots.specs.Open.{Knows}
use Rattle.rz_cells_slots.specs.Shape.{disk_bytes}
use Rattle.rz_cells_slots.specs.Stands.{IsHeader, IsFormatted}
use Rattle.rz_cells_slots.specs.Opening.{CellsFault, ReadTo, Refuses, opening_calls}
use Rattle.rz_cells_slots.proofs.Meters.{went, read_one, read_then, lasts_then, took_nothing, took_under, took_more, took_up_to, passes_left, own_after}
use Rattle.rz_cells_slots.proofs.Refused.{open_of}
use Rattle.rz_cells_slots.proofs.Opened.{agrees_of, cells_refuse, gates_read}
use Rattle.rz_cells_slots.proofs.opening.read_all.Goals as goal

pub read_heads-requires-clause-known : goal.read_heads-requires-clause-known
read_heads-requires-clause-known g c told =
    let s = c.args.geometry.now in
    let out = c.read.new.out in
    let middle = g.D.Disk.text c.read_header.new.disk in
    let long : length c.deref_mut.result.now ≡ 2 * c.args.geometry.now.cells = ap length c.deref_mut.ensures.value ∙ c.requires.gates in
    let gives = subst (λ (n : ℕ). out ≡ window 64 n middle) long (c.in-Ok-read.ensures.gives told) in
    let items = with_items_is c.args.gates.now out (c.read.auto.out ∙ c.deref_mut.ensures.len) in
    subst (λ (t : List ℕ). Knows s c.deref.result.now t) (sym c.read.ensures.text)
    (subst (λ (l : List ℕ). Knows s l middle) (sym (c.deref.ensures.value ∙ items)) (gates_read s middle out gives))

pub returns-in_err-read_heads-clause-refused : goal.returns-in_err-read_heads-clause-refused
returns-in_err-read_heads-clause-refused g c =
    let s = c.args.geometry.now in
    let text = g.D.Disk.text c.args.disk.now in
    let size : length text ≡ disk_bytes s = omega (arith, c.size-have.ensures, c.disk_bytes-need.ensures.value) in
    let bad : IsTrue g.D.Disk.tells → Refuses s text c.in_err-read_heads.field-0.0 = λ told.
    let header = subst (λ (t : List ℕ). IsHeader s c.in_ok-fence.fence t × IsFormatted t) c.sync.ensures.text (c.in_ok-fence.ensures.ok told) in
    let same = c.read.ensures.text ∙ c.read_header.ensures.read.same ∙ c.sync.ensures.text in
    cells_refuse s text size header.1 (agrees_of Two s c.in_ok-fence.fence text header.0) c.in_err-read_heads.field-0.0
    (subst (λ (t : List ℕ). CellsFault s t c.in_err-read_heads.field-0.0) same (c.in_err-read_heads.ensures.refused told)) in
    search rules

pub returns-clause-open : goal.returns-clause-open
returns-clause-open g c =
    let s = c.args.geometry.now in
    let fence = c.in_ok-fence.fence in
    let heads = c.read_heads.new.heads in
    let out = c.read.new.out in
    let text = g.D.Disk.text c.args.disk.now in
    let end = g.D.Disk.text c.read_heads.new.disk in
    let since : end ≡ g.D.Disk.text c.sync.new.self = c.read_heads.ensures.read.same ∙ c.read.ensures.text ∙ c.read_header.ensures.read.same in
    let to_middle : g.D.Disk.text c.read_header.new.disk ≡ end = sym (c.read_heads.ensures.read.same ∙ c.read.ensures.text) in
    let size : length text ≡ disk_bytes s = omega (arith, c.size-have.ensures, c.disk_bytes-need.ensures.value) in
    let long : length c.deref_mut.result.now ≡ 2 * c.args.geometry.now.cells = ap length c.deref_mut.ensures.value ∙ c.requires.gates in
    let items = with_items_is c.args.gates.now out (c.read.auto.out ∙ c.deref_mut.ensures.len) in
    open_of g.D.Disk.tells end (g.D.Disk.image c.read_heads.new.disk) s fence _ heads
    (ap length (since ∙ c.sync.ensures.text) ∙ size)
    (λ x left. c.in-Ok.ensures.only x (c.read_header.ensures.read.within x (c.read.ensures.crash x (c.read_heads.ensures.read.within x left))) ∙ sym (since ∙ c.sync.ensures.text))
    c.in_ok-read_heads.ensures.heads
    c.in_ok-read_heads.ensures.fits
    (λ told. subst (λ (t : List ℕ). IsHeader s fence t × IsFormatted t) (sym since) (c.in_ok-fence.ensures.ok told))
    (λ told.
    let gives = subst (λ (n : ℕ). out ≡ window 64 n (g.D.Disk.text c.read_header.new.disk)) long (c.in-Ok-read.ensures.gives told) in
    subst (λ (l : List ℕ). Knows s l end) (sym items) (gates_read s end out (subst (λ (t : List ℕ). out ≡ window 64 (2 * c.args.geometry.now.cells) t) to_middle gives)))
    (λ told. subst (λ (t : List ℕ). ReadTo s t heads (2 * s.cells)) (sym c.read_heads.ensures.read.same) (c.in_ok-read_heads.ensures.reads told))

pub returns-in_err-fence-clause-took : goal.returns-in_err-fence-clause-took
returns-in_err-fence-clause-took g c =
    let a = g.D.Disk.meter c.args.disk.now in
    let b = g.D.Disk.meter c.sync.new.self in
    let m = g.D.Disk.meter c.read_header.new.disk in
    let one = took_more 0 c.sync.result a a b (ap is_ok c.in-Ok.is) (took_nothing a) (took_one c.sync.result a b c.sync.ensures.meter) in
    let failed : IsErr c.from_residual.result = search rules in
    took_up_to 1 1 (opening_calls c.args.geometry.now) c.read_header.result c.from_residual.result a b m (omega arith) failed one c.read_header.ensures.took

pub returns-in_default-read-clause-took : goal.returns-in_default-read-clause-took
returns-in_default-read-clause-took g c =
    let a = g.D.Disk.meter c.args.disk.now in
    let b = g.D.Disk.meter c.sync.new.self in
    let m = g.D.Disk.meter c.read_header.new.disk in
    let r = g.D.Disk.meter c.read.new.self in
    let one = took_more 0 c.sync.result a a b (ap is_ok c.in-Ok.is) (took_nothing a) (took_one c.sync.result a b c.sync.ensures.meter) in
    let two = took_more 1 c.read_header.result a b m (ap is_ok c.in_ok-fence.was) one c.read_header.ensures.took in
    took_up_to 2 1 (opening_calls c.args.geometry.now) c.read.result _ a m r (omega arith) refl two (took_one c.read.result m r c.read.ensures.meter)

pub returns-in_err-read_heads-clause-took : goal.returns-in_err-read_heads-clause-took
returns-in_err-read_heads-clause-took g c =
    let a = g.D.Disk.meter c.args.disk.now in
    let b = g.D.Disk.meter c.sync.new.self in
    let m = g.D.Disk.meter c.read_header.new.disk in
    let r = g.D.Disk.meter c.read.new.self in
    let one = took_more 0 c.sync.result a a b (ap is_ok c.in-Ok.is) (took_nothing a) (took_one c.sync.result a b c.sync.ensures.meter) in
    let two = took_more 1 c.read_header.result a b m (ap is_ok c.in_ok-fence.was) one c.read_header.ensures.took in
    let h = g.D.Disk.meter c.read_heads.new.disk in
    let three = took_more 2 c.read.result a m r (ap is_ok c.in-Ok-read.is) two (took_one c.read.result m r c.read.ensures.meter) in
    let failed : IsErr c.from_residual-in_err-read_heads.result = search rules in
    took_up_to 3 (2 * c.args.geometry.now.cells) (opening_calls c.args.geometry.now) c.read_heads.result c.from_residual-in_err-read_heads.result a r h (omega arith) failed three c.read_heads.ensures.took

pub returns-in_err-read_heads-clause-own_fault : goal.returns-in_err-read_heads-clause-own_fault
returns-in_err-read_heads-clause-own_fault g c fault has =
    let a = g.D.Disk.meter c.args.disk.now in
    let b = g.D.Disk.meter c.sync.new.self in
    let m = g.D.Disk.meter c.read_header.new.disk in
    let r = g.D.Disk.meter c.read.new.self in
    let one = took_more 0 c.sync.result a a b (ap is_ok c.in-Ok.is) (took_nothing a) (took_one c.sync.result a b c.sync.ensures.meter) in
    let two = took_more 1 c.read_header.result a b m (ap is_ok c.in_ok-fence.was) one c.read_header.ensures.took in
    let h = g.D.Disk.meter c.read_heads.new.disk in
    let three = took_more 2 c.read.result a m r (ap is_ok c.in-Ok-read.is) two (took_one c.read.result m r c.read.ensures.meter) in
    let lasts = lasts_then a m r (lasts_then a b m (record { planned = c.sync.ensures.meter.planned; own = c.sync.ensures.meter.own }) c.read_header.ensures.read.lasts)
    (record { planned = c.read.ensures.meter.planned; own = c.read.ensures.meter.own }) in
    let left = passes_left 3 (2 * c.args.geometry.now.cells) (opening_calls c.args.geometry.now) a r (omega arith) three has in
    let rose : Rises r.own h.own = search rules in
    own_after a r h lasts rose

pub returns-clause-took : goal.returns-clause-took
returns-clause-took g c =
    let a = g.D.Disk.meter c.args.disk.now in
    let b = g.D.Disk.meter c.sync.new.self in
    let m = g.D.Disk.meter c.read_header.new.disk in
    let r = g.D.Disk.meter c.read.new.self in
    let one = took_more 0 c.sync.result a a b (ap is_ok c.in-Ok.is) (took_nothing a) (took_one c.sync.result a b c.sync.ensures.meter) in
    let two = took_more 1 c.read_header.result a b m (ap is_ok c.in_ok-fence.was) one c.read_header.ensures.took in
    let h = g.D.Disk.meter c.read_heads.new.disk in
    let three = took_more 2 c.read.result a m r (ap is_ok c.in-Ok-read.is) two (took_one c.read.result m r c.read.ensures.meter) in
    took_under (opening_calls c.args.geometry.now) c.read_heads.result _ a h (λ _. ap is_ok c.in_ok-read_heads.was)
    (took_then 3 (2 * c.args.geometry.now.cells) went c.read_heads.result a r h refl three c.read_heads.ensures.took)

pub returns-in_default-clause-open : goal.returns-in_default-clause-open
returns-in_default-clause-open g c = tt

pub returns-in_default-clause-gates : goal.returns-in_default-clause-gates
returns-in_default-clause-gates g c = tt

pub returns-in_default-clause-heads : goal.returns-in_default-clause-heads
returns-in_default-clause-heads g c = tt

pub returns-in_default-clause-refused : goal.returns-in_default-clause-refused
returns-in_default-clause-refused g c told = omega (arith, c.size-have.ensures, c.disk_bytes-need.ensures.value)

pub returns-in_default-clause-wrong_size : goal.returns-in_default-clause-wrong_size
returns-in_default-clause-wrong_size g c = inl tt

pub returns-in_default-clause-fits : goal.returns-in_default-clause-fits
returns-in_default-clause-fits g c not_size = omega (arith, c.size-have.ensures, c.disk_bytes-need.ensures.value)

pub returns-in_default-clause-read : goal.returns-in_default-clause-read
returns-in_default-clause-read g c = read_one c.sync.result (g.D.Disk.text c.args.disk.now) (g.D.Disk.text c.sync.new.self) (g.D.Disk.image c.args.disk.now) (g.D.Disk.image c.sync.new.self) (g.D.Disk.meter c.args.disk.now) (g.D.Disk.meter c.sync.new.self) c.sync.ensures.text c.sync.ensures.crash c.sync.ensures.meter

pub returns-in_default-clause-untouched : goal.returns-in_default-clause-untouched
returns-in_default-clause-untouched g c = inl tt

pub returns-in_default-clause-took : goal.returns-in_default-clause-took
returns-in_default-clause-took g c = took_failed 1 (opening_calls c.args.geometry.now) c.sync.result _ (g.D.Disk.meter c.args.disk.now) (g.D.Disk.meter c.sync.new.self) (omega arith) refl (took_one c.sync.result (g.D.Disk.meter c.args.disk.now) (g.D.Disk.meter c.sync.new.self) c.sync.ensures.meter)

pub returns-in_default-clause-fault : goal.returns-in_default-clause-fault
returns-in_default-clause-fault g c is = c.in_default.ensures.meter.risen refl

pub returns-in_default-clause-own_fault : goal.returns-in_default-clause-own_fault
returns-in_default-clause-own_fault g c is has = c.in_default.ensures.meter.own_risen refl (λ n armed. let enough = has n armed in omega arith)

pub returns-in_default-read-clause-open : goal.returns-in_default-read-clause-open
returns-in_default-read-clause-open g c = tt

pub returns-in_default-read-clause-gates : goal.returns-in_default-read-clause-gates
returns-in_default-read-clause-gates g c = tt

pub returns-in_default-read-clause-heads : goal.returns-in_default-read-clause-heads
returns-in_default-read-clause-heads g c = tt

pub returns-in_default-read-clause-refused : goal.returns-in_default-read-clause-refused
returns-in_default-read-clause-refused g c told = omega (arith, c.size-have.ensures, c.disk_bytes-need.ensures.value)

pub returns-in_default-read-clause-wrong_size : goal.returns-in_default-read-clause-wrong_size
returns-in_default-read-clause-wrong_size g c = inl tt

pub returns-in_default-read-clause-fits : goal.returns-in_default-read-clause-fits
returns-in_default-read-clause-fits g c not_size = omega (arith, c.size-have.ensures, c.disk_bytes-need.ensures.value)

pub returns-in_default-read-clause-read : goal.returns-in_default-read-clause-read
returns-in_default-read-clause-read g c = read_then (g.D.Disk.text c.args.disk.now) (g.D.Disk.text c.read_header.new.disk) (g.D.Disk.text c.read.new.self) (g.D.Disk.image c.args.disk.now) (g.D.Disk.image c.read_header.new.disk) (g.D.Disk.image c.read.new.self) (g.D.Disk.meter c.args.disk.now) (g.D.Disk.meter c.read_header.new.disk) (g.D.Disk.meter c.read.new.self) (read_then (g.D.Disk.text c.args.disk.now) (g.D.Disk.text c.sync.new.self) (g.D.Disk.text c.read_header.new.disk) (g.D.Disk.image c.args.disk.now) (g.D.Disk.image c.sync.new.self) (g.D.Disk.image c.read_header.new.disk) (g.D.Disk.meter c.args.disk.now) (g.D.Disk.meter c.sync.new.self) (g.D.Disk.meter c.read_header.new.disk) (read_one c.sync.result (g.D.Disk.text c.args.disk.now) (g.D.Disk.text c.sync.new.self) (g.D.Disk.image c.args.disk.now) (g.D.Disk.image c.sync.new.self) (g.D.Disk.meter c.args.disk.now) (g.D.Disk.meter c.sync.new.self) c.sync.ensures.text c.sync.ensures.crash c.sync.ensures.meter) (c.read_header.ensures.read)) (read_one c.read.result (g.D.Disk.text c.read_header.new.disk) (g.D.Disk.text c.read.new.self) (g.D.Disk.image c.read_header.new.disk) (g.D.Disk.image c.read.new.self) (g.D.Disk.meter c.read_header.new.disk) (g.D.Disk.meter c.read.new.self) c.read.ensures.text c.read.ensures.crash c.read.ensures.meter)

pub returns-in_default-read-clause-untouched : goal.returns-in_default-read-clause-untouched
returns-in_default-read-clause-untouched g c = inl tt

pub returns-clause-refused : goal.returns-clause-refused
returns-clause-refused g c = tt

pub returns-clause-wrong_size : goal.returns-clause-wrong_size
returns-clause-wrong_size g c = tt

pub returns-clause-fits : goal.returns-clause-fits
returns-clause-fits g c = tt

pub returns-clause-untouched : goal.returns-clause-untouched
returns-clause-untouched g c = tt

pub returns-clause-read : goal.returns-clause-read
returns-clause-read g c = read_then (g.D.Disk.text c.args.disk.now) (g.D.Disk.text c.read.new.self) (g.D.Disk.text c.read_heads.new.disk) (g.D.Disk.image c.args.disk.now) (g.D.Disk.image c.read.new.self) (g.D.Disk.image c.read_heads.new.disk) (g.D.Disk.meter c.args.disk.now) (g.D.Disk.meter c.read.new.self) (g.D.Disk.meter c.read_heads.new.disk) (read_then (g.D.Disk.text c.args.disk.now) (g.D.Disk.text c.read_header.new.disk) (g.D.Disk.text c.read.new.self) (g.D.Disk.image c.args.disk.now) (g.D.Disk.image c.read_header.new.disk) (g.D.Disk.image c.read.new.self) (g.D.Disk.meter c.args.disk.now) (g.D.Disk.meter c.read_header.new.disk) (g.D.Disk.meter c.read.new.self) (read_then (g.D.Disk.text c.args.disk.now) (g.D.Disk.text c.sync.new.self) (g.D.Disk.text c.read_header.new.disk) (g.D.Disk.image c.args.disk.now) (g.D.Disk.image c.sync.new.self) (g.D.Disk.image c.read_header.new.disk) (g.D.Disk.meter c.args.disk.now) (g.D.Disk.meter c.sync.new.self) (g.D.Disk.meter c.read_header.new.disk) (read_one c.sync.result (g.D.Disk.text c.args.disk.now) (g.D.Disk.text c.sync.new.self) (g.D.Disk.image c.args.disk.now) (g.D.Disk.image c.sync.new.self) (g.D.Disk.meter c.args.disk.now) (g.D.Disk.meter c.sync.new.self) c.sync.ensures.text c.sync.ensures.crash c.sync.ensures.meter) (c.read_header.ensures.read)) (read_one c.read.result (g.D.Disk.text c.read_header.new.disk) (g.D.Disk.text c.read.new.self) (g.D.Disk.image c.read_header.new.disk) (g.D.Disk.image c.read.new.self) (g.D.Disk.meter c.read_header.new.disk) (g.D.Disk.meter c.read.new.self) c.read.ensures.text c.read.ensures.crash c.read.ensures.meter)) (c.read_heads.ensures.read)

pub returns-clause-fault : goal.returns-clause-fault
returns-clause-fault g c is = absurd (cc)

pub returns-clause-own_fault : goal.returns-clause-own_fault
returns-clause-own_fault g c is = absurd (cc)

pub returns-in_err-fence-clause-read : goal.returns-in_err-fence-clause-read
returns-in_err-fence-clause-read g c = read_then (g.D.Disk.text c.args.disk.now) (g.D.Disk.text c.sync.new.self) (g.D.Disk.text c.read_header.new.disk) (g.D.Disk.image c.args.disk.now) (g.D.Disk.image c.sync.new.self) (g.D.Disk.image c.read_header.new.disk) (g.D.Disk.meter c.args.disk.now) (g.D.Disk.meter c.sync.new.self) (g.D.Disk.meter c.read_header.new.disk) (read_one c.sync.result (g.D.Disk.text c.args.disk.now) (g.D.Disk.text c.sync.new.self) (g.D.Disk.image c.args.disk.now) (g.D.Disk.image c.sync.new.self) (g.D.Disk.meter c.args.disk.now) (g.D.Disk.meter c.sync.new.self) c.sync.ensures.text c.sync.ensures.crash c.sync.ensures.meter) (c.read_header.ensures.read)

pub returns-in_err-read_heads-clause-read : goal.returns-in_err-read_heads-clause-read
returns-in_err-read_heads-clause-read g c = read_then (g.D.Disk.text c.args.disk.now) (g.D.Disk.text c.read.new.self) (g.D.Disk.text c.read_heads.new.disk) (g.D.Disk.image c.args.disk.now) (g.D.Disk.image c.read.new.self) (g.D.Disk.image c.read_heads.new.disk) (g.D.Disk.meter c.args.disk.now) (g.D.Disk.meter c.read.new.self) (g.D.Disk.meter c.read_heads.new.disk) (read_then (g.D.Disk.text c.args.disk.now) (g.D.Disk.text c.read_header.new.disk) (g.D.Disk.text c.read.new.self) (g.D.Disk.image c.args.disk.now) (g.D.Disk.image c.read_header.new.disk) (g.D.Disk.image c.read.new.self) (g.D.Disk.meter c.args.disk.now) (g.D.Disk.meter c.read_header.new.disk) (g.D.Disk.meter c.read.new.self) (read_then (g.D.Disk.text c.args.disk.now) (g.D.Disk.text c.sync.new.self) (g.D.Disk.text c.read_header.new.disk) (g.D.Disk.image c.args.disk.now) (g.D.Disk.image c.sync.new.self) (g.D.Disk.image c.read_header.new.disk) (g.D.Disk.meter c.args.disk.now) (g.D.Disk.meter c.sync.new.self) (g.D.Disk.meter c.read_header.new.disk) (read_one c.sync.result (g.D.Disk.text c.args.disk.now) (g.D.Disk.text c.sync.new.self) (g.D.Disk.image c.args.disk.now) (g.D.Disk.image c.sync.new.self) (g.D.Disk.meter c.args.disk.now) (g.D.Disk.meter c.sync.new.self) c.sync.ensures.text c.sync.ensures.crash c.sync.ensures.meter) (c.read_header.ensures.read)) (read_one c.read.result (g.D.Disk.text c.read_header.new.disk) (g.D.Disk.text c.read.new.self) (g.D.Disk.image c.read_header.new.disk) (g.D.Disk.image c.read.new.self) (g.D.Disk.meter c.read_header.new.disk) (g.D.Disk.meter c.read.new.self) c.read.ensures.text c.read.ensures.crash c.read.ensures.meter)) (c.read_heads.ensures.read)
