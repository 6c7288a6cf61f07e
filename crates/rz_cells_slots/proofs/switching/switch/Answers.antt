-- Each exit is one case of the argument of `Slots`.
use Rattle.std.proofs.Common.{rules, refl, IsErr, ◌+◌, ◌-◌, ◌%◌, ℕ, inl, Ok, is_ok, length, get_or, ap, subst, arith}
use Rattle.rz_disk.specs.Images.{Torn, Written}
use Rattle.rz_disk.proofs.Passes.{took_failed}
use Rattle.rz_cells_slots.specs.Shape.{slot_at, slot_of}
use Rattle.rz_cells_slots.proofs.Meters.{counted_failed, counted_second}
use Rattle.rz_cells_slots.proofs.Slots.{slot_within, staged, flipped, flipped_done, gates_after, idle_bit, widen}
use Rattle.rz_cells_slots.proofs.switching.switch.Goals as goal

pub store-requires-clause-range : goal.store-requires-clause-range
store-requires-clause-range g c =
    let s = c.args.geometry.now in
    omega (arith, c.slot_at-at.ensures.value, c.requires.long, c.requires.size, slot_within s c.args.cell (1 - c.args.gate % 2) c.requires.cell (omega arith))

pub returns-in_err-store-clause-crash : goal.returns-in_err-store-clause-crash
returns-in_err-store-clause-crash g c told fence new spells suits cells image holds left =
    let s = c.args.geometry.now in
    let text = g.D.Disk.text c.args.disk.now in
    let i : ℕ = 1 - c.args.gate % 2 in
    let idle = idle_bit c.args.gate (get_or text (64 + c.args.cell) 0) (c.requires.gate told) in
    let torn = subst (λ (at : ℕ). Torn at (length c.args.bytes.now) text image) c.slot_at-at.ensures.value (c.store.ensures.crash image left) in
    inl (staged s fence text c.args.cell i c.args.bytes.now new cells c.requires.cell (omega arith) idle c.requires.long spells suits holds image torn)

pub returns-in_err-store-2-clause-crash : goal.returns-in_err-store-2-clause-crash
returns-in_err-store-2-clause-crash g c told fence new spells suits cells image holds left =
    let s = c.args.geometry.now in
    let text = g.D.Disk.text c.args.disk.now in
    let mid = g.D.Disk.text c.store.new.disk in
    let i : ℕ = 1 - c.args.gate % 2 in
    let idle = idle_bit c.args.gate (get_or text (64 + c.args.cell) 0) (c.requires.gate told) in
    let written = subst (λ (at : ℕ). Written at c.args.bytes.now text mid) c.slot_at-at.ensures.value (c.in_ok-store.ensures.written told) in
    flipped s fence text c.args.cell i c.args.bytes.now new cells c.requires.cell (omega arith) idle c.requires.long spells suits holds mid written image (c.store-2.ensures.crash image left)

pub returns-clause-crash : goal.returns-clause-crash
returns-clause-crash g c told fence new spells suits cells image holds left =
    let s = c.args.geometry.now in
    let text = g.D.Disk.text c.args.disk.now in
    let mid = g.D.Disk.text c.store.new.disk in
    let i : ℕ = 1 - c.args.gate % 2 in
    let idle = idle_bit c.args.gate (get_or text (64 + c.args.cell) 0) (c.requires.gate told) in
    let written = subst (λ (at : ℕ). Written at c.args.bytes.now text mid) c.slot_at-at.ensures.value (c.in_ok-store.ensures.written told) in
    flipped s fence text c.args.cell i c.args.bytes.now new cells c.requires.cell (omega arith) idle c.requires.long spells suits holds mid written image (c.store-2.ensures.crash image left)

pub returns-clause-done : goal.returns-clause-done
returns-clause-done g c told fence new spells suits cells holds =
    let s = c.args.geometry.now in
    let text = g.D.Disk.text c.args.disk.now in
    let mid = g.D.Disk.text c.store.new.disk in
    let i : ℕ = 1 - c.args.gate % 2 in
    let idle = idle_bit c.args.gate (get_or text (64 + c.args.cell) 0) (c.requires.gate told) in
    let written = subst (λ (at : ℕ). Written at c.args.bytes.now text mid) c.slot_at-at.ensures.value (c.in_ok-store.ensures.written told) in
    flipped_done s fence text c.args.cell i c.args.bytes.now new cells c.requires.cell (omega arith) idle c.requires.long spells suits holds mid written (g.D.Disk.text c.store-2.new.disk) (c.in_ok-store-2.ensures.written told)

pub returns-clause-gates : goal.returns-clause-gates
returns-clause-gates g c told gates fits known =
    let s = c.args.geometry.now in
    let text = g.D.Disk.text c.args.disk.now in
    let mid = g.D.Disk.text c.store.new.disk in
    let i : ℕ = 1 - c.args.gate % 2 in
    let written = subst (λ (at : ℕ). Written at c.args.bytes.now text mid) c.slot_at-at.ensures.value (c.in_ok-store.ensures.written told) in
    let torn : Torn (slot_at s c.args.cell i) (slot_of s) text mid = widen (slot_at s c.args.cell i) (length c.args.bytes.now) (slot_of s) text mid c.requires.long written.torn in
    gates_after s gates text mid (g.D.Disk.text c.store-2.new.disk) c.args.cell i fits c.requires.cell (omega arith) known torn (c.in_ok-store-2.ensures.written told)

pub returns-in_err-store-clause-meter : goal.returns-in_err-store-clause-meter
returns-in_err-store-clause-meter g c =
    let failed : IsErr c.from_residual.result = search rules in
    counted_failed 2 4 c.store.result c.from_residual.result (g.D.Disk.meter c.args.disk.now) (g.D.Disk.meter c.store.new.disk) (omega arith) failed c.store.ensures.took c.store.ensures.meter
    (c.in_err-store.ensures.risen refl) (c.in_err-store.ensures.own_risen refl)

pub returns-in_err-store-2-clause-meter : goal.returns-in_err-store-2-clause-meter
returns-in_err-store-2-clause-meter g c =
    let failed : IsErr c.from_residual-in_err-store-2.result = search rules in
    let b = g.D.Disk.meter c.store.new.disk in
    let d = g.D.Disk.meter c.store-2.new.disk in
    counted_second c.store.result c.from_residual-in_err-store-2.result (g.D.Disk.meter c.args.disk.now) b d (ap is_ok c.in_ok-store.was) c.store.ensures.took c.store.ensures.meter
    (took_failed 2 2 c.store-2.result c.from_residual-in_err-store-2.result b d (omega arith) failed c.store-2.ensures.took) c.store-2.ensures.meter
    (λ _. c.in_err-store-2.ensures.risen refl) (λ _. c.in_err-store-2.ensures.own_risen refl)

pub returns-clause-meter : goal.returns-clause-meter
returns-clause-meter g c =
    counted_second c.store.result (Ok tt) (g.D.Disk.meter c.args.disk.now) (g.D.Disk.meter c.store.new.disk) (g.D.Disk.meter c.store-2.new.disk) (ap is_ok c.in_ok-store.was) c.store.ensures.took c.store.ensures.meter
    c.in_ok-store-2.ensures.took c.store-2.ensures.meter (λ failed. absurd (cc)) (λ failed has. absurd (cc))
