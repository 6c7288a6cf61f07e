-- The header, and then its gate.
use Rattle.std.proofs.Common.{rules, refl, ℕ, List, length, inl, Ok, is_ok, IsErr, ap, subst, arith}
use Rattle.rz_disk.specs.Images.{Torn, Written}
use Rattle.rz_disk.proofs.Passes.{took_failed}
use Rattle.rz_cells_slots.proofs.Meters.{counted_failed, counted_second}
use Rattle.rz_cells_slots.proofs.Fresh.{header_torn, gate_torn, gate_done}
use Rattle.rz_cells_slots.proofs.formatting.write_header.Goals as goal

pub returns-in_err-store-clause-crash : goal.returns-in_err-store-clause-crash
returns-in_err-store-clause-crash g c told image left =
    let header = c.spell_header.new.out in
    inl (header_torn c.args.geometry.now c.args.fence header c.spell_header.ensures (omega arith) image (subst (λ (t : List ℕ). Torn 0 (length header) t image) c.requires.zeros (c.store.ensures.crash image left)))

pub returns-in_err-store-2-clause-crash : goal.returns-in_err-store-2-clause-crash
returns-in_err-store-2-clause-crash g c told image left =
    let header = c.spell_header.new.out in
    let mid = g.D.Disk.text c.store.new.disk in
    let written = subst (λ (t : List ℕ). Written 0 header t mid) c.requires.zeros (c.in_ok-store.ensures.written told) in
    gate_torn c.args.geometry.now c.args.fence header c.spell_header.ensures (omega arith) mid image written (c.store-2.ensures.crash image left)

pub returns-clause-crash : goal.returns-clause-crash
returns-clause-crash g c told image left =
    let header = c.spell_header.new.out in
    let mid = g.D.Disk.text c.store.new.disk in
    let written = subst (λ (t : List ℕ). Written 0 header t mid) c.requires.zeros (c.in_ok-store.ensures.written told) in
    gate_torn c.args.geometry.now c.args.fence header c.spell_header.ensures (omega arith) mid image written (c.store-2.ensures.crash image left)

pub returns-clause-done : goal.returns-clause-done
returns-clause-done g c told =
    let header = c.spell_header.new.out in
    let mid = g.D.Disk.text c.store.new.disk in
    let written = subst (λ (t : List ℕ). Written 0 header t mid) c.requires.zeros (c.in_ok-store.ensures.written told) in
    gate_done c.args.geometry.now c.args.fence header c.spell_header.ensures (omega arith) mid (g.D.Disk.text c.store-2.new.disk) written (c.in_ok-store-2.ensures.written told)

pub returns-in_err-store-clause-meter : goal.returns-in_err-store-clause-meter
returns-in_err-store-clause-meter g c =
    let failed : IsErr c.from_residual.result = search rules in
    counted_failed 2 4 c.store.result c.from_residual.result (g.D.Disk.meter c.args.disk.now) (g.D.Disk.meter c.store.new.disk) (omega arith) failed c.store.ensures.took c.store.ensures.meter
    (c.in_err-store.ensures.risen refl) (c.in_err-store.ensures.own_risen refl)

pub returns-in_err-store-2-clause-meter : goal.returns-in_err-store-2-clause-meter
returns-in_err-store-2-clause-meter g c =
    let failed : IsErr c.from_residual-in_err-store-2.result = search rules in
    let b = g.D.Disk.meter c.store.new.disk in
    let d = g.D.Disk.meter c.store-2.new.disk in
    counted_second c.store.result c.from_residual-in_err-store-2.result (g.D.Disk.meter c.args.disk.now) b d (ap is_ok c.in_ok-store.was) c.store.ensures.took c.store.ensures.meter
    (took_failed 2 2 c.store-2.result c.from_residual-in_err-store-2.result b d (omega arith) failed c.store-2.ensures.took) c.store-2.ensures.meter
    (λ _. c.in_err-store-2.ensures.risen refl) (λ _. c.in_err-store-2.ensures.own_risen refl)

pub returns-clause-meter : goal.returns-clause-meter
returns-clause-meter g c =
    counted_second c.store.result (Ok tt) (g.D.Disk.meter c.args.disk.now) (g.D.Disk.meter c.store.new.disk) (g.D.Disk.meter c.store-2.new.disk) (ap is_ok c.in_ok-store.was) c.store.ensures.took c.store.ensures.meter
    c.in_ok-store-2.ensures.took c.store-2.ensures.meter (λ failed. absurd (cc)) (λ failed has. absurd (cc))
