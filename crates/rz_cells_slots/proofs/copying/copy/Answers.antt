-- The gate picks what was copied.
use Rattle.std.proofs.Common.{rules, inl, inr, ⊎_elim, ◌+◌, is_ok, IsErr, refl, ap, arith}
use Rattle.rz_disk.specs.Images.{Torn}
use Rattle.rz_disk.proofs.Passes.{took_failed}
use Rattle.rz_cells_slots.specs.Held.{count_held}
use Rattle.rz_cells_slots.specs.Stands.{IsShut}
use Rattle.rz_cells_slots.specs.Copied.{copy_calls}
use Rattle.rz_cells_slots.proofs.Copied.{gate_is_open}
use Rattle.rz_cells_slots.proofs.Copies.{copies_open, copies_torn}
use Rattle.rz_cells_slots.proofs.Counts.{took_whole}
use Rattle.rz_cells_slots.proofs.Meters.{went, took_under, took_up_to}
use Rattle.rz_cells_slots.proofs.copying.copy.Goals as goal

pub returns-in_default-clause-crash : goal.returns-in_default-clause-crash
returns-in_default-clause-crash g c told t left =
    let s = c.args.geometry.now in
    let mid = g.D.Disk.text c.copy_records.new.new in
    inr (⊎_elim
    (λ (shut : IsShut t). inl shut)
    (λ (torn : Torn 32 1 (g.D.Disk.text c.copy_records.new.new) t). copies_torn s c.args.cells.now.fence (g.D.Disk.text c.args.old.now) c.args.cells.now.heads.items mid (c.in_ok-copy_records.ensures.copies told) t torn)
    (c.open_gate.ensures.crash t left))

pub returns-clause-crash : goal.returns-clause-crash
returns-clause-crash g c told t left =
    let s = c.args.geometry.now in
    let mid = g.D.Disk.text c.copy_records.new.new in
    inr (⊎_elim
    (λ (shut : IsShut t). inl shut)
    (λ (torn : Torn 32 1 (g.D.Disk.text c.copy_records.new.new) t). copies_torn s c.args.cells.now.fence (g.D.Disk.text c.args.old.now) c.args.cells.now.heads.items mid (c.in_ok-copy_records.ensures.copies told) t torn)
    (c.open_gate.ensures.crash t left))

pub returns-clause-done : goal.returns-clause-done
returns-clause-done g c told =
    let s = c.args.geometry.now in
    let mid = g.D.Disk.text c.copy_records.new.new in
    let end = g.D.Disk.text c.open_gate.new.disk in
    let written = c.in-Ok.ensures.written told in
    copies_open s c.args.cells.now.fence (g.D.Disk.text c.args.old.now) c.args.cells.now.heads.items mid (c.in_ok-copy_records.ensures.copies told) end written.torn (gate_is_open mid end written)

pub returns-in_err-copy_records-clause-took : goal.returns-in_err-copy_records-clause-took
returns-in_err-copy_records-clause-took g c =
    let n = count_held c.args.cells.now.heads.items in
    let a = g.D.Disk.meter c.args.new.now in
    let b = g.D.Disk.meter c.lay_out.new.disk in
    let failed : IsErr c.from_residual-in_err-copy_records.result = search rules in
    took_up_to 1 n (copy_calls n) c.copy_records.result c.from_residual-in_err-copy_records.result a b (g.D.Disk.meter c.copy_records.new.new) (omega arith) failed
    (took_under 1 c.lay_out.result went a b (λ _. ap is_ok c.in_ok-lay_out.was) c.lay_out.ensures.took) c.copy_records.ensures.took

pub returns-in_default-clause-old_took : goal.returns-in_default-clause-old_took
returns-in_default-clause-old_took g c =
    let n = count_held c.args.cells.now.heads.items in
    took_failed n n c.copy_records.result _ (g.D.Disk.meter c.args.old.now) (g.D.Disk.meter c.copy_records.new.old) (omega arith) refl c.copy_records.ensures.old_took

pub returns-in_default-clause-took : goal.returns-in_default-clause-took
returns-in_default-clause-took g c =
    let n = count_held c.args.cells.now.heads.items in
    let a = g.D.Disk.meter c.args.new.now in
    let b = g.D.Disk.meter c.lay_out.new.disk in
    let d = g.D.Disk.meter c.copy_records.new.new in
    let all = took_whole 1 n (1 + n) c.copy_records.result went a b d refl (λ _. ap is_ok c.in_ok-copy_records.was)
    (took_under 1 c.lay_out.result went a b (λ _. ap is_ok c.in_ok-lay_out.was) c.lay_out.ensures.took) c.copy_records.ensures.took in
    took_up_to (1 + n) 3 (copy_calls n) c.open_gate.result _ a d (g.D.Disk.meter c.open_gate.new.disk) (omega arith) refl all c.open_gate.ensures.took

pub returns-clause-took : goal.returns-clause-took
returns-clause-took g c =
    let n = count_held c.args.cells.now.heads.items in
    let a = g.D.Disk.meter c.args.new.now in
    let b = g.D.Disk.meter c.lay_out.new.disk in
    let d = g.D.Disk.meter c.copy_records.new.new in
    let all = took_whole 1 n (1 + n) c.copy_records.result went a b d refl (λ _. ap is_ok c.in_ok-copy_records.was)
    (took_under 1 c.lay_out.result went a b (λ _. ap is_ok c.in_ok-lay_out.was) c.lay_out.ensures.took) c.copy_records.ensures.took in
    took_whole (1 + n) 3 (copy_calls n) c.open_gate.result _ a d (g.D.Disk.meter c.open_gate.new.disk) (omega arith) (λ _. ap is_ok c.in-Ok.is) all c.open_gate.ensures.took
