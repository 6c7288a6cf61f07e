-- What was copied makes open cells.
use Rattle.std.proofs.Common.{◌≡◌, ◌⊎◌, ℕ, ◌+◌, ◌*◌, ◌≤◌, Result, Ok, Err, is_ok, IsErrOf, List, Option, length, refl, sym, ◌∙◌, ap, subst, arith}
use Rattle.std.proofs.lemmas.Result.{err_from_is_err_and}
use Rattle.rz_events.specs.declared.records.Head.{Head}
use Rattle.rz_events.specs.declared.nodes.OpenFault.TheVariants.{DiskFault}
use Rattle.rz_cells_slots.specs.declared.migrating.MigrateFault.{MigrateFault}
use Rattle.rz_cells_slots.specs.declared.migrating.MigrateFault.TheVariants.{Old, New}
use Rattle.rz_disk.proofs.Passes.{took_failed}
use Rattle.rz_cells_slots.specs.Stands.{IsShut}
use Rattle.rz_cells_slots.specs.Open.{IsOpen}
use Rattle.rz_cells_slots.specs.Old.{paired}
use Rattle.rz_cells_slots.specs.Copied.{HoldsCopy, copy_calls}
use Rattle.rz_cells_slots.specs.Counted.{CountedWhere, TookAll}
use Rattle.rz_cells_slots.specs.Held.{count_held}
use Rattle.rz_cells_slots.specs.OldOpening.{old_opening_calls}
use Rattle.rz_cells_slots.proofs.Carried.{copy_both, copy_crash, open_copied}
use Rattle.rz_cells_slots.proofs.Counts.{counted_first, counted_last, counted_none, counted_under, counted_whole, held_paired, read_at_most}
use Rattle.rz_cells_slots.proofs.Meters.{took_under}
use Rattle.rz_cells_slots.proofs.OldOpened.{holds_old}
use Rattle.rz_cells_slots.proofs.Pairs.{paired_long}
use Rattle.rz_cells_slots.proofs.Refused.{on_fault}
use Rattle.rz_cells_slots.proofs.migrating.carry_into.Goals as goal

pub returns-in_err-copy-clause-crash : goal.returns-in_err-copy-clause-crash
returns-in_err-copy-clause-crash g c =
    let s = c.args.geometry.now in
    let text = g.D.Disk.text c.args.old.now in
    let e = c.in-Ok.ensures in
    let its = c.open_old.new.room in
    let p = err_from_is_err_and c.from_residual.result c.from_residual.ensures.1 in
    let gave : c.from_residual.result ≡ Err c.in_err-copy.field-0.0 = p.1 ∙ ap Err p.2 in
    on_fault _ _ _ gave (λ told t left.
    let has = holds_old s its.fence text its.heads.items e.size (e.header told).0 (e.header told).1 e.heads (e.reads told) in
    copy_crash s its.fence text its.heads.items has e.fits.once t (g.D.Disk.image c.args.new.now t)
    (subst (λ (o : List ℕ). g.D.Disk.image c.args.new.now t ⊎ IsShut t ⊎ HoldsCopy c.args.geometry.now c.open_old.new.room.fence o c.open_old.new.room.heads.items t) c.open_old.ensures.read.same (c.copy.ensures.crash told t left)))

pub returns-clause-open : goal.returns-clause-open
returns-clause-open g c =
    let s = c.args.geometry.now in
    let text = g.D.Disk.text c.args.old.now in
    let e = c.in-Ok.ensures in
    let its = c.open_old.new.room in
    let end = c.copy.new.new in
    subst (λ (hs : List (Option Head)). IsOpen g.D.Disk.tells (g.D.Disk.text c.copy.new.new) (g.D.Disk.image c.copy.new.new) c.args.geometry.now c.open_old.new.room.fence c.args.reserved.now.room.gates.items hs)
    (sym (c.pair_up.ensures ∙ ap paired c.deref.ensures.value))
    (open_copied g.D.Disk.tells (g.D.Disk.text end) (g.D.Disk.image end) s its.fence c.args.reserved.now.room.gates.items its.heads.items c.in_ok-copy.ensures.size c.in_ok-copy.ensures.only e.heads e.fits c.requires.shut
    (λ told.
    let has = holds_old s its.fence text its.heads.items e.size (e.header told).0 (e.header told).1 e.heads (e.reads told) in
    let copied = subst (λ (o : List ℕ). HoldsCopy c.args.geometry.now c.open_old.new.room.fence o c.open_old.new.room.heads.items (g.D.Disk.text c.copy.new.new)) c.open_old.ensures.read.same (c.in_ok-copy.ensures.done told) in
    (has.0, copied its.fence has.0 has.1 has.2, has.2)))

pub returns-clause-heads : goal.returns-clause-heads
returns-clause-heads g c =
    let its = c.open_old.new.room in
    ap length (c.pair_up.ensures ∙ ap paired c.deref.ensures.value) ∙ paired_long its.heads.items ∙ ap (λ (n : ℕ). 2 * n) c.in-Ok.ensures.heads

pub returns-clause-pairs : goal.returns-clause-pairs
returns-clause-pairs g c told =
    let s = c.args.geometry.now in
    let text = g.D.Disk.text c.args.old.now in
    let e = c.in-Ok.ensures in
    let its = c.open_old.new.room in
    let has = holds_old s its.fence text its.heads.items e.size (e.header told).0 (e.header told).1 e.heads (e.reads told) in
    let copied = subst (λ (o : List ℕ). HoldsCopy c.args.geometry.now c.open_old.new.room.fence o c.open_old.new.room.heads.items (g.D.Disk.text c.copy.new.new)) c.open_old.ensures.read.same (c.in_ok-copy.ensures.done told) in
    copy_both s its.fence text its.heads.items has e.fits.once (g.D.Disk.text c.copy.new.new) copied

pub returns-clause-old_calls : goal.returns-clause-old_calls
returns-clause-old_calls g c =
    let its = c.open_old.new.room in
    let all : count_held c.pair_up.new.pairs ≡ count_held c.open_old.new.room.heads.items = ap count_held (c.pair_up.ensures ∙ ap paired c.deref.ensures.value) ∙ held_paired its.heads.items in
    let opened : CountedWhere (old_opening_calls c.args.geometry.now) c.open_old.result (IsErrOf c.open_old.result DiskFault) (g.D.Disk.meter c.args.old.now) (g.D.Disk.meter c.open_old.new.disk) =
    record { took = c.open_old.ensures.took; lasts = c.open_old.ensures.read.lasts; risen = c.open_old.ensures.fault; own_risen = c.open_old.ensures.own_fault } in
    let copied : CountedWhere (count_held c.open_old.new.room.heads.items) c.copy.result (IsErrOf c.copy.result (Old DiskFault)) (g.D.Disk.meter c.open_old.new.disk) (g.D.Disk.meter c.copy.new.old) =
    record { took = c.copy.ensures.old_took; lasts = c.copy.ensures.read.lasts; risen = c.copy.ensures.old_risen; own_risen = c.copy.ensures.old_own_risen } in
    counted_whole (old_opening_calls c.args.geometry.now) (count_held its.heads.items) _ c.open_old.result c.copy.result tt _ _ (g.D.Disk.meter c.args.old.now) (g.D.Disk.meter c.open_old.new.disk) (g.D.Disk.meter c.copy.new.old)
    (ap (λ (n : ℕ). old_opening_calls c.args.geometry.now + n) all) (ap is_ok c.in-Ok.is) (ap is_ok c.in_ok-copy.was) opened copied

pub returns-clause-calls : goal.returns-clause-calls
returns-clause-calls g c =
    let its = c.open_old.new.room in
    let all : count_held c.pair_up.new.pairs ≡ count_held c.open_old.new.room.heads.items = ap count_held (c.pair_up.ensures ∙ ap paired c.deref.ensures.value) ∙ held_paired its.heads.items in
    let copied : CountedWhere (copy_calls (count_held c.open_old.new.room.heads.items)) c.copy.result (IsErrOf c.copy.result New) (g.D.Disk.meter c.args.new.now) (g.D.Disk.meter c.copy.new.new) =
    record { took = c.copy.ensures.took; lasts = c.copy.ensures.meter; risen = c.copy.ensures.risen; own_risen = c.copy.ensures.own_risen } in
    let done : Result (Unit {0}) MigrateFault = Ok tt in
    subst (λ (n : ℕ). CountedWhere {T = Unit {0}} {E = MigrateFault} (copy_calls n) (Ok tt) ⊥ (g.D.Disk.meter c.args.new.now) (g.D.Disk.meter c.copy.new.new)) (sym all)
    (counted_under (copy_calls (count_held its.heads.items)) c.copy.result done _ ⊥ (g.D.Disk.meter c.args.new.now) (g.D.Disk.meter c.copy.new.new) (λ _. ap is_ok c.in_ok-copy.was) (λ never. absurd never) copied)

pub returns-in-Err-clause-old_most : goal.returns-in-Err-clause-old_most
returns-in-Err-clause-old_most g c failed n most =
    let opened : CountedWhere (old_opening_calls c.args.geometry.now) c.open_old.result (IsErrOf c.open_old.result DiskFault) (g.D.Disk.meter c.args.old.now) (g.D.Disk.meter c.open_old.new.disk) =
    record { took = c.open_old.ensures.took; lasts = c.open_old.ensures.read.lasts; risen = c.open_old.ensures.fault; own_risen = c.open_old.ensures.own_fault } in
    counted_first (old_opening_calls c.args.geometry.now) (old_opening_calls c.args.geometry.now + n) c.open_old.result _ _ _ (g.D.Disk.meter c.args.old.now) (g.D.Disk.meter c.open_old.new.disk) (omega arith) failed (λ is. let same : c.in-Err.fault ≡ DiskFault = cc (is) in c.in-Err.is ∙ ap Err same) opened

pub returns-in-Err-clause-most : goal.returns-in-Err-clause-most
returns-in-Err-clause-most g c failed n most = counted_none (copy_calls n) _ _ (g.D.Disk.meter c.args.new.now) failed (λ is. absurd (cc))

pub returns-in_err-copy-clause-old_most : goal.returns-in_err-copy-clause-old_most
returns-in_err-copy-clause-old_most g c failed n most =
    let s = c.args.geometry.now in
    let text = g.D.Disk.text c.args.old.now in
    let e = c.in-Ok.ensures in
    let its = c.open_old.new.room in
    let few : count_held c.open_old.new.room.heads.items ≤ n = read_at_most g.D.Disk.tells s text its.heads.items n e.heads (λ told. (its.fence, holds_old s its.fence text its.heads.items e.size (e.header told).0 (e.header told).1 e.heads (e.reads told))) most in
    let p = err_from_is_err_and c.from_residual.result c.from_residual.ensures.1 in
    let gave : c.from_residual.result ≡ Err c.in_err-copy.field-0.0 = p.1 ∙ ap Err p.2 in
    let opened : CountedWhere (old_opening_calls c.args.geometry.now) c.open_old.result (IsErrOf c.open_old.result DiskFault) (g.D.Disk.meter c.args.old.now) (g.D.Disk.meter c.open_old.new.disk) =
    record { took = c.open_old.ensures.took; lasts = c.open_old.ensures.read.lasts; risen = c.open_old.ensures.fault; own_risen = c.open_old.ensures.own_fault } in
    let copied : CountedWhere (count_held c.open_old.new.room.heads.items) c.copy.result (IsErrOf c.copy.result (Old DiskFault)) (g.D.Disk.meter c.open_old.new.disk) (g.D.Disk.meter c.copy.new.old) =
    record { took = c.copy.ensures.old_took; lasts = c.copy.ensures.read.lasts; risen = c.copy.ensures.old_risen; own_risen = c.copy.ensures.old_own_risen } in
    counted_last (old_opening_calls s) (count_held its.heads.items) (old_opening_calls s + n) c.open_old.result c.copy.result c.from_residual.result _ _ _ (g.D.Disk.meter c.args.old.now) (g.D.Disk.meter c.open_old.new.disk) (g.D.Disk.meter c.copy.new.old)
    (omega (arith, few)) (ap is_ok c.in-Ok.is) failed (λ is. c.in_err-copy.was ∙ sym gave ∙ is) opened copied

pub returns-in_err-copy-clause-most : goal.returns-in_err-copy-clause-most
returns-in_err-copy-clause-most g c failed n most =
    let s = c.args.geometry.now in
    let text = g.D.Disk.text c.args.old.now in
    let e = c.in-Ok.ensures in
    let its = c.open_old.new.room in
    let few : count_held c.open_old.new.room.heads.items ≤ n = read_at_most g.D.Disk.tells s text its.heads.items n e.heads (λ told. (its.fence, holds_old s its.fence text its.heads.items e.size (e.header told).0 (e.header told).1 e.heads (e.reads told))) most in
    let p = err_from_is_err_and c.from_residual.result c.from_residual.ensures.1 in
    let gave : c.from_residual.result ≡ Err c.in_err-copy.field-0.0 = p.1 ∙ ap Err p.2 in
    let copied : CountedWhere (copy_calls (count_held c.open_old.new.room.heads.items)) c.copy.result (IsErrOf c.copy.result New) (g.D.Disk.meter c.args.new.now) (g.D.Disk.meter c.copy.new.new) =
    record { took = c.copy.ensures.took; lasts = c.copy.ensures.meter; risen = c.copy.ensures.risen; own_risen = c.copy.ensures.own_risen } in
    counted_first (copy_calls (count_held its.heads.items)) (copy_calls n) c.copy.result c.from_residual.result _ _ (g.D.Disk.meter c.args.new.now) (g.D.Disk.meter c.copy.new.new) (omega (arith, few)) failed (λ is. c.in_err-copy.was ∙ sym gave ∙ is) copied

pub returns-in_err-copy-clause-old_opened : goal.returns-in_err-copy-clause-old_opened
returns-in_err-copy-clause-old_opened g c is =
    let p = err_from_is_err_and c.from_residual.result c.from_residual.ensures.1 in
    let gave : c.from_residual.result ≡ Err c.in_err-copy.field-0.0 = p.1 ∙ ap Err p.2 in
    subst (λ (d : g.row.D.Denot). TookAll (old_opening_calls c.args.geometry.now) (g.D.Disk.meter c.args.old.now) (g.D.Disk.meter d)) (sym (c.copy.ensures.old_untouched (c.in_err-copy.was ∙ sym gave ∙ is)))
    (took_under (old_opening_calls c.args.geometry.now) c.open_old.result _ (g.D.Disk.meter c.args.old.now) (g.D.Disk.meter c.open_old.new.disk) (λ _. ap is_ok c.in-Ok.is) c.open_old.ensures.took)

pub returns-in-Err-clause-old_refused : goal.returns-in-Err-clause-old_refused
returns-in-Err-clause-old_refused g c fault is not_call =
    took_failed (old_opening_calls c.args.geometry.now) (old_opening_calls c.args.geometry.now) c.open_old.result _ (g.D.Disk.meter c.args.old.now) (g.D.Disk.meter c.open_old.new.disk) (omega arith) refl c.open_old.ensures.took
