-- One sync, and then one store.
use Rattle.std.proofs.Common.{rules, IsErr, is_ok, refl, ap, arith}
use Rattle.rz_disk.proofs.Passes.{took_failed, took_one}
use Rattle.rz_cells_slots.proofs.Counts.{took_whole}
use Rattle.rz_cells_slots.proofs.Meters.{lasts_one, own_after, passes_left, took_more, took_nothing, took_up_to}
use Rattle.rz_cells_slots.proofs.copying.open_gate.Goals as goal

pub returns-in_err-sync-clause-took : goal.returns-in_err-sync-clause-took
returns-in_err-sync-clause-took g c =
    let failed : IsErr c.from_residual.result = search rules in
    let a = g.D.Disk.meter c.args.disk.now in
    let b = g.D.Disk.meter c.sync.new.self in
    took_failed 1 3 c.sync.result c.from_residual.result a b (omega arith) failed (took_one c.sync.result a b c.sync.ensures.meter)

pub returns-in_err-store-clause-took : goal.returns-in_err-store-clause-took
returns-in_err-store-clause-took g c =
    let failed : IsErr c.from_residual-in_err-store.result = search rules in
    let a = g.D.Disk.meter c.args.disk.now in
    let b = g.D.Disk.meter c.sync.new.self in
    let one = took_more 0 c.sync.result a a b (ap is_ok c.in_ok-sync.was) (took_nothing a) (took_one c.sync.result a b c.sync.ensures.meter) in
    took_up_to 1 2 3 c.store.result c.from_residual-in_err-store.result a b (g.D.Disk.meter c.store.new.disk) (omega arith) failed one c.store.ensures.took

pub returns-in_err-store-clause-own_risen : goal.returns-in_err-store-clause-own_risen
returns-in_err-store-clause-own_risen g c failed has =
    let a = g.D.Disk.meter c.args.disk.now in
    let b = g.D.Disk.meter c.sync.new.self in
    let one = took_more 0 c.sync.result a a b (ap is_ok c.in_ok-sync.was) (took_nothing a) (took_one c.sync.result a b c.sync.ensures.meter) in
    own_after a b (g.D.Disk.meter c.store.new.disk) (lasts_one c.sync.result a b c.sync.ensures.meter) (c.in_err-store.ensures.own_risen refl (passes_left 1 2 3 a b (omega arith) one has))

pub returns-clause-took : goal.returns-clause-took
returns-clause-took g c =
    let a = g.D.Disk.meter c.args.disk.now in
    let b = g.D.Disk.meter c.sync.new.self in
    let one = took_more 0 c.sync.result a a b (ap is_ok c.in_ok-sync.was) (took_nothing a) (took_one c.sync.result a b c.sync.ensures.meter) in
    took_whole 1 2 3 c.store.result _ a b (g.D.Disk.meter c.store.new.disk) (omega arith) (λ _. ap is_ok c.in_ok-store.was) one c.store.ensures.took
