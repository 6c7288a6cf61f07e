-- The bytes that were read begin the picked slot.
use Rattle.std.proofs.Common.{◌≡◌, ℕ, Option, is_ok, sym, refl, ap, subst, arith}
use Rattle.rz_disk.specs.Images.{window}
use Rattle.rz_cells_slots.proofs.Lifts.{slot_long}
use Rattle.rz_cells_slots.proofs.Opened.{head_at, slot_room, reads_alike}
use Rattle.rz_disk.proofs.Passes.{took_failed, took_one}
use Rattle.rz_events.specs.declared.records.Head.{Head}
use Rattle.rz_cells_slots.specs.Opening.{ReadsHead}
use Rattle.rz_cells_slots.proofs.Meters.{read_one, took_under}
use Rattle.rz_cells_slots.proofs.reading.read_head.Goals as goal

pub read-requires : goal.read-requires
read-requires g c = omega (arith, c.slot_at.ensures.within, slot_long c.args.geometry.now, c.requires.size)

pub returns-in-Some-clause-reads : goal.returns-in-Some-clause-reads
returns-in-Some-clause-reads g c told =
    let s = c.args.geometry.now in
    let text = g.D.Disk.text c.args.disk.now in
    let bytes = c.read.new.out in
    let is = subst (λ (at : ℕ). bytes ≡ window at 48 text) c.slot_at.ensures.value (c.in-Ok.ensures.gives told) in
    let same = head_at s text c.args.cell c.args.gate bytes (c.requires.gate told) is in
    reads_alike s _ bytes same (omega (arith, slot_room s text c.args.cell c.requires.size c.requires.cell, slot_long s)) c.in-Some.head c.in-Some.ensures.some

pub returns-in-None-clause-refused : goal.returns-in-None-clause-refused
returns-in-None-clause-refused g c told =
    let s = c.args.geometry.now in
    let text = g.D.Disk.text c.args.disk.now in
    let bytes = c.read.new.out in
    let is = subst (λ (at : ℕ). bytes ≡ window at 48 text) c.slot_at.ensures.value (c.in-Ok.ensures.gives told) in
    let same = head_at s text c.args.cell c.args.gate bytes (c.requires.gate told) is in
    (refl, λ o reads. c.in-None.ensures.none o (reads_alike s bytes _ (sym same) (omega arith) o reads))

pub returns-in_default-clause-reads : goal.returns-in_default-clause-reads
returns-in_default-clause-reads g c = tt

pub returns-in_default-clause-valid : goal.returns-in_default-clause-valid
returns-in_default-clause-valid g c = tt

pub returns-in_default-clause-refused : goal.returns-in_default-clause-refused
returns-in_default-clause-refused g c told = tt

pub returns-in_default-clause-not_size : goal.returns-in_default-clause-not_size
returns-in_default-clause-not_size g c = tt

pub returns-in_default-clause-read : goal.returns-in_default-clause-read
returns-in_default-clause-read g c = read_one c.read.result (g.D.Disk.text c.args.disk.now) (g.D.Disk.text c.read.new.self) (g.D.Disk.image c.args.disk.now) (g.D.Disk.image c.read.new.self) (g.D.Disk.meter c.args.disk.now) (g.D.Disk.meter c.read.new.self) c.read.ensures.text c.read.ensures.crash c.read.ensures.meter

pub returns-in_default-clause-took : goal.returns-in_default-clause-took
returns-in_default-clause-took g c = took_failed 1 1 c.read.result _ (g.D.Disk.meter c.args.disk.now) (g.D.Disk.meter c.read.new.self) (omega arith) refl (took_one c.read.result (g.D.Disk.meter c.args.disk.now) (g.D.Disk.meter c.read.new.self) c.read.ensures.meter)

pub returns-in_default-clause-fault : goal.returns-in_default-clause-fault
returns-in_default-clause-fault g c is = c.in_default.ensures.meter.risen refl

pub returns-in_default-clause-own_fault : goal.returns-in_default-clause-own_fault
returns-in_default-clause-own_fault g c is has = c.in_default.ensures.meter.own_risen refl has

pub returns-in-Some-clause-valid : goal.returns-in-Some-clause-valid
returns-in-Some-clause-valid g c h is =
    let there = subst (λ (o : Option Head). ReadsHead c.args.geometry.now c.read.new.out o) is c.in-Some.ensures.some in (there.0.valid, there.1)

pub returns-in-Some-clause-refused : goal.returns-in-Some-clause-refused
returns-in-Some-clause-refused g c = tt

pub returns-in-Some-clause-not_size : goal.returns-in-Some-clause-not_size
returns-in-Some-clause-not_size g c = tt

pub returns-in-Some-clause-read : goal.returns-in-Some-clause-read
returns-in-Some-clause-read g c = read_one c.read.result (g.D.Disk.text c.args.disk.now) (g.D.Disk.text c.read.new.self) (g.D.Disk.image c.args.disk.now) (g.D.Disk.image c.read.new.self) (g.D.Disk.meter c.args.disk.now) (g.D.Disk.meter c.read.new.self) c.read.ensures.text c.read.ensures.crash c.read.ensures.meter

pub returns-in-Some-clause-took : goal.returns-in-Some-clause-took
returns-in-Some-clause-took g c = took_under 1 c.read.result _ (g.D.Disk.meter c.args.disk.now) (g.D.Disk.meter c.read.new.self) (λ _. ap is_ok c.in-Ok.is) (took_one c.read.result (g.D.Disk.meter c.args.disk.now) (g.D.Disk.meter c.read.new.self) c.read.ensures.meter)

pub returns-in-Some-clause-fault : goal.returns-in-Some-clause-fault
returns-in-Some-clause-fault g c is = absurd (cc)

pub returns-in-Some-clause-own_fault : goal.returns-in-Some-clause-own_fault
returns-in-Some-clause-own_fault g c is = absurd (cc)

pub returns-in-None-clause-reads : goal.returns-in-None-clause-reads
returns-in-None-clause-reads g c = tt

pub returns-in-None-clause-valid : goal.returns-in-None-clause-valid
returns-in-None-clause-valid g c = tt

pub returns-in-None-clause-not_size : goal.returns-in-None-clause-not_size
returns-in-None-clause-not_size g c = tt

pub returns-in-None-clause-read : goal.returns-in-None-clause-read
returns-in-None-clause-read g c = read_one c.read.result (g.D.Disk.text c.args.disk.now) (g.D.Disk.text c.read.new.self) (g.D.Disk.image c.args.disk.now) (g.D.Disk.image c.read.new.self) (g.D.Disk.meter c.args.disk.now) (g.D.Disk.meter c.read.new.self) c.read.ensures.text c.read.ensures.crash c.read.ensures.meter

pub returns-in-None-clause-took : goal.returns-in-None-clause-took
returns-in-None-clause-took g c = took_failed 1 1 c.read.result _ (g.D.Disk.meter c.args.disk.now) (g.D.Disk.meter c.read.new.self) (omega arith) refl (took_one c.read.result (g.D.Disk.meter c.args.disk.now) (g.D.Disk.meter c.read.new.self) c.read.ensures.meter)

pub returns-in-None-clause-fault : goal.returns-in-None-clause-fault
returns-in-None-clause-fault g c is = absurd (cc)

pub returns-in-None-clause-own_fault : goal.returns-in-None-clause-own_fault
returns-in-None-clause-own_fault g c is = absurd (cc)
