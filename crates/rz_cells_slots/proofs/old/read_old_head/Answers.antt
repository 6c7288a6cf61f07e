-- The bytes that were read, with a base of 0, begin the picked slot.
use Rattle.std.proofs.Common.{◌≡◌, inr, ℕ, ◌++◌, length, replicate, is_ok, sym, refl, ◌∙◌, ap, subst, arith, length-append}
use Rattle.std.proofs.lemmas.List.{take_all}
use Rattle.rz_disk.specs.Images.{window}
use Rattle.rz_disk.proofs.Passes.{took_failed, took_one}
use Rattle.rz_cells_slots.proofs.Lifts.{slot_long}
use Rattle.rz_cells_slots.proofs.Based.{old_head_at, old_slot_long}
use Rattle.rz_cells_slots.proofs.Opened.{reads_alike}
use Rattle.rz_cells_slots.proofs.Meters.{took_under}
use Rattle.rz_cells_slots.proofs.old.read_old_head.Goals as goal

pub read-requires : goal.read-requires
read-requires g c = omega (arith, c.old_slot_at-at.ensures.within, slot_long c.args.geometry.now, c.requires.size)

pub returns-in-Some-clause-reads : goal.returns-in-Some-clause-reads
returns-in-Some-clause-reads g c told =
    let s = c.args.geometry.now in
    let text = g.D.Disk.text c.args.disk.now in
    let out = c.read.new.out in
    let long : length (out ++ replicate 8 0) ≡ 48 = omega (arith, length-append out (replicate 8 0), c.read.auto.out) in
    let is = subst (λ (at : ℕ). out ≡ window at 40 text) c.old_slot_at-at.ensures.value (c.in-Ok.ensures.gives told) in
    let same = old_head_at s text c.requires.size c.args.cell c.requires.cell c.args.gate out (c.requires.gate told) is in
    reads_alike s _ (out ++ replicate 8 0) (same ∙ sym (take_all 48 (out ++ replicate 8 0) (omega (arith, long)))) (omega (arith, old_slot_long s text c.requires.size c.args.cell c.requires.cell, slot_long s)) c.in-Some.head c.in-Some.ensures.some

pub returns-in-None-clause-refused : goal.returns-in-None-clause-refused
returns-in-None-clause-refused g c =
    let s = c.args.geometry.now in
    let text = g.D.Disk.text c.args.disk.now in
    let out = c.read.new.out in
    let long : length (out ++ replicate 8 0) ≡ 48 = omega (arith, length-append out (replicate 8 0), c.read.auto.out) in
    inr (
      refl,
      λ told o reads.
          let is = subst (λ (at : ℕ). out ≡ window at 40 text) c.old_slot_at-at.ensures.value (c.in-Ok.ensures.gives told) in
          let same = old_head_at s text c.requires.size c.args.cell c.requires.cell c.args.gate out (c.requires.gate told) is in
          c.in-None.ensures.none o (reads_alike s (out ++ replicate 8 0) _ (take_all 48 (out ++ replicate 8 0) (omega (arith, long)) ∙ sym same) (omega (arith, long)) o reads),
    )

pub returns-in_default-clause-took : goal.returns-in_default-clause-took
returns-in_default-clause-took g c = took_failed 1 1 c.read.result _ (g.D.Disk.meter c.args.disk.now) (g.D.Disk.meter c.read.new.self) (omega arith) refl (took_one c.read.result (g.D.Disk.meter c.args.disk.now) (g.D.Disk.meter c.read.new.self) c.read.ensures.meter)

pub returns-in_default-clause-own_fault : goal.returns-in_default-clause-own_fault
returns-in_default-clause-own_fault g c is has = c.in_default.ensures.meter.own_risen refl has

pub returns-in-Some-clause-took : goal.returns-in-Some-clause-took
returns-in-Some-clause-took g c = took_under 1 c.read.result _ (g.D.Disk.meter c.args.disk.now) (g.D.Disk.meter c.read.new.self) (λ _. ap is_ok c.in-Ok.is) (took_one c.read.result (g.D.Disk.meter c.args.disk.now) (g.D.Disk.meter c.read.new.self) c.read.ensures.meter)

pub returns-in-None-clause-took : goal.returns-in-None-clause-took
returns-in-None-clause-took g c = took_failed 1 1 c.read.result _ (g.D.Disk.meter c.args.disk.now) (g.D.Disk.meter c.read.new.self) (omega arith) refl (took_one c.read.result (g.D.Disk.meter c.args.disk.now) (g.D.Disk.meter c.read.new.self) c.read.ensures.meter)
