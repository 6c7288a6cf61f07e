use Rattle.std.proofs.Common.{ℕ, ◌≡◌, inr, refl, is_ok, length, replicate, ◌∙◌, ap, arith}
use Rattle.rz_disk.proofs.Passes.{took_one}
use Rattle.rz_cells_slots.proofs.Copied.{blank_written}
use Rattle.rz_cells_slots.proofs.Fresh.{zeros_torn}
use Rattle.rz_cells_slots.proofs.Meters.{took_after}
use Rattle.rz_cells_slots.proofs.copying.lay_out.Goals as goal

pub returns-clause-blank : goal.returns-clause-blank
returns-clause-blank g c told =
    let header = c.spell_header.new.out in
    blank_written c.args.geometry.now c.args.fence header (g.D.Disk.text c.reset.new.self) (g.D.Disk.text c.write_at.new.self) c.spell_header.ensures (omega arith) (c.in-Ok.ensures.text ∙ ap (λ (n : ℕ). replicate n 0) c.disk_bytes.ensures.value) (c.in-Ok-write_at.ensures.written told)

pub returns-in_default-clause-crash : goal.returns-in_default-clause-crash
returns-in_default-clause-crash g c t left =
    let d = c.write_at.ensures.crash t left in
    let long : length c.spell_header.new.out ≡ 32 = omega arith in
    inr (zeros_torn c.disk_bytes.result (length c.spell_header.new.out) d.0 t (c.in-Ok.ensures.only d.0 d.1 ∙ c.in-Ok.ensures.text) long d.2)

pub returns-in_default-clause-shut : goal.returns-in_default-clause-shut
returns-in_default-clause-shut g c = tt

pub returns-in_default-clause-size : goal.returns-in_default-clause-size
returns-in_default-clause-size g c = tt

pub returns-in_default-clause-blank : goal.returns-in_default-clause-blank
returns-in_default-clause-blank g c = tt

pub returns-in_default-clause-faults : goal.returns-in_default-clause-faults
returns-in_default-clause-faults g c = inr refl

pub returns-clause-crash : goal.returns-clause-crash
returns-clause-crash g c t left =
    let d = c.write_at.ensures.crash t left in
    let long : length c.spell_header.new.out ≡ 32 = omega arith in
    inr (zeros_torn c.disk_bytes.result (length c.spell_header.new.out) d.0 t (c.in-Ok.ensures.only d.0 d.1 ∙ c.in-Ok.ensures.text) long d.2)

pub returns-clause-shut : goal.returns-clause-shut
returns-clause-shut g c t left =
    let d = c.write_at.ensures.crash t left in
    let long : length c.spell_header.new.out ≡ 32 = omega arith in
    zeros_torn c.disk_bytes.result (length c.spell_header.new.out) d.0 t (c.in-Ok.ensures.only d.0 d.1 ∙ c.in-Ok.ensures.text) long d.2

pub returns-clause-faults : goal.returns-clause-faults
returns-clause-faults g c = tt

pub returns-clause-risen : goal.returns-clause-risen
returns-clause-risen g c is = absurd (cc)

pub returns-in_default-clause-took : goal.returns-in_default-clause-took
returns-in_default-clause-took g c = took_after 1 c.write_at.result _ (g.D.Disk.meter c.args.disk.now) (g.D.Disk.meter c.reset.new.self) (g.D.Disk.meter c.write_at.new.self) c.reset.ensures.fuse c.reset.ensures.planned (λ ok. absurd (cc)) (took_one c.write_at.result (g.D.Disk.meter c.reset.new.self) (g.D.Disk.meter c.write_at.new.self) c.write_at.ensures.meter)

pub returns-clause-took : goal.returns-clause-took
returns-clause-took g c = took_after 1 c.write_at.result _ (g.D.Disk.meter c.args.disk.now) (g.D.Disk.meter c.reset.new.self) (g.D.Disk.meter c.write_at.new.self) c.reset.ensures.fuse c.reset.ensures.planned (λ _. ap is_ok c.in-Ok-write_at.is) (took_one c.write_at.result (g.D.Disk.meter c.reset.new.self) (g.D.Disk.meter c.write_at.new.self) c.write_at.ensures.meter)

pub returns-clause-own_risen : goal.returns-clause-own_risen
returns-clause-own_risen g c is has = absurd (cc)
