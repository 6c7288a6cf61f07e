use Rattle.std.proofs.Common.{Ok, arith}
use Rattle.rz_cells_slots.proofs.Meters.{took_after}
use Rattle.rz_cells_slots.proofs.formatting.blank.Goals as goal

pub returns-in-Ok-write_header-clause-meter : goal.returns-in-Ok-write_header-clause-meter
returns-in-Ok-write_header-clause-meter g c =
    let m = c.in-Ok-write_header.ensures.meter in
    record {
      took = took_after 4 (Ok tt) (Ok tt) (g.D.Disk.meter c.args.disk.now) (g.D.Disk.meter c.reset.new.self) (g.D.Disk.meter c.write_header.new.disk) c.reset.ensures.fuse c.reset.ensures.planned (λ ok. ok) m.took;
      lasts = record { planned = omega (arith, c.reset.ensures.planned, m.lasts.planned); own = omega (arith, c.reset.ensures.own, m.lasts.own) };
      risen = λ failed. absurd (cc);
      own_risen = λ failed has. absurd (cc);
    }
