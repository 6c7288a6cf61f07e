use Rattle.std.proofs.Common.{arith}
use Rattle.rz_metadata.proofs.KeptAgain.{kept-again}
use Rattle.rz_metadata.proofs.metadata.Metadata.reopen.Goals as goal

pub returns-in-Ok-clause-stands : goal.returns-in-Ok-clause-stands
returns-in-Ok-clause-stands g c =
    let lasts = c.in-Ok.ensures.meter in
    kept-again g.D.Disk.tells g.D.Disk.meter g.D.Disk.text g.D.Disk.image c.args.volume c.args.disk c.in-Ok.journal c.in-Ok.ensures.open c.in-Ok.ensures.volume c.in-Ok.ensures.calls c.in-Ok.ensures.crash (omega (arith, lasts.planned, lasts.own)) (g.met.D.Disk.text_is_image c.args.disk)

pub returns-in-Ok-clause-made : goal.returns-in-Ok-clause-made
returns-in-Ok-clause-made g c = λ told. (c.in-Ok.journal.used, c.in-Ok.ensures.made told)

pub returns-in-Ok-clause-came : goal.returns-in-Ok-clause-came
returns-in-Ok-clause-came g c =
    let lasts = c.in-Ok.ensures.meter in
    record { count = omega (arith, lasts.planned, lasts.own); same = c.in-Ok.ensures.text; images = c.in-Ok.ensures.crash }

pub returns-in-Err-clause-back : goal.returns-in-Err-clause-back
returns-in-Err-clause-back g c =
    let lasts = c.in-Err.ensures.meter in
    record { count = omega (arith, lasts.planned, lasts.own); same = c.in-Err.ensures.text; images = c.in-Err.ensures.crash }
