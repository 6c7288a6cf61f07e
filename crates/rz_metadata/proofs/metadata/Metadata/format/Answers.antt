use Rattle.std.proofs.Common.{arith}
use Rattle.rz_disk.specs.Meter.{faults}
use Rattle.rz_metadata.proofs.MetadataReplies.{made-anew}
use Rattle.rz_metadata.proofs.metadata.Metadata.format.Goals as goal

pub returns-in-Ok-clause-stands : goal.returns-in-Ok-clause-stands
returns-in-Ok-clause-stands g c =
    let lasts = c.in-Ok.ensures.meter in
    made-anew g.D.Disk.tells g.D.Disk.meter g.D.Disk.text g.D.Disk.image c.args.volume c.in-Ok.journal c.in-Ok.ensures.export c.in-Ok.ensures.open c.in-Ok.ensures.stands c.in-Ok.ensures.settled (faults (g.D.Disk.meter c.args.disk)) (omega (arith, lasts.planned, lasts.own))

pub returns-in-Err-clause-lasts : goal.returns-in-Err-clause-lasts
returns-in-Err-clause-lasts g c = let lasts = c.in-Err.ensures.meter in omega (arith, lasts.planned, lasts.own)
