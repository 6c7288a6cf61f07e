use Rattle.std.proofs.Common.{◌∙◌, None, ap}
use Rattle.rz_disk.specs.Meter.{armed}
use Rattle.rz_shared_locked.proofs.Meters.{armed-there}
use Rattle.rz_shared_locked.proofs.serving.lose_power.Goals as goal

pub returns-clause-meter : goal.returns-clause-meter
returns-clause-meter g c = armed-there g.D.Disk.has_fuse None (g.D.Disk.meter c.crash.new.self.disk) (g.D.Disk.meter c.arm.new.self.disk) c.requires.fuse c.arm.ensures.meter ∙ ap (armed None) c.crash.ensures.meter
