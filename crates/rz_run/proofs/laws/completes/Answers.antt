use Rattle.rz_run.proofs.Completing.{complete}
use Rattle.rz_run.proofs.laws.completes.Goals as goal

pub returns : goal.returns
returns g c = complete g.D.Disk.tells g.D.Disk.meter g.D.Disk.image g.L.Link.lost
