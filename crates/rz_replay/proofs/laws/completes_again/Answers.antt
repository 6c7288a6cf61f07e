use Rattle.rz_replay.proofs.Completing.{complete}
use Rattle.rz_replay.proofs.laws.completes_again.Goals as goal

pub returns : goal.returns
returns g c = complete c.completes_again.ensures g.D.Disk
