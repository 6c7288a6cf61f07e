use Rattle.rz_replay.proofs.Nodes.{given-back}
use Rattle.rz_replay.proofs.laws.untouched.Goals as goal

pub returns : goal.returns
returns g c = λ v old w agendas servers same coherence told. given-back g.D.Disk.tells g.D.Disk.text g.D.Disk.image (c.fetched.ensures told) told c.laid.ensures v old w agendas servers same coherence
