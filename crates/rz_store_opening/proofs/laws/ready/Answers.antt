use Rattle.rz_store_opening.proofs.Openings as laws
use Rattle.rz_store_opening.proofs.laws.ready.Goals as goal

pub returns : goal.returns
returns g c = laws.ready g.D.Disk.tells g.D.Disk.meter g.D.Disk.text g.D.Disk.image c.found.ensures
