use Rattle.rz_store_opening.proofs.OpenedStores as laws
use Rattle.rz_store_opening.proofs.laws.handed_back.Goals as goal

pub returns : goal.returns
returns g c = laws.are-handed-back g.D.Disk.tells g.D.Disk.meter g.D.Disk.text g.D.Disk.image
