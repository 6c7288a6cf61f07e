use Rattle.rz_restart_laws.proofs.Founds as laws
use Rattle.rz_restart_laws.proofs.found.Goals as goal

pub returns : goal.returns
returns g c = laws.found-imaged g.D.Disk.image
