use Rattle.rz_node_laws.proofs.Words as laws
use Rattle.rz_node_laws.proofs.fetched.Goals as goal

pub returns : goal.returns
returns g c = λ tells. laws.fetch-law g.D.Disk.text g.D.Disk.image (λ d. g.met.D.Disk.text_is_image d tells)
