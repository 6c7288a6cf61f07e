use Rattle.rz_node_laws.proofs.ImageCalls as laws
use Rattle.rz_node_laws.proofs.called.Goals as goal

pub returns : goal.returns
returns g c = λ tells. laws.call-law g.D.Disk.text g.D.Disk.image c.change.ensures (λ d. g.met.D.Disk.text_is_image d tells)
