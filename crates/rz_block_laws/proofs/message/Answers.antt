use Rattle.rz_block_laws.proofs.Sent as laws
use Rattle.rz_block_laws.proofs.message.Goals as goal

pub returns : goal.returns
returns g c = λ tells v. laws.message-law g.D.Disk.text g.D.Disk.image v (c.called.ensures tells) (c.fetched.ensures tells) (c.own_proper.ensures v) (c.handing.ensures v) (c.fetched-2.ensures v) (c.going.ensures v)
