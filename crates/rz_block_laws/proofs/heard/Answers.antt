use Rattle.rz_block_laws.proofs.Turns as laws
use Rattle.rz_block_laws.proofs.heard.Goals as goal

pub returns : goal.returns
returns g c = λ tells v. laws.heard-law g.D.Disk.text g.D.Disk.image c.permanent.ensures v (c.fetched.ensures tells) c.longer.ensures (c.own_proper.ensures v) (c.taken.ensures v) (c.growing.ensures v) (c.message.ensures tells v)
