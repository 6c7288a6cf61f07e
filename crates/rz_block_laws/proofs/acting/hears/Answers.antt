use Rattle.rz_block_laws.proofs.Acts as laws
use Rattle.rz_block_laws.proofs.acting.hears.Goals as goal

pub returns : goal.returns
returns c = λ v. laws.hears-law c.permanent.ensures v (c.own_turn.ensures v) (c.own_kept.ensures v) (c.own_proper.ensures v) (c.told.ensures v) (c.growing.ensures v) (c.fetched.ensures v)
