use Rattle.rz_block_laws.proofs.Acts as laws
use Rattle.rz_block_laws.proofs.acting.asks.Goals as goal

pub returns : goal.returns
returns c = λ v. laws.asks-law v (c.own_proper.ensures v)
