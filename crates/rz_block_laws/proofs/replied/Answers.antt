use Rattle.rz_block_laws.proofs.Replies as laws
use Rattle.rz_block_laws.proofs.replied.Goals as goal

pub returns : goal.returns
returns c = λ v is. laws.replied-law v (c.facts_told.ensures v is)
