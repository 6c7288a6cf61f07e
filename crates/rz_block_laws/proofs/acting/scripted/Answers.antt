use Rattle.rz_block_laws.proofs.Acts as laws
use Rattle.rz_block_laws.proofs.acting.scripted.Goals as goal

pub returns : goal.returns
returns c = laws.script-law
