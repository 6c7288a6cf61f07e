use Rattle.mj_inverse_four.proofs.Blocks.{part_here}
use Rattle.mj_inverse_four.proofs.starts.words_at.Goals as goal

pub returns : goal.returns
returns c = part_here c.args.parts.now c.args.m _ c.requires
