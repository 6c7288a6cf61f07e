use Rattle.rz_blocks.proofs.Bits.{none-above, least-above}
use Rattle.rz_blocks.proofs.row.first_bit.Goals as goal

pub returns-then-above-eq0 : goal.returns-then-above-eq0
returns-then-above-eq0 c = none-above c.args.word c.args.from c.requires c.if-above-eq0.true

pub returns-else-above-eq0 : goal.returns-else-above-eq0
returns-else-above-eq0 c = least-above c.args.word c.args.from c.ranges.word.fits c.requires c.if-above-eq0.false
