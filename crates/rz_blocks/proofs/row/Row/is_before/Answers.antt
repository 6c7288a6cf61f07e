use Rattle.std.proofs.Common.{arith}
use Rattle.rz_blocks.proofs.Order.{by-list, by-fid}
use Rattle.rz_blocks.proofs.row.Row.is_before.Goals as goal

pub returns-then-self-other : goal.returns-then-self-other
returns-then-self-other c = by-list c.args.self c.args.other (omega arith) (omega arith) (omega arith) (omega arith) c.if-self-other.true

pub returns-then-self-other-2 : goal.returns-then-self-other-2
returns-then-self-other-2 c = by-fid c.args.self c.args.other (omega arith) (omega arith) (omega arith) (omega arith) c.if-self-other.false c.if-self-other-2.true
