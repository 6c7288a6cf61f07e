use Rattle.std.proofs.Common.{drop, arith}
use Rattle.rz_record.proofs.Codec.{number_at-put, drop-put}
use Rattle.rz_record.proofs.fields.put_u16.Goals as goal

pub returns-clause-there : goal.returns-clause-there
returns-clause-there c = number_at-put c.args.at 2 _ c.args.bytes.now _ _ c.args.value (omega arith) c.write_u16.ensures (omega arith)

pub returns-clause-behind : goal.returns-clause-behind
returns-clause-behind c = drop-put c.args.at 2 c.args.bytes.now _ c.args.value (omega arith) c.write_u16.ensures
