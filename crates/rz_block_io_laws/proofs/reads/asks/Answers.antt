use Rattle.rz_block_io_laws.proofs.ReadCourse.{asks-in-order}
use Rattle.rz_block_io_laws.proofs.reads.asks.Goals as goal

pub returns : goal.returns
returns c = asks-in-order
