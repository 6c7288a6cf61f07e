use Rattle.rz_block_io_laws.proofs.WriteCourse.{asks-in-order}
use Rattle.rz_block_io_laws.proofs.writes.asks.Goals as goal

pub returns : goal.returns
returns c = asks-in-order
