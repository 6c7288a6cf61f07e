use Rattle.rz_block_io_laws.proofs.WriteEnds.{ends-exactly}
use Rattle.rz_block_io_laws.proofs.writes.ends.Goals as goal

pub returns : goal.returns
returns c = ends-exactly
