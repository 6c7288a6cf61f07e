use Rattle.rz_block_io_laws.proofs.ReadCourse.{ends-exactly}
use Rattle.rz_block_io_laws.proofs.reads.ends.Goals as goal

pub returns : goal.returns
returns c = ends-exactly
