-- What holds no entries stands for none.
use Rattle.rz_journal.proofs.Fresh.{shut_or_none}
use Rattle.rz_journal.proofs.entries.Entries.format.Goals as goal

pub returns-in-Err-clause-crash : goal.returns-in-Err-clause-crash
returns-in-Err-clause-crash g c told image left = shut_or_none (g.D.Disk.image c.args.disk image) image (c.blank.ensures.crash told image left)
