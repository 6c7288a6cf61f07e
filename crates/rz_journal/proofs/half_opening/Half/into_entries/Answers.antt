use Rattle.rz_journal.proofs.Opened.{open_there}
use Rattle.rz_journal.proofs.half_opening.Half.into_entries.Goals as goal

pub returns-clause-open : goal.returns-clause-open
returns-clause-open g c =
    let self = c.args.self in
    open_there g.D.Disk.tells (g.D.Disk.text self.disk) (g.D.Disk.image self.disk) self.half c.args.used self.bytes.items c.requires.open c.requires.room c.requires.holds
