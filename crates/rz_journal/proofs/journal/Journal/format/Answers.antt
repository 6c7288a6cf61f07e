-- A disk without entries keeps a new store.
use Rattle.rz_journal.proofs.Keepings.{new_ready, none_text, none_left}
use Rattle.rz_journal.proofs.journal.Journal.format.Goals as goal

pub invariant_of-result : goal.invariant_of-result
invariant_of-result g c = λ _.
    let entries = c.in-Ok-format.entries in
    new_ready g.D.Disk.tells c.args.volume (g.D.Disk.text entries.disk) (g.D.Disk.image entries.disk) entries.half entries.used c.in-Ok.export (c.new_is_whole.ensures c.args.volume 0 c.rules.ensures) c.in-Ok.ensures c.in-Ok-format.ensures.open c.in-Ok-format.ensures.none

pub returns-in-Ok-format-clause-stands : goal.returns-in-Ok-format-clause-stands
returns-in-Ok-format-clause-stands g c told = none_text c.args.volume (g.D.Disk.text c.in-Ok-format.entries.disk) (c.in-Ok-format.ensures.none told)

pub returns-in-Err-clause-crash : goal.returns-in-Err-clause-crash
returns-in-Err-clause-crash g c told text left = none_left (g.D.Disk.image c.args.disk text) c.args.volume text (c.in-Err.ensures.crash told text left)

pub returns-in-Err-clause-risen : goal.returns-in-Err-clause-risen
returns-in-Err-clause-risen g c is = c.in-Err.ensures.risen (c.format_fault.ensures is)
