use Rattle.std.proofs.Common.{[], map}
use Rattle.rz_disk.specs.Meter.{faults}
use Rattle.rz_chronicle.specs.Keys.{sids_of}
use Rattle.rz_run.proofs.Firsts.{beside}
use Rattle.rz_run.proofs.running.play_script.Given as goal

-- the book's name, and what each disk has counted
abbrev pub ghosts-play_named : goal.ghosts-play_named
ghosts-play_named g a = record {
  book = a.opened.seen.book;
  counters = a.opened.tokens.counters;
  copy = a.opened.tokens.copy;
  kind = a.opened.tokens.kind;
  first = beside (sids_of a.script.now.volume) (map (λ d. faults (g.D.Disk.meter d)) a.disks.items);
}

-- it is honest where the disks tell what they hold, and its log begins anew
abbrev pub ghosts-after : goal.ghosts-after
ghosts-after g a = record { honest = g.D.Disk.tells; earlier = [] }
