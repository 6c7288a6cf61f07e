use Rattle.std.proofs.Common.{[]}
use Rattle.rz_chronicle.proofs.start.NewBook.start.Given as goal

-- the log begins anew
abbrev pub ghosts-anew : goal.ghosts-anew
ghosts-anew a = record { honest = a.honest; earlier = [] }
