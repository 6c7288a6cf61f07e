-- At each stage the test is the rule.
use Rattle.std.proofs.Common.{false, true, sym, subst}
use Rattle.rz_journal.specs.declared.rebuilding.ReopenProgress.{ReopenProgress}
use Rattle.rz_journal.specs.Opening.{TellsEnd}
use Rattle.rz_journal.proofs.Openings.{empty_ends, counters_end, parts_end, calls_end}
use Rattle.rz_journal.proofs.rebuilding.Rebuilt.ends_well.Goals as goal

pub returns-in-Empty : goal.returns-in-Empty
returns-in-Empty c = let s = c.args.self.now.export in subst (λ (stage : ReopenProgress). TellsEnd stage s true) (sym c.in-Empty.is) (empty_ends s)

pub returns-in-Counters : goal.returns-in-Counters
returns-in-Counters c = let s = c.args.self.now.export in subst (λ (stage : ReopenProgress). TellsEnd stage s false) (sym c.in-Counters.is) (counters_end s)

pub returns-in-Parts : goal.returns-in-Parts
returns-in-Parts c =
    let s = c.args.self.now.export in
    let named = c.is_named.result in
    subst (λ (stage : ReopenProgress). TellsEnd stage s named) (sym c.in-Parts.is) (parts_end s named c.is_named.ensures)

pub returns-in-Calls : goal.returns-in-Calls
returns-in-Calls c = let s = c.args.self.now.export in subst (λ (stage : ReopenProgress). TellsEnd stage s true) (sym c.in-Calls.is) (calls_end s)
