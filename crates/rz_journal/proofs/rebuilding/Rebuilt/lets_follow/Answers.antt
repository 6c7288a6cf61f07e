-- At each stage the test is the rule.
use Rattle.std.proofs.Common.{false, sym, subst}
use Rattle.rz_journal.specs.declared.rebuilding.ReopenProgress.{ReopenProgress}
use Rattle.rz_journal.specs.Opening.{TellsPart}
use Rattle.rz_journal.proofs.Openings.{first_tells, second_tells, next_tells, never_tells}
use Rattle.rz_journal.proofs.rebuilding.Rebuilt.lets_follow.Goals as goal

pub returns-in-Empty : goal.returns-in-Empty
returns-in-Empty c =
    let s = c.args.self.now.export in
    let p = c.args.part.now in
    subst (λ (stage : ReopenProgress). TellsPart stage s p c.is_counters.result) (sym c.in-Empty.is) (first_tells s p c.is_counters.result c.is_counters.ensures)

pub returns-in-Counters : goal.returns-in-Counters
returns-in-Counters c =
    let s = c.args.self.now.export in
    let p = c.args.part.now in
    subst (λ (stage : ReopenProgress). TellsPart stage s p c.is_root.result) (sym c.in-Counters.is) (second_tells s p c.is_root.result c.is_root.ensures)

pub returns-in-Parts : goal.returns-in-Parts
returns-in-Parts c =
    let s = c.args.self.now.export in
    let p = c.args.part.now in
    subst (λ (stage : ReopenProgress). TellsPart stage s p c.allows.result) (sym c.in-Parts.is) (next_tells s p c.allows.result c.allows.ensures)

pub returns-in-Calls : goal.returns-in-Calls
returns-in-Calls c =
    let s = c.args.self.now.export in
    let p = c.args.part.now in
    subst (λ (stage : ReopenProgress). TellsPart stage s p false) (sym c.in-Calls.is) (never_tells s p)
