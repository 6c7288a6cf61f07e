-- One entry more, or the end of all, or the first that is damaged.
use Rattle.std.proofs.Common.{rules, ◌≡◌, false, true, sym, subst, arith}
use Rattle.rz_journal.specs.declared.rebuilding.ReopenProgress.{ReopenProgress}
use Rattle.rz_journal.specs.Opening.{TellsEnd, IsAdded}
use Rattle.rz_journal.proofs.Listings.{next_is}
use Rattle.rz_journal.proofs.Openings.{GoSoFar, go_first, go_end, go_badly, go_damaged, go_stop, go_on}
use Rattle.rz_journal.proofs.rebuilding.Rebuilt.add_all.Goals as goal

pub loop-step-init : goal.loop-step-init
loop-step-init c =
    let old = c.args.self.now in
    let volume = old.export.volume in
    subst (λ (stage : ReopenProgress). GoSoFar volume c.args.half.now 0 0 stage old.export) (sym c.requires.empty) (go_first volume c.args.half.now old.export c.requires.some c.requires.new)

pub returns-then-not-ends_well-clause-stopped : goal.returns-then-not-ends_well-clause-stopped
returns-then-not-ends_well-clause-stopped c =
    let l = c.loop-step in
    let no : c.ends_well.result ≡ false = search rules in
    go_badly c.args.self.now.export.volume c.args.half.now l.at l.count l.self.stage l.self.export l.invariant c.in-Ok.step c.in-Ok.ensures c.in-End.is
    (subst (TellsEnd l.self.stage l.self.export) no c.ends_well.ensures)

pub returns-in-End-clause-rebuilt : goal.returns-in-End-clause-rebuilt
returns-in-End-clause-rebuilt c =
    let l = c.loop-step in
    let yes : c.ends_well.result ≡ true = search rules in
    go_end c.args.self.now.export.volume c.args.half.now l.at l.count l.self.stage l.self.export l.invariant c.in-Ok.step c.in-Ok.ensures c.in-End.is
    (subst (TellsEnd l.self.stage l.self.export) yes c.ends_well.ensures)

pub returns-in-End-clause-used : goal.returns-in-End-clause-used
returns-in-End-clause-used c = c.loop-step.invariant.inside

pub returns-in-Damaged-clause-stopped : goal.returns-in-Damaged-clause-stopped
returns-in-Damaged-clause-stopped c =
    let l = c.loop-step in
    go_damaged c.args.self.now.export.volume c.args.half.now l.at l.count l.self.stage l.self.export l.invariant c.in-Ok.step c.in-Ok.ensures c.in-Damaged.is

pub returns-then-not-goes-clause-stopped : goal.returns-then-not-goes-clause-stopped
returns-then-not-goes-clause-stopped c =
    let l = c.loop-step in
    let new = c.add.new.self in
    let no : c.in-Ok-add.goes ≡ false = search rules in
    go_stop c.args.self.now.export.volume c.args.half.now l.at l.count l.self.stage l.self.export l.invariant c.in-Ok.step c.in-Ok.ensures c.in-Entry.entry c.in-Entry.next c.in-Entry.is new.stage new.export
    (subst (λ (goes : _). IsAdded c.in-Entry.entry l.self.stage l.self.export goes new.stage new.export) no c.in-Ok-add.ensures)

pub loop-step-preserved : goal.loop-step-preserved
loop-step-preserved c =
    let l = c.loop-step in
    let new = c.add.new.self in
    let yes : c.in-Ok-add.goes ≡ true = search rules in
    go_on c.args.self.now.export.volume c.args.half.now l.at l.count l.self.stage l.self.export l.invariant c.in-Ok.step c.in-Ok.ensures c.in-Entry.entry c.in-Entry.next c.in-Entry.is new.stage new.export
    (subst (λ (goes : _). IsAdded c.in-Entry.entry l.self.stage l.self.export goes new.stage new.export) yes c.in-Ok-add.ensures)

pub loop-step-smaller : goal.loop-step-smaller
loop-step-smaller c =
    let after = next_is c.args.half.now c.loop-step.at c.in-Ok.step c.in-Entry.entry c.in-Entry.next c.in-Entry.is c.in-Ok.ensures in
    omega (arith, after.0, after.1)
