-- The bytes of the entry are those that are read.
use Rattle.std.proofs.Common.{ℕ, ◌+◌, List, sym, subst, arith}
use Rattle.rz_journal_text.specs.Spelling.{Spells}
use Rattle.rz_journal.proofs.Listings.{range_is, read_there, none_there}
use Rattle.rz_journal.proofs.reading.entry_there.Goals as goal

pub returns-in-Ok : goal.returns-in-Ok
returns-in-Ok c =
    let half = c.args.half.now in
    let at = c.args.at in
    let count = c.args.count in
    read_there half at count c.requires.gate c.requires.count c.requires.room c.in-Ok.entry (at + 5 + count) (omega arith)
    (subst (λ (l : List ℕ). Spells l c.in-Ok.entry) (range_is half (at + 5) count) c.in-Ok.ensures.found)

pub returns-in-Err : goal.returns-in-Err
returns-in-Err c =
    let half = c.args.half.now in
    let at = c.args.at in
    let count = c.args.count in
    none_there half at count c.requires.gate c.requires.count c.requires.room c.damaged.result c.in-Err.fault c.damaged.ensures
    (λ e spelled. c.in-Err.ensures.exact e (subst (λ (l : List ℕ). Spells l e) (sym (range_is half (at + 5) count)) spelled))
