-- The part is added where it may follow.
use Rattle.std.proofs.Common.{rules, ◌≡◌, false, true, sym, subst}
use Rattle.rz_journal_text.specs.declared.entry.JournalEntry.TheVariants as entry
use Rattle.rz_journal.specs.declared.rebuilding.ReopenProgress.{ReopenProgress}
use Rattle.rz_journal.specs.Opening.{TellsPart, IsAdded}
use Rattle.rz_journal.proofs.Openings.{may_add, part_stops, part_added}
use Rattle.rz_journal.proofs.rebuilding.Rebuilt.add_part.Goals as goal

pub add_part-requires : goal.add_part-requires
add_part-requires c =
    let old = c.args.self.now in
    let yes : c.lets_follow.result ≡ true = search rules in
    may_add old.stage old.export c.args.part.now c.requires (subst (TellsPart old.stage old.export c.args.part.now) yes c.lets_follow.ensures)

pub returns-then-not-lets_follow : goal.returns-then-not-lets_follow
returns-then-not-lets_follow c =
    let old = c.args.self.now in
    let no : c.lets_follow.result ≡ false = search rules in
    part_stops old.stage old.export c.args.part.now old.stage old.export (subst (TellsPart old.stage old.export c.args.part.now) no c.lets_follow.ensures)

pub returns : goal.returns
returns c =
    let old = c.args.self.now in
    let new = c.add_part.new.self in
    let yes : c.lets_follow.result ≡ true = search rules in
    let tells = subst (TellsPart old.stage old.export c.args.part.now) yes c.lets_follow.ensures in
    subst (λ (later : ReopenProgress). IsAdded (entry.Built c.args.part.now) old.stage old.export true later new) (sym c.after_part-self.ensures)
    (part_added old.stage old.export new c.args.part.now tells c.in_ok-add_part.ensures.ok)
