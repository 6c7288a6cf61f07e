-- The call is accepted where it may be asked.
use Rattle.std.proofs.Common.{rules, ◌≡◌, false, true, sym, ◌∙◌, subst}
use Rattle.rz_events.specs.Borrowed.{call_of}
use Rattle.rz_journal.specs.Opening.{TellsEnd}
use Rattle.rz_journal.specs.JournalText.{IsAccepted}
use Rattle.rz_journal.proofs.Openings.{call_added, early_stops, call_stops}
use Rattle.rz_journal.proofs.rebuilding.Rebuilt.add_call.Goals as goal

pub returns-then-not-ends_well : goal.returns-then-not-ends_well
returns-then-not-ends_well c =
    let old = c.args.self.now in
    let no : c.ends_well.result ≡ false = search rules in
    early_stops old.stage old.export (call_of c.args.call) old.stage old.export (subst (TellsEnd old.stage old.export) no c.ends_well.ensures)

pub returns-then-not-takes : goal.returns-then-not-takes
returns-then-not-takes c =
    let old = c.args.self.now in
    let no : c.takes.result ≡ false = search rules in
    call_stops old.stage old.export (call_of c.args.call) old.stage old.export
    (λ (is : IsAccepted old.export (call_of c.args.call)). (let wrong : true ≡ false = sym (c.takes.ensures.1 (is.kept, is.proper)) ∙ no in absurd (cc)))

pub ask-requires : goal.ask-requires
ask-requires c = let yes : c.takes.result ≡ true = search rules in (c.takes.ensures.0 yes).1

pub returns-then-not-accepted : goal.returns-then-not-accepted
returns-then-not-accepted c =
    let old = c.args.self.now in
    let no : c.in_ok-accepted.accepted ≡ false = search rules in
    call_stops old.stage old.export (call_of c.args.call) old.stage c.ask.new.export
    (λ (is : IsAccepted old.export (call_of c.args.call)). (let wrong : true ≡ false = sym is.accepted ∙ sym c.in_ok-accepted.ensures.accepted ∙ no in absurd (cc)))

pub returns : goal.returns
returns c =
    let old = c.args.self.now in
    let well : c.ends_well.result ≡ true = search rules in
    let yes : c.takes.result ≡ true = search rules in
    let good : c.in_ok-accepted.accepted ≡ true = search rules in
    let may = c.takes.ensures.0 yes in
    call_added old.stage old.export c.ask.new.export (call_of c.args.call) (subst (TellsEnd old.stage old.export) well c.ends_well.ensures)
    (record { kept = may.0; proper = may.1; accepted = sym c.in_ok-accepted.ensures.accepted ∙ good })
    c.in_ok-accepted.ensures.after
