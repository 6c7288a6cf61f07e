-- What the images keep is what the calls give.
use Rattle.std.proofs.Common.{ℕ, List, sym, subst}
use Rattle.rz_events.specs.Borrowed.{call_of}
use Rattle.rz_journal.specs.Kept.{IsRowOf}
use Rattle.rz_journal.proofs.Keepings.{all_either, calls_answer, place_there, kept_looked}
use Rattle.rz_journal.proofs.journal.Journal.answer_ref.Goals as goal

pub returns-in-Ok-Some-clause-atomic : goal.returns-in-Ok-Some-clause-atomic
returns-in-Ok-Some-clause-atomic g c told open_it calls after =
    all_either (g.D.Disk.image c.keep.new.self.disk) c.args.self.now.export (call_of c.args.call) (c.keep.ensures.images told) calls after

pub returns-in-Ok-Some-clause-calls : goal.returns-in-Ok-Some-clause-calls
returns-in-Ok-Some-clause-calls g c = calls_answer c.args.self.now c.keep.new.self (call_of c.args.call) c.keep.result c.requires c.keep.ensures.answered

pub returns-in-Ok-Some-clause-place : goal.returns-in-Ok-Some-clause-place
returns-in-Ok-Some-clause-place g c =
    let row = rw c.in-Ok-Some.field-0-is at c.in-Ok-Some.ensures.row in
    place_there g.D.Disk.tells g.D.Disk.text c.args.self.now c.keep.new.self (call_of c.args.call) c.as_slice.result.now c.keep.result
    (subst (λ (bytes : List ℕ). IsRowOf (call_of c.args.call) bytes) (sym c.as_slice.ensures.value) row) c.keep.ensures.used c.keep.ensures.half

pub returns-in-Ok-Some-clause-looked : goal.returns-in-Ok-Some-clause-looked
returns-in-Ok-Some-clause-looked g c = kept_looked c.args.self.now.disk c.keep.new.self.disk (call_of c.args.call) c.in-Ok-Some.row.items c.keep.result (rw c.in-Ok-Some.field-0-is at c.in-Ok-Some.ensures.row)
