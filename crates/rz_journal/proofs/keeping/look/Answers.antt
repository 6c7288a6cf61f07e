use Rattle.rz_events.specs.Borrowed.{call_of}
use Rattle.rz_journal.proofs.Keepings.{answered_unkept}
use Rattle.rz_journal.proofs.keeping.look.Goals as goal

pub returns-clause-same : goal.returns-clause-same
returns-clause-same c = answered_unkept c.args.export.now c.answer_ref.new.self (call_of c.args.call) c.answer_ref.result c.answer_ref.ensures c.requires.entry
