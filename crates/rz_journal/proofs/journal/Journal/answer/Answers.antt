use Rattle.rz_journal.proofs.journal.Journal.answer.Goals as goal

pub returns-clause-place : goal.returns-clause-place
returns-clause-place g c = rw c.borrowed.ensures at c.answer_ref.ensures.place
