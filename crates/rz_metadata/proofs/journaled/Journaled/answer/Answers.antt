use Rattle.std.proofs.Common.{sym, ◌∙◌}
use Rattle.rz_events.specs.Borrowed.{call_of}
use Rattle.rz_metadata.proofs.MetadataReplies.{is-wanting, left-wanting, left-full, may-lack, export-same}
use Rattle.rz_metadata.proofs.journaled.Journaled.answer.Goals as goal

pub returns-then-wants_memory-clause-left : goal.returns-then-wants_memory-clause-left
returns-then-wants_memory-clause-left g c = λ first calls kept.
    let r = c.in-Reply.reply in
    left-wanting g.D.Disk.tells g.D.Disk.meter g.D.Disk.image first c.args.self.now.journal c.answer_ref.new.self (call_of c.args.ask) calls c.args.self.now.refusal r
    (is-wanting r (sym c.wants_memory.ensures ∙ c.if-wants_memory.true)) c.in-Reply.ensures.answered c.answer_ref.ensures.meter (c.in-Reply.ensures.calls calls) c.in-Reply.ensures.replied kept

pub returns-in-Full-clause-left : goal.returns-in-Full-clause-left
returns-in-Full-clause-left g c = λ first calls kept.
    left-full g.D.Disk.tells g.D.Disk.meter g.D.Disk.image first c.args.self.now.journal c.answer_ref.new.self (call_of c.args.ask) calls c.args.self.now.refusal
    c.in-Full.need c.in-Full.have c.in-Full.ensures.answered kept

pub returns-then-wants_memory-clause-unkept : goal.returns-then-wants_memory-clause-unkept
returns-then-wants_memory-clause-unkept g c = λ none.
    let r = c.in-Reply.reply in
    export-same c.args.self.now.journal c.answer_ref.new.self (call_of c.args.ask) r (is-wanting r (sym c.wants_memory.ensures ∙ c.if-wants_memory.true)) c.in-Reply.ensures.answered

pub returns-then-wants_memory-clause-wanting : goal.returns-then-wants_memory-clause-wanting
returns-then-wants_memory-clause-wanting g c = λ none.
    let r = c.in-Reply.reply in
    may-lack c.args.self.now.journal c.answer_ref.new.self (call_of c.args.ask) r (is-wanting r (sym c.wants_memory.ensures ∙ c.if-wants_memory.true)) c.in-Reply.ensures.answered
