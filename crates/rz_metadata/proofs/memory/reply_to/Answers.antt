-- A reply that is not want of memory is the model's; and after want of memory the export is as before.
use Rattle.std.proofs.Common.{◌≡◌, false, rules, sym, ◌∙◌, ap}
use Rattle.rz_events.specs.Borrowed.{call_of}
use Rattle.rz_journal.specs.Said.{accepts}
use Rattle.rz_journal.proofs.Keepings.{answered_not}
use Rattle.rz_metadata.proofs.MetadataReplies.{is-wanting, may-want, told-so}
use Rattle.rz_metadata.proofs.memory.reply_to.Goals as goal

pub returns-then-wants_memory-clause-err : goal.returns-then-wants_memory-clause-err
returns-then-wants_memory-clause-err c =
    answered_not c.args.export.now c.answer_ref-reply.new.self (call_of c.args.ask) c.answer_ref-reply.result c.answer_ref-reply.ensures
    (ap accepts (is-wanting c.answer_ref-reply.result (sym c.wants_memory.ensures ∙ c.if-wants_memory.true)))

pub returns-then-wants_memory-clause-wanting : goal.returns-then-wants_memory-clause-wanting
returns-then-wants_memory-clause-wanting c = λ proper.
    may-want c.args.export.now c.answer_ref-reply.new.self (call_of c.args.ask) c.answer_ref-reply.result c.answer_ref-reply.ensures (is-wanting c.answer_ref-reply.result (sym c.wants_memory.ensures ∙ c.if-wants_memory.true))

pub returns-clause-reply : goal.returns-clause-reply
returns-clause-reply c =
    let other : c.wants_memory.result ≡ false = search rules in
    (told-so c.args.export.now c.answer_ref-reply.new.self (call_of c.args.ask) c.answer_ref-reply.result c.answer_ref-reply.ensures (sym c.wants_memory.ensures ∙ other)).0

pub returns-clause-after : goal.returns-clause-after
returns-clause-after c =
    let other : c.wants_memory.result ≡ false = search rules in
    (told-so c.args.export.now c.answer_ref-reply.new.self (call_of c.args.ask) c.answer_ref-reply.result c.answer_ref-reply.ensures (sym c.wants_memory.ensures ∙ other)).1
