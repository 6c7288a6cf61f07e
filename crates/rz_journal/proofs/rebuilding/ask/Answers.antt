-- Where memory is not wanting, the reply is that of the model.
use Rattle.std.proofs.Common.{rules, ◌≡◌, false, true, sym, ◌∙◌}
use Rattle.rz_events.specs.declared.export.Reply.TheVariants.{NoMemory}
use Rattle.rz_events.specs.Borrowed.{call_of}
use Rattle.rz_journal.proofs.Openings.{asked}
use Rattle.rz_journal.proofs.rebuilding.ask.Goals as goal

pub returns-clause-accepted : goal.returns-clause-accepted
returns-clause-accepted c =
    let other : c.is_want-is_wanting.result ≡ false = search rules in
    c.accepts-is_accepted.ensures ∙ (asked c.args.export.now c.answer_ref-reply.new.self (call_of c.args.call) c.answer_ref-reply.result c.answer_ref-reply.ensures (λ (is : c.answer_ref-reply.result ≡ NoMemory). (let wrong : true ≡ false = sym (c.is_want-is_wanting.ensures.1 is) ∙ other in absurd (cc)))).0

pub returns-clause-after : goal.returns-clause-after
returns-clause-after c =
    let other : c.is_want-is_wanting.result ≡ false = search rules in
    (asked c.args.export.now c.answer_ref-reply.new.self (call_of c.args.call) c.answer_ref-reply.result c.answer_ref-reply.ensures (λ (is : c.answer_ref-reply.result ≡ NoMemory). (let wrong : true ≡ false = sym (c.is_want-is_wanting.ensures.1 is) ∙ other in absurd (cc)))).1
