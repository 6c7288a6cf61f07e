use Rattle.std.proofs.Common.{false, subst}
use Rattle.rz_events.specs.declared.machines.WriterAsk.{WriterAsk}
use Rattle.rz_writer.specs.Machine.{IsAskOf}
use Rattle.rz_operation_states.proofs.Heads.{write-head}
use Rattle.rz_operation_states.proofs.blocks.write_ask.Goals as goal

pub returns-clause-head : goal.returns-clause-head
returns-clause-head c =
    let s = c.args.writer.now.state in
    write-head false c.args.text.now s c.state.ensures.write (subst (λ (a : WriterAsk). IsAskOf s.layout a) c.next.ensures.value c.next.ensures.place)
