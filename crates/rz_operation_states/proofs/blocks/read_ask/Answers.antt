use Rattle.std.proofs.Common.{false, subst}
use Rattle.rz_events.specs.declared.machines.ReaderAsk.{ReaderAsk}
use Rattle.rz_reader.specs.Machine.{IsAskOf}
use Rattle.rz_client_model.specs.Read.{reader_ask, reader_end}
use Rattle.rz_operation_states.proofs.Heads.{read-none}
use Rattle.rz_operation_states.proofs.blocks.read_ask.Goals as goal

pub returns-clause-head : goal.returns-clause-head
returns-clause-head c = let s = c.args.reader.now.state in read-none s.layout false s.key (reader_end s) (reader_ask s) (subst (λ (a : ReaderAsk). IsAskOf s.layout a) c.next.ensures.value c.next.ensures.place)
