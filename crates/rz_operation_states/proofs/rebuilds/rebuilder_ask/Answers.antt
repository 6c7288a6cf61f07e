use Rattle.std.proofs.Common.{subst}
use Rattle.rz_events.specs.declared.machines.RebuildAsk.{RebuildAsk}
use Rattle.rz_rebuild.specs.Machine.{IsAskOf}
use Rattle.rz_operation_states.proofs.Heads.{going-head}
use Rattle.rz_operation_states.proofs.rebuilds.rebuilder_ask.Goals as goal

pub returns-clause-head : goal.returns-clause-head
returns-clause-head c =
    let b = c.args.rebuilder.now in
    going-head c.args.layout b.layout c.args.node b.node b.state c.requires.layout c.requires.node c.requires.going c.next.ensures.under_way
    (subst (λ (a : RebuildAsk). IsAskOf b.layout a) c.next.ensures.value c.next.ensures.place)
