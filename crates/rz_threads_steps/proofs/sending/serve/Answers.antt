use Rattle.std.proofs.Common.{◌++◌, subst, rules}
use Rattle.rz_operation_model.specs.Ask.{Ask}
use Rattle.rz_operation.specs.Machine.{AreBins}
use Rattle.rz_core.specs.History.{facts}
use Rattle.rz_chronicle.specs.Kinds.{volume_in}
use Rattle.rz_operation.proofs.NodeAsks.{IsBinless, IsBinful, no-bins}
use Rattle.rz_threads_steps.proofs.Messages.{may-ask, no-read}
use Rattle.rz_threads_steps.proofs.sending.serve.Goals as goal

pub call_node-requires-clause-may : goal.call_node-requires-clause-may
call_node-requires-clause-may g c =
    let binless : IsBinless c.args.ask.now = search rules in
    let p = c.args.pass.now in
    let v = volume_in g.J.Naming.kind in
    λ keeps. may-ask v (c.asks.ensures v) (c.handing.ensures v) g.J.Naming.earlier p.log p.actor c.requires.right.0 c.args.machine.now c.args.node c.args.ask.now _ (c.requires.right.1 keeps) c.requires.asked (λ has. absurd (no-bins c.args.ask.now binless has))

pub call_node-requires-in-Keep-clause-may : goal.call_node-requires-in-Keep-clause-may
call_node-requires-in-Keep-clause-may g c =
    let p = c.args.pass.now in
    let v = volume_in g.J.Naming.kind in
    λ keeps. rw c.copy_from_slice.ensures.after (may-ask v (c.asks.ensures v) (c.handing.ensures v) g.J.Naming.earlier p.log p.actor c.requires.right.0 c.args.machine.now c.args.node c.args.ask.now c.bins-given.result.now (c.requires.right.1 keeps) c.requires.asked
    (λ has. subst (λ (a : Ask). AreBins c.args.machine.now a c.bins-given.result.now) c.requires.asked c.bins-given.ensures.bins))

pub returns-in-Fetch-clause-served : goal.returns-in-Fetch-clause-served
returns-in-Fetch-clause-served g c = c.call_node.ensures.served

pub returns-else-bins-given-clause-served : goal.returns-else-bins-given-clause-served
returns-else-bins-given-clause-served g c =
    let served = c.call_node-in-Keep.ensures.served in
    let binful : IsBinful c.args.ask.now = search rules in
    record {
      for_actor = served.for_actor;
      adds = served.adds;
      quiet = served.quiet;
      unshown = served.unshown;
      moves = served.moves;
      read = λ keeps. no-read (volume_in g.J.Naming.kind) (facts (c.call_node-in-Keep.new.pass.log ++ g.J.Naming.earlier)) c.args.node c.args.ask.now c.call_node-in-Keep.result _ _ binful;
      by_node = served.by_node;
    }
