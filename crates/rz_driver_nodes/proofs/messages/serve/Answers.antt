use Rattle.std.proofs.Common.{subst, rules}
use Rattle.rz_operation.specs.Machine.{AreBins}
use Rattle.rz_operation_model.specs.Ask.{Ask}
use Rattle.rz_operation.proofs.NodeAsks.{IsBinless, IsBinful, no-bins}
use Rattle.rz_driver_nodes.proofs.MessageCoherence.{any-bins}
use Rattle.rz_driver_nodes.proofs.messages.serve.Goals as goal

pub returns-in-Fetch-clause-message : goal.returns-in-Fetch-clause-message
returns-in-Fetch-clause-message g c =
    let binless : IsBinless c.args.ask.now = search rules in
    λ told n asked. (
      c.args.bins.now,
      record {
        asked = asked;
        handed_are = λ has. absurd (no-bins c.args.ask.now binless has);
        given_is = c.answer_node.ensures.answer;
        leaves = c.answer_node.ensures.leaves told;
      },
    )

pub returns-else-bins-given-clause-message : goal.returns-else-bins-given-clause-message
returns-else-bins-given-clause-message g c =
    let node = c.args.node.now in
    let given = c.bins-given.result.now in
    let binful : IsBinful c.args.ask.now = search rules in
    λ told n asked. (
      given,
      record {
        asked = asked;
        handed_are = λ has. subst (λ (a : Ask). AreBins c.args.machine.now a given) asked c.bins-given.ensures.bins;
        given_is = c.answer_node-in-Keep.ensures.answer;
        leaves = any-bins node.geometry node.state c.args.ask.now c.answer_node-in-Keep.result binful _ given _ _ _ _ _ _ c.copy_from_slice.ensures.after (c.answer_node-in-Keep.ensures.leaves told);
      },
    )
