use Rattle.std.proofs.Common.{subst, sym}
use Rattle.mj_angles.specs.declared.layout.Layout.{Layout}
use Rattle.rz_events.specs.declared.nodes.NodeAnswer.{NodeAnswer}
use Rattle.rz_events.specs.declared.nodes.NodeAnswer.TheVariants as node
use Rattle.rz_operation_states.specs.declared.stage.OperationState.{OperationState}
use Rattle.rz_operation_states.specs.declared.stage.OperationState.TheVariants as stage
use Rattle.rz_operation_states.specs.Answers.{FitsIfEnough}
use Rattle.rz_operation_states.specs.Inside.{IsOperationState, machine_of}
use Rattle.rz_operation.proofs.ReadTurns.{fetched}
use Rattle.rz_operation.proofs.replies.after_answer.Goals as goal

pub returns-in-Reading-clause-goes : goal.returns-in-Reading-clause-goes
returns-in-Reading-clause-goes c =
    let r = c.in-Reading.reader in
    let new = c.tell_fetch.new.reader in
    let inside : IsOperationState c.args.layout (stage.Reading r) = subst (IsOperationState c.args.layout) c.in-Reading.is c.requires.inside in
    subst (λ (s : OperationState). FitsIfEnough (machine_of c.args.layout s) c.args.answer c.args.bins.now (machine_of c.args.layout (stage.Reading new))) (sym c.in-Reading.is)
    (subst (λ (a : NodeAnswer). FitsIfEnough (machine_of c.args.layout (stage.Reading r)) a c.args.bins.now (machine_of c.args.layout (stage.Reading new))) c.fetch_answer.ensures
    (subst (λ (y : Layout). FitsIfEnough (machine_of y (stage.Reading r)) (node.Fetch c.fetch_answer.result) c.args.bins.now (machine_of y (stage.Reading new))) inside
    (fetched r new c.fetch_answer.result c.args.bins.now c.tell_fetch.ensures)))
