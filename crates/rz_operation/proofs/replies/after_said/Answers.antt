use Rattle.std.proofs.Common.{subst, sym}
use Rattle.rz_operation_model.specs.Steps.{Noted}
use Rattle.rz_operation_states.specs.declared.stage.OperationState.{OperationState}
use Rattle.rz_operation_states.specs.Machine.{Machine, text_of}
use Rattle.rz_operation_states.specs.Answers.{IsWorkAfter}
use Rattle.rz_operation_states.specs.Inside.{machine_of}
use Rattle.rz_operation.proofs.replies.after_said.Goals as goal

pub returns-in-Ranging-clause-goes : goal.returns-in-Ranging-clause-goes
returns-in-Ranging-clause-goes c =
    let at : OperationState → Machine = λ s. machine_of c.args.layout s in
    subst (λ (s : OperationState). IsWorkAfter (at s) (at s).pairs (Noted (text_of (at s))) (at c.range_said.result)) (sym c.in-Ranging.is) c.range_said.ensures.goes
