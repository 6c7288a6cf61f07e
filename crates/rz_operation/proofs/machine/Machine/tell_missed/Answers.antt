use Rattle.std.proofs.Common.{subst, sym}
use Rattle.rz_operation_model.specs.Steps.{Missed}
use Rattle.rz_operation_states.specs.declared.stage.OperationState.{OperationState}
use Rattle.rz_operation_states.specs.Machine.{Machine}
use Rattle.rz_operation_states.specs.Answers.{IsWorkAfter}
use Rattle.rz_operation_states.specs.Inside.{machine_of}
use Rattle.rz_operation.proofs.machine.Machine.tell_missed.Goals as goal

pub returns : goal.returns
returns c =
    let i = c.self.inside in
    let at : OperationState → Machine = λ s. machine_of i.layout s in
    let told = Missed in
    let new = at c.replace.new.dest in
    let before = at c.replace-stage.result in
    subst (λ (m : Machine). IsWorkAfter m m.pairs told new) c.self.view_is
    (subst (λ (s : OperationState). IsWorkAfter (at s) (at s).pairs told new) c.replace-stage.ensures.value
    (subst (λ (s : OperationState). IsWorkAfter before before.pairs told (at s)) (sym c.replace.ensures.after) c.after_miss-next.ensures.goes))
