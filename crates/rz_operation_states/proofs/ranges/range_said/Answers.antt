use Rattle.std.proofs.Common.{subst, []}
use Rattle.mj_angles.specs.declared.layout.Layout.{Layout}
use Rattle.rz_operation_model.specs.Steps.{Noted}
use Rattle.rz_operation_states.specs.declared.stage.OperationState.TheVariants as stage
use Rattle.rz_operation_states.specs.Machine.{text_of}
use Rattle.rz_operation_states.specs.Answers.{IsWorkAfter}
use Rattle.rz_operation_states.specs.Inside.{machine_of}
use Rattle.rz_operation_states.proofs.RangeTurns.{noted}
use Rattle.rz_operation_states.proofs.ranges.range_said.Goals as goal

pub returns-clause-goes : goal.returns-clause-goes
returns-clause-goes c =
    let file = c.args.file in
    subst (λ (y : Layout). IsWorkAfter (machine_of y (stage.Ranging file)) file.pairs (Noted (text_of (machine_of y (stage.Ranging file)))) (machine_of y c.settled.result)) c.requires.inside.layout
    (noted file c.tell.new.self [] c.settled.result c.settled.ensures c.requires.inside.going c.tell.ensures.answered)
