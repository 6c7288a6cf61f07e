use Rattle.std.proofs.Common.{subst, sym, ◌∙◌}
use Rattle.mj_angles.specs.declared.layout.Layout.{Layout}
use Rattle.rz_operation_states.specs.declared.stage.OperationState.TheVariants as stage
use Rattle.rz_operation_states.specs.Answers.{FitsIfEnough}
use Rattle.rz_operation_states.specs.Inside.{machine_of}
use Rattle.rz_operation_states.proofs.RangeTurns.{answered}
use Rattle.rz_operation_states.proofs.ranges.range_answered.Goals as goal

pub returns-clause-goes : goal.returns-clause-goes
returns-clause-goes c =
    let file = c.args.file in
    subst (λ (y : Layout). FitsIfEnough (machine_of y (stage.Ranging file)) c.args.answer c.args.bins.now (machine_of y c.settled.result)) c.requires.inside.layout
    (answered file c.tell.new.self c.args.bins.now c.settled.result c.settled.ensures c.args.answer c.in-Some.told (sym c.answer_told.ensures ∙ c.in-Some.is) c.tell.ensures.answered)
