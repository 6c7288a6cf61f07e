use Rattle.std.proofs.Common.{subst, sym}
use Rattle.mj_angles.specs.declared.layout.Layout.{Layout}
use Rattle.rz_events.specs.declared.machines.FileAnswer.{FileAnswer}
use Rattle.rz_file.specs.Machine.{FitsIfEnough as IsFileAnswered}
use Rattle.rz_operation_model.specs.Ask.{ask_of}
use Rattle.rz_operation_model.specs.Steps.{Missed, in_range}
use Rattle.rz_operation_states.specs.declared.stage.OperationState.TheVariants as stage
use Rattle.rz_operation_states.specs.Answers.{IsWorkAfter, MayMiss}
use Rattle.rz_operation_states.specs.Inside.{machine_of}
use Rattle.rz_operation_states.proofs.RangeTurns.{missed}
use Rattle.rz_operation_states.proofs.ranges.range_missed.Goals as goal

pub returns-clause-goes : goal.returns-clause-goes
returns-clause-goes c =
    let file = c.args.file in
    let asked : MayMiss (ask_of file.layout (in_range file.state)) =
    subst (λ (y : Layout). MayMiss (ask_of y (in_range file.state))) (sym c.requires.inside.layout) c.requires.asked in
    subst (λ (y : Layout). IsWorkAfter (machine_of y (stage.Ranging file)) file.pairs Missed (machine_of y c.settled.result)) c.requires.inside.layout
    (missed file c.tell.new.self _ c.settled.result c.settled.ensures c.requires.inside.going asked
    (subst (λ (a : FileAnswer). IsFileAnswered file a _ c.tell.new.self) c.miss_told.ensures c.tell.ensures.answered))
