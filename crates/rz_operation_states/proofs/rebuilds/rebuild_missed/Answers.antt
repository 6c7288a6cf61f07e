use Rattle.std.proofs.Common.{subst}
use Rattle.mj_angles.specs.declared.layout.Layout.{Layout}
use Rattle.rz_operation_model.specs.Steps.{Missed}
use Rattle.rz_operation_states.specs.declared.stage.OperationState.TheVariants as stage
use Rattle.rz_operation_states.specs.Answers.{IsWorkAfter}
use Rattle.rz_operation_states.specs.Inside.{machine_of}
use Rattle.rz_operation_states.proofs.RebuildTurns.{settled-goes, missed}
use Rattle.rz_operation_states.proofs.rebuilds.rebuild_missed.Goals as goal

pub returns-clause-goes : goal.returns-clause-goes
returns-clause-goes c =
    let b = c.args.rebuilder in
    subst (λ (y : Layout). IsWorkAfter (machine_of y (stage.Rebuilding c.args.node b)) b.pairs Missed (machine_of y c.settled.result)) c.requires.inside.layout
    (settled-goes c.args.node b c.tell.new.self b.pairs Missed _ c.settled.result c.tell.ensures.answered (missed b.layout c.args.node b.state c.requires.inside.going) c.settled.ensures)
