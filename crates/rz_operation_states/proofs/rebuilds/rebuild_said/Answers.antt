use Rattle.std.proofs.Common.{subst}
use Rattle.mj_angles.specs.declared.layout.Layout.{Layout}
use Rattle.rz_operation_model.specs.Steps.{Noted}
use Rattle.rz_operation_states.specs.declared.stage.OperationState.TheVariants as stage
use Rattle.rz_operation_states.specs.Machine.{text_of}
use Rattle.rz_operation_states.specs.Answers.{IsWorkAfter}
use Rattle.rz_operation_states.specs.Inside.{machine_of}
use Rattle.rz_operation_states.proofs.RebuildTurns.{settled-goes, noted}
use Rattle.rz_operation_states.proofs.rebuilds.rebuild_said.Goals as goal

pub returns-clause-goes : goal.returns-clause-goes
returns-clause-goes c =
    let b = c.args.rebuilder in
    let text = text_of (machine_of c.args.layout (stage.Rebuilding c.args.node b)) in
    subst (λ (y : Layout). IsWorkAfter (machine_of y (stage.Rebuilding c.args.node b)) b.pairs (Noted text) (machine_of y c.settled.result)) c.requires.inside.layout
    (settled-goes c.args.node b c.tell.new.self b.pairs (Noted text) _ c.settled.result c.tell.ensures.answered (noted b.layout c.args.node b.state text c.requires.inside.going) c.settled.ensures)
