use Rattle.std.proofs.Common.{subst, sym, ◌∙◌}
use Rattle.mj_angles.specs.declared.layout.Layout.{Layout}
use Rattle.rz_operation_model.specs.Steps.{Replied}
use Rattle.rz_operation_states.specs.declared.stage.OperationState.TheVariants as stage
use Rattle.rz_operation_states.specs.Answers.{IsWorkAfter}
use Rattle.rz_operation_states.specs.Inside.{machine_of}
use Rattle.rz_operation_states.proofs.RebuildTurns.{settled-goes, replied, no-record}
use Rattle.rz_operation_states.proofs.rebuilds.rebuild_replied.Goals as goal

pub returns-clause-goes : goal.returns-clause-goes
returns-clause-goes c =
    let b = c.args.rebuilder in
    let told = sym c.reply_told.ensures ∙ c.in-Some.is in
    subst (λ (y : Layout). IsWorkAfter (machine_of y (stage.Rebuilding c.args.node b)) b.pairs (Replied c.args.reply.now) (machine_of y c.settled.result)) c.requires.inside.layout
    (settled-goes c.args.node b c.tell.new.self b.pairs (Replied c.args.reply.now) _ c.settled.result (no-record b c.tell.new.self c.args.reply.now c.in-Some.answer _ told c.tell.ensures.answered)
    (replied b.layout c.args.node b.state c.args.reply.now c.in-Some.answer c.requires.inside.going told) c.settled.ensures)
