use Rattle.std.proofs.Common.{subst, sym, ◌∙◌}
use Rattle.mj_angles.specs.declared.layout.Layout.{Layout}
use Rattle.rz_operation_model.specs.Steps.{Replied}
use Rattle.rz_operation_states.specs.declared.stage.OperationState.TheVariants as stage
use Rattle.rz_operation_states.specs.Answers.{IsWorkAfter}
use Rattle.rz_operation_states.specs.Inside.{machine_of}
use Rattle.rz_operation_states.proofs.RangeTurns.{replied}
use Rattle.rz_operation_states.proofs.ranges.range_replied.Goals as goal

pub returns-clause-goes : goal.returns-clause-goes
returns-clause-goes c =
    let file = c.args.file in
    subst (λ (y : Layout). IsWorkAfter (machine_of y (stage.Ranging file)) file.pairs (Replied c.args.reply.now) (machine_of y c.settled.result)) c.requires.inside.layout
    (replied file c.tell.new.self _ c.settled.result c.settled.ensures c.args.reply.now c.in-Some.answer (sym c.reply_told.ensures ∙ c.in-Some.is) c.tell.ensures.answered)
