use Rattle.std.proofs.Common.{ap, ◌∙◌, refl}
use Rattle.mj_angles.specs.declared.layout.Layout.{Layout}
use Rattle.rz_operation_model.specs.Steps.{in_range}
use Rattle.rz_file.specs.Machine.{Machine as FileMachine, begun}
use Rattle.rz_operation_states.proofs.RangeTurns.{range-begun, settled-inside, settled-work}
use Rattle.rz_operation_states.proofs.ranges.open_range.Goals as goal

pub returns-clause-work : goal.returns-clause-work
returns-clause-work c =
    settled-work c.open.result c.open.result.state c.settled.result refl c.settled.ensures
    ∙ ap (λ (m : FileMachine). in_range m.state) c.open.ensures
    ∙ ap (λ (y : Layout). in_range (begun y c.args.info.now c.args.plan.plan)) c.requires.layout
    ∙ range-begun c.args.layout c.args.info.now c.args.plan.plan

pub returns-clause-inside : goal.returns-clause-inside
returns-clause-inside c =
    settled-inside c.args.layout c.open.result c.open.result.state c.settled.result (ap (λ (m : FileMachine). m.layout) c.open.ensures ∙ c.requires.layout) refl c.settled.ensures
