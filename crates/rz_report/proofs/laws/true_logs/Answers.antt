use Rattle.std.proofs.Common.{◌≡◌, [], refl, arith}
use Rattle.rz_node_model.specs.States.{fresh}
use Rattle.rz_export_model.specs.Export.{new_export}
use Rattle.rz_play.specs.World.{new_world}
use Rattle.rz_play.specs.Faults.{missed}
use Rattle.rz_report.proofs.Begun.{has_begun}
use Rattle.rz_report.proofs.laws.true_logs.Goals as goal

pub returns : goal.returns
returns c = λ v lines script end lost h ended.
    let begun = has_begun c.ended.ensures c.stopped.ensures v (new_world v) end lines lost h ended in
    let legal = c.legal.ensures v lines script h begun.0 in
    let in_runs = c.one_run.ensures v h legal in
    let losses = c.losses.ensures v lines (λ n. fresh) (new_export v 0) [] h begun.0 in
    let none : missed [] ≡ 0 = refl in
    let few = begun.1 in
    record {
      legal = legal;
      sound = c.sound.ensures v lines script h begun.0;
      answering = c.answering.ensures v h in_runs;
      written = c.written.ensures v h in_runs;
      rebuilt = c.rebuilt.ensures v lines script h begun.0;
      none_lost = c.none_lost.ensures v lines script h begun.0;
      whole_views = c.whole_views.ensures v lines script h begun.0;
      losses = omega (arith, losses, few, none);
    }
