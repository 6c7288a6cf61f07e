use Rattle.std.proofs.Common.{◌∙◌, ℕ, Ok, Err, map, string_bytes, refl, sym, subst}
use Rattle.rz_request.specs.Line.{meaning}
use Rattle.rz_request.specs.Requests.{Reading}
use Rattle.rz_request.specs.Runs.{AsksRun}
use Rattle.rz_run.proofs.Asked.{run-fits}
use Rattle.rz_run.proofs.running.run.Goals as goal

pub play_script-requires-clause-count : goal.play_script-requires-clause-count
play_script-requires-clause-count g c κs within =
    let source : Reading = record {
      before = g.I.Source.left c.args.input.now;
      after = g.I.Source.left c.run_script.new.input;
      old = g.I.Source.faults c.args.input.now;
      new = g.I.Source.faults c.run_script.new.input;
    } in
    sym c.args.disks.ok.0 ∙ sym c.len-count.ensures ∙ run-fits (meaning (map string_bytes c.args.words.now)) source c.len-count.result c.in-Ok.script c.in-Ok.ensures

pub returns-in-Ok : goal.returns-in-Ok
returns-in-Ok g c =
    let source : Reading = record {
      before = g.I.Source.left c.args.input.now;
      after = g.I.Source.left c.run_script.new.input;
      old = g.I.Source.faults c.args.input.now;
      new = g.I.Source.faults c.run_script.new.input;
    } in (
      Ok c.in-Ok.script,
      subst (λ (n : ℕ). AsksRun (meaning (map string_bytes c.args.words.now)) source n (Ok c.in-Ok.script)) (c.len-count.ensures ∙ c.args.disks.ok.0) c.in-Ok.ensures,
      c.play_script.ensures,
    )

pub returns-in-Err : goal.returns-in-Err
returns-in-Err g c =
    let source : Reading = record {
      before = g.I.Source.left c.args.input.now;
      after = g.I.Source.left c.run_script.new.input;
      old = g.I.Source.faults c.args.input.now;
      new = g.I.Source.faults c.run_script.new.input;
    } in (
      Err c.in-Err.why,
      subst (λ (n : ℕ). AsksRun (meaning (map string_bytes c.args.words.now)) source n (Err c.in-Err.why)) (c.len-count.ensures ∙ c.args.disks.ok.0) c.in-Err.ensures,
      (c.stop-status.ensures, refl, refl),
    )
