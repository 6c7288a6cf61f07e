use Rattle.std.proofs.Common.{length, ap, ◌∙◌}
use Rattle.rz_events.specs.Volume.{Volume, nodes_of}
use Rattle.rz_script_words.specs.declared.form.Form.TheVariants as forms
use Rattle.rz_request.specs.Requests.{Reading, nodes_in}
use Rattle.rz_request.proofs.Judged.{reads_script}
use Rattle.rz_request.proofs.running.read_run.Goals as goal

pub returns-in-Ok : goal.returns-in-Ok
returns-in-Ok g c =
    let source : Reading = record {
      before = g.I.Source.left c.args.input.now;
      after = g.I.Source.left c.read_script.new.input;
      old = g.I.Source.faults c.args.input.now;
      new = g.I.Source.faults c.read_script.new.input;
    } in
    let need = c.node_count-need.ensures.value ∙ ap (λ (v : Volume). length (nodes_of v.clusters)) c.volume.ensures in
    reads_script forms.Run source nodes_in c.args.disks c.in-Ok.script c.in-Ok.ensures c.fit.result (c.fit.ensures nodes_in need)
