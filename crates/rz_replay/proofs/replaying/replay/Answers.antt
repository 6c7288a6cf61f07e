use Rattle.std.proofs.Common.{◌-◌, map, refl, reverse, string_bytes, ap}
use Rattle.rz_request.specs.Line.{meaning}
use Rattle.rz_request.specs.Requests.{Reading}
use Rattle.rz_report.specs.Output.{Sunk}
use Rattle.rz_replay.proofs.Wanting.{wanting}
use Rattle.rz_replay.proofs.replaying.replay.Goals as goal

pub returns-in-Err : goal.returns-in-Err
returns-in-Err g c =
    let source : Reading = record {
      before = g.I.Source.left c.args.input.now;
      after = g.I.Source.left c.args.input.now;
      old = g.I.Source.faults c.args.input.now;
      new = g.I.Source.faults c.args.input.now;
    } in
    let sink : Sunk = record {
      before = g.O.Sink.taken c.args.output.now;
      after = g.O.Sink.taken c.args.output.now;
      old = g.O.Sink.faults c.args.output.now;
      new = g.O.Sink.faults c.args.output.now;
    } in
    wanting g.D.Disk (meaning (map string_bytes c.args.words.now)) source c.args.disks.now.items
    (g.L.Link.lost c.args.link.now - g.L.Link.lost c.args.link.now) sink c.unplayed-in-Err.result.status (reverse c.unplayed-in-Err.result.log.items) c.in-Err.ensures (refl, refl)
    (c.unplayed-in-Err.ensures.status, refl) (ap reverse c.unplayed-in-Err.ensures.log)
