use Rattle.std.proofs.Common.{map, refl, string_bytes}
use Rattle.rz_request.specs.Line.{meaning}
use Rattle.rz_request.specs.Requests.{Reading}
use Rattle.rz_request.proofs.Stopped.{asks_stopped}
use Rattle.rz_request.proofs.asking.request.Goals as goal

pub returns-in-Err : goal.returns-in-Err
returns-in-Err g c =
    let source : Reading = record {
      before = g.I.Source.left c.args.input.now;
      after = g.I.Source.left c.args.input.now;
      old = g.I.Source.faults c.args.input.now;
      new = g.I.Source.faults c.args.input.now;
    } in
    asks_stopped (meaning (map string_bytes c.args.words.now)) source c.args.disks c.in-Err.stop c.in-Err.ensures (refl, refl)
