use Rattle.std.proofs.Common.{◌∙◌, map, string_bytes, sym}
use Rattle.rz_request.specs.Line.{meaning}
use Rattle.rz_request.specs.Requests.{Reading}
use Rattle.rz_replay.proofs.Asked.{asks-fits}
use Rattle.rz_replay.proofs.replaying.play_words.Goals as goal

pub play_request-requires : goal.play_request-requires
play_request-requires g c =
    let source : Reading = record {
      before = g.I.Source.left c.args.input.now;
      after = g.I.Source.left c.request.new.input;
      old = g.I.Source.faults c.args.input.now;
      new = g.I.Source.faults c.request.new.input;
    } in
    sym c.args.disks.now.ok.0 ∙ sym c.len-count.ensures ∙ asks-fits (meaning (map string_bytes c.args.words.now)) source c.len-count.result c.in-Ok.request c.in-Ok.ensures
