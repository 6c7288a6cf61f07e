use Rattle.std.proofs.Common.{◌≤◌, ◌+◌, ◌-◌, length, take, drop, sym, subst, arith}
use Rattle.std.proofs.lemmas.List.{length-take, length-drop}
use Rattle.std.proofs.KnownBytes.{Appends-trans}
use Rattle.std.specs.Io.KnownBytes.{Appends}
use Rattle.rz_report.proofs.Streams.{take_further}
use Rattle.rz_report.proofs.output.write_all.Goals as goal

pub pieces-preserved : goal.pieces-preserved
pieces-preserved g c =
    let text = c.args.text.now in
    let at = c.pieces.at in
    let within : at + c.in-Ok.n ≤ length text = omega (arith, c.in-Ok.ensures.within, length-take (length text - at) (drop at text), length-drop at text) in
    record {
      within = within;
      taken = subst (λ piece. Appends (g.O.Sink.taken c.args.output.now) (g.O.Sink.taken c.write.new.self) piece) (sym (take_further text at c.in-Ok.n c.pieces.invariant.within))
          (Appends-trans (g.O.Sink.taken c.args.output.now) (g.O.Sink.taken c.pieces.output) (g.O.Sink.taken c.write.new.self) (take at text) _ c.pieces.invariant.taken c.in-Ok.ensures.appended);
      lasting = omega (arith, c.pieces.invariant.lasting, c.in-Ok.ensures.lasting);
    }
