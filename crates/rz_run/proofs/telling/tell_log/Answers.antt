use Rattle.std.proofs.Common.{◌≡◌, ℕ, List, length, ap, ◌∙◌, subst, inl}
use Rattle.rz_events.specs.declared.events.Event.{Event}
use Rattle.rz_show.specs.RunText.{run_text}
use Rattle.rz_report.specs.Output.{Sunk, Ends}
use Rattle.rz_run.proofs.telling.tell_log.Goals as goal

pub returns-in-Ok : goal.returns-in-Ok
returns-in-Ok g c =
    let sink : Sunk = record {
      before = g.O.Sink.taken c.args.output.now;
      after = g.O.Sink.taken c.finish.new.output;
      old = g.O.Sink.faults c.args.output.now;
      new = g.O.Sink.faults c.finish.new.output;
    } in
    let log : List Event = c.args.front.log in
    let text : c.deref.result.now ≡ run_text log (length log) = c.deref.ensures.value ∙ (c.in-Ok.ensures.run log c.requires.shown ∙ ap (run_text log) c.count_all-events.ensures.old) in
    inl (subst (λ (t : List ℕ). Ends sink 0 t c.finish.result) text c.finish.ensures)
