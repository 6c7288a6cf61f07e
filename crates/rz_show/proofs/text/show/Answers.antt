use Rattle.std.proofs.Common.{◌≡◌, ◌++◌, take, reverse, ap, ◌∙◌}
use Rattle.rz_events.specs.Events.{by_of}
use Rattle.rz_show.specs.Opened.{positions}
use Rattle.rz_show.specs.Known.{known}
use Rattle.rz_show.specs.Text.{line}
use Rattle.rz_show.proofs.Lines.{knows-more, printed-more}
use Rattle.rz_show.proofs.text.show.Goals as goal

pub loop-event-preserved : goal.loop-event-preserved
loop-event-preserved c =
    let log = c.args.log.now in
    let at = c.loop-event.event-index in
    let x = c.event-item.result in
    let out = c.loop-event.out.items in
    let of_it : c.positions.result ≡ positions (by_of x) (reverse (take at log)) =
    c.positions.ensures.value ∙ ap (known c.loop-event.opened) c.actor_of.ensures ∙ c.loop-event.invariant.known (by_of x) in
    record {
      printed = printed-more log at x out c.push_line.new.out.items c.loop-event-test.true c.event-item.is c.loop-event.invariant.printed
          (c.in_ok-push_line.ensures ∙ ap (λ n. out ++ line n x) of_it);
      known = knows-more c.loop-event.opened c.note.new.self log at x c.loop-event-test.true c.event-item.is c.loop-event.invariant.known c.note.ensures;
    }
