use Rattle.std.proofs.Common.{List, [], ◌++◌, ℕ, ap, ◌∙◌}
use Rattle.std.proofs.lemmas.List.{take_all}
use Rattle.std.specs.Global.{Vec}
use Rattle.std.specs.List.{flat_map}
use Rattle.rz_events.specs.declared.events.Event.{Event}
use Rattle.rz_show.specs.Text.{end_line, lines}
use Rattle.rz_show.proofs.RunLines.{all-printed, more-lines}
use Rattle.rz_show.proofs.run_text.show_run.Goals as goal

pub loop-own-preserved : goal.loop-own-preserved
loop-own-preserved c =
    c.in_ok-push_own.ensures ∙ ap (λ (own : List Event). c.loop-own.out.items ++ lines [] own) c.deref.ensures.value
    ∙ more-lines c.args.shown.now c.loop-own.own-index c.own-item.result c.loop-own.out.items c.loop-own-test.true c.own-item.is c.loop-own.invariant

pub returns-clause-exact : goal.returns-clause-exact
returns-clause-exact c =
    c.in_ok-push_end.ensures
    ∙ ap (λ (out : List ℕ). out ++ end_line c.args.events)
    (c.loop-own.invariant ∙ ap (flat_map (λ (s : Vec Event). lines [] s.items)) (take_all c.loop-own.own-index c.args.shown.now c.loop-own-test.false))

pub returns-clause-run : goal.returns-clause-run
returns-clause-run c = λ history are.
    c.in_ok-push_end.ensures
    ∙ ap (λ (out : List ℕ). out ++ end_line c.args.events)
    (all-printed c.args.shown.now history c.loop-own.own-index c.loop-own.out.items c.loop-own-test.false c.loop-own.invariant are)
