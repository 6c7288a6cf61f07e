use Rattle.std.proofs.Common.{◌≡◌, [], take}
use Rattle.std.specs.Global.{Vec}
use Rattle.std.specs.List.{flat_map}
use Rattle.rz_events.specs.declared.events.Event.{Event}
use Rattle.rz_show.specs.Text.{lines}
use Rattle.rz_show.proofs.run_text.show_run.Given as goal

abbrev pub invariant-loop-own : goal.invariant-loop-own
invariant-loop-own l = l.out.items ≡ flat_map (λ (s : Vec Event). lines [] s.items) (take l.own-index l.shown)
