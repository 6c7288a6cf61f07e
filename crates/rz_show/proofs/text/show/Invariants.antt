use Rattle.std.proofs.Common.{◌≡◌, [], ◌++◌, take, drop, reverse}
use Rattle.rz_show.specs.Known.{Knows}
use Rattle.rz_show.specs.Text.{lines}
use Rattle.rz_show.proofs.text.show.Given as goal

abbrev pub invariant-loop-event : goal.invariant-loop-event
invariant-loop-event l = record {
  printed : l.out.items ++ lines (reverse (take l.event-index l.log)) (drop l.event-index l.log) ≡ lines [] l.log;
  known : Knows l.opened (reverse (take l.event-index l.log));
}
