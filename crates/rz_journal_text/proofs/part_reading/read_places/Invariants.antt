use Rattle.std.proofs.Common.{◌≡◌, ◌≤◌, ◌-◌, [], length}
use Rattle.rz_journal_text.specs.Fronts.{nodes}
use Rattle.rz_journal_text.proofs.part_reading.read_places.Given as goal

-- the nodes so far, and then the others, are all nodes
abbrev pub invariant-loop : goal.invariant-loop
invariant-loop l = record {
  so_far : nodes l.places (l.count - l.counter) l.front ≡ nodes [] l.count l.initial.front;
  few : length l.places ≤ l.counter;
}
