use Rattle.std.proofs.Common.{◌≡◌, ◌≤◌, length}
use Rattle.std.specs.List.{AllByRecursion}
use Rattle.std.specs.Vec.{vec_capacity}
use Rattle.rz_driver_actors.specs.Agendas.{IsEmptyAgenda}
use Rattle.rz_driver.proofs.parts.empty_agendas.Given as goal

abbrev pub invariant-loop : goal.invariant-loop
invariant-loop l = record {
  all : AllByRecursion IsEmptyAgenda l.agendas.items;
  count : length l.agendas.items ≡ l.counter;
  room : 80 ≤ vec_capacity l.agendas;
}
