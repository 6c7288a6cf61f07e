-- What a line of a script that takes no turn makes of an actor.
use Rattle.std.specs.Prelude.{ℕ, ◌≡◌, List, Some, slice_get, slice_set}
use Rattle.rz_events.specs.declared.keys.Actor.{Actor}
use Rattle.rz_play.specs.World.{Agenda as APlayer}
use Rattle.rz_driver_actors.specs.declared.actor_agenda.Agenda.{Agenda}
use Rattle.rz_driver_actors.specs.Agendas.{agenda_of}
use Rattle.rz_driver.specs.Worlds.{place_of}

-- The actor was ordered to do something more. What it has in hand stays.
pub record IsActorOrdered (by : Actor) (more : APlayer → APlayer) (old new : List Agenda) : Type 0 where
  pub place : ℕ
  pub agenda : Agenda
  pub after : Agenda
  pub at : place_of by ≡ Some place
  pub is : slice_get old place ≡ Some agenda
  pub agendas : new ≡ slice_set old place after
  pub machine : after.machine ≡ agenda.machine
  pub lock : after.lock ≡ agenda.lock
  pub ordered : agenda_of after ≡ more (agenda_of agenda)
