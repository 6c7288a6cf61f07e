-- A history with one mistake, its newest event.
use Rattle.std.specs.Prelude.{List, [], ◌∷◌}
use Rattle.rz_events.specs.Volume.{Volume}
use Rattle.rz_events.specs.declared.events.Event.{Event}
use Rattle.rz_core.specs.Legal.{IsLegal}

-- what stands before the newest event
abbrev pub before : List Event → List Event
before [] = []
before (x ∷ h) = h

-- what stands before it is legal, and with it the history is not
pub record HasMistake (v : Volume) (h : List Event) : Type 0 where
  pub legal : IsLegal v (before h)
  pub mistaken : ¬ IsLegal v h
