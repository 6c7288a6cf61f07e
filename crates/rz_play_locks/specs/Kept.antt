-- What locks promise of a play that has begun.
use Rattle.std.specs.Prelude.{◌≡◌, List, [], ◌++◌}
use Rattle.mj_angles.specs.declared.layout.Layout.{Layout}
use Rattle.rz_events.specs.declared.keys.Actor.{Actor}
use Rattle.rz_events.specs.declared.keys.Key.{Key}
use Rattle.rz_events.specs.declared.events.Event.{Event}
use Rattle.rz_events.specs.declared.operations.Operation.{Operation}
use Rattle.rz_events.specs.Volume.{Volume}
use Rattle.rz_script.specs.declared.line.Line.{Line}
use Rattle.rz_play.specs.World.{World}
use Rattle.rz_play_locks.specs.Operations.{IsGuarded, given}
use Rattle.rz_play_locks.specs.Promises.{NoneLost, AreWhole}
use Rattle.rz_play_locks.specs.Holding.{AreLocksApart, IsKeeping}

-- Of the log of a play of a new volume: no update of a guarded block is lost.
abbrev pub NoUpdateLost : Volume → List Line → List Event → Type 0
NoUpdateLost v lines h = (key : Key) → IsGuarded (λ a. given a lines) key h → NoneLost v.layout (λ a. given a lines) key [] h

-- and each view of guarded blocks is whole
abbrev pub AreViewsWhole : Volume → List Line → List Event → Type 0
AreViewsWhole v lines h = AreWhole v.layout (λ a. given a lines) [] h

-- The log of a play that went on after an earlier log, and the world that it left: `run` has the events of this run.
pub record IsKeptAfter (layout : Layout) (ops : Actor → List Operation) (old h : List Event) (last : World) : Type 0 where
  pub run : List Event
  pub log_is : h ≡ run ++ old
  pub apart : AreLocksApart last
  pub held : (more : Actor → List Operation) × IsKeeping layout ops more run last
  pub none_lost : (key : Key) → IsGuarded ops key run → NoneLost layout ops key old run
  pub whole_views : AreWhole layout ops old run
