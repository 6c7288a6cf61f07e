-- What the log of a play says is true.
use Rattle.std.specs.Prelude.{ℕ, Bool, ◌≤◌, ◌+◌, List, ◌++◌}
use Rattle.rz_core.specs.Legal.{IsLegal}
use Rattle.rz_events.specs.Volume.{Volume}
use Rattle.rz_events.specs.declared.events.Event.{Event}
use Rattle.rz_safety.specs.Rebuilt.{AreRebuilt}
use Rattle.rz_safety.specs.Sound.{IsSound, IsAnswering}
use Rattle.rz_safety.specs.Writes.{AreWritesEnded}
use Rattle.rz_script.specs.declared.line.Line.{Line}
use Rattle.rz_node_model.specs.States.{NodeState}
use Rattle.rz_export_model.specs.Export.{Export}
use Rattle.rz_play.specs.World.{World, new_world, world_after}
use Rattle.rz_play.specs.Played.{IsBegunFrom}
use Rattle.rz_play.specs.Faults.{missed, misses}
use Rattle.rz_play_laws.specs.Runs.{IsScript}
use Rattle.rz_play_locks.specs.Kept.{NoUpdateLost, AreViewsWhole}
use Rattle.rz_player.specs.Ends.{IsEnded, IsEndedOver}
use Rattle.rz_player.specs.declared.lines.PlayEnd.{PlayEnd}

-- The log of a play of these lines, in which the link lost at most so many messages. Each event is allowed after those before it.
-- Each read gives one write's text, no older than what was acknowledged before it began, and answers unless too many nodes did
-- not. Each write that ends was acknowledged or says why not. Each finished rebuild is whole. No update of a guarded block is lost,
-- and no view sees one in part. Each lost message was lost by a line or by the link.
pub record IsPlayReported (v : Volume) (lines : List Line) (lost : ℕ) (h : List Event) : Type 0 where
  pub legal : IsLegal v h
  pub sound : IsSound v h
  pub answering : IsAnswering v h
  pub written : AreWritesEnded v h
  pub rebuilt : AreRebuilt h
  pub none_lost : NoUpdateLost v lines h
  pub whole_views : AreViewsWhole v lines h
  pub losses : missed h ≤ misses lines + lost

-- so it is of each script, however its play ended
abbrev pub ArePlaysReported : Type 0
ArePlaysReported = (v : Volume) (lines : List Line) → IsScript v lines
    → (end : PlayEnd) (lost : ℕ) (h : List Event) → IsEnded v (new_world v) lines end lost h → IsPlayReported v lines lost h

-- a play from any world on has begun, however it ended
abbrev pub AreBegun : Type 0
AreBegun = (v : Volume) (first : World) (lines : List Line) (end : PlayEnd) (lost : ℕ) (h : List Event) → IsEnded v first lines end lost h → IsBegunFrom v first lines h

-- each lost message of a play after an earlier log was lost by a line or by the link, over disks that tell their texts or that do not
abbrev pub AreLossesTold : Type 0
AreLossesTold = (tells : Bool) (v : Volume) (lines : List Line) (end : PlayEnd) (lost : ℕ) (nodes : ℕ → NodeState) (s : Export) (old log : List Event)
    → IsEndedOver tells v (world_after nodes s old) lines end lost (log ++ old) → missed log ≤ misses lines + lost
