-- What is promised of the plays of a script.
use Rattle.std.specs.Prelude.{◌≡◌, ◌<◌, ◌^◌, ◌⊎◌, Bool, List, ◌++◌, length}
use Rattle.rz_events.specs.Volume.{Volume, IsVolume}
use Rattle.rz_events.specs.declared.events.Event.{Event}
use Rattle.rz_script.specs.declared.line.Line.{Line}
use Rattle.rz_script.specs.Lines.{AreLines}
use Rattle.rz_core.specs.Legal.{IsLegalAfter}
use Rattle.rz_play.specs.World.{World}
use Rattle.rz_play.specs.Stops.{TurnsSpent}
use Rattle.rz_play.specs.Played.{PlaysLinesOver, StopsLinesOver, BeginsLinesOver}
use Rattle.rz_safety.specs.Sound.{IsSound, IsAnswering}
use Rattle.rz_safety.specs.Rebuilt.{AreRebuilt}
use Rattle.rz_safety.specs.Writes.{AreWritesEnded}

-- A script: its volume keeps the rules, and its lines the limits of that volume.
pub record IsScript (v : Volume) (lines : List Line) : Type 0 where
  pub volume : IsVolume v
  pub limits : AreLines v lines
  pub few : length lines < 2 ^ 32

-- The log of a play that went on after an earlier log: the events of this run stand before those of that log, are legal
-- after it, and with it the log is sound: each read that found a text gives the newest acknowledged write, and answers unless too many
-- nodes did not; each write that ends was acknowledged or says why not; and each rebuild that is said to be finished is.
pub record IsRunAfter (v : Volume) (old h : List Event) : Type 0 where
  pub run : List Event
  pub log_is : h ≡ run ++ old
  pub legal : IsLegalAfter v old run
  pub sound : IsSound v h
  pub answering : IsAnswering v h
  pub written : AreWritesEnded v h
  pub rebuilt : AreRebuilt h

-- A play came to this world, over disks that tell their texts or that do not: at its end, before a turn too many, or between two
-- turns.
abbrev pub IsWorldReached : Volume → List Line → Bool → World → World → Type 0
IsWorldReached v lines tells first last = PlaysLinesOver v lines tells first last ⊎ (StopsLinesOver v TurnsSpent lines tells first last ⊎ BeginsLinesOver v lines tells first last)
