-- Which logs a script may have.
use Rattle.std.specs.Prelude.{Bool, true, ◌≡◌, ◌⊎◌, ◌≤◌, List, [], ◌∷◌}
use Rattle.rz_events.specs.Volume.{Volume}
use Rattle.rz_events.specs.declared.events.Event.{Event}
use Rattle.rz_script.specs.declared.line.Line.{Line}
use Rattle.rz_play.specs.World.{World, new_world}
use Rattle.rz_play.specs.Lines.{PlaysLineOver}
use Rattle.rz_play.specs.Stops.{StopCause, StopsLineOver, BeginsLineOver, most_turns}

-- Over disks that tell their texts or that do not.

-- the lines one after another
abbrev pub PlaysLinesOver : Volume → List Line → (tells : Bool) → World → World → Type 0
PlaysLinesOver v [] tells w next = next ≡ w
PlaysLinesOver v (l ∷ lines) tells w next = (mid : World) × PlaysLineOver v l tells w mid × PlaysLinesOver v lines tells mid next

-- some of them, and the turns of the one after up to one that is not taken
abbrev pub StopsLinesOver : Volume → StopCause → List Line → (tells : Bool) → World → World → Type 0
StopsLinesOver v cause [] tells w next = ⊥
StopsLinesOver v cause (l ∷ lines) tells w next = StopsLineOver v cause l tells w next ⊎ ((mid : World) × PlaysLineOver v l tells w mid × StopsLinesOver v cause lines tells mid next)

-- some of them, and a beginning of the one after
abbrev pub BeginsLinesOver : Volume → List Line → (tells : Bool) → World → World → Type 0
BeginsLinesOver v [] tells w next = next ≡ w
BeginsLinesOver v (l ∷ lines) tells w next = BeginsLineOver v l tells w next ⊎ ((mid : World) × PlaysLineOver v l tells w mid × BeginsLinesOver v lines tells mid next)

-- Over disks that tell them.

abbrev pub PlaysLines : Volume → List Line → World → World → Type 0
PlaysLines v lines w next = PlaysLinesOver v lines true w next

abbrev pub StopsLines : Volume → StopCause → List Line → World → World → Type 0
StopsLines v cause lines w next = StopsLinesOver v cause lines true w next

abbrev pub BeginsLines : Volume → List Line → World → World → Type 0
BeginsLines v lines w next = BeginsLinesOver v lines true w next

-- The log of a play of the whole script, the newest event first. It begins at this world, and has what the log of that
-- world had.
pub record IsPlayedFrom (v : Volume) (first : World) (lines : List Line) (h : List Event) : Type 0 where
  pub last : World
  pub played : PlaysLines v lines first last
  pub few : last.turns ≤ most_turns
  pub log_is : last.log ≡ h

-- The log of a play that stopped before a turn, for this cause.
pub record IsStoppedFrom (v : Volume) (cause : StopCause) (first : World) (lines : List Line) (h : List Event) : Type 0 where
  pub last : World
  pub played : StopsLines v cause lines first last
  pub log_is : last.log ≡ h

-- The log of a play that has begun.
pub record IsBegunFrom (v : Volume) (first : World) (lines : List Line) (h : List Event) : Type 0 where
  pub last : World
  pub played : BeginsLines v lines first last
  pub few : last.turns ≤ most_turns
  pub log_is : last.log ≡ h

-- Plays of a new volume.

abbrev pub IsPlayed : Volume → List Line → List Event → Type 0
IsPlayed v lines h = IsPlayedFrom v (new_world v) lines h

abbrev pub IsStopped : Volume → StopCause → List Line → List Event → Type 0
IsStopped v cause lines h = IsStoppedFrom v cause (new_world v) lines h

abbrev pub IsBegun : Volume → List Line → List Event → Type 0
IsBegun v lines h = IsBegunFrom v (new_world v) lines h
