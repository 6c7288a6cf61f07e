-- How a turn, a round, a line or a script ends: whole, or cut off between two turns. Where a turn, a line or an order was not
-- done, what was played stands in the log.
use Rattle.std.specs.Prelude.{ℕ, Bool, true, false, IsTrue, ◌≡◌, ◌<◌, ◌≤◌, List, ◌∷◌, ◌++◌, Option, Some, None, IsSome, Result, Ok, Err}
use Rattle.std.specs.List.{AllByRecursion}
use Rattle.rz_events.specs.Volume.{Volume}
use Rattle.rz_events.specs.declared.keys.Actor.{Actor}
use Rattle.rz_events.specs.declared.export.Call.{Call}
use Rattle.rz_events.specs.declared.events.Event.{Event}
use Rattle.rz_script.specs.declared.line.Line.{Line}
use Rattle.rz_play.specs.World.{World, has_work}
use Rattle.rz_play.specs.Free.{IsTurnOver}
use Rattle.rz_play.specs.Lines.{IsRoundOver, PlaysLineOver}
use Rattle.rz_play.specs.Stops.{StopCause, TurnsSpent, JournalRefused, HasCause, StopsLineOver, BeginsLineOver, most_turns}
use Rattle.rz_play.specs.Played.{PlaysLinesOver, StopsLinesOver, BeginsLinesOver, IsPlayedFrom, IsStoppedFrom, IsBegunFrom}
use Rattle.rz_player.specs.Behind.{Before}
use Rattle.rz_player.specs.declared.turns.CutCause.{CutCause}
use Rattle.rz_player.specs.declared.turns.CutCause.TheVariants as cut
use Rattle.rz_player.specs.declared.lines.PlayEnd.{PlayEnd}
use Rattle.rz_player.specs.declared.lines.PlayEnd.TheVariants as end

-- what was so with what there was before the first line is so still
abbrev pub StaysTrue : (Before → Type 0) → (Before → Type 0) → Type 0
StaysTrue before after = (b : Before) → before b → after b

-- the log and the count of lost messages are those of this world
abbrev pub TellsOf : World → World → Type 0
TellsOf last next = (next.log ≡ last.log) × (next.lost ≡ last.lost)

-- they are those of a world up to which so much was played
abbrev pub IsLogOf : (World → Type 0) → World → Type 0
IsLogOf begun next = (last : World) × begun last × (last.turns ≤ most_turns) × TellsOf last next

-- Over disks that tell their texts or that do not.

-- a turn
abbrev pub IsTurnTaken : Volume → Actor → (tells : Bool) → World → Result (Unit {0}) CutCause → World → Type 0
IsTurnTaken v by tells w (Ok done) next = IsTurnOver v by tells w next × (w.turns < most_turns)
IsTurnTaken v by tells w (Err cut.TooManyTurns) next = (next ≡ w) × HasCause v TurnsSpent w by
IsTurnTaken v by tells w (Err cut.NoMemory) next = TellsOf w next

-- A round of these actors: whether one had work, and took a turn.

abbrev pub HadWork : List Actor → World → Bool → World → Type 0
HadWork actors w true next = w.turns < next.turns
HadWork actors w false next = (next ≡ w) × AllByRecursion (λ by. has_work (w.agendas by) ≡ false) actors

-- it stops before the turn of one that has work, for this cause
abbrev pub StopsAmong : Volume → StopCause → List Actor → (tells : Bool) → World → World → Type 0
StopsAmong v cause actors tells w next = (done : List Actor) × (by : Actor) × (more : List Actor) × (actors ≡ done ++ by ∷ more)
    × IsRoundOver v done tells w next × (has_work (next.agendas by) ≡ true) × HasCause v cause next by

abbrev pub BeginsAmong : Volume → List Actor → (tells : Bool) → World → World → Type 0
BeginsAmong v actors tells w next = (done more : List Actor) × (actors ≡ done ++ more) × IsRoundOver v done tells w next

abbrev pub IsRoundPlayed : Volume → List Actor → (tells : Bool) → World → Result Bool CutCause → World → Type 0
IsRoundPlayed v actors tells w (Ok any) next = IsRoundOver v actors tells w next × HadWork actors w any next × (next.turns ≤ most_turns)
IsRoundPlayed v actors tells w (Err cut.TooManyTurns) next = StopsAmong v TurnsSpent actors tells w next
IsRoundPlayed v actors tells w (Err cut.NoMemory) next = IsLogOf (BeginsAmong v actors tells w) next

-- a round in which an actor had work counts its turns
abbrev pub CountsTurns : Result Bool CutCause → World → World → Type 0
CountsTurns (Ok true) w next = w.turns < next.turns
CountsTurns result w next = Unit {0}

-- a line
abbrev pub IsLinePlayed : Volume → Line → (tells : Bool) → World → Result (Unit {0}) CutCause → World → Type 0
IsLinePlayed v line tells w (Ok done) next = PlaysLineOver v line tells w next × (next.turns ≤ most_turns)
IsLinePlayed v line tells w (Err cut.TooManyTurns) next = StopsLineOver v TurnsSpent line tells w next
IsLinePlayed v line tells w (Err cut.NoMemory) next = IsLogOf (BeginsLineOver v line tells w) next

-- what is so where a line, a round or a turn stopped before a turn that is one too many
abbrev pub OnStop : {A : Type 0} → Result A CutCause → Type 0 → Type 0
OnStop (Err cut.TooManyTurns) so = so
OnStop result so = Unit {0}

-- The call that a journal refused, if it did, as the end of the play says.
abbrev pub EndsAfter : PlayEnd → (refused : Option Call) → Type 0
EndsAfter end.Journal refused = IsSome refused
EndsAfter end.JournalFull refused = IsSome refused
EndsAfter e refused = refused ≡ None

-- Something was not done, and the play is to end so. What was so with what there was before the first line holds of what is left; and
-- where the journal refused a call, this is so of that call.
pub record IsCut (e : PlayEnd) (holds : Before → Type 0) (leaves : Option Call → Before → Type 0) (stops : Call → Before → Type 0) : Type 0 where
  pub refused : Option Call
  pub ends : EndsAfter e refused
  pub left : StaysTrue holds (leaves refused)
  pub stopped : (c : Call) → refused ≡ Some c → (b : Before) → holds b → stops c b

-- what is so where a line, a round or a turn was cut off, and not for want of turns
abbrev pub OnCut : {A : Type 0} → Result A CutCause → Type 0 → Type 0
OnCut (Err cut.NoMemory) so = so
OnCut result so = Unit {0}

-- The journal refused the call of a turn, which was not taken.
abbrev pub IsTurnRefused : Volume → Actor → Call → World → World → Type 0
IsTurnRefused v by c w next = HasCause v (JournalRefused c) w by × TellsOf w next

-- what a play can be cut off by: want of memory, and where there is a journal also its disk or its room
abbrev pub CutsOff : (journaled : Bool) → PlayEnd → Type 0
CutsOff journaled end.Ended = ⊥
CutsOff journaled end.TooManyTurns = ⊥
CutsOff journaled end.NoMemory = Unit {0}
CutsOff journaled end.Journal = IsTrue journaled
CutsOff journaled end.JournalFull = IsTrue journaled

-- A play that was cut off ended as the stage says.
abbrev pub EndsBy : (journaled : Bool) → (why : PlayEnd) → PlayEnd → Type 0
EndsBy journaled why end.Ended = Unit {0}
EndsBy journaled why end.TooManyTurns = Unit {0}
EndsBy journaled why e = (e ≡ why) × CutsOff journaled e

-- how the play of a script came to this world
abbrev pub ComesToWorld : Volume → List Line → (tells : Bool) → PlayEnd → World → World → Type 0
ComesToWorld v lines tells end.Ended first last = PlaysLinesOver v lines tells first last × (last.turns ≤ most_turns)
ComesToWorld v lines tells end.TooManyTurns first last = StopsLinesOver v TurnsSpent lines tells first last
ComesToWorld v lines tells end.Journal first last = (c : Call) × StopsLinesOver v (JournalRefused c) lines tells first last
ComesToWorld v lines tells end.JournalFull first last = (c : Call) × StopsLinesOver v (JournalRefused c) lines tells first last
ComesToWorld v lines tells end.NoMemory first last = BeginsLinesOver v lines tells first last × (last.turns ≤ most_turns)

-- The log of a script, the newest event first, by how its play ended. The link has lost at most so many messages then.
pub record IsEndedOver (tells : Bool) (v : Volume) (first : World) (lines : List Line) (end : PlayEnd) (lost : ℕ) (h : List Event) : Type 0 where
  pub last : World
  pub played : ComesToWorld v lines tells end first last
  pub losses : last.lost ≤ lost
  pub log_is : last.log ≡ h

-- So a play stops for a cause.
pub record IsStoppedOver (tells : Bool) (v : Volume) (cause : StopCause) (first : World) (lines : List Line) (lost : ℕ) (h : List Event) : Type 0 where
  pub last : World
  pub played : StopsLinesOver v cause lines tells first last
  pub losses : last.lost ≤ lost
  pub log_is : last.log ≡ h

-- Over disks that tell their texts.
abbrev pub IsEnded : Volume → World → List Line → PlayEnd → ℕ → List Event → Type 0
IsEnded v first lines end.Ended lost h = (p : IsPlayedFrom v first lines h) × (p.last.lost ≤ lost)
IsEnded v first lines end.TooManyTurns lost h = (p : IsStoppedFrom v TurnsSpent first lines h) × (p.last.lost ≤ lost)
IsEnded v first lines end.Journal lost h = (c : Call) × (p : IsStoppedFrom v (JournalRefused c) first lines h) × (p.last.lost ≤ lost)
IsEnded v first lines end.JournalFull lost h = (c : Call) × (p : IsStoppedFrom v (JournalRefused c) first lines h) × (p.last.lost ≤ lost)
IsEnded v first lines end.NoMemory lost h = (p : IsBegunFrom v first lines h) × (p.last.lost ≤ lost)
