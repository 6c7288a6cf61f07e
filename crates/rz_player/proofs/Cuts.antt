-- Where turns and rounds are cut off, and where no actor has work any more.
use Rattle.std.proofs.Common.{ℕ, Bool, true, false, ◌≡◌, ◌≤◌, ◌<◌, Ok, Err, subst, sym, arith}
use Rattle.std.specs.List.{AllByRecursion}
use Rattle.rz_events.specs.Volume.{Volume}
use Rattle.rz_events.specs.declared.keys.Actor.{Actor}
use Rattle.rz_events.specs.declared.export.Call.{Call}
use Rattle.rz_script.specs.declared.line.Line.TheVariants as line
use Rattle.rz_play.specs.World.{World, actors, has_work}
use Rattle.rz_play.specs.Lines.{IsTurnsOver, IsRoundsOver, PlaysLineOver}
use Rattle.rz_play.specs.Stops.{JournalRefused, StopCause, StopsLineOver, StopsRound, TurnsSpent, most_turns}
use Rattle.rz_player.specs.declared.turns.CutCause.{CutCause}
use Rattle.rz_player.specs.declared.turns.CutCause.TheVariants as cut
use Rattle.rz_player.specs.Ends.{IsLinePlayed, IsLogOf, IsRoundPlayed, IsTurnRefused, IsTurnTaken, StopsAmong}
use Rattle.rz_player.proofs.Sequences.{rounds-idle}

pub turns-cut : (v u : Volume) (tells : Bool) (by : Actor) (j k : ℕ) (w mid next : World) (cause : CutCause) → j < k → mid.turns ≤ most_turns → IsTurnsOver v by j tells w mid → IsTurnTaken u by tells mid (Err cause) next → IsLinePlayed v (line.Turn by k) tells w (Err cause) next
turns-cut v u tells by j k w mid next cut.TooManyTurns lt few played h =
    (j, lt, subst (λ (m : World). IsTurnsOver v by j tells w m) (sym h.0) played, subst (λ (m : World). m.turns ≡ most_turns) (sym h.0) h.1)
turns-cut v u tells by j k w mid next cut.NoMemory lt few played h = (mid, (j, omega arith, played), few, h)

stops-round : (v : Volume) (cause : StopCause) (tells : Bool) (w next : World) → StopsAmong v cause actors tells w next → StopsRound v cause tells w next
stops-round v cause tells w next h = record { done = h.0; by = h.1; more = h.2; order = h.3; played = h.4; waits = h.5; why = h.6 }

pub rounds-cut : (v : Volume) (tells : Bool) (j k : ℕ) (w mid next : World) (cause : CutCause) → j < k → IsRoundsOver v j tells w mid → IsRoundPlayed v actors tells mid (Err cause) next → IsLinePlayed v (line.Rounds k) tells w (Err cause) next
rounds-cut v tells j k w mid next cut.TooManyTurns lt played h = (j, lt, (mid, played, stops-round v TurnsSpent tells mid next h))
rounds-cut v tells j k w mid next cut.NoMemory lt played h = (h.0, (j, lt, (mid, played, h.1)), h.2, h.3)

pub rest-cut : (v : Volume) (tells : Bool) (j : ℕ) (w mid next : World) (cause : CutCause) → IsRoundsOver v j tells w mid → IsRoundPlayed v actors tells mid (Err cause) next → IsLinePlayed v line.Rest tells w (Err cause) next
rest-cut v tells j w mid next cut.TooManyTurns played h = (j, mid, played, stops-round v TurnsSpent tells mid next h)
rest-cut v tells j w mid next cut.NoMemory played h = (h.0, (j, mid, played, h.1), h.2, h.3)

-- Where the journal refused a call.

pub turns-refused : (v : Volume) (tells : Bool) (by : Actor) (j k : ℕ) (w mid next : World) (c : Call) → j < k → mid.turns ≤ most_turns → IsTurnsOver v by j tells w mid → IsTurnRefused v by c mid next
    → IsLogOf (StopsLineOver v (JournalRefused c) (line.Turn by k) tells w) next
turns-refused v tells by j k w mid next c lt few played h = (mid, (j, lt, played, h.0), few, h.1)

pub rounds-refused : (v : Volume) (tells : Bool) (j k : ℕ) (w mid next : World) (c : Call) → j < k → IsRoundsOver v j tells w mid → IsLogOf (StopsAmong v (JournalRefused c) actors tells mid) next
    → IsLogOf (StopsLineOver v (JournalRefused c) (line.Rounds k) tells w) next
rounds-refused v tells j k w mid next c lt played h = (h.0, (j, lt, (mid, played, stops-round v (JournalRefused c) tells mid h.0 h.1)), h.2, h.3)

pub rest-refused : (v : Volume) (tells : Bool) (j : ℕ) (w mid next : World) (c : Call) → IsRoundsOver v j tells w mid → IsLogOf (StopsAmong v (JournalRefused c) actors tells mid) next
    → IsLogOf (StopsLineOver v (JournalRefused c) line.Rest tells w) next
rest-refused v tells j w mid next c played h = (h.0, (j, mid, played, stops-round v (JournalRefused c) tells mid h.0 h.1), h.2, h.3)

-- a round in which no actor had work changed nothing
idle : (v : Volume) (tells : Bool) (mid next : World) (any : Bool) → any ≡ false → IsRoundPlayed v actors tells mid (Ok any) next → (next ≡ mid) × AllByRecursion (λ by. has_work (mid.agendas by) ≡ false) actors
idle v tells mid next false is h = h.1
idle v tells mid next true is h = cc

pub rounds-done : (v : Volume) (tells : Bool) (j k : ℕ) (w mid next : World) (any : Bool) → j < k → any ≡ false → IsRoundsOver v j tells w mid → IsRoundPlayed v actors tells mid (Ok any) next
    → PlaysLineOver v (line.Rounds k) tells w next × (next.turns ≤ most_turns)
rounds-done v tells j k w mid next any lt is played h = let n = idle v tells mid next any is h in
    (subst (λ (m : World). IsRoundsOver v k tells w m) (sym n.0) (rounds-idle v tells j k w mid (omega arith) played n.1), h.2)

pub rest-done : (v : Volume) (tells : Bool) (j : ℕ) (w mid next : World) (any : Bool) → any ≡ false → IsRoundsOver v j tells w mid → IsRoundPlayed v actors tells mid (Ok any) next
    → PlaysLineOver v line.Rest tells w next × (next.turns ≤ most_turns)
rest-done v tells j w mid next any is played h = let n = idle v tells mid next any is h in
    ((j, subst (λ (m : World). IsRoundsOver v j tells w m) (sym n.0) played, subst (λ (m : World). AllByRecursion (λ by. has_work (m.agendas by) ≡ false) actors) (sym n.0) n.1), h.2)
