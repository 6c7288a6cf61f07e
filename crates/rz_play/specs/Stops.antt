-- Where a line of a script may be cut off: between two turns. A play stops before a turn that is not taken, and where memory
-- ran out it has only begun.
use Rattle.std.specs.Prelude.{ℕ, Bool, true, false, not, ◌≡◌, ◌≤◌, ◌<◌, List, ◌∷◌, ◌++◌}
use Rattle.rz_events.specs.Volume.{Volume}
use Rattle.rz_events.specs.declared.keys.Actor.{Actor}
use Rattle.rz_events.specs.declared.export.Call.{Call}
use Rattle.rz_events.specs.declared.export.Call.TheVariants as call
use Rattle.rz_log_laws.specs.Changes.{only_asks}
use Rattle.rz_script.specs.declared.line.Line.{Line}
use Rattle.rz_script.specs.declared.line.Line.TheVariants as line
use Rattle.rz_operation_model.specs.Ask.{Ask, AskExport, ask_of}
use Rattle.rz_play.specs.World.{World, actors, has_work, at_work}
use Rattle.rz_play.specs.Lines.{IsTurnsOver, IsRoundOver, IsRoundsOver}

-- a call that may change the export
abbrev pub may_change : Call → Bool
may_change (call.Tree c) = not (only_asks c)
may_change (call.Begin key text) = true
may_change (call.Publish key stamp mask length) = true
may_change (call.Enroll node loss) = true
may_change _ = false

-- This call is asked of the export, and it may change it: a journal of the export needs room for it before it is answered, whether it
-- is then accepted or not.
abbrev pub IsChange : Ask → Call → Type 0
IsChange ask c = (ask ≡ AskExport c) × (may_change c ≡ true)

-- Why a turn is not taken.

-- a play has at most so many turns
abbrev pub most_turns : ℕ
most_turns = 1000000

pub data StopCause : Type 0 where
  -- a turn more is called for
  TurnsSpent : StopCause
  -- the journal failed, or had no room, for this call, which is the turn's: nothing happened
  JournalRefused : Call → StopCause

abbrev pub HasCause : Volume → StopCause → World → Actor → Type 0
HasCause v TurnsSpent w by = w.turns ≡ most_turns
HasCause v (JournalRefused c) w by = (w.turns < most_turns) × IsChange (ask_of v.layout (at_work (w.agendas by)).work) c

-- The turns before it.

-- the round stops before the turn of an actor with work
pub record StopsRound (v : Volume) (cause : StopCause) (tells : Bool) (w next : World) : Type 0 where
  pub done : List Actor
  pub by : Actor
  pub more : List Actor
  pub order : actors ≡ done ++ by ∷ more
  pub played : IsRoundOver v done tells w next
  pub waits : has_work (next.agendas by) ≡ true
  pub why : HasCause v cause next by

abbrev pub StopsLineOver : Volume → StopCause → Line → (tells : Bool) → World → World → Type 0
StopsLineOver v cause (line.Turn by k) tells w next = (j : ℕ) × (j < k) × IsTurnsOver v by j tells w next × HasCause v cause next by
StopsLineOver v cause (line.Rounds k) tells w next = (j : ℕ) × (j < k) × ((mid : World) × IsRoundsOver v j tells w mid × StopsRound v cause tells mid next)
StopsLineOver v cause line.Rest tells w next = (j : ℕ) × (mid : World) × IsRoundsOver v j tells w mid × StopsRound v cause tells mid next
StopsLineOver v cause _ tells w next = ⊥

-- A beginning of a line: some of its turns.

abbrev pub BeginsRound : Volume → (tells : Bool) → World → World → Type 0
BeginsRound v tells w next = (done more : List Actor) × (actors ≡ done ++ more) × IsRoundOver v done tells w next

abbrev pub BeginsLineOver : Volume → Line → (tells : Bool) → World → World → Type 0
BeginsLineOver v (line.Turn by k) tells w next = (j : ℕ) × (j ≤ k) × IsTurnsOver v by j tells w next
BeginsLineOver v (line.Rounds k) tells w next = (j : ℕ) × (j < k) × ((mid : World) × IsRoundsOver v j tells w mid × BeginsRound v tells mid next)
BeginsLineOver v line.Rest tells w next = (j : ℕ) × (mid : World) × IsRoundsOver v j tells w mid × BeginsRound v tells mid next
BeginsLineOver v _ tells w next = next ≡ w

-- Over disks that tell their texts.

abbrev pub StopsLine : Volume → StopCause → Line → World → World → Type 0
StopsLine v cause l w next = StopsLineOver v cause l true w next

abbrev pub BeginsLine : Volume → Line → World → World → Type 0
BeginsLine v l w next = BeginsLineOver v l true w next
