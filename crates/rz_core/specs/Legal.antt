-- Which histories are legal.
use Rattle.std.specs.Prelude.{false, ◌≡◌, ◌<◌, ◌-◌, ◌^◌, List, [], ◌∷◌, ◌++◌, length}
use Rattle.std.specs.List.{AllByRecursion}
use Rattle.rz_events.specs.Volume.{Volume}
use Rattle.rz_events.specs.declared.nodes.Phase.TheVariants.{Up}
use Rattle.rz_events.specs.declared.events.Word.{Word}
use Rattle.rz_events.specs.declared.events.Word.TheVariants.{Node}
use Rattle.rz_events.specs.declared.events.Event.{Event}
use Rattle.rz_events.specs.declared.events.Event.TheVariants as e
use Rattle.rz_events.specs.Events.{by_of, word_of, same_actor, same_word}
use Rattle.rz_core.specs.History.{Facts, facts, of_word, of_actor}
use Rattle.rz_core.specs.NodeWord.{phase}
use Rattle.rz_core.specs.Own.{IsOpen}
use Rattle.rz_core.specs.ExportRows.{MetaRow, BeginRow, DeniedRow, PublishRow, RevokedRow, LookRow, RecheckRow, EnrollRow, NextRow}
use Rattle.rz_core.specs.NodeRows.{DidRow, PassedRow, RefusedRow, FetchRow, VoidRow, BrokeRow, IsNodeOf, ProbeRow, StartRow, UnopenedRow, LoseRow, ReplaceRow}
use Rattle.rz_core.specs.OwnRows.{LeftRow, GotRow, GaveRow}
use Rattle.rz_core.specs.Courses.{IsGot, IsGave, DoneRow}

-- The row of an event in the table of what is allowed. It reads the volume, the permanent facts, the events of the event's
-- word, the events by its actor, and of these the ones of one run of the program: an operation is begun and ended in one
-- run, and what a reader, a writer or an operation says is what its course has come to in it.
abbrev pub Row : Volume → Facts → List Event → List Event → List Event → Event → Type 0
Row v f w o run (e.Meta by call reply) = MetaRow v f w call reply
Row v f w o run (e.Begin by key stamp base text) = BeginRow v f w key stamp base text
Row v f w o run (e.Denied by asked why) = DeniedRow w asked why
Row v f w o run (e.Publish by key stamp mask refused) = PublishRow v f w o by key stamp mask refused
Row v f w o run (e.Revoked by key stamp later) = RevokedRow f w by key stamp later
Row v f w o run (e.Look by key answer) = LookRow f w key answer
Row v f w o run (e.Recheck by key answer) = RecheckRow f w o by key answer
Row v f w o run (e.Enroll by node loss fence) = EnrollRow w o by node loss fence
Row v f w o run (e.Next by node after answer) = NextRow v f w node after answer
Row v f w o run (e.Did by node change) = DidRow v f w o by node change
Row v f w o run (e.Passed by node key stamp held) = PassedRow v f w o by node key stamp held
Row v f w o run (e.Refused by node why told) = RefusedRow v f w node why told
Row v f w o run (e.Fetch by node key position stamp answer) = FetchRow f w node key position stamp answer
Row v f w o run (e.Void by node fid) = VoidRow f w fid
Row v f w o run (e.Broke by node change) = BrokeRow v f w o by node change
Row v f w o run (e.Probe by node loss) = ProbeRow w loss
Row v f w o run (e.Armed node k pick) = Unit {0}
Row v f w o run (e.Stop node) = phase w ≡ Up
Row v f w o run (e.Start node took) = StartRow w took
Row v f w o run (e.Unopened node cause) = UnopenedRow w cause
Row v f w o run (e.Lose node loss) = LoseRow w loss
Row v f w o run (e.Replace by node loss fence) = ReplaceRow w o by node loss fence
Row v f w o run (e.Missed by node reply) = IsOpen run
Row v f w o run (e.Left by key why) = LeftRow v f o by key why
Row v f w o run (e.Got by number key part end) = GotRow v f o by key end × IsGot v by number run key part end
Row v f w o run (e.Gave by number key part end) = GaveRow v f o by key end × IsGave v by number run key part end
Row v f w o run (e.Done by number answer) = DoneRow v by number run answer

-- a word is the export's, an actor's, or that of a node of the volume
abbrev pub HasWord : Volume → Word → Type 0
HasWord v (Node n) = IsNodeOf v n
HasWord v _ = Unit {0}

-- The one test of legality, over these arguments alone. A word has room for fewer than 2^64 events.
pub record Allowed (v : Volume) (f : Facts) (w o run : List Event) (x : Event) : Type 0 where
  pub room : length w < 2 ^ 64 - 1
  pub word : HasWord v (word_of x)
  pub row : Row v f w o run x

-- the event is allowed after the history, in a run that has these of its actor's events
abbrev pub IsAllowedIn : Volume → List Event → List Event → Event → Type 0
IsAllowedIn v h run x = Allowed v (facts h) (of_word (word_of x) h) (of_actor (by_of x) h) run x

-- Histories of one run.

abbrev pub IsAllowed : Volume → List Event → Event → Type 0
IsAllowed v h x = IsAllowedIn v h (of_actor (by_of x) h) x

-- A history is legal where each event is allowed after those before it.
abbrev pub IsLegal : Volume → List Event → Type 0
IsLegal v [] = Unit {0}
IsLegal v (x ∷ h) = IsLegal v h × IsAllowed v h x

-- Histories of one run or of several.

-- the event is allowed after the history, in a run that has some newest part of its actor's events
pub record AllowedInRun (v : Volume) (h : List Event) (x : Event) : Type 0 where
  pub run : List Event
  pub newest : (older : List Event) × (run ++ older ≡ of_actor (by_of x) h)
  pub room : length (of_word (word_of x) h) < 2 ^ 64 - 1
  pub word : HasWord v (word_of x)
  pub row : Row v (facts h) (of_word (word_of x) h) (of_actor (by_of x) h) run x

-- Each event is allowed so. All laws are stated over this: it holds of the history of one run, and of one that goes on
-- after any such history, and so of any number of runs.
abbrev pub IsLegalInRuns : Volume → List Event → Type 0
IsLegalInRuns v [] = Unit {0}
IsLegalInRuns v (x ∷ h) = IsLegalInRuns v h × AllowedInRun v h x

-- A run that goes on after an earlier history: an operation that was left open there is not taken up.
abbrev pub IsLegalAfter : Volume → List Event → List Event → Type 0
IsLegalAfter v old [] = IsLegalInRuns v old
IsLegalAfter v old (x ∷ h) = IsLegalAfter v old h × IsAllowedIn v (h ++ old) (of_actor (by_of x) h) x

-- What others do.

-- the event is neither of the word nor by the actor of x
abbrev pub IsForeign : Event → Event → Type 0
IsForeign x y = (same_word (word_of x) (word_of y) ≡ false) × (same_actor (by_of x) (by_of y) ≡ false)

-- What is allowed stays allowed, whatever others do.
abbrev pub IsLocal : Volume → Type 0
IsLocal v = (h more : List Event) (x : Event)
    → IsLegal v (more ++ h) → AllByRecursion (IsForeign x) more → IsAllowed v h x → IsAllowed v (more ++ h) x

-- The same in a history of several runs.
abbrev pub IsLocalInRuns : Volume → Type 0
IsLocalInRuns v = (h more run : List Event) (x : Event)
    → IsLegalInRuns v (more ++ h) → AllByRecursion (IsForeign x) more → IsAllowedIn v h run x → IsAllowedIn v (more ++ h) run x
