-- What a scrub after a play finds.
use Rattle.std.specs.Prelude.{ℕ, Bool, ◌≡◌, ◌⊎◌, ◌+◌, ◌-◌, ◌^◌, ◌<◌, IsTrue, List, [], ◌++◌, Option, None, length}
use Rattle.rz_events.specs.Volume.{Volume}
use Rattle.rz_events.specs.declared.keys.Key.{Key}
use Rattle.rz_events.specs.declared.files.Listed.{Listed}
use Rattle.rz_events.specs.declared.records.Held.{Held}
use Rattle.rz_events.specs.declared.export.Call.{Call}
use Rattle.rz_events.specs.declared.events.Event.{Event}
use Rattle.rz_script.specs.declared.line.Line.{Line}
use Rattle.rz_play.specs.World.{World, new_world}
use Rattle.rz_play.specs.Played.{PlaysLinesOver}
use Rattle.rz_player.specs.Behind.{Before, behind}
use Rattle.rz_player.specs.Ends.{IsCut, StaysTrue}
use Rattle.rz_player.specs.declared.lines.PlayEnd.{PlayEnd}
use Rattle.rz_player.specs.declared.lines.PlayEnd.TheVariants.{Ended, TooManyTurns}
use Rattle.rz_words.specs.Grid.{Grid}
use Rattle.rz_scrub_report.specs.Asks.{AreGiven}
use Rattle.rz_scrub_report.specs.Scrubs.{AreListed, AreUnaltered, EachListed, IsScrubbed}
use Rattle.rz_scrub_report.specs.Stores.{AreAsks, State}
use Rattle.rz_request.specs.declared.wishes.Wish.{Wish}
use Rattle.rz_request.specs.declared.wishes.Wish.TheVariants.{Scrub}

-- a world of a play as one who scrubs it sees it, beside these events
abbrev pub seen_in : World → List Event → State
seen_in w h = record { export = w.export; nodes = w.nodes; events = h }

-- nothing is said of what a disk gives of a record
abbrev pub anything : ℕ → Key → Held → List ℕ → List ℕ → Type 0
anything n key told before room = Unit {0}

-- In this world of a play the nodes were asked, by these events, for the records of each published block of a live file, whatever the
-- disks gave of them. These are the lines of what was found. Over disks that tell their texts no line says that a record is altered, or
-- that it is not known which.
pub record IsFoundIn (tells : Bool) (v : Volume) (last : World) (later : List Event) (found : List ℕ) : Type 0 where
  pub next : State
  pub events_are : next.events ≡ later ++ last.log
  pub scrubbed : IsScrubbed v.layout anything (seen_in last last.log) found next
  pub unaltered : IsTrue tells → (blocks : List Listed) × AreListed last.export None blocks × AreUnaltered v.layout blocks found

-- only a scrub asks for records, after a whole play
abbrev pub ScrubMayAsk : PlayEnd → Wish → List Event → Type 0
ScrubMayAsk Ended Scrub later = AreAsks later
ScrubMayAsk _ _ later = later ≡ []

-- and it alone finds something, behind each earlier log that these hold for
abbrev pub IsSought : (Before → Type 0) → Bool → Volume → World → PlayEnd → Wish → List Event → List ℕ → Type 0
IsSought holds tells v last Ended Scrub later found = (b : Before) → holds b → IsFoundIn tells v (behind b.log last) later found
IsSought holds tells v last _ _ later found = found ≡ []

-- where these lines were played from this world on, with this log
abbrev pub AreFoundFrom : Bool → Volume → World → List Line → PlayEnd → Wish → List Event → List Event → List ℕ → Type 0
AreFoundFrom tells v first lines Ended Scrub h later found =
    (last : World) × PlaysLinesOver v lines tells first last × (last.log ≡ h) × IsFoundIn tells v last later found
AreFoundFrom tells v first lines _ _ h later found = found ≡ []

-- and so it is in a play that begins anew
abbrev pub AreScrubsFound : Bool → Volume → List Line → PlayEnd → Wish → List Event → List Event → List ℕ → Type 0
AreScrubsFound tells v lines end wish h later found = AreFoundFrom tells v (new_world v) lines end wish h later found

-- what was so with what there was before the first line is so of the counts of faults alone
abbrev pub HoldsOfCounts : (Before → Type 0) → ((ℕ → ℕ) → Type 0) → Type 0
HoldsOfCounts before after = (b : Before) → before b → after b.counts

-- A stage that can be scrubbed between two turns: it is a store of its volume with its export and its nodes, what is so of its disks
-- goes with its log, and it keeps its log and its journal while records are asked for. Over disks that tell their texts the nodes of each published
-- block give the projections of one block of words. What is so of the disks and the log is so behind each earlier log that is told.
pub record IsScrubbable {S : Type 0} (tells : Bool) (volume : S → Volume) (world : S → World) (journaled : S → Bool) (is_ready : S → Type 0) (holds : S → Before → Type 0)
    (described : S → Volume) (state : S → List Event → State) (is_open : S → Type 0) (gives : S → ℕ → Key → Held → List ℕ → List ℕ → Type 0)
    (counts : S → List Event → (ℕ → ℕ) → Type 0) (only_asked : S → S → Type 0) : Type 0 where
  pub described_is : (s : S) → described s ≡ volume s
  pub state_is : (s : S) (h : List Event) → state s h ≡ seen_in (world s) h
  pub open_is : (s : S) → is_ready s → is_open s
  pub counted : (s : S) → HoldsOfCounts (holds s) (counts s (world s).log)
  pub short : (s : S) (b : Before) → holds s b → length b.log < 2 ^ 63 + 512
  pub log_is : (s t : S) → only_asked s t → (world t).log ≡ (world s).log
  pub journal_is : (s t : S) → only_asked s t → journaled t ≡ journaled s
  pub whole : (s : S) (b : Before) → is_ready s → holds s b → IsTrue tells → length ((world s).log ++ b.log) < 2 ^ 64 - 1
      → EachListed (state s ((world s).log ++ b.log)).export (λ l. (g : Grid) × AreGiven (described s).layout (gives s) (state s ((world s).log ++ b.log)).nodes l g)

-- what is so where a play ended between two turns
abbrev pub BetweenTurns : PlayEnd → Type 0 → Type 0
BetweenTurns Ended so = so
BetweenTurns TooManyTurns so = so
BetweenTurns cut_off so = Unit {0}

-- Where a performance ended, disks and log are as a play leaves them, and if the journal refused a call this is so of it; or, in a scrub
-- and after a play to its end, these records were asked for, and the faults go with those asks after the log.
abbrev pub LeavesStore : {S : Type 0} → (S → World) → (S → Before → Type 0) → (S → Option Call → Before → Type 0) → (S → List Event → (ℕ → ℕ) → Type 0) → (S → S → Type 0) → (stops : Call → Before → Type 0) → PlayEnd → Wish → S → S → List Event
    → Type 0
LeavesStore {S} world holds leaves counts only_asked stops end wish old new later =
    ((later ≡ []) × IsCut end (holds old) (leaves new) stops × BetweenTurns end (StaysTrue (holds old) (holds new)))
    ⊎ ((played : S) × (wish ≡ Scrub) × StaysTrue (holds old) (holds played) × only_asked played new × HoldsOfCounts (holds old) (counts new (later ++ (world new).log)))

-- What came of a stage whose play ended so, and of the lines where there are some.
pub record FindsRecords {S : Type 0} (tells : Bool) (volume : S → Volume) (world : S → World) (journaled : S → Bool) (holds : S → Before → Type 0) (counts : S → List Event → (ℕ → ℕ) → Type 0) (only_asked : S → S → Type 0)
    (end : PlayEnd) (wish : Wish) (old new : S) (IfFound : (List ℕ → Type 0) → Type 0) : Type 0 where
  pub later : List Event
  pub may : ScrubMayAsk end wish later
  pub volume_is : volume new ≡ volume old
  pub log_is : (world new).log ≡ (world old).log
  pub journal_is : journaled new ≡ journaled old
  pub left : ((later ≡ []) × (new ≡ old)) ⊎ ((end ≡ Ended) × (wish ≡ Scrub) × only_asked old new × HoldsOfCounts (holds old) (counts new (later ++ (world old).log)))
  pub found : IfFound (IsSought (holds old) tells (volume old) (world old) end wish later)
