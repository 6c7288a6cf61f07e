-- What is told of a play.
use Rattle.std.specs.Prelude.{ℕ, Bool, true, false, ◌≡◌, ◌⊎◌, ◌≤◌, ◌+◌, IsTrue, List, [], ◌++◌, reverse}
use Rattle.rz_events.specs.Volume.{Volume}
use Rattle.rz_events.specs.declared.events.Event.{Event}
use Rattle.rz_nodes.specs.declared.fault.DriverFault.{DriverFault}
use Rattle.rz_nodes.specs.declared.fault.DriverFault.TheVariants as faults
use Rattle.rz_script.specs.declared.line.Line.{Line}
use Rattle.rz_node_model.specs.States.{NodeState}
use Rattle.rz_export_model.specs.Export.{Export}
use Rattle.rz_play.specs.World.{World, new_world, world_after}
use Rattle.rz_play.specs.Faults.{missed, misses}
use Rattle.rz_player.specs.Behind.{Before, behind}
use Rattle.rz_player.specs.Ends.{IsEnded, IsEndedOver}
use Rattle.rz_player.specs.declared.lines.PlayEnd.{PlayEnd}
use Rattle.rz_player.specs.declared.lines.PlayEnd.TheVariants.{Ended, TooManyTurns, NoMemory, Journal, JournalFull}
use Rattle.rz_show.specs.Text.{text_of}
use Rattle.rz_report.specs.Summary.{summary_of}
use Rattle.rz_request.specs.Refusals.{line_of, status_of}
use Rattle.rz_request.specs.declared.refusal.Refusal.{Refusal}
use Rattle.rz_request.specs.declared.refusal.Refusal.TheVariants as refusals
use Rattle.rz_request.specs.declared.refusal.Stop.{Stop}
use Rattle.rz_request.specs.declared.refusal.Stop.TheVariants as stops
use Rattle.rz_request.specs.declared.wishes.Wish.{Wish}
use Rattle.rz_request.specs.declared.wishes.Wish.TheVariants.{Replay, Load, Scrub, First, Again}
use Rattle.rz_report.specs.Output.{Sunk, Ends, Lacks}
use Rattle.rz_report.specs.Scrubs.{AreScrubsFound, AreFoundFrom, ScrubMayAsk}

-- what is printed of the log of a whole play, the oldest event first: its text, or the line of the workload, or its text and the lines
-- of a scrub
abbrev pub text_told : Wish → (found : List ℕ) → List Event → List ℕ
text_told Replay found log = text_of log true
text_told First found log = text_of log true
text_told Again found log = text_of log true
text_told (Load seed) found log = summary_of seed log
text_told Scrub found log = text_of log true ++ found

-- what is printed of a play that was cut off for a refusal: the text so far, and the line of the refusal
abbrev pub text_so_far : Refusal → List Event → List ℕ
text_so_far why log = text_of log false ++ line_of why

abbrev pub SaysSoFar : Refusal → List Event → Sunk → ℕ → Type 0
SaysSoFar why log sink status = Ends sink (status_of why) (text_so_far why log) status

-- The status, and what the sink took, by how the play ended: the text with status 0, or the text so far and why it was cut off.
abbrev pub Says : PlayEnd → Wish → (found : List ℕ) → List Event → Sunk → ℕ → Type 0
Says Ended wish found log sink status = Ends sink 0 (text_told wish found log) status
Says TooManyTurns wish found log sink status = SaysSoFar refusals.Turns log sink status
Says Journal wish found log sink status = SaysSoFar refusals.Journal log sink status
Says JournalFull wish found log sink status = SaysSoFar refusals.Full log sink status
Says NoMemory wish found log sink status = ⊥

-- Some lines were found, and the text with them was to be written; or memory was wanting. There are lines of a scrub alone, after a
-- whole play, and it alone has asked for records.
abbrev pub Tells : Bool → Volume → List Line → PlayEnd → Wish → List Event → (later : List Event) → Sunk → ℕ → Type 0
Tells tells v lines end wish h later sink status =
    ScrubMayAsk end wish later
    × (((found : List ℕ) × AreScrubsFound tells v lines end wish h later found × Says end wish found (reverse h) sink status) ⊎ Lacks sink status)

-- A script was played to this end, with so many messages lost by the link, and told with its log, the newest event first. Over
-- disks that tell their texts the log is that of the script's play; over others it is that of a play in which a start and a read may
-- find anything. Each lost message was lost by a line or by the link. After the play these records were asked for.
abbrev pub Performs : Bool → Volume → List Line → Wish → PlayEnd → (later : List Event) → (lost : ℕ) → List Event → Sunk → ℕ → Type 0
Performs tells v lines wish end later lost h sink status =
    (IsTrue tells → IsEnded v (new_world v) lines end lost h) × IsEndedOver tells v (new_world v) lines end lost h × (missed h ≤ misses lines + lost)
    × Tells tells v lines end wish h later sink status

-- A play from this world on has this whole log, and in its own part of that log each lost message was lost by a line or by the link.
abbrev pub IsPlayOf : Bool → Volume → World → List Line → PlayEnd → (lost : ℕ) → (h log : List Event) → Type 0
IsPlayOf tells v first lines end lost h log =
    (IsTrue tells → IsEnded v first lines end lost h) × IsEndedOver tells v first lines end lost h × (missed log ≤ misses lines + lost)

-- A play after earlier runs, over disks that do not tell their texts: nothing is known of those runs, so it began with nodes and an
-- export in any state. From there on its log is that of the script, in which a start and a read may find anything.
abbrev pub IsPlayAgain : Bool → Volume → List Line → PlayEnd → (lost : ℕ) → List Event → Type 0
IsPlayAgain tells v lines end lost h = tells ≡ false → (nodes : ℕ → NodeState) × (export : Export) × IsPlayOf tells v (world_after nodes export []) lines end lost h h

-- a script that goes on after earlier runs was played to this end, and told with the log of this play
abbrev pub TellsOwn : PlayEnd → Wish → (later : List Event) → List Event → Sunk → ℕ → Type 0
TellsOwn end wish later h sink status =
    ScrubMayAsk end wish later × (((found : List ℕ) × Says end wish found (reverse h) sink status) ⊎ Lacks sink status)

-- a play that begins anew is performed; of one after earlier runs this says what is told of it
abbrev pub PerformsAs : Bool → Volume → List Line → Wish → PlayEnd → (later : List Event) → (lost : ℕ) → List Event → Sunk → ℕ → Type 0
PerformsAs tells v lines Again end later lost h sink status = IsPlayAgain tells v lines end lost h × TellsOwn end Again later h sink status
PerformsAs tells v lines wish end later lost h sink status = Performs tells v lines wish end later lost h sink status

-- A script was played in this world, maybe after earlier runs, and told with the log of this play. The play goes on behind each
-- earlier log that these hold for, and so do the lines of a scrub.
abbrev pub PerformsBehind : (holds : Before → Type 0) → Bool → Volume → World → List Line → Wish → PlayEnd → (later : List Event) → (lost : ℕ) → List Event → Sunk → ℕ → Type 0
PerformsBehind holds tells v w lines wish end later lost log sink status =
    ScrubMayAsk end wish later
    × ((b : Before) → holds b → IsPlayOf tells v (behind b.log w) lines end lost (log ++ b.log) log)
    × (((found : List ℕ) × ((b : Before) → holds b → AreFoundFrom tells v (behind b.log w) lines end wish (log ++ b.log) later found)
    × Says end wish found (reverse log) sink status) ⊎ Lacks sink status)

-- the line of a refusal was to be written with its status, or there was no memory
abbrev pub TellsRefusal : Refusal → Sunk → ℕ → Type 0
TellsRefusal refusal sink status = Ends sink (status_of refusal) (line_of refusal) status ⊎ Lacks sink status

-- the disks are not formatted: memory is wanting, or the line of the disk that failed was to be written
abbrev pub TellsUnformatted : DriverFault → Sunk → ℕ → Type 0
TellsUnformatted faults.NoMemory sink status = Lacks sink status
TellsUnformatted (faults.Disk index) sink status = TellsRefusal (refusals.Disk index) sink status

-- there is nothing to play: memory is wanting, or the source failed and nothing is written, or the line of the refusal was to be
-- written
abbrev pub Stops : Stop → Sunk → ℕ → Type 0
Stops stops.NoMemory sink status = Lacks sink status
Stops stops.Source sink status = (status ≡ 4) × (sink.after ≡ sink.before)
Stops (stops.Refused refusal) sink status = TellsRefusal refusal sink status
