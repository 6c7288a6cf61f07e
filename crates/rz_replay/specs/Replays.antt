-- What a replay over disks comes to.
use Rattle.std.specs.Prelude.{ℕ, ◌≡◌, List, [], length, Option, Some, None, Result, Ok}
use Rattle.rz_request.specs.Line.{Meaning}
use Rattle.rz_request.specs.declared.command.Command.{Command}
use Rattle.rz_request.specs.declared.command.Command.TheVariants.{Migrate}
use Rattle.rz_disk.specs.declared.disk.Disk.{Ghosts}
use Rattle.rz_events.specs.declared.events.Event.{Event}
use Rattle.rz_request.specs.Requests.{Asks, Reading}
use Rattle.rz_request.specs.declared.refusal.Stop.{Stop}
use Rattle.rz_request.specs.declared.wishes.Request.{Request}
use Rattle.rz_report.specs.Output.{Sunk}
use Rattle.rz_report.specs.Replays.{RequestProgress, Ensues, FollowsRequest}
use Rattle.rz_replay.specs.Disks.{HandsBack, faulted}
use Rattle.rz_replay.specs.Migrations.{IsMigrationTold}

-- A request is played over disks, before and after, with a link that lost so many messages and a sink; and the disks are handed back.
abbrev pub PlaysRequest : {D : Type 0} → Ghosts D → Request → List D → List D → (lost : ℕ) → Sunk → ℕ → List Event → Type 0
PlaysRequest G r old new lost sink status h =
    (course : RequestProgress) × FollowsRequest G.tells course r (faulted G.meter old new) lost sink status h × HandsBack G course (Ok r) lost old new h

-- A play at words of this meaning, over a source, disks before and after, a link that lost so many messages, and a sink: what the
-- words and the source ask for of so many disks is answered, and played; and the disks are handed back.
abbrev pub PlaysReplay : {D : Type 0} → Ghosts D → Option Meaning → Reading → List D → List D → (lost : ℕ) → Sunk → ℕ → List Event → Type 0
PlaysReplay G words source old new lost sink status h =
    (r : Result Request Stop) × (course : RequestProgress) × Asks words source (length old) r
    × Ensues G.tells course r (faulted G.meter old new) lost sink status h × HandsBack G course r lost old new h

-- the node of which a command wants the old disk carried over
abbrev pub old_node_in : Command → Option ℕ
old_node_in (Migrate sid) = Some sid
old_node_in _ = None

abbrev pub old_node_of : Option Meaning → Option ℕ
old_node_of None = None
old_node_of (Some m) = old_node_in m.command

-- nothing is played where an old disk is carried over
abbrev pub Does : {D : Type 0} → Ghosts D → Option ℕ → Option Meaning → Reading → List D → List D → (lost : ℕ) → Sunk → ℕ → List Event → Type 0
Does G (Some sid) words source old new lost sink status h = IsMigrationTold G sid source old new sink status × (h ≡ [])
Does G None words source old new lost sink status h = PlaysReplay G words source old new lost sink status h

-- A replay at words of this meaning: an old disk is carried over, where they want that of some node; and otherwise what they want is
-- played.
abbrev pub Replays : {D : Type 0} → Ghosts D → Option Meaning → Reading → List D → List D → (lost : ℕ) → Sunk → ℕ → List Event → Type 0
Replays G words = Does G (old_node_of words) words
