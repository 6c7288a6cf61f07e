-- Nodes of a store: one that is started again, and one that gets a new disk.
use Rattle.std.specs.Prelude.{ℕ, ◌≡◌, ◌==◌, ◌-◌, ◌^◌, List, ◌∷◌, ◌++◌, Option, Result, Ok, Err}
use Rattle.std.specs.List.{find}
use Rattle.rz_events.specs.Volume.{Volume, nodes_of}
use Rattle.rz_events.specs.declared.files.NodeSpec.{NodeSpec}
use Rattle.rz_events.specs.declared.keys.Actor.{Actor}
use Rattle.rz_events.specs.declared.ends.RebuildEnd.{RebuildEnd}
use Rattle.rz_events.specs.declared.ends.RebuildEnd.TheVariants as ends
use Rattle.rz_events.specs.declared.nodes.Phase.{Phase}
use Rattle.rz_events.specs.declared.nodes.Phase.TheVariants.{Up, Down, Lost}
use Rattle.rz_events.specs.declared.nodes.OpenFault.TheVariants as cause
use Rattle.rz_events.specs.declared.nodes.StartAnswer.{StartAnswer}
use Rattle.rz_events.specs.declared.nodes.StartAnswer.TheVariants as start
use Rattle.rz_events.specs.declared.events.Answer.TheVariants as answer
use Rattle.rz_events.specs.declared.events.Word.TheVariants.{Node}
use Rattle.rz_events.specs.declared.events.Event.{Event}
use Rattle.rz_events.specs.declared.events.Event.TheVariants as e
use Rattle.rz_node_model.specs.NodeEvents.{lose_event}
use Rattle.rz_core.specs.History.{of_word}
use Rattle.rz_core.specs.NodeWord.{phase, losses}
use Rattle.rz_core.specs.NodeRows.{IsNodeOf, cells_of}
use Rattle.rz_play.specs.Lines.{noted}
use Rattle.rz_safety.specs.Rebuilt.{IsWhole}
use Rattle.rz_contents.specs.Mending.{IsRebuildEnding}
use Rattle.rz_shared_locked.specs.Told.{HoldsKeys}
use Rattle.rz_shared_locked.specs.declared.swapping.SwapFault.{SwapFault}
use Rattle.rz_shared_locked.specs.declared.swapping.SwapFault.TheVariants as unswapped
use Rattle.rz_store_turns.specs.declared.sole.Stop.{Stop}
use Rattle.rz_store.specs.declared.faults.StartFault.{StartFault}
use Rattle.rz_store.specs.declared.faults.StartFault.TheVariants as unstarted
use Rattle.rz_store.specs.declared.faults.ReplaceFault.{ReplaceFault}
use Rattle.rz_store.specs.declared.faults.ReplaceFault.TheVariants as unreplaced
use Rattle.rz_store.specs.declared.nodes.Rebuilt.{Rebuilt}
use Rattle.rz_store.specs.declared.nodes.NodeRoom.{NodeRoom}
use Rattle.rz_store.specs.Store.{StoreView}

-- the description of the node of this number
abbrev pub spec_in : Volume → ℕ → Option NodeSpec
spec_in v number = find (λ (node : NodeSpec). node.sid == number) (nodes_of v.clusters)

-- whether a node is up, down or lost
abbrev pub phase_in : StoreView → ℕ → Phase
phase_in s node = phase (of_word (Node node) s.log)

-- Room.

-- The node has so many pairs of cells, each for the records of one key, and holds records of so many keys.
pub record IsRoomOf (s : StoreView) (node : ℕ) (room : NodeRoom) : Type 0 where
  pub pairs : room.pairs ≡ cells_of s.volume node
  pub used : HoldsKeys s.log node room.used

-- Starts.

-- the node was down, and is up
pub record HasStarted (old : StoreView) (node : ℕ) (new : StoreView) : Type 0 where
  pub was : phase_in old node ≡ Down
  pub is : phase_in new node ≡ Up

-- what is told of a start that was answered so
abbrev pub start_told : StartAnswer → Result (Unit {0}) StartFault
start_told (start.Started took) = Ok tt
start_told start.NotDown = Err unstarted.NotDown
start_told start.NoMemory = Err unstarted.NoMemory
start_told (start.Unopened why) = Err (unstarted.Unopened why)

-- Why a node is not started. Memory may be wanting at any time. A disk that tells what it holds fails to open by a disk fault alone; so
-- it is told of one that is away too.
abbrev pub IsStartCause : StoreView → ℕ → StartFault → Type 0
IsStartCause s node unstarted.NoSuchNode = ¬ IsNodeOf s.volume node
IsStartCause s node unstarted.NotDown = ¬ (phase_in s node ≡ Down)
IsStartCause s node (unstarted.Unopened why) = (phase_in s node ≡ Down) × (why ≡ cause.DiskFault)
IsStartCause s node unstarted.NoMemory = phase_in s node ≡ Down

-- New disks.

-- the node holds the published record of each block of a live file whose published mask names it
abbrev pub IsComplete : StoreView → ℕ → Type 0
IsComplete s node = (fence : ℕ) × IsWhole s.log node fence

-- what is told of a rebuild that ended so
abbrev pub rebuild_told : Result RebuildEnd Stop → Result Rebuilt ReplaceFault
rebuild_told (Ok (ends.Rebuilt fence refilled)) = Ok (record { refilled = refilled; left = 0 })
rebuild_told (Ok (ends.Left fence refilled left)) = Ok (record { refilled = refilled; left = left })
rebuild_told (Ok end) = Err (unreplaced.Ended end)
rebuild_told (Err why) = Err (unreplaced.Stopped why)

-- what is told of a disk that was not taken
abbrev pub swap_told : SwapFault → ReplaceFault
swap_told unswapped.NoMemory = unreplaced.NoMemory
swap_told unswapped.LossesSpent = unreplaced.LossesSpent

-- a rebuild of the node came to this end
pub record HasRebuilt (old : StoreView) (node : ℕ) (end : RebuildEnd) (new : StoreView) : Type 0 where
  pub by : Actor
  pub number : ℕ
  pub events : List Event
  pub log : new.log ≡ e.Done by number (answer.Rebuild end) ∷ events ++ old.log
  pub course : IsRebuildEnding old.volume.layout by number node events end

-- And so many blocks were refilled and so many left. Where none was left, the node is complete.
pub record HasRefilled (old : StoreView) (node : ℕ) (told : Rebuilt) (new : StoreView) : Type 0 where
  pub end : RebuildEnd
  pub rebuilt : HasRebuilt old node end new
  pub tells : rebuild_told (Ok end) ≡ Ok told
  pub complete : told.left ≡ 0 → IsComplete new node

-- Why it was not. The journal or memory may be wanting at any time.
abbrev pub IsRebuildCause : StoreView → ℕ → ReplaceFault → StoreView → Type 0
IsRebuildCause old node (unreplaced.Stopped why) new = Unit {0}
IsRebuildCause old node (unreplaced.Ended end) new = HasRebuilt old node end new × (rebuild_told (Ok end) ≡ Err (unreplaced.Ended end))
IsRebuildCause old node fault new = ⊥

-- the disk of the node is lost, if it was not lost before
abbrev pub after_loss : StoreView → ℕ → Option ℕ → StoreView
after_loss s node loss = record s { log = noted (lose_event node loss) s.log }

-- The node has a new disk, on which it was rebuilt.
abbrev pub HasReplaced : StoreView → ℕ → Rebuilt → StoreView → Type 0
HasReplaced old node told new = (loss : Option ℕ) × HasRefilled (after_loss old node loss) node told new

-- Why a node has no new disk with all that it is to hold. Memory may be wanting at any time.
abbrev pub IsReplaceCause : StoreView → ℕ → ReplaceFault → StoreView → Type 0
IsReplaceCause old node unreplaced.NoSuchNode new = ¬ IsNodeOf old.volume node
IsReplaceCause old node unreplaced.LossesSpent new = ¬ (phase_in old node ≡ Lost) → losses (of_word (Node node) old.log) ≡ 2 ^ 64 - 1
IsReplaceCause old node unreplaced.NoMemory new = Unit {0}
IsReplaceCause old node fault new = (loss : Option ℕ) × IsRebuildCause (after_loss old node loss) node fault new

-- the node has the disk that it had
abbrev pub IsUnreplaced : ReplaceFault → Type 0
IsUnreplaced (unreplaced.Stopped why) = ⊥
IsUnreplaced (unreplaced.Ended end) = ⊥
IsUnreplaced fault = Unit {0}
