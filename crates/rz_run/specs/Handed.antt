-- Disks and links that were handed in, and how they come back, by the log of a run.
use Rattle.std.specs.Prelude.{ℕ, Bool, ◌+◌, ◌≤◌, IsTrue, List}
use Rattle.std.specs.List.{AllZip, zip}
use Rattle.rz_disk.specs.Meter.{Meter, faults}
use Rattle.rz_events.specs.Volume.{Volume}
use Rattle.rz_events.specs.declared.keys.Actor.{Actor}
use Rattle.rz_events.specs.declared.events.Word.TheVariants.{Node}
use Rattle.rz_events.specs.declared.events.Event.{Event}
use Rattle.rz_core.specs.History.{facts, of_actor, of_word}
use Rattle.rz_node_laws.specs.Images.{AreImages, geometry_in}
use Rattle.rz_play.specs.Faults.{missed}
use Rattle.rz_play.specs.World.{actors}
use Rattle.rz_chronicle.specs.Keys.{sids_of}
use Rattle.rz_shared_locked.specs.Counts.{AreCountedSince}

-- a row as it was handed in, and as it came back
pub record Handed (A : Type 0) : Type 0 where
  pub old : List A
  pub new : List A

-- no more messages of the actor were lost than its link has counted since it was handed in, where `count` is what a link has counted
abbrev pub HasLost : {L : Type 0} → (L → ℕ) → List Event → Actor × L → L → Type 0
HasLost count h handed link = missed (of_actor handed.0 h) + count handed.1 ≤ count link

-- so it is of each link, in the order of the actors
abbrev pub AreLinksTold : {L : Type 0} → (L → ℕ) → List Event → Handed L → Type 0
AreLinksTold count h links = AllZip (HasLost count h) (zip actors links.old) links.new

-- The faults of a node in the log are those that its disk has counted since it was handed in. Over an honest book each image of the
-- disk is one that the node's events give, by all of the log.
pub record IsDiskTold {D : Type 0} (honest : Bool) (meter : D → Meter) (image : D → List ℕ → Type 0) (v : Volume) (h : List Event) (handed : ℕ × D) (disk : D) : Type 0 where
  pub counted : AreCountedSince (faults (meter handed.1)) (faults (meter disk)) (of_word (Node handed.0) h)
  pub images : IsTrue honest → AreImages v (facts h) (of_word (Node handed.0) h) handed.0 (geometry_in v handed.0) (image disk)

-- so it is of each disk, in the order of the nodes
abbrev pub AreDisksTold : {D : Type 0} → Bool → (D → Meter) → (D → List ℕ → Type 0) → Volume → List Event → Handed D → Type 0
AreDisksTold honest meter image v h disks = AllZip (IsDiskTold honest meter image v h) (zip (sids_of v) disks.old) disks.new
