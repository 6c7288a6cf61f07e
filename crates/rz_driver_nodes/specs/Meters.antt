-- The nodes of a driver, each with its word of the log beside the meter of its disk.
use Rattle.std.specs.Prelude.{ℕ, ◌≡◌, ◌≢◌, ◌+◌, ◌-◌, ◌^◌, ◌<◌, ◌≤◌, nat_eq, List, [], ◌∷◌, Option, Some, None, slice_get}
use Rattle.std.specs.List.{IsDistinct}
use Rattle.rz_disk.specs.Meter.{Meter, faults}
use Rattle.rz_events.specs.declared.events.Word.TheVariants.{Node}
use Rattle.rz_events.specs.declared.events.Event.{Event}
use Rattle.rz_core.specs.History.{of_word}
use Rattle.rz_node.specs.View.{NodeView}
use Rattle.rz_play.specs.Faults.{AreFaultsCounted}
use Rattle.rz_play.specs.Lines.{noted}
use Rattle.rz_node_laws.specs.Metered.{IsMetered}
use Rattle.rz_nodes.specs.declared.formatting.Server.{Server}
use Rattle.rz_driver_nodes.specs.Servers.{numbers_of}

-- Of one node, whose disk had counted so many faults at first.

-- a count below the last value of a u64 has counted each fault
abbrev pub IsExact : Meter → Type 0
IsExact m = m.own < 2 ^ 64 - 1

-- the word goes with the meter of the disk, whose count did not fall
abbrev pub GoesWith : {D : Type 0} → (D → Meter) → ℕ → List Event → NodeView D → Type 0
GoesWith meter first w n = (first ≤ (meter n.disk).own) × (IsExact (meter n.disk) → IsMetered first w n.state.phase (meter n.disk))

-- the faults of the word are counted by the rise of the disk's count
abbrev pub CountsWith : {D : Type 0} → (D → Meter) → ℕ → List Event → NodeView D → Type 0
CountsWith meter first w n = (first ≤ (meter n.disk).own) × (IsExact (meter n.disk) → AreFaultsCounted w ((meter n.disk).own - first))

-- what was so of counts is so still
abbrev pub CarriesCounts : ((ℕ → ℕ) → Type 0) → ((ℕ → ℕ) → Type 0) → Type 0
CarriesCounts before after = (first : ℕ → ℕ) → before first → after first

-- Of each node in order, from place i on.

abbrev pub OfEach : {D : Type 0} → (ℕ → List Event → NodeView D → Type 0) → (ℕ → ℕ) → ℕ → List (Server D) → List Event → Type 0
OfEach P first i [] h = Unit {0}
OfEach P first i (s ∷ more) h = P (first i) (of_word (Node s.sid) h) s.node × OfEach P first (i + 1) more h

-- The nodes have these numbers, no two of them one, and each word goes with its disk's meter.
pub record AreMetered {D : Type 0} (meter : D → Meter) (numbers : List ℕ) (servers : List (Server D)) (h : List Event) (first : ℕ → ℕ) : Type 0 where
  pub named : numbers_of servers ≡ numbers
  pub apart : IsDistinct nat_eq numbers
  pub each : OfEach (GoesWith meter) first 0 servers h

-- The nodes have these numbers, and the faults of each word are counted.
pub record AreCounted {D : Type 0} (meter : D → Meter) (numbers : List ℕ) (servers : List (Server D)) (h : List Event) (first : ℕ → ℕ) : Type 0 where
  pub named : numbers_of servers ≡ numbers
  pub each : OfEach (CountsWith meter) first 0 servers h

-- A call of node n: the words of the others stay, and its own goes with its disk still.
pub record OneNodeGoesOn {D : Type 0} (meter : D → Meter) (n : ℕ) (node node' : NodeView D) (h h' : List Event) : Type 0 where
  pub others : (m : ℕ) → m ≢ n → of_word (Node m) h' ≡ of_word (Node m) h
  pub goes : (first : ℕ) → GoesWith meter first (of_word (Node n) h) node → GoesWith meter first (of_word (Node n) h') node'

-- the server went on, and this event of it, if there is one, is to be noted
abbrev pub GoesAsServer : {D : Type 0} → (D → Meter) → Server D → Server D → Option Event → Type 0
GoesAsServer meter s s' event = (h : List Event) → OneNodeGoesOn meter s.sid s.node s'.node h (noted event h)

-- the faults of the disk at a place, or 0 where there is none
abbrev pub faults_in : {D : Type 0} → (D → Meter) → Option D → ℕ
faults_in meter None = 0
faults_in meter (Some d) = faults (meter d)

abbrev pub faults_at : {D : Type 0} → (D → Meter) → List D → ℕ → ℕ
faults_at meter disks place = faults_in meter (slice_get disks place)

-- Of the disks that are handed back, one for each node in order, from place i on: the count did not fall, and the faults of the
-- node's word are counted by its rise.
abbrev pub AreDisksCounted : {D : Type 0} → (D → Meter) → (ℕ → ℕ) → ℕ → List ℕ → List D → List Event → Type 0
AreDisksCounted meter first i [] [] h = Unit {0}
AreDisksCounted meter first i (n ∷ numbers) (d ∷ disks) h =
    (first i ≤ faults (meter d)) × (faults (meter d) < 2 ^ 64 - 1 → AreFaultsCounted (of_word (Node n) h) (faults (meter d) - first i))
    × AreDisksCounted meter first (i + 1) numbers disks h
AreDisksCounted meter first i _ _ h = ⊥
