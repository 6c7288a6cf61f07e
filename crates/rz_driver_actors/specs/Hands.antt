-- What is true beside the log of what actors have in hand, and what a turn keeps of it and of the images of the nodes' disks.
use Rattle.std.specs.Prelude.{ℕ, ◌≡◌, ◌++◌, List, Option, Some, None}
use Rattle.rz_events.specs.Volume.{Volume}
use Rattle.rz_events.specs.declared.keys.Actor.{Actor}
use Rattle.rz_events.specs.declared.events.Event.{Event}
use Rattle.rz_core.specs.History.{Facts, facts}
use Rattle.rz_operation.specs.Machine.{Machine}
use Rattle.rz_block_laws.specs.Turns.{HasInHand, IsTrueActor}
use Rattle.rz_nodes.specs.declared.formatting.Server.{Server}
use Rattle.rz_driver_nodes.specs.Servers.{state_in}
use Rattle.rz_driver_nodes.specs.Images.{AreImaged}

-- Actors, of which some have a machine.

abbrev pub HasTrueHand : Volume → Facts → Option Machine → Type 0
HasTrueHand v f None = Unit {0}
HasTrueHand v f (Some m) = HasInHand v f m

abbrev pub IsTrueAgenda : Volume → Facts → Actor → Option Machine → Type 0
IsTrueAgenda v f by None = Unit {0}
IsTrueAgenda v f by (Some m) = IsTrueActor v f by m

-- What a turn of an actor keeps, which makes of the nodes xs and the log h the nodes ys and the log h', behind any earlier log.

abbrev pub StaysCoherent : {D : Type 0} → (D → List ℕ → Type 0) → Actor → Option Machine → Option Machine → List (Server D) → List Event → List (Server D) → List Event → Type 0
StaysCoherent image by m m' xs h ys h' =
    (v : Volume) (old : List Event) → IsTrueAgenda v (facts (h ++ old)) by m → AreImaged image v (facts (h ++ old)) xs → HasTrueHand v (facts (h' ++ old)) m' × AreImaged image v (facts (h' ++ old)) ys

-- where it ends for want of memory, the states of all nodes are as before
abbrev pub LeavesUnchanged : {D : Type 0} → (D → List ℕ → Type 0) → Actor → Option Machine → List (Server D) → List Event → List (Server D) → Type 0
LeavesUnchanged image by m xs h ys =
    (v : Volume) (old : List Event) → IsTrueAgenda v (facts (h ++ old)) by m → AreImaged image v (facts (h ++ old)) xs → AreImaged image v (facts (h ++ old)) ys × (state_in ys ≡ state_in xs)
