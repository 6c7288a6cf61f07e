-- What the events of a node's word leave at it.
use Rattle.std.specs.Prelude.{ℕ, true, List, [], ◌∷◌, Option, Some, None, cond}
use Rattle.rz_events.specs.declared.keys.Key.{Key}
use Rattle.rz_events.specs.declared.records.Change.{Change}
use Rattle.rz_events.specs.declared.records.Change.TheVariants as change
use Rattle.rz_events.specs.declared.nodes.Phase.{Phase}
use Rattle.rz_events.specs.declared.nodes.Phase.TheVariants.{Up, Down, Lost}
use Rattle.rz_events.specs.declared.events.Event.{Event}
use Rattle.rz_events.specs.declared.events.Event.TheVariants as e
use Rattle.rz_events.specs.Events.{same_key}
use Rattle.rz_node_model.specs.Versions.{kept, refilled, without}
use Rattle.rz_core.specs.History.{Facts, base_in}

-- lost after a loss, down after a disk fault or a stop, and up otherwise
abbrev pub phase : List Event → Phase
phase [] = Up
phase (e.Lose node loss ∷ w) = Lost
phase (e.Broke by node change ∷ w) = Down
phase (e.Stop node ∷ w) = Down
phase (e.Start node took ∷ w) = Up
phase (e.Replace by node loss fence ∷ w) = Up
phase (_ ∷ w) = phase w

-- how many disks were lost: losses are numbered from 1
abbrev pub losses : List Event → ℕ
losses [] = 0
losses (e.Lose node loss ∷ w) = loss
losses (_ ∷ w) = losses w

-- the fence of the last replacement, or 0
abbrev pub last_fence : List Event → ℕ
last_fence [] = 0
last_fence (e.Replace by node loss fence ∷ w) = fence
last_fence (_ ∷ w) = last_fence w

-- the change of the last disk fault, where no start and no loss came after it: the disk may have it or not
abbrev pub undecided : List Event → Option Change
undecided [] = None
undecided (e.Broke by node change ∷ w) = change
undecided (e.Start node took ∷ w) = None
undecided (e.Lose node loss ∷ w) = None
undecided (_ ∷ w) = undecided w

-- how the log reads a version: a bare stamp, whose base is that of its write
abbrev pub itself : ℕ → ℕ
itself s = s

-- the base of the write with stamp s
abbrev pub base_begun : Facts → ℕ → ℕ
base_begun f s = base_in (f.wrote s)

-- the stamps of a key after a change
abbrev pub changed : Facts → Key → Change → List ℕ → List ℕ
changed f key (change.Keep at s position) held = cond (same_key key at) (kept itself (base_begun f s) s held) held
changed f key (change.Refill fence at s position) held = cond (same_key key at) (refilled itself s held) held
changed f key (change.Drop at s) held = cond (same_key key at) (without itself s held) held

-- the stamps of a key after an undecided change, where there is one that was done
abbrev pub settled : Facts → Key → Option Change → List ℕ → List ℕ
settled f key None held = held
settled f key (Some c) held = changed f key c held

-- The stamps that the node holds of a key, the greatest first: what the changes leave that were done since its last
-- loss. A change is done at its `Did`, or at a start that found it on the disk.
abbrev pub held : Facts → List Event → Key → List ℕ
held f [] key = []
held f (e.Did by node change ∷ w) key = changed f key change (held f w key)
held f (e.Start node true ∷ w) key = settled f key (undecided w) (held f w key)
held f (e.Lose node loss ∷ w) key = []
held f (_ ∷ w) key = held f w key
