use Rattle.std.proofs.Common.{◌≡◌, ◌≤◌, ◌<◌, ◌-◌, ℕ, length, get_or}
use Rattle.rz_events.specs.declared.files.NodeSpec.{NodeSpec}
use Rattle.rz_shared.proofs.cluster.place_of.Given as goal

-- the number stands at this place or at a later one
abbrev pub invariant-loop-place : goal.invariant-loop-place
invariant-loop-place l = (k : ℕ) × (l.place ≤ k) × (k < length l.nodes) × ((d : NodeSpec) → (get_or l.nodes k d).sid ≡ l.number)

abbrev pub decreases-loop-place : goal.decreases-loop-place
decreases-loop-place l = length l.nodes - l.place
