-- Heads in little room: what a pair of cells says of the two.
use Rattle.std.specs.Prelude.{◌≡◌, ◌≢◌, ℕ, ◌+◌, ◌*◌, ◌/◌, ◌^◌, if◌then◌else◌, Option, Some, None, List, [], ◌∷◌}
use Rattle.rz_events.specs.declared.keys.Key.{Key}
use Rattle.rz_events.specs.declared.records.Head.{Head}
use Rattle.rz_cells_slots.specs.declared.heads.Pair.{Pair}
use Rattle.rz_cells_slots.specs.declared.heads.Slot.{Slot}
use Rattle.rz_cells_slots.specs.Held.{in_cell}

-- the key of a pair
abbrev pub key_in : Pair → Key
key_in p = record { fid = p.fid_high * 2 ^ 64 + p.fid_low; block = p.block }

-- what a slot says under the key of its pair
abbrev pub head_at : Key → Slot → Option Head
head_at key s =
    if s.is_held then Some record { stamp = s.stamp; key = key; layout = s.layout; bsize = s.bsize; position = s.position; length = s.length; base = s.base } else None

-- what stands in the first cell of a pair, and in the second
abbrev pub zero_in : Pair → Option Head
zero_in p = head_at (key_in p) p.zero

abbrev pub one_in : Pair → Option Head
one_in p = head_at (key_in p) p.one

-- the heads of pairs, in the order of the cells
unfoldable pub heads_in : List Pair → List (Option Head)
heads_in [] = []
heads_in (p ∷ ps) = zero_in p ∷ one_in p ∷ heads_in ps

-- the other cell of the pair is empty or holds the same key
abbrev pub FitsPair : List (Option Head) → ℕ → Option Head → Type 0
FitsPair heads cell o = (h k : Head) (d : ℕ) → o ≡ Some h → d ≢ cell → d / 2 ≡ cell / 2 → in_cell heads d ≡ Some k → k.key ≡ h.key
