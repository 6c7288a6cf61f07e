-- The rows of an index while they are read off the heads of cells.
use Rattle.std.specs.Prelude.{ℕ, ◌≡◌, ◌+◌, ◌/◌, ◌<◌, ◌≤◌, List, map, length, Option, Some}
use Rattle.std.specs.List.{AllByRecursion, Contains, IsDistinct}
use Rattle.std.specs.Ordering.{eq_by_cmp}
use Rattle.rz_events.specs.Keys.{key_cmp}
use Rattle.rz_events.specs.declared.records.Head.{Head}
use Rattle.rz_index.specs.declared.index.Entry.{Entry}
use Rattle.rz_cells_slots.specs.Held.{in_cell}
use Rattle.rz_node.specs.Kept.{IsShown, IsFree, Distinct}

-- there is room for all pairs in both rows
abbrev pub HasRoom : ℕ → ℕ → ℕ → Type 0
HasRoom pairs entries free = (pairs ≤ entries) × (pairs ≤ free)

-- The entries are of the first k pairs that have heads, each of a key of its own, and the others of these are free.
pub record IsRows (pairs : ℕ) (heads : List (Option Head)) (k : ℕ) (entries : List Entry) (free : List ℕ) : Type 0 where
  pub shown : (e : Entry) → Contains entries e → IsShown pairs heads e.key e × (e.cell < k)
  pub there : (cell : ℕ) (h : Head) → cell / 2 < k → in_cell heads cell ≡ Some h → (e : Entry) × Contains entries e × (e.key ≡ h.key) × (cell / 2 ≡ e.cell)
  pub keys : IsDistinct (eq_by_cmp key_cmp) (map (λ (e : Entry). e.key) entries)
  pub empty : AllByRecursion (IsFree pairs heads) free
  pub below : AllByRecursion (λ p. p < k) free
  pub distinct : Distinct free
  pub count : length entries + length free ≡ k
