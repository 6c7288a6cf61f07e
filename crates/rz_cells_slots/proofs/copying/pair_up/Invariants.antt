use Rattle.std.proofs.Common.{◌≡◌, ◌*◌, ◌<◌, ◌≤◌, ℕ, None, length}
use Rattle.rz_cells_slots.specs.Held.{in_cell}
use Rattle.rz_cells_slots.specs.Old.{paired}
use Rattle.rz_cells_slots.proofs.copying.pair_up.Given as goal

abbrev pub invariant-loop-cell : goal.invariant-loop-cell
invariant-loop-cell l = record {
  count : length l.pairs ≡ 2 * length l.heads;
  done : (c : ℕ) → c < 2 * l.cell → in_cell l.pairs c ≡ in_cell (paired l.heads) c;
  rest : (c : ℕ) → 2 * l.cell ≤ c → in_cell l.pairs c ≡ None;
}
