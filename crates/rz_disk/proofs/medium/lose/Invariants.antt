use Rattle.std.proofs.Common.{◌≡◌, ℕ, ◌+◌, ◌<◌, ◌≤◌, true, false, length, get_or}
use Rattle.std.specs.Prelude.{slice_index_or, vec_capacity}
use Rattle.rz_disk.specs.Stored.{picked_byte}
use Rattle.rz_disk.proofs.medium.lose.Given as goal

abbrev pub invariant-loop-i : goal.invariant-loop-i
invariant-loop-i l = record {
  size : length l.text.items ≡ length l.fn.text.items;
  marked : (k : ℕ) → k < l.i → slice_index_or l.marks.items k false ≡ true → get_or l.text.items (l.from + k) 0 ≡ picked_byte l.pick (l.from + k) (get_or l.synced.items k 0) (get_or l.fn.text.items (l.from + k) 0);
  unmarked : (k : ℕ) → slice_index_or l.marks.items k false ≡ false → get_or l.text.items (l.from + k) 0 ≡ get_or l.fn.text.items (l.from + k) 0;
  rest : (k : ℕ) → l.i ≤ k → get_or l.text.items (l.from + k) 0 ≡ get_or l.fn.text.items (l.from + k) 0;
  below : (k : ℕ) → k < l.from → get_or l.text.items k 0 ≡ get_or l.fn.text.items k 0;
  capacity : vec_capacity l.text ≡ vec_capacity l.fn.text;
}
