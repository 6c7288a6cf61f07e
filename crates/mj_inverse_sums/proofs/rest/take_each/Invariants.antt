use Rattle.std.proofs.Common.{◌≡◌, ◌<◌, ◌≤◌, ◌+◌, ◌*◌, ℕ, get_or, vec_len}
use Rattle.mj_inverse_sums.proofs.rest.take_each.Given as goal

abbrev pub invariant-loop-t : goal.invariant-loop-t
invariant-loop-t l = record {
  zero : (t j : ℕ) → l.from ≤ t → t < l.t → j < l.unit → get_or l.words.items (l.unit * t + j) 0 ≡ 0;
  below : (i : ℕ) → i < l.unit * l.from → get_or l.words.items i 0 ≡ get_or l.initial.words.items i 0;
  above : (i : ℕ) → l.unit * l.t ≤ i → get_or l.words.items i 0 ≡ get_or l.initial.words.items i 0;
  len : vec_len l.words ≡ vec_len l.initial.words;
  marked : (j : ℕ) → j < l.unit → get_or l.bad j 0 ≡ 0 →
      (get_or l.initial.bad j 0 ≡ 0) × ((t : ℕ) → l.from ≤ t → t < l.t → get_or l.initial.words.items (l.unit * t + j) 0 ≡ 0);
  unmarked : (j : ℕ) → j < l.unit → get_or l.initial.bad j 0 ≡ 0 →
      ((t : ℕ) → l.from ≤ t → t < l.t → get_or l.initial.words.items (l.unit * t + j) 0 ≡ 0) → get_or l.bad j 0 ≡ 0;
}
