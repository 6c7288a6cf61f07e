use Rattle.std.proofs.Common.{◌≡◌, ◌<◌, ◌+◌, ◌*◌, ℕ, get_or}
use Rattle.mj_inverse_four.proofs.take.take_row.Given as goal

abbrev pub invariant-loop-h : goal.invariant-loop-h
invariant-loop-h l = record {
  first : (k : ℕ) → k < 8 * l.h → get_or l.a (l.to + k) 0 ≡ get_or l.grid (l.from + 4 * k + 0) 0;
  second : (k : ℕ) → k < 8 * l.h → get_or l.b (l.to + k) 0 ≡ get_or l.grid (l.from + 4 * k + 1) 0;
  third : (k : ℕ) → k < 8 * l.h → get_or l.c (l.to + k) 0 ≡ get_or l.grid (l.from + 4 * k + 2) 0;
  fourth : (k : ℕ) → k < 8 * l.h → get_or l.d (l.to + k) 0 ≡ get_or l.grid (l.from + 4 * k + 3) 0;
  first_below : (m : ℕ) → m < l.to → get_or l.a m 0 ≡ get_or l.fn.a m 0;
  second_below : (m : ℕ) → m < l.to → get_or l.b m 0 ≡ get_or l.fn.b m 0;
  third_below : (m : ℕ) → m < l.to → get_or l.c m 0 ≡ get_or l.fn.c m 0;
  fourth_below : (m : ℕ) → m < l.to → get_or l.d m 0 ≡ get_or l.fn.d m 0;
}
