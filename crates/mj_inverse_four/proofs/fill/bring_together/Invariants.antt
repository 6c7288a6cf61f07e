use Rattle.std.proofs.Common.{◌≡◌, ◌≤◌, ◌<◌, ◌+◌, ◌*◌, ℕ, get_or}
use Rattle.mj_inverse_four.specs.Starts.{start_of}
use Rattle.mj_inverse_four.proofs.fill.bring_together.Given as goal

abbrev pub invariant-loop-h : goal.invariant-loop-h
invariant-loop-h l = record {
  inside : (k i : ℕ) → k < 2 * l.h → i < 4 → get_or l.out (l.to + 4 * k + i) 0 ≡ get_or l.words (start_of l.starts i + (l.from + k)) 0;
  below : (m : ℕ) → m < l.to → get_or l.out m 0 ≡ get_or l.fn.out m 0;
  above : (m : ℕ) → l.to + 8 * l.h ≤ m → get_or l.out m 0 ≡ get_or l.fn.out m 0;
}
