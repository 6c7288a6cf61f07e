use Rattle.std.proofs.Common.{◌≡◌, ◌<◌, ◌+◌, ◌*◌, ℕ, get_or}
use Rattle.mj_inverse_four.specs.Rows.{inner, width_of}
use Rattle.mj_inverse_four.proofs.take.take_apart.Given as goal

abbrev pub invariant-loop-l : goal.invariant-loop-l
invariant-loop-l v = record {
  first : (l k : ℕ) → l < v.l → k < v.frame.cols → get_or v.a (l * v.frame.cols + k) 0 ≡ inner v.grid (width_of v.frame.cols v.frame.reach) v.frame.reach 0 l k;
  second : (l k : ℕ) → l < v.l → k < v.frame.cols → get_or v.b (l * v.frame.cols + k) 0 ≡ inner v.grid (width_of v.frame.cols v.frame.reach) v.frame.reach 1 l k;
  third : (l k : ℕ) → l < v.l → k < v.frame.cols → get_or v.c (l * v.frame.cols + k) 0 ≡ inner v.grid (width_of v.frame.cols v.frame.reach) v.frame.reach 2 l k;
  fourth : (l k : ℕ) → l < v.l → k < v.frame.cols → get_or v.d (l * v.frame.cols + k) 0 ≡ inner v.grid (width_of v.frame.cols v.frame.reach) v.frame.reach 3 l k;
}
