use Rattle.std.proofs.Common.{◌≡◌, vec_len}
use Rattle.mj_angles.specs.Projection.{bins}
use Rattle.mj_tests.proofs.projections.sums.Given as goal

abbrev pub invariant-loop-l : goal.invariant-loop-l
invariant-loop-l l = vec_len l.sums ≡ bins l.fn.p l.fn.block.rows l.fn.block.cols

abbrev pub invariant-loop-k : goal.invariant-loop-k
invariant-loop-k l = vec_len l.sums ≡ bins l.fn.p l.fn.block.rows l.fn.block.cols
