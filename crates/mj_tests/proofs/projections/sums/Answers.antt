use Rattle.std.proofs.Common.{◌≤◌, ◌+◌, ℕ, subst, arith, w32, to_z, of_z}
use Rattle.mj_angles.specs.Projection.{bins}
use Rattle.mj_tests.proofs.projections.sums.Goals as goal

pub index_mut-requires : goal.index_mut-requires
index_mut-requires c =
    let P : ℕ → Type 0 = λ rows. c.row_start-start.result + c.args.block.now.cols ≤ bins (to_z w32 (of_z w32 c.args.p)) rows c.args.block.now.cols in
    let within = subst P c.rows-rows.ensures.value (c.row_start-start.ensures.within c.args.block.now.cols) in
    let size = c.loop-k.invariant in
    omega (arith, within, size)
