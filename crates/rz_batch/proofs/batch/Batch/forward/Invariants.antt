use Rattle.std.proofs.Common.{◌≡◌, map, length}
use Rattle.std.specs.Prelude.{All}
use Rattle.std.specs.List.{range_with_len}
use Rattle.mj_angles.specs.Layout.{safe_of}
use Rattle.mj_forward.specs.Forward.{start_of}
use Rattle.rz_batch.specs.Batch.{block_at, parts_of, projections_of}
use Rattle.rz_batch.proofs.batch.Batch.forward.Given as goal

abbrev pub invariant-loop-i : goal.invariant-loop-i
invariant-loop-i l = record {
  parts : map (λ v. parts_of l.layout v.items) l.blocks.items ≡ map (λ i. projections_of l.layout (block_at l.layout l.bytes i)) (range_with_len 0 l.i);
  lens : All (λ v. length v.items ≡ start_of l.layout (safe_of l.layout)) l.blocks.items;
}
