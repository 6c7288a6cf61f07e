use Rattle.std.proofs.Common.{◌≡◌, ℕ, length, Vec, Global}
use Rattle.mj_angles.specs.Layout.{safe_of}
use Rattle.mj_forward.specs.Forward.{start_of}
use Rattle.rz_batch.specs.Batch.{block_at, parts_of, projections_of}
use Rattle.rz_batch.proofs.Parts.{push_more, push_all}
use Rattle.rz_batch.proofs.batch.Batch.forward.Goals as goal

pub loop-i-preserved : goal.loop-i-preserved
loop-i-preserved c =
    let y = c.args.layout in
    let all = c.loop-i.blocks.items in
    let one = c.in_ok-projections.field-0 in
    record {
      parts = push_more (λ (v : Vec ℕ Global). parts_of y v.items) (λ i. projections_of y (block_at y c.args.bytes.now i)) all one c.push.new.self.items c.loop-i.i c.in_ok-push.ensures.items c.loop-i.invariant.parts c.in_ok-projections.ensures.parts;
      lens = push_all (λ (v : Vec ℕ Global). length v.items ≡ start_of y (safe_of y)) all one c.push.new.self.items c.in_ok-push.ensures.items c.loop-i.invariant.lens c.in_ok-projections.ensures.long;
    }
