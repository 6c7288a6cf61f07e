use Rattle.std.proofs.Common.{◌≡◌, ◌-◌, ap, ◌∙◌, arith}
use Rattle.std.specs.FinMap as maps
use Rattle.rz_export_model.specs.Export.{Export}
use Rattle.rz_export.proofs.PartPlaces.{block-parts, enrolled-parts}
use Rattle.rz_export.proofs.export.Export.flat_part.Goals as goal

pub returns-then-i-blocks : goal.returns-then-i-blocks
returns-then-i-blocks c =
    let count : c.len-blocks.result ≡ maps.len c.args.self.now.blocks = c.len-blocks.ensures ∙ ap (λ (x : Export). maps.len x.blocks) c.self.view_is in
    c.block_part.ensures ∙ block-parts c.args.self.now c.args.i (omega (arith, count, c.if-i-blocks.true))

pub returns : goal.returns
returns c =
    let count : c.len-blocks.result ≡ maps.len c.args.self.now.blocks = c.len-blocks.ensures ∙ ap (λ (x : Export). maps.len x.blocks) c.self.view_is in
    c.enrolled_part.ensures ∙ enrolled-parts c.args.self.now c.args.i (c.args.i - c.len-blocks.result) (omega (arith, count, c.if-i-blocks.false))
