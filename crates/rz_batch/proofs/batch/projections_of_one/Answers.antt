use Rattle.std.proofs.Common.{rules, arith, ◌≡◌, ◌*◌, ◌<◌, ℕ, List, sym, ap, ◌∙◌, subst}
use Rattle.rz_words.specs.Grid.{Grid, grid_from_bytes, words_from}
use Rattle.mj_angles.specs.Layout.{inverse_of, cols_of, angle_of}
use Rattle.mj_angles.specs.Projection.{projection, word_at}
use Rattle.rz_batch.specs.Batch.{parts_of, projections_of}
use Rattle.rz_batch.proofs.Parts.{parts-of_block, taken_back}
use Rattle.rz_batch.proofs.batch.projections_of_one.Goals as goal

pub returns-clause-parts : goal.returns-clause-parts
returns-clause-parts c =
    let y = c.args.layout in
    let g : Grid = grid_from_bytes (inverse_of y) (cols_of y) c.args.bytes.now in
    let out : List ℕ = c.project_all.new.out in
    let back = taken_back out c.in_ok-bins.bins.items c.in_ok-bins.bins.len (search rules) in
    let size : c.inverse.result * c.cols.result ≡ inverse_of y * cols_of y = ap (λ r. r * c.cols.result) c.inverse.ensures.value ∙ ap (λ k. inverse_of y * k) c.cols.ensures.value in
    let words : c.words.result.now ≡ g.words = c.words.ensures.value ∙ ap (λ (g : Grid). g.words) c.in_ok-block.ensures ∙ ap (words_from c.args.bytes.now) size in
    let P : List ℕ → Type 0 = λ bins. parts_of y bins ≡ projections_of y g in
    subst P (sym back) (parts-of_block y out g (λ j h.
    let few : j < c.safe-positions.result = (let v = c.safe-positions.ensures.value in omega arith) in
    c.project_all.ensures.parts j few ∙ ap (λ ws. projection (word_at ws (cols_of y)) (inverse_of y) (cols_of y) (angle_of y j)) words))
